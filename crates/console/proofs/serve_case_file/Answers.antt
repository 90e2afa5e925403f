use Rattle.console.proofs.Fresh.{served_by_program}
use Rattle.console.proofs.serve_case_file.Goals as goal

pub returns-clause-serves : goal.returns-clause-serves
returns-clause-serves g c = served_by_program _ _ _ _ _ c.serve_fresh.ensures.serves
