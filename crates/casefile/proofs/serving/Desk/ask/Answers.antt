use Rattle.std.proofs.Common.{rules}
use Rattle.casefile.proofs.Reports.{fits_served}
use Rattle.casefile.proofs.serving.Desk.ask.Goals as goal

pub returns-in-Ok-clause-fits : goal.returns-in-Ok-clause-fits
returns-in-Ok-clause-fits g c = search (rules, fits_served)
