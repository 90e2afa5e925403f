use Rattle.deciders.proofs.Closures.{closure_exists, closure_unique, screened_blocked}
use Rattle.deciders.proofs.theorems.screens_block_only_what_is_blocked.Goals as goal

pub returns : goal.returns
returns c = record { exists = closure_exists; unique = closure_unique; blocked = screened_blocked }
