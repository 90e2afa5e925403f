use Rattle.deciders.specs.Search.Rows.{entries}
use Rattle.deciders.specs.Search.Chains.{link}
use Rattle.deciders.proofs.Chains.{Looking}
use Rattle.deciders.proofs.listing.Listing.has.Given as goal

abbrev pub invariant-loop-row : goal.invariant-loop-row
invariant-loop-row l = Looking (entries l.self.rows.now l.self.count) l.entry (link l.self.index.now.start l.number)

abbrev pub decreases-loop-row : goal.decreases-loop-row
decreases-loop-row l = link l.self.index.now.start l.number
