use Rattle.std.proofs.Common.{◌≡◌, length}
use Rattle.deciders.specs.Search.Rows.{row, entries}
use Rattle.deciders.proofs.Sheets.{Going}
use Rattle.deciders.proofs.listing.Listing.expand.Given as goal

abbrev pub invariant-loop-action : goal.invariant-loop-action
invariant-loop-action g l =
    let s = l.initial.self in
    record {
      going : Going g.D.Direction.successor_of (g.D.Direction.goal l.struck) l.struck.actions.items (row s.rows.now 0).set l.entry l.at
          (entries s.rows.now s.count) (length s.rows.now) l.self.rows.now l.self.count l.action-index;
      loan : l.self.index.ghost_name ≡ s.index.ghost_name;
    }
