use Rattle.std.proofs.Common.{◌≡◌, length}
use Rattle.deciders.proofs.Sheets.{Turn}
use Rattle.deciders.proofs.listing.Listing.list.Given as goal

abbrev pub invariant-loop-at : goal.invariant-loop-at
invariant-loop-at g l =
    record {
      turn : Turn g.D.Direction.successor_of (g.D.Direction.goal l.struck) l.struck.actions.items (g.D.Direction.start_of l.struck) (length l.fn.self.rows.now)
          l.self.rows.now l.self.count l.at;
      loan : l.self.index.ghost_name ≡ l.fn.self.index.ghost_name;
    }
