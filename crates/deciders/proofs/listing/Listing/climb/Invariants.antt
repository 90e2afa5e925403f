use Rattle.std.proofs.Common.{◌≡◌, ◌+◌, ◌≤◌, take, drop}
use Rattle.deciders.specs.Search.Rows.{Climbs}
use Rattle.deciders.proofs.listing.Listing.climb.Given as goal

abbrev pub invariant-loop-count : goal.invariant-loop-count
invariant-loop-count l = record {
  few : l.count + l.row ≤ l.from;
  climbs : Climbs l.self.rows.now l.from (take l.count l.book) l.row;
  rest : drop l.count l.book ≡ drop l.count l.initial.book;
}
