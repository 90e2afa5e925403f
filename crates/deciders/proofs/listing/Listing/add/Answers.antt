use Rattle.std.proofs.Common.{arith, length-set}
use Rattle.deciders.proofs.Chains.{index_more}
use Rattle.deciders.proofs.listing.Listing.add.Goals as goal

pub invariant_of-self : goal.invariant_of-self
invariant_of-self c =
    let s = c.args.self.now in
    let len = length-set s.rows.now s.count c.args.row in
    record {
      fits = omega (arith, len);
      small = omega (arith, len);
      indexed = rw (c.enter.ensures.start, c.enter.ensures.heads, c.enter.ensures.links)
          (index_more s.index.now.start s.index.now.heads s.index.now.links s.rows.now s.count c.args.row s.indexed (omega arith) (omega arith) s.index.now.head_count);
    }
