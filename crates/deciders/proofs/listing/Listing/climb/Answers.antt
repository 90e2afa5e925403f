use Rattle.std.proofs.Common.{arith}
use Rattle.std.proofs.lemmas.Grind.{common_steps}
use Rattle.deciders.proofs.Climbs.{climbs_more}
use Rattle.deciders.proofs.listing.Listing.climb.Goals as goal

pub loop-count-preserved : goal.loop-count-preserved
loop-count-preserved c =
    let x = c.loop-count.invariant in
    let row = c.loop-count.row in
    record {
      few = omega (arith, c.requires.back row (omega arith) (omega arith), c.from-row.ensures);
      climbs = rw c.from-row.ensures
          (climbs_more c.args.self.now.rows.now c.args.from row c.loop-count.count c.loop-count.book (omega arith) (omega arith) x.climbs);
      rest = grind (arith, common_steps);
    }
