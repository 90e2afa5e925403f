use Rattle.std.proofs.Common.{[], vec_items, arith}
use Rattle.std.proofs.lemmas.Grind.{common_steps}
use Rattle.waivers.proofs.Losing.{without_few}
use Rattle.waivers.proofs.lose.lose.Goals as goal

pub copy_from_slice-requires : goal.copy_from_slice-requires
copy_from_slice-requires c =
    let few = without_few c.args.set [] (vec_items c.args.groups.now) in
    grind (arith, common_steps)
