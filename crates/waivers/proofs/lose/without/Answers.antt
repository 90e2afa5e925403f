use Rattle.std.proofs.Common.{◌≡◌, [], take, ◌∙◌, arith}
use Rattle.std.proofs.lemmas.Grind.{common_steps}
use Rattle.rules.specs.Listing.{is_listed}
use Rattle.waivers.proofs.Losing.{listed_is, without_few}
use Rattle.waivers.proofs.lose.without.Goals as goal

pub push-requires : goal.push-requires
push-requires c =
    let few = without_few c.args.set [] (take c.loop-group.group-index c.args.groups.now) in
    grind (arith, common_steps)

pub loop-group-preserved : goal.loop-group-preserved
loop-group-preserved c =
    let is : c.contains.result ≡ is_listed c.difference-group.result c.loop-group.left.items =
    rw c.deref.ensures.0 at c.contains.ensures.value ∙ listed_is c.difference-group.result c.loop-group.left.items in
    grind (arith, common_steps)
