use Rattle.rules.proofs.Plans.{striking_more, standing_more, ordering_less, additional_step, emptying, doing}
use Rattle.rules.proofs.theorems.more_never_blocks.Goals as goal

pub returns : goal.returns
returns c = record {
  striking = striking_more;
  standing = standing_more;
  ordering = ordering_less;
  adding = additional_step;
  emptying = emptying;
  doing = doing;
}
