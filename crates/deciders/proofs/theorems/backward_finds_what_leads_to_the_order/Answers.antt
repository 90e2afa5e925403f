use Rattle.deciders.proofs.Backwards.{subgoal_leads, leads_to_subgoal, subgoals_blocked, backward_example}
use Rattle.deciders.proofs.theorems.backward_finds_what_leads_to_the_order.Goals as goal

pub returns : goal.returns
returns c = record { leads = subgoal_leads; complete = leads_to_subgoal; blocked = subgoals_blocked; example = backward_example }
