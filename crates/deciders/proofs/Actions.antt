-- The steps that are left once facts are struck out: how their list is made, and that it lists what the places list.
use Rattle.std.proofs.Common.{◌≡◌, ℕ, zero, suc, ◌+◌, ◌-◌, ◌<◌, ◌≤◌, cond, ltb, List, [], ◌∷◌, map, length, get_or, drop, Some, None, Option, refl, ap, ◌∙◌, arith}
use Rattle.std.proofs.lemmas.Grind.{common_steps}
use Rattle.rules.specs.Steps.{Step}
use Rattle.rules.specs.Planning.{place_without}
use Rattle.rules.specs.Listing.{Successor, with_made, expansion, listing}
use Rattle.deciders.specs.declared.struck.Action.{Action}
use Rattle.deciders.specs.Search.Struck.{actions_of, steps_of}
use Rattle.deciders.specs.Search.Searches.{zero_action}

-- ---- one place after another

-- the actions at the places from i on, once g is struck out
abbrev pub actions_from : ℕ → List (Option Step) → ℕ → List Action
actions_from g ts i = actions_of i (map (place_without g) (drop i ts))

-- ---- the actions list what the places list

module _ (f : Successor) where
  expansion_same : (i : ℕ) (ts : List (Option Step)) (s : ℕ) (l : List ℕ) → expansion f (steps_of (actions_of i ts)) s l ≡ expansion f ts s l
  expansion_same i [] s l = refl
  expansion_same i (None ∷ ts) s l = expansion_same (i + 1) ts s l
  expansion_same i (Some t ∷ ts) s l = expansion_same (i + 1) ts s (with_made (f t s) l)

  pub listing_same : (ts : List (Option Step)) (start k : ℕ) → listing f (steps_of (actions_of 0 ts)) start k ≡ listing f ts start k
  listing_same ts start zero = refl
  listing_same ts start (suc k) =
      let us : List (Option Step) = steps_of (actions_of 0 ts) in
      let l : List ℕ = listing f ts start k in
      ap (λ (v : List ℕ). cond (ltb k (length v)) (expansion f us (get_or v k 0) v) v) (listing_same ts start k)
      ∙ ap (λ (v : List ℕ). cond (ltb k (length l)) v l) (expansion_same 0 ts (get_or l k 0) l)

-- ---- each action is the step at its place

record Placed (i : ℕ) (ts : List (Option Step)) (w : Action) : Type 0 where
  from : i ≤ w.place
  holds : get_or ts (w.place - i) None ≡ Some w.step

placed : (i : ℕ) (ts : List (Option Step)) (j : ℕ) → j < length (actions_of i ts) → Placed i ts (get_or (actions_of i ts) j zero_action)
placed i [] j h = absurd (omega arith)
placed i (None ∷ ts) j h = let x = placed (i + 1) ts j h in grind (arith, common_steps)
placed i (Some t ∷ ts) zero h = grind (arith, common_steps)
placed i (Some t ∷ ts) (suc j) h = let x = placed (i + 1) ts j (omega arith) in grind (arith, common_steps)

pub action_at_place : (ts : List (Option Step)) (j : ℕ) → j < length (actions_of 0 ts)
    → get_or ts (get_or (actions_of 0 ts) j zero_action).place None ≡ Some (get_or (actions_of 0 ts) j zero_action).step
action_at_place ts j h = let x = placed 0 ts j h in grind (arith, common_steps)
