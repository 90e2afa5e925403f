-- What a sheet says of the rows that settle a search, and the paths that its rows are.
use Rattle.std.proofs.Common.{◌≡◌, ℕ, ◌<◌, ◌≤◌, List, [], ◌∷◌, reverse, length, get_or, Some, None, Ok, Err, Option, sym, ap, ◌∙◌, subst, inl, inr, arith}
use mathlib.Core.List.{reverse-append}
use Rattle.rules.specs.Steps.{Step}
use Rattle.rules.specs.Listing.{Successor, listing, Whole, Settles, Path}
use Rattle.rules.proofs.Listing.{listing_stays, path_push}
use Rattle.deciders.specs.declared.row.Row.{Row}
use Rattle.deciders.specs.declared.struck.Action.{Action}
use Rattle.deciders.specs.declared.listing.Unsettled.{Unsettled}
use Rattle.deciders.specs.Search.Rows.{row, entries, Sound, Climbs}
use Rattle.deciders.specs.Search.Struck.{actions_of, steps_of}
use Rattle.deciders.specs.Search.Searches.{zero_action, ByAction, ByStep, Starts, Lists}
use Rattle.deciders.proofs.Chains.{entries_length, entries_at}
use Rattle.deciders.proofs.Actions.{listing_same, action_at_place}

-- ---- from the actions to the steps

by_step : (f : Successor) (ts : List (Option Step)) (r q : Row) → ByAction f (actions_of 0 ts) r q → ByStep f ts r q
by_step f ts r q x =
    let w : Action = get_or (actions_of 0 ts) x.number zero_action in
    (w.step, ap (λ (i : ℕ). get_or ts i None) (sym x.place) ∙ action_at_place ts x.number x.fits, x.successor)

module _ (f : Successor) (Goal : ℕ → Type 0) (ts : List (Option Step)) (start m : ℕ) (sheet : List Row) (n : ℕ) where
  -- ---- a row's path, read from the row up

  climbed_path : Sound (ByAction f (actions_of 0 ts)) start sheet n → (l : List ℕ) (j : ℕ) → j < n → Climbs sheet j l 0 → Path f ts start (reverse l) (row sheet j).set
  climbed_path sound [] j h e = sym (ap (λ (i : ℕ). (row sheet i).set) e ∙ sound.first)
  climbed_path sound (p ∷ l) j h (some, place, on) =
      let k : ℕ = (row sheet j).parent in
      let (t, is, makes) = by_step f ts (row sheet j) (row sheet k) (sound.came j some h) in
      let path = climbed_path sound l k (omega (arith, sound.back j some h)) on in
      let is' : get_or ts p None ≡ Some t = ap (λ (i : ℕ). get_or ts i None) (sym place) ∙ is in
      subst (λ v. Path f ts start v (row sheet j).set) (sym (reverse-append (p ∷ []) l))
      (path_push f ts start start (reverse l) (row sheet k).set p t (row sheet j).set path is' makes)

  -- ---- the three ways to stop, and whether so many rows settle it

  begun : n ≤ length sheet → Starts (entries sheet n) (listing f (steps_of (actions_of 0 ts)) start m) → (i : ℕ) → i < n
      → (i < length (listing f ts start m)) × (get_or (listing f ts start m) i 0 ≡ (row sheet i).set)
  begun low b i h =
      let (long, same) = subst (Starts (entries sheet n)) (listing_same f ts start m) b in (
        omega (arith, long, entries_length sheet n low),
        same i (omega (arith, entries_length sheet n low)) ∙ entries_at sheet n i low h,
      )

  pub settles_none : Lists f Goal (actions_of 0 ts) start m sheet n (Ok None)
      → Settles f ts start Goal m × Whole f ts start n × ((i : ℕ) → i < length (listing f ts start n) → Goal (get_or (listing f ts start n) i 0) → ⊥)
  settles_none (size, low, same, away) =
      let e : entries sheet n ≡ listing f ts start n = same ∙ listing_same f ts start n in
      let fits : n ≤ length sheet = omega arith in
      let len : length (listing f ts start n) ≡ n = sym (ap length e) ∙ entries_length sheet n fits in
      let w : Whole f ts start n = omega arith in (
        inl (omega (arith, ap length ((listing_stays f ts start n m low).2 w))),
        w,
        λ i h y. away i (omega arith) (subst Goal (ap (λ (v : List ℕ). get_or v i 0) (sym e) ∙ entries_at sheet n i fits (omega arith)) y),
      )

  pub settles_goal : (i : ℕ) → Lists f Goal (actions_of 0 ts) start m sheet n (Ok (Some i)) → (l : List ℕ) → Climbs sheet i l 0
      → Settles f ts start Goal m × (i < m) × ((e : ℕ) × Path f ts start (reverse l) e × Goal e)
  settles_goal i (size, last, b, sound, is) l up =
      let (h, q) = begun sound.fits b i (omega arith) in
      let fits : i < m = omega (arith, sound.fits) in
      (inr (i, fits, h, subst Goal (sym q) is), fits, ((row sheet i).set, climbed_path sound l i (omega arith) up, is))

  pub settles_not : (e : Unsettled) → Lists f Goal (actions_of 0 ts) start m sheet n (Err e) → Settles f ts start Goal m → ⊥
  settles_not e (size, last, away, b, more) (inl w) = omega (arith, ap length (listing_same f ts start m))
  settles_not e (size, last, away, b, more) (inr (i, h, k, is)) =
      let (_, q) = begun (omega arith) (subst (λ j. Starts (entries sheet j) (listing f (steps_of (actions_of 0 ts)) start m)) (sym last) b) i (omega arith) in
      away i h (subst Goal q is)
