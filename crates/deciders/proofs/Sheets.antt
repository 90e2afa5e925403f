-- A listing on a sheet: expanding one entry, and going through the entries.
use Rattle.std.proofs.Common.{◌≡◌, ℕ, ◌+◌, ◌<◌, ◌≤◌, true, false, cond, List, [], ◌∷◌, ◌++◌, length, get_or, drop, set, Some, None, Ok, Err, Option, Result, sym, ap, ◌∙◌, add-one, arith}
use Rattle.std.proofs.lemmas.Bool.{lt-ltb}
use Rattle.std.proofs.lemmas.Grind.{common_steps}
use Rattle.std.proofs.lemmas.List.{at_drop_more, get_or_default}
use Rattle.rules.specs.Listing.{Successor, is_listed, with_made, expansion, listing}
use Rattle.rules.proofs.Listing.{begins_expansion, listing_stays}
use Rattle.deciders.specs.declared.row.Row.{Row}
use Rattle.deciders.specs.declared.struck.Action.{Action}
use Rattle.deciders.specs.declared.listing.Unsettled.{Unsettled}
use Rattle.deciders.specs.Search.Rows.{row, entries, Sound}
use Rattle.deciders.specs.Search.Struck.{steps_of}
use Rattle.deciders.specs.Search.Searches.{zero_action, ByAction, Starts, NoGoal, Expands, Lists}
use Rattle.deciders.proofs.Chains.{entries_length, entries_at, entries_more}

-- ---- a list that begins with another

starts_expansion : (f : Successor) (ws : List Action) (s : ℕ) (l : List ℕ) → Starts l (expansion f (steps_of ws) s l)
starts_expansion f ws s l = let b = begins_expansion f (steps_of ws) s l in (b.longer, b.same)

-- ---- one more row leaves those before it

sound_more : (B : Row → Row → Type 0) (start : ℕ) (sheet : List Row) (n : ℕ) (r : Row) → Sound B start sheet n → 0 < n → n < length sheet
    → r.parent < n → B r (row sheet r.parent) → Sound B start (set sheet n r) (n + 1)
sound_more B start sheet n r x some fits back by = grind (arith, common_steps)

no_goal_more : (Goal : ℕ → Type 0) (sheet : List Row) (n : ℕ) (r : Row) → n < length sheet → NoGoal Goal sheet n → (Goal r.set → ⊥)
    → NoGoal Goal (set sheet n r) (n + 1)
no_goal_more Goal sheet n r fits x isnt i h w = grind (arith, common_steps, x i)

-- ---- going through the actions at one entry

-- an action of the list, read at itself
pub action_at : (ws : List Action) (j : ℕ) (w : Action) → w ≡ get_or ws j w → j < length ws → w ≡ get_or ws j zero_action
action_at ws j w is h = is ∙ get_or_default ws j w zero_action h

pub record Going (f : Successor) (Goal : ℕ → Type 0) (ws : List Action) (start s k : ℕ) (l : List ℕ) (m : ℕ) (sheet : List Row) (n j : ℕ) : Type 0 where
  pub size : length sheet ≡ m
  pub longer : length l ≤ n
  pub same : expansion f (steps_of ws) s l ≡ expansion f (steps_of (drop j ws)) s (entries sheet n)
  pub sound : Sound (ByAction f ws) start sheet n
  pub away : NoGoal Goal sheet n
  pub from : k < n
  pub here : (row sheet k).set ≡ s

module _ {f : Successor} {Goal : ℕ → Type 0} {ws : List Action} {start s k : ℕ} {l : List ℕ} {m : ℕ} {sheet : List Row} {n j : ℕ}
    (x : Going f Goal ws start s k l m sheet n j) where
  module _ (h : j < length ws) where
    -- what the actions from j on make of the rows
    on : expansion f (steps_of ws) s l ≡ expansion f (steps_of (drop (j + 1) ws)) s (with_made (f (get_or ws j zero_action).step s) (entries sheet n))
    on = x.same ∙ at_drop_more (λ v. expansion f (steps_of v) s (entries sheet n)) ws j zero_action h

    pub going_none : f (get_or ws j zero_action).step s ≡ None → Going f Goal ws start s k l m sheet n (j + 1)
    going_none e = let y = on in grind (arith, common_steps)

    module _ (r : ℕ) (e : f (get_or ws j zero_action).step s ≡ Some r) where
      pub going_seen : is_listed r (entries sheet n) ≡ true → Going f Goal ws start s k l m sheet n (j + 1)
      going_seen q = let y = on in grind (arith, common_steps)

      module _ (new : is_listed r (entries sheet n) ≡ false) where
        -- the list with the new entry is a beginning of what is made
        with_it : Starts (entries sheet n ++ r ∷ []) (expansion f (steps_of ws) s l)
        with_it = let y = on in let z = starts_expansion f (drop (j + 1) ws) s (entries sheet n ++ r ∷ []) in grind (arith, common_steps)

        pub going_full : n ≡ length sheet → (e : Unsettled) → Expands f Goal ws start s l m sheet n (Err e)
        going_full q e = let y = with_it in grind (arith, common_steps)

        module _ (place : ℕ) (at : (get_or ws j zero_action).place ≡ place) (room : n < length sheet) where
          -- the new row
          abbrev v : Row
          v = record { set = r; parent = k; place = place }

          sound' : Sound (ByAction f ws) start (set sheet n v) (n + 1)
          sound' =
              let by : ByAction f ws v (row sheet k) = record { number = j; fits = h; place = at; successor = ap (f (get_or ws j zero_action).step) x.here ∙ e } in
              sound_more (ByAction f ws) start sheet n v x.sound (omega (arith, x.from)) room x.from by

          pub going_goal : Goal r → Expands f Goal ws start s l m (set sheet n v) (n + 1) (Ok (Some n))
          going_goal w = let y = with_it in let z = sound' in grind (arith, common_steps)

          pub going_more : (Goal r → ⊥) → Going f Goal ws start s k l m (set sheet n v) (n + 1) (j + 1)
          going_more w = let y = on in let z = sound' in let a = no_goal_more Goal sheet n v room x.away w in grind (arith, common_steps)

-- ---- going through the entries

pub record Turn (f : Successor) (Goal : ℕ → Type 0) (ws : List Action) (start m : ℕ) (sheet : List Row) (n k : ℕ) : Type 0 where
  pub size : length sheet ≡ m
  pub low : k ≤ n
  pub same : entries sheet n ≡ listing f (steps_of ws) start k
  pub sound : Sound (ByAction f ws) start sheet n
  pub away : NoGoal Goal sheet n

module _ (f : Successor) (ws : List Action) (start : ℕ) where
  starts_listing : (k m : ℕ) → k ≤ m → Starts (listing f (steps_of ws) start k) (listing f (steps_of ws) start m)
  starts_listing k m h = let y = listing_stays f (steps_of ws) start k m h in (y.0, y.1)

  listing_turn : (k : ℕ) → k < length (listing f (steps_of ws) start k)
      → listing f (steps_of ws) start (k + 1) ≡ expansion f (steps_of ws) (get_or (listing f (steps_of ws) start k) k 0) (listing f (steps_of ws) start k)
  listing_turn k h =
      let l : List ℕ = listing f (steps_of ws) start k in
      ap (listing f (steps_of ws) start) (add-one k) ∙ ap (λ b. cond b (expansion f (steps_of ws) (get_or l k 0) l) l) (lt-ltb k (length l) h)

module _ {f : Successor} {Goal : ℕ → Type 0} {ws : List Action} {start m : ℕ} {sheet : List Row} {n k : ℕ} (x : Turn f Goal ws start m sheet n k) where
  module _ (h : k < n) (s : ℕ) (is : (row sheet k).set ≡ s) (sheet' : List Row) (n' : ℕ) where
    -- what expanding the row k makes of the rows
    abbrev next : List ℕ
    next = expansion f (steps_of ws) s (entries sheet n)

    next_is : next ≡ listing f (steps_of ws) start (k + 1)
    next_is =
        let l : List ℕ = listing f (steps_of ws) start k in
        let q : length l ≡ n = sym (ap length x.same) ∙ entries_length sheet n x.sound.fits in
        let e : s ≡ get_or l k 0 = sym is ∙ sym (entries_at sheet n k x.sound.fits h) ∙ ap (λ (t : List ℕ). get_or t k 0) x.same in
        ap (λ (i : ℕ). expansion f (steps_of ws) i (entries sheet n)) e ∙ ap (expansion f (steps_of ws) (get_or l k 0)) x.same
        ∙ sym (listing_turn f ws start k (omega arith))

    upto : Starts next (listing f (steps_of ws) start m)
    upto = let y = next_is in let z = starts_listing f ws start (k + 1) m (omega (arith, x.size, x.sound.fits)) in grind (arith, common_steps)

    -- what expanding the row k says
    abbrev Said : Result (Option ℕ) Unsettled → Type 0
    Said r = Expands f Goal ws (row sheet 0).set s (entries sheet n) (length sheet) sheet' n' r

    pub turn_more : Said (Ok None) → Turn f Goal ws start m sheet' n' (k + 1)
    turn_more g = let y = next_is in let z = entries_length sheet n x.sound.fits in grind (arith, common_steps)

    pub turn_goal : (i : ℕ) → Said (Ok (Some i)) → Lists f Goal ws start m sheet' n' (Ok (Some i))
    turn_goal i g = let y = upto in grind (arith, common_steps)

    pub turn_full : (e : Unsettled) → Said (Err e) → Lists f Goal ws start m sheet' n' (Err e)
    turn_full e g = let y = upto in grind (arith, common_steps)

-- ---- the first row

module _ (f : Successor) (Goal : ℕ → Type 0) (ws : List Action) (start parent place : ℕ) (sheet : List Row) (some : 0 < length sheet) where
  -- the first row
  abbrev pub first : Row
  first = record { set = start; parent = parent; place = place }

  abbrev pub begun : List Row
  begun = set sheet 0 first

  pub start_goal : Goal start → Lists f Goal ws start (length sheet) begun 1 (Ok (Some 0))
  start_goal w =
      let y = starts_listing f ws start 0 (length sheet) (omega arith) in let z = entries_more sheet 0 first some in grind (arith, common_steps)
