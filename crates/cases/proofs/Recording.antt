-- Calls on the program's buffers, and the entries that they leave.
use Rattle.std.proofs.Common.{◌≡◌, ℕ, List, [], ◌∷◌, ◌++◌, length, Some, None, vec_items, vec_len, Option, Result, Vec, sym, refl, subst, arith}
use Rattle.std.specs.Vec.{with_items}
use Rattle.std.proofs.lemmas.List.{with_items_is}
use Rattle.std.specs.declared.alloc.Global.{Global}
use Rattle.rules.specs.Planning.{Task}
use Rattle.deciders.specs.declared.row.Row.{Row}
use Rattle.deciders.specs.Reaching.{SameReach}
use Rattle.waivers.specs.declared.fault.FinderFault.{FinderFault}
use Rattle.waivers.specs.Searching.{Choice}
use Rattle.cases.specs.declared.slip.SlipData.{SlipData}
use Rattle.cases.specs.declared.call.Call.{Call}
use Rattle.cases.specs.declared.call.Answer.{Answer}
use Rattle.cases.specs.Calls.{Entry, entry_of, Recorded}
use Rattle.cases.specs.Slips.{InHand}
use Rattle.cases.specs.State.{State, fresh}
use Rattle.cases.specs.Finding.{Finds}
use Rattle.cases.specs.Making.{Makes, Made, unmade, then}

-- a find, with the buffers as vectors
pub found_in : (c : Choice) (R : Task → ℕ → ℕ → ℕ → Type 0) (m : ℕ) (k k' : State) (r : Result (ℕ × ℕ × ℕ) FinderFault) (s : Vec Row Global) (b : Vec ℕ Global)
    (s₀ s₁ : List Row) (b₀ b₁ : List ℕ) → s₀ ≡ vec_items s → b₀ ≡ vec_items b → length s₁ ≡ vec_len s → length b₁ ≡ vec_len b
    → Finds c (λ y. R k.plain.task y (length s₀) (length b₀)) m k s₀ b₀ (record { result = r; sheet = s₁; book = b₁ }) k'
    → Finds c (λ y. R k.plain.task y (length (vec_items s)) (length (vec_items b))) m k (vec_items s) (vec_items b)
    (record { result = r; sheet = vec_items (with_items s s₁); book = vec_items (with_items b b₁) }) k'
found_in c R m k k' r s b s₀ s₁ b₀ b₁ es eb ls lb h =
    subst (λ (z : List ℕ). F (vec_items s) (vec_items b) (vec_items (with_items s s₁)) z) (sym (with_items_is b b₁ lb))
    (subst (λ (z : List Row). F (vec_items s) (vec_items b) z b₁) (sym (with_items_is s s₁ ls))
    (subst (λ (z : List ℕ). F (vec_items s) z s₁ b₁) eb
    (subst (λ (z : List Row). F z b₀ s₁ b₁) es h)))
  where
    F : List Row → List ℕ → List Row → List ℕ → Type 0
    F u v u' v' = Finds c (λ y. R k.plain.task y (length u) (length v)) m k u v (record { result = r; sheet = u'; book = v' }) k'

-- one call more with its answer
recorded_more : (xs : List Call) (ws : List Answer) (es : List Entry) (x : Call) (w : Answer) (e : Entry) → Recorded xs ws es → entry_of x w ≡ Some e
    → Recorded (xs ++ x ∷ []) (ws ++ w ∷ []) (es ++ e ∷ [])
recorded_more [] [] [] x w e r is = (is, tt)
recorded_more [] [] (f ∷ es) x w e r is = absurd r
recorded_more [] (v ∷ ws) es x w e r is = absurd r
recorded_more (y ∷ xs) [] es x w e r is = absurd r
recorded_more (y ∷ xs) (v ∷ ws) [] x w e r is = absurd r
recorded_more (y ∷ xs) (v ∷ ws) (f ∷ es) x w e (first, rest) is = (first, recorded_more xs ws es x w e rest is)

-- there are as many answers as calls
pub recorded_length : (xs : List Call) (ws : List Answer) (es : List Entry) → Recorded xs ws es → length ws ≡ length xs
recorded_length [] [] [] r = refl
recorded_length [] [] (f ∷ es) r = absurd r
recorded_length [] (v ∷ ws) es r = absurd r
recorded_length (y ∷ xs) [] es r = absurd r
recorded_length (y ∷ xs) (v ∷ ws) [] r = absurd r
recorded_length (y ∷ xs) (v ∷ ws) (f ∷ es) (first, rest) = let shorter = recorded_length xs ws es rest in omega arith

-- The calls xs so far were answered by ws, and each was made as its own contract says; the slip in hand is the one that is out.
pub record Running {D : Type 0} (c : Choice) (reach : D → Task → ℕ → ℕ → ℕ → Type 0) (m : ℕ) (first : D) (xs : List Call) (ws : List Answer)
    (d : D) (k : State) (h : Option SlipData) : Type 0 where
  pub entries : List Entry
  pub recorded : Recorded xs ws entries
  pub made : Made c reach m first entries d k
  pub in_hand : InHand k.plain h
  pub same : SameReach (reach first) (reach d)

module _ {D : Type 0} (c : Choice) (reach : D → Task → ℕ → ℕ → ℕ → Type 0) (m : ℕ) (first : D) where
  pub running_first : (k : State) (ws : List Answer) (h : Option SlipData) → k ≡ fresh → ws ≡ [] → h ≡ None → SameReach (reach first) (reach first)
      → Running c reach m first [] ws first k h
  running_first k ws h is empty out same = record {
    entries = [];
    recorded = subst (λ (vs : List Answer). Recorded [] vs []) (sym empty) tt;
    made = subst (λ (n : State). Made c reach m first [] first n) (sym is) unmade;
    in_hand = subst (λ (n : State). InHand n.plain h) (sym is) (subst (λ (o : Option SlipData). InHand fresh.plain o) (sym out) refl);
    same = same;
  }

  pub running_next : (xs : List Call) (ws ws' : List Answer) (d d' : D) (k k' : State) (h h' : Option SlipData) (x : Call) (w : Answer)
      → Running c reach m first xs ws d k h
      → ((e : Entry) × (entry_of x w ≡ Some e) × Makes c (reach d) m k e.asked e.answered k') → SameReach (reach d) (reach d') → SameReach (reach first) (reach d')
      → InHand k'.plain h' → ws' ≡ ws ++ w ∷ [] → Running c reach m first (xs ++ x ∷ []) ws' d' k' h'
  running_next xs ws ws' d d' k k' h h' x w before (e, is, makes) step same hand on = record {
    entries = before.entries ++ e ∷ [];
    recorded = subst (λ (vs : List Answer). Recorded (xs ++ x ∷ []) vs (before.entries ++ e ∷ [])) (sym on)
        (recorded_more xs ws before.entries x w e before.recorded is);
    made = then before.made e d' k' makes step;
    in_hand = hand;
    same = same;
  }
