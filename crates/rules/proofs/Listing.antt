-- Listings: what is listed is reached, what is reached is listed, and nothing is listed twice.
use Rattle.std.proofs.Common.{◌≡◌, ◌≢◌, ℕ, zero, suc, ◌+◌, ◌-◌, ◌<◌, ◌≤◌, Bool, true, false, cond, not, ◌||◌, T, eqb, ltb, ◌⊎◌, List, [], ◌∷◌, ◌++◌, AllPairs, length, get_or, Some, None, Option, sym, refl, ap, ◌∙◌, subst, inl, inr, suc-add, zero-add, arith, eqb→eq, ltb→lt, nltb→le, length-append}
use native.Mathlib.Decide.{dec_lt}
use lib.ListN.{get_or-append}
use Rattle.std.proofs.lemmas.List.{get_or_default, get_or_push}
use lib.Dec.{eqb_refl}
use Rattle.rules.specs.Steps.{Step}
use Rattle.rules.specs.Listing.{Successor, is_listed, with_entry, with_made, expansion, listing, Whole, Path}
use Rattle.rules.specs.Theorems.{ListedReached, ReachedListed, ListingStays, FirstEntries, NoRepeats}

-- ---- lists of entries

pub T→true : (b : Bool) → T b → b ≡ true
T→true true h = refl
T→true false h = elim h [ ]

-- s is at some place of l
abbrev pub At : ℕ → List ℕ → Type 0
At s l = (i : ℕ) × (i < length l) × (get_or l i 0 ≡ s)

pub is_listed→ : (s : ℕ) (l : List ℕ) → T (is_listed s l) → At s l
is_listed→ s [] h = elim h [ ]
is_listed→ s (a ∷ l) h = go (eqb s a) refl h (is_listed→ s l)
  where
    go : (b : Bool) → eqb s a ≡ b → T (b || is_listed s l) → (T (is_listed s l) → At s l) → At s (a ∷ l)
    go true e h ih = (0, omega arith, sym (eqb→eq s a (subst T (sym e) tt)))
    go false e h ih = let (i, k, q) = ih h in (suc i, omega arith, q)

pub →is_listed : (s : ℕ) (l : List ℕ) → At s l → T (is_listed s l)
→is_listed s [] (i, h, e) = absurd (omega arith)
→is_listed s (a ∷ l) (zero, h, e) = subst (λ x. T (eqb s x || is_listed s l)) (sym e) (rw (T→true (eqb s s) (eqb_refl s)) tt)
→is_listed s (a ∷ l) (suc i, h, e) = elim (eqb s a) as (λ b. T (b || is_listed s l)) [ true ↦ tt | false ↦ →is_listed s l (i, omega arith, e) ]

pub at_or_not : (s : ℕ) (l : List ℕ) → At s l ⊎ (At s l → ⊥)
at_or_not s l = go (is_listed s l) refl
  where
    go : (b : Bool) → is_listed s l ≡ b → At s l ⊎ (At s l → ⊥)
    go true e = inl (is_listed→ s l (subst T (sym e) tt))
    go false e = inr (λ h. subst T e (→is_listed s l h))

-- l' begins with l
pub record Begins (l l' : List ℕ) : Type 0 where
  pub longer : length l ≤ length l'
  pub same : (i : ℕ) → i < length l → get_or l' i 0 ≡ get_or l i 0

pub begins_self : (l : List ℕ) → Begins l l
begins_self l = record { longer = omega arith; same = λ i h. refl }

pub begins_on : (a b c : List ℕ) → Begins a b → Begins b c → Begins a c
begins_on a b c h k = record { longer = omega arith; same = λ i j. k.same i (omega arith) ∙ h.same i j }

pub at_begins : (s : ℕ) (a b : List ℕ) → Begins a b → At s a → At s b
at_begins s a b h (i, k, e) = (i, omega arith, h.same i k ∙ e)

at_end : (s : ℕ) (l : List ℕ) → At s (l ++ s ∷ [])
at_end s l = (length l, omega (arith, length-append l (s ∷ [])), get_or_push l s 0 (length l) refl)

at_either : (a s : ℕ) (l : List ℕ) → At a (l ++ s ∷ []) → At a l ⊎ (s ≡ a)
at_either a s [] (zero, h, e) = inr e
at_either a s [] (suc i, h, e) = absurd (omega arith)
at_either a s (x ∷ l) (zero, h, e) = inl (zero, omega arith, e)
at_either a s (x ∷ l) (suc i, h, e) = elim (at_either a s l (i, omega arith, e)) [
  | inl (j, k, q) ↦ inl (suc j, omega arith, q)
  | inr q ↦ inr q
]

-- ---- one more entry, unless it is there

pub begins_with_entry : (s : ℕ) (l : List ℕ) → Begins l (with_entry s l)
begins_with_entry s l = elim (is_listed s l) as (λ b. Begins l (cond b l (l ++ s ∷ []))) [
  | true ↦ begins_self l
  | false ↦ record { longer = omega (arith, length-append l (s ∷ [])); same = λ i h. get_or-append l (s ∷ []) 0 i h }
]

pub at_with_entry : (s : ℕ) (l : List ℕ) → At s (with_entry s l)
at_with_entry s l = (elim (is_listed s l) as (λ b. (T b → At s l) → At s (cond b l (l ++ s ∷ []))) [
  | true ↦ (λ h. h tt)
  | false ↦ (λ h. at_end s l)
]) (is_listed→ s l)

pub from_with_entry : (a s : ℕ) (l : List ℕ) → At a (with_entry s l) → At a l ⊎ (s ≡ a)
from_with_entry a s l = elim (is_listed s l) as (λ b. At a (cond b l (l ++ s ∷ [])) → At a l ⊎ (s ≡ a)) [
  | true ↦ (λ h. inl h)
  | false ↦ at_either a s l
]

begins_made : (o : Option ℕ) (l : List ℕ) → Begins l (with_made o l)
begins_made None l = begins_self l
begins_made (Some s) l = begins_with_entry s l

at_made : (o : Option ℕ) (r : ℕ) (l : List ℕ) → o ≡ Some r → At r (with_made o l)
at_made None r l e = absurd (let z : ◌≡◌ {A = ℕ} 0 1 = cc in omega arith)
at_made (Some s) r l e = let q : s ≡ r = cc in subst (λ x. At x (with_entry s l)) q (at_with_entry s l)

from_made : (a : ℕ) (o : Option ℕ) (l : List ℕ) → At a (with_made o l) → At a l ⊎ (o ≡ Some a)
from_made a None l h = inl h
from_made a (Some s) l h = elim (from_with_entry a s l h) [ inl k ↦ inl k | inr e ↦ inr (ap Some e) ]

-- ---- no entry twice

abbrev pub Apart : List ℕ → Type 0
Apart l = (i j : ℕ) → i < j → j < length l → get_or l i 0 ≡ get_or l j 0 → ⊥

pub apart_push : (l : List ℕ) (s : ℕ) → (At s l → ⊥) → Apart l → Apart (l ++ s ∷ [])
apart_push l s new apart i j i<j j<l e =
    let n = length-append l (s ∷ []) in
    let at : get_or (l ++ s ∷ []) i 0 ≡ get_or l i 0 = get_or-append l (s ∷ []) 0 i (omega arith) in
    elim (dec_lt j (length l)) [
      | yes lt ↦ apart i j i<j lt (sym at ∙ e ∙ get_or-append l (s ∷ []) 0 j lt)
      | no ge ↦ new (i, omega arith, sym at ∙ e ∙ get_or_push l s 0 j (omega arith))
    ]

pub apart_with_entry : (s : ℕ) (l : List ℕ) → Apart l → Apart (with_entry s l)
apart_with_entry s l apart = (elim (is_listed s l) as (λ b. (At s l → T b) → Apart (cond b l (l ++ s ∷ []))) [
  | true ↦ (λ h. apart)
  | false ↦ (λ h. apart_push l s h apart)
]) (→is_listed s l)

apart_made : (o : Option ℕ) (l : List ℕ) → Apart l → Apart (with_made o l)
apart_made None l h = h
apart_made (Some s) l h = apart_with_entry s l h

module _ (f : Successor) where
  -- ---- an entry, expanded

  pub begins_expansion : (ts : List (Option Step)) (s : ℕ) (l : List ℕ) → Begins l (expansion f ts s l)
  begins_expansion [] s l = begins_self l
  begins_expansion (None ∷ ts) s l = begins_expansion ts s l
  begins_expansion (Some t ∷ ts) s l =
      let m : List ℕ = with_made (f t s) l in
      begins_on l m (expansion f ts s m) (begins_made (f t s) l) (begins_expansion ts s m)

  pub at_expansion : (ts : List (Option Step)) (j : ℕ) (t : Step) (s r : ℕ) (l : List ℕ) → get_or ts j None ≡ Some t → f t s ≡ Some r
      → At r (expansion f ts s l)
  at_expansion [] j t s r l e h = absurd (let z : ◌≡◌ {A = ℕ} 0 1 = cc in omega arith)
  at_expansion (None ∷ ts) zero t s r l e h = absurd (let z : ◌≡◌ {A = ℕ} 0 1 = cc in omega arith)
  at_expansion (None ∷ ts) (suc j) t s r l e h = at_expansion ts j t s r l e h
  at_expansion (Some u ∷ ts) zero t s r l e h =
      let q : u ≡ t = cc in
      let m : List ℕ = with_made (f u s) l in
      at_begins r m (expansion f ts s m) (begins_expansion ts s m) (at_made (f u s) r l (ap (λ v. f v s) q ∙ h))
  at_expansion (Some u ∷ ts) (suc j) t s r l e h = at_expansion ts j t s r (with_made (f u s) l) e h

  -- a step makes the entry a of the entry s
  abbrev Made : List (Option Step) → ℕ → ℕ → Type 0
  Made ts s a = (j : ℕ) × (t : Step) × (get_or ts j None ≡ Some t) × (f t s ≡ Some a)

  from_expansion : (a : ℕ) (ts : List (Option Step)) (s : ℕ) (l : List ℕ) → At a (expansion f ts s l) → At a l ⊎ Made ts s a
  from_expansion a [] s l h = inl h
  from_expansion a (None ∷ ts) s l h = elim (from_expansion a ts s l h) [
    | inl k ↦ inl k
    | inr (j, t, e, q) ↦ inr (suc j, t, e, q)
  ]
  from_expansion a (Some u ∷ ts) s l h = elim (from_expansion a ts s (with_made (f u s) l) h) [
    | inl k ↦ (elim (from_made a (f u s) l k) [ inl k' ↦ inl k' | inr q ↦ inr (zero, u, refl, q) ])
    | inr (j, t, e, q) ↦ inr (suc j, t, e, q)
  ]

  module _ (ts : List (Option Step)) (start : ℕ) where
    -- the listing after one more turn
    abbrev next : ℕ → List ℕ → List ℕ
    next k l = cond (ltb k (length l)) (expansion f ts (get_or l k 0) l) l

    -- what the steps make of the first k entries of l is in l
    abbrev ClosedUpTo : ℕ → List ℕ → Type 0
    ClosedUpTo k l = (i j : ℕ) (t : Step) (r : ℕ) → i < k → i < length l → get_or ts j None ≡ Some t → f t (get_or l i 0) ≡ Some r → At r l

    closed_on : (k : ℕ) (l : List ℕ) → k < length l → ClosedUpTo k l → ClosedUpTo (suc k) (expansion f ts (get_or l k 0) l)
    closed_on k l h closed i j t r i<k i<l is leads =
        let l' : List ℕ = expansion f ts (get_or l k 0) l in
        let b : Begins l l' = begins_expansion ts (get_or l k 0) l in
        let e : get_or l' i 0 ≡ get_or l i 0 = b.same i (omega arith) in
        let leads' : f t (get_or l i 0) ≡ Some r = subst (λ s. f t s ≡ Some r) e leads in
        elim (dec_lt i k) [
          | yes lt ↦ at_begins r l l' b (closed i j t r lt (omega arith) is leads')
          | no ge ↦ (let q : i ≡ k = omega arith in
              at_expansion ts j t (get_or l k 0) r l is (subst (λ n. f t (get_or l n 0) ≡ Some r) q leads'))
        ]

    closed_next : (k : ℕ) (l : List ℕ) → ClosedUpTo k l → ClosedUpTo (suc k) (next k l)
    closed_next k l closed = go (ltb k (length l)) refl
      where
        go : (b : Bool) → ltb k (length l) ≡ b → ClosedUpTo (suc k) (cond b (expansion f ts (get_or l k 0) l) l)
        go true e = closed_on k l (ltb→lt k (length l) (subst T (sym e) tt)) closed
        go false e = λ i j t r i<k i<l is leads.
            closed i j t r (omega (arith, nltb→le k (length l) (subst (λ b. T (not b)) (sym e) tt))) i<l is leads

    pub closed : (m : ℕ) → ClosedUpTo m (listing f ts start m)
    closed zero = λ i j t r h. absurd (omega arith)
    closed (suc k) = closed_next k (listing f ts start k) (closed k)

    begins_next : (k : ℕ) (l : List ℕ) → Begins l (next k l)
    begins_next k l = elim (ltb k (length l)) as (λ b. Begins l (cond b (expansion f ts (get_or l k 0) l) l)) [
      | true ↦ begins_expansion ts (get_or l k 0) l
      | false ↦ begins_self l
    ]

    pub begins_listing : (m : ℕ) → Begins (start ∷ []) (listing f ts start m)
    begins_listing zero = begins_self (start ∷ [])
    begins_listing (suc k) =
        begins_on (start ∷ []) (listing f ts start k) (listing f ts start (suc k)) (begins_listing k) (begins_next k (listing f ts start k))

    -- ---- what is reached is listed

    path_on : (m : ℕ) → Whole f ts start m → (s : ℕ) (l : List ℕ) (e : ℕ) → At s (listing f ts start m) → Path f ts s l e
        → At e (listing f ts start m)
    path_on m w s [] e (i, h, q) on = (i, h, q ∙ on)
    path_on m w s (i ∷ l) e (k, h, q) (t, is, r, leads, on) =
        path_on m w r l e (closed m k i t r (omega arith) h is (ap (f t) q ∙ leads)) on

    pub reached : (m : ℕ) → Whole f ts start m → (l : List ℕ) (e : ℕ) → Path f ts start l e → At e (listing f ts start m)
    reached m w l e on =
        path_on m w start l e (at_begins start (start ∷ []) (listing f ts start m) (begins_listing m) (0, omega arith, refl)) on

    -- ---- what is listed is reached

    pub path_push : (s : ℕ) (l : List ℕ) (e j : ℕ) (t : Step) (r : ℕ) → Path f ts s l e → get_or ts j None ≡ Some t → f t e ≡ Some r
        → Path f ts s (l ++ j ∷ []) r
    path_push s [] e j t r q is leads = (t, is, r, ap (f t) q ∙ leads, refl)
    path_push s (i ∷ l) e j t r (u, is', v, leads', on) is leads = (u, is', v, leads', path_push v l e j t r on is leads)

    abbrev Reached : ℕ → Type 0
    Reached a = (l : List ℕ) × Path f ts start l a

    reached_next : (k : ℕ) (l : List ℕ) → ((a : ℕ) → At a l → Reached a) → (a : ℕ) → At a (next k l) → Reached a
    reached_next k l ih a = go (ltb k (length l)) refl
      where
        go : (b : Bool) → ltb k (length l) ≡ b → At a (cond b (expansion f ts (get_or l k 0) l) l) → Reached a
        go true e h = elim (from_expansion a ts (get_or l k 0) l h) [
          | inl q ↦ ih a q
          | inr (j, t, is, leads) ↦ (
              let (way, on) = ih (get_or l k 0) (k, ltb→lt k (length l) (subst T (sym e) tt), refl) in
              (way ++ j ∷ [], path_push start way (get_or l k 0) j t a on is leads))
        ]
        go false e h = ih a h

    pub all_reached : (m : ℕ) (a : ℕ) → At a (listing f ts start m) → Reached a
    all_reached zero a (zero, h, e) = ([], e)
    all_reached zero a (suc i, h, e) = absurd (omega arith)
    all_reached (suc k) a h = reached_next k (listing f ts start k) (all_reached k) a h

    -- ---- going on

    next_whole : (k : ℕ) (l : List ℕ) → length l ≤ k → next k l ≡ l
    next_whole k l h = go (ltb k (length l)) refl
      where
        go : (b : Bool) → ltb k (length l) ≡ b → cond b (expansion f ts (get_or l k 0) l) l ≡ l
        go true e = absurd (omega (arith, ltb→lt k (length l) (subst T (sym e) tt)))
        go false e = refl

    stays : (k d : ℕ) → Begins (listing f ts start k) (listing f ts start (d + k)) × (Whole f ts start k → listing f ts start (d + k) ≡ listing f ts start k)
    stays k zero = rw zero-add (begins_self (listing f ts start k), λ w. refl)
    stays k (suc d) =
        let (b, e) = stays k d in
        rw suc-add (
          begins_on (listing f ts start k) (listing f ts start (d + k)) (listing f ts start (suc (d + k))) b (begins_next (d + k) (listing f ts start (d + k))),
          λ w. next_whole (d + k) (listing f ts start (d + k)) (omega (arith, ap length (e w))) ∙ e w,
        )

    pub stays_at : (k m : ℕ) → k ≤ m
        → Begins (listing f ts start k) (listing f ts start m) × (Whole f ts start k → listing f ts start m ≡ listing f ts start k)
    stays_at k m h =
        let q : m - k + k ≡ m = omega arith in
        let P : ℕ → Type 0 = λ n. Begins (listing f ts start k) (listing f ts start n) × (Whole f ts start k → listing f ts start n ≡ listing f ts start k) in
        subst P q (stays k (m - k))

    -- ---- no entry is listed twice

    apart_expansion : (us : List (Option Step)) (s : ℕ) (l : List ℕ) → Apart l → Apart (expansion f us s l)
    apart_expansion [] s l h = h
    apart_expansion (None ∷ us) s l h = apart_expansion us s l h
    apart_expansion (Some t ∷ us) s l h = apart_expansion us s (with_made (f t s) l) (apart_made (f t s) l h)

    pub apart_listing : (m : ℕ) → Apart (listing f ts start m)
    apart_listing zero = λ i j h k. absurd (omega arith)
    apart_listing (suc k) = elim (ltb k (length (listing f ts start k)))
        as (λ b. Apart (cond b (expansion f ts (get_or (listing f ts start k) k 0) (listing f ts start k)) (listing f ts start k))) [
          | true ↦ apart_expansion ts (get_or (listing f ts start k) k 0) (listing f ts start k) (apart_listing k)
          | false ↦ apart_listing k
        ]

pub listed_reached : ListedReached
listed_reached f ts start m i h = all_reached f ts start m (get_or (listing f ts start m) i 0) (i, h, refl)

pub reached_listed : ReachedListed
reached_listed f ts start m w l e on = reached f ts start m w l e on

pub listing_stays : ListingStays
listing_stays f ts start k m h = let (b, e) = stays_at f ts start k m h in (b.longer, b.same, e)

pub first_entries : FirstEntries
first_entries f ts start k m i h i<k i<m = elim (dec_lt i (length (listing f ts start k))) [
  | yes lt ↦ lt
  | no ge ↦ (let e = (stays_at f ts start k m h).1 (omega arith) in absurd (omega (arith, ap length e)))
]

-- the same in std's word
pub pairs_apart : (l : List ℕ) → Apart l → AllPairs (λ a b. a ≢ b) l
pairs_apart l apart i j d i<j j<l = rw (get_or_default l i d 0 (omega arith), get_or_default l j d 0 j<l) (apart i j i<j j<l)

pub no_repeats : NoRepeats
no_repeats f ts start m = pairs_apart (listing f ts start m) (apart_listing f ts start m)
