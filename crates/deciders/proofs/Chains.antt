-- The index: an empty one, one more entry, and following a chain.
use Rattle.std.proofs.Common.{◌≡◌, ℕ, ◌+◌, ◌-◌, ◌<◌, ◌≤◌, T, true, false, List, [], ◌∷◌, ◌++◌, length, get_or, set, replicate, sym, ap, ◌∙◌, subst, inl, inr, arith}
use Rattle.std.proofs.lemmas.Bool.{cases_eq, false_from_ne_true}
use Rattle.std.proofs.lemmas.Grind.{common_steps}
use Rattle.rules.specs.Listing.{is_listed}
use Rattle.rules.proofs.Listing.{T→true, is_listed→, →is_listed}
use Rattle.deciders.specs.declared.row.Row.{Row}
use Rattle.deciders.specs.Search.Rows.{row, entries}
use Rattle.deciders.specs.Search.Chains.{hash_of, link, Indexed}

-- ---- the sets of the first rows

pub entries_length : (sheet : List Row) (n : ℕ) → n ≤ length sheet → length (entries sheet n) ≡ n
entries_length sheet n h = grind (arith, common_steps)

pub entries_at : (sheet : List Row) (n i : ℕ) → n ≤ length sheet → i < n → get_or (entries sheet n) i 0 ≡ (row sheet i).set
entries_at sheet n i h k = grind (arith, common_steps)

pub entries_more : (sheet : List Row) (n : ℕ) (r : Row) → n < length sheet → entries (set sheet n r) (n + 1) ≡ entries sheet n ++ r.set ∷ []
entries_more sheet n r h = grind (arith, common_steps)

-- ---- an index of nothing

pub zeros_below : (m start : ℕ) → 0 < start → (h : ℕ) → get_or (replicate m 0) h 0 < start
zeros_below m start some h = grind (arith, common_steps)

pub index_none : (start : ℕ) (heads links : List ℕ) → ((h : ℕ) → get_or heads h 0 < start) → Indexed start heads links []
index_none start heads links low = record {
  low = λ h. omega (arith, low h);
  all = λ i h. grind (arith, common_steps);
  alike = λ h i e. omega (arith, low h);
  falls = λ i h. grind (arith, common_steps);
  rest = λ i j k h e. grind (arith, common_steps);
  alike_next = λ i j h e. grind (arith, common_steps);
}

-- ---- one more entry

module _ (start : ℕ) (heads links l : List ℕ) (s : ℕ) (x : Indexed start heads links l) (fits : hash_of s < length heads) (more : length l < length links) where
  index_add : Indexed start (set heads (hash_of s) (start + length l)) (set links (length l) (get_or heads (hash_of s) 0)) (l ++ s ∷ [])
  index_add = record {
    low = λ h. grind (arith, common_steps, x.low h);
    all = λ i h. grind (arith, common_steps, x.all i);
    alike = λ h i e. grind (arith, common_steps, x.alike h i, x.low h);
    falls = λ i h. grind (arith, common_steps, x.falls i, x.low (hash_of s));
    rest = λ i j k h e. grind (arith, common_steps, x.rest i j, x.all j);
    alike_next = λ i j h e. grind (arith, common_steps, x.alike_next i j, x.alike (hash_of s) j, x.falls i, x.low (hash_of s));
  }

hash_small : (s : ℕ) → hash_of s < 4096
unfolding hash_of
hash_small s = omega arith

pub index_more : (start : ℕ) (heads links : List ℕ) (sheet : List Row) (n : ℕ) (r : Row) → Indexed start heads links (entries sheet n) → n < length sheet → n < length links → length heads ≡ 4096
    → Indexed start (set heads (hash_of r.set) (start + n)) (set links n (get_or heads (hash_of r.set) 0)) (entries (set sheet n r) (n + 1))
index_more start heads links sheet n r x fits more k =
    let l : List ℕ = entries sheet n in
    let q : length l ≡ n = entries_length sheet n (omega arith) in
    let i = index_add start heads links l r.set x (omega (arith, hash_small r.set)) (omega arith) in
    let P : ℕ → List ℕ → Type 0 = λ m b. Indexed start (set heads (hash_of r.set) (start + m)) (set links m (get_or heads (hash_of r.set) 0)) b in
    subst (P n) (sym (entries_more sheet n r fits)) (subst (λ m. P m (l ++ r.set ∷ [])) q i)

-- ---- a lookup: link is how far the chain has been followed

pub record Looking (l : List ℕ) (s link : ℕ) : Type 0 where
  pub low : link ≤ length l
  pub alike : (i : ℕ) → link ≡ i + 1 → hash_of (get_or l i 0) ≡ hash_of s
  pub left : (j : ℕ) → j < length l → get_or l j 0 ≡ s → j < link

-- the same, over the rows that the code reads
module _ (sheet : List Row) (n s : ℕ) (fits : n ≤ length sheet) (start number : ℕ) (x : Looking (entries sheet n) s (link start number)) where
  pub missing : (start ≤ number → ⊥) → false ≡ is_listed s (entries sheet n)
  missing none = sym (false_from_ne_true (is_listed s (entries sheet n)) (λ t.
      let (i, h, q) = is_listed→ s (entries sheet n) (subst T (sym t) tt) in absurd (omega (arith, x.left i h q))))

  module _ (i : ℕ) (from : start ≤ number) (is : i ≡ number - start) where
    pub in_count : i < n
    in_count = omega (arith, x.low, entries_length sheet n fits)

    pub look_on : (heads links : List ℕ) → Indexed start heads links (entries sheet n) → ((row sheet i).set ≡ s → ⊥)
        → Looking (entries sheet n) s (link start (get_or links i 0))
    look_on heads links y isnt =
        let l : List ℕ = entries sheet n in
        let fit : i < length l = omega (arith, in_count, entries_length sheet n fits) in
        let here : link start number ≡ i + 1 = omega arith in
        let not_here : get_or l i 0 ≡ s → ⊥ = λ same. isnt (sym (entries_at sheet n i fits in_count) ∙ same) in
        record {
          low = omega (arith, y.falls i fit);
          alike = λ j h. y.alike_next i j fit h ∙ x.alike i here;
          left = λ j h same. elim (cases_eq j i) [
            | inl e ↦ absurd (not_here (ap (λ (v : ℕ). get_or l v 0) (sym e) ∙ same))
            | inr apart ↦ y.rest i j (omega (arith, x.left j h same)) fit (ap hash_of same ∙ sym (x.alike i here))
          ];
        }

    pub falls_on : (heads links : List ℕ) → Indexed start heads links (entries sheet n) → link start (get_or links i 0) < link start number
    falls_on heads links y = omega (arith, y.falls i (omega (arith, in_count, entries_length sheet n fits)))

    pub found : (row sheet i).set ≡ s → true ≡ is_listed s (entries sheet n)
    found e = sym (T→true (is_listed s (entries sheet n))
        (→is_listed s (entries sheet n) (i, omega (arith, in_count, entries_length sheet n fits), entries_at sheet n i fits in_count ∙ e)))
