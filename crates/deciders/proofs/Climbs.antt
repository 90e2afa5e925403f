-- Reading the places from a row up.
use Rattle.std.proofs.Common.{◌≡◌, ℕ, ◌+◌, ◌<◌, List, [], ◌∷◌, ◌++◌, length, take, set, sym, refl, subst}
use Rattle.std.proofs.lemmas.List.{take_more_set}
use Rattle.deciders.specs.declared.row.Row.{Row}
use Rattle.deciders.specs.Search.Rows.{row, Climbs}

-- on from the row i
climbs_push : (sheet : List Row) (j : ℕ) (l : List ℕ) (i : ℕ) → Climbs sheet j l i → 0 < i → Climbs sheet j (l ++ (row sheet i).place ∷ []) (row sheet i).parent
climbs_push sheet j [] i e h =
    let P : ℕ → Type 0 = λ k. (0 < k) × ((row sheet k).place ≡ (row sheet i).place) × ((row sheet k).parent ≡ (row sheet i).parent) in
    subst P (sym e) (h, refl, refl)
climbs_push sheet j (p ∷ l) i (some, place, on) h = (some, place, climbs_push sheet (row sheet j).parent l i on h)

-- the same, where the place is written to the book
pub climbs_more : (sheet : List Row) (from i k : ℕ) (book : List ℕ) → 0 < i → k < length book → Climbs sheet from (take k book) i
    → Climbs sheet from (take (k + 1) (set book k (row sheet i).place)) (row sheet i).parent
climbs_more sheet from i k book h fits on = rw take_more_set (climbs_push sheet from (take k book) i on h)
