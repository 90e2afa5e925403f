-- The rows of a sheet.
use Rattle.std.specs.Prelude.{◌≡◌, ℕ, ◌<◌, ◌≤◌, List, [], ◌∷◌, map, length, take, slice_index_or}
use Rattle.deciders.specs.declared.row.Row.{Row}
use Rattle.deciders.specs.Sheets.{zero_row}

-- the row i of a sheet
abbrev pub row : List Row → ℕ → Row
row sheet i = slice_index_or sheet i zero_row

-- the sets of the first n rows
abbrev pub entries : List Row → ℕ → List ℕ
entries sheet n = map (λ (r : Row). r.set) (take n sheet)

-- Each of the first n rows but the first came from an earlier row, as B says of the two. The first
-- holds the first entry.
pub record Sound (B : Row → Row → Type 0) (start : ℕ) (sheet : List Row) (n : ℕ) : Type 0 where
  pub fits : n ≤ length sheet
  pub first : (row sheet 0).set ≡ start
  pub back : (i : ℕ) → 0 < i → i < n → (row sheet i).parent < i
  pub came : (i : ℕ) → 0 < i → i < n → B (row sheet i) (row sheet (row sheet i).parent)

-- reading the places from the row j on, each at a row and then on to the row that it came from, one
-- comes to the row i
abbrev pub Climbs : List Row → ℕ → List ℕ → ℕ → Type 0
Climbs sheet j [] i = j ≡ i
Climbs sheet j (p ∷ l) i =
    (0 < j) × ((row sheet j).place ≡ p) × Climbs sheet (row sheet j).parent l i
