-- An index over the entries of a listing: for each hash a chain of the entries that have it.
use Rattle.std.specs.Prelude.{◌≡◌, ℕ, ◌+◌, ◌-◌, ◌*◌, ◌/◌, ◌%◌, ◌^◌, ◌<◌, ◌≤◌, List, length, slice_index}

-- the hash of a set, below 4,096
unfoldable pub hash_of : ℕ → ℕ
hash_of s = s * 2654435769 % 2 ^ 32 / 2 ^ 20

-- Entries are numbered from a start on, and a lower number stands for none. A link is one more than
-- the entry of a number, or 0.
abbrev pub link : ℕ → ℕ → ℕ
link start number = number + 1 - start

-- The chain of a hash goes from its head down through all the entries that have it.
pub record Indexed (start : ℕ) (heads links l : List ℕ) : Type 0 where
  pub low : (h : ℕ) → link start (slice_index heads h) ≤ length l
  pub all : (i : ℕ) → i < length l → i < link start (slice_index heads (hash_of (slice_index l i)))
  pub alike : (h i : ℕ) → link start (slice_index heads h) ≡ i + 1 → hash_of (slice_index l i) ≡ h
  pub falls : (i : ℕ) → i < length l → link start (slice_index links i) ≤ i
  pub rest : (i j : ℕ) → j < i → i < length l
      → hash_of (slice_index l j) ≡ hash_of (slice_index l i) → j < link start (slice_index links i)
  pub alike_next : (i j : ℕ) → i < length l
      → link start (slice_index links i) ≡ j + 1
      → hash_of (slice_index l j) ≡ hash_of (slice_index l i)
