-- From the digits of a line to what it says.
use Rattle.std.proofs.Common.{◌≡◌, ℕ, zero, suc, ◌+◌, ◌*◌, ◌<◌, ◌≤◌, List, [], ◌∷◌, ◌++◌, length, get_or, take, drop, Ok, Err, Result, sym, refl, ap, ◌∙◌, subst, arith, below_more}
use Rattle.std.specs.Simd.{first_chunks}
use Rattle.std.proofs.lemmas.List.{length_push, get_or_push, get_or_append_left, length-take, get_or-take, get_or-drop, take_all, take-append-le}
use Rattle.frames.specs.declared.frame.Frame.{Frame}
use Rattle.frames.specs.declared.frame.FrameFault.{FrameFault}
use Rattle.frames.specs.declared.frame.FrameFault.TheVariants.{Malformed, UnknownKind, WrongLength}
use Rattle.frames.specs.Digits.{PairAt, Spells}
use Rattle.frames.specs.Frames.{Means, Reads}
use Rattle.frames.proofs.Spelling.{spells_unique}
use Rattle.frames.proofs.Lengths.{length_bytes}

-- an element of a chunk of two
get_or-first_chunks
    : (xs : List ℕ) (n i j k : ℕ) → k ≡ 2 * i + j → i < n → j < 2 → get_or (get_or (first_chunks 2 n xs) i []) j 0 ≡ get_or xs k 0
get_or-first_chunks xs zero i j k at inside small = absurd (omega arith)
get_or-first_chunks xs (suc n) zero j k at inside small =
    let same : j ≡ k = omega arith in get_or-take 2 xs j 0 small ∙ ap (λ (m : ℕ). get_or xs m 0) same
get_or-first_chunks xs (suc n) (suc i) j k at inside small =
    let same : 2 + (2 * i + j) ≡ k = omega arith in
    get_or-first_chunks (drop 2 xs) n i j (2 * i + j) refl (omega arith) small
    ∙ get_or-drop 2 xs (2 * i + j) 0
    ∙ ap (λ (m : ℕ). get_or xs m 0) same

-- a pair of characters by its place in the line
pub pair_at
    : (line : List ℕ) (pairs : List (List ℕ)) (n i : ℕ) → pairs ≡ first_chunks 2 n line → i < n
    → (get_or (get_or pairs i []) 0 0 ≡ get_or line (2 * i) 0) × (get_or (get_or pairs i []) 1 0 ≡ get_or line (2 * i + 1) 0)
pair_at line pairs n i same inside =
    let high = get_or-first_chunks line n i 0 (2 * i) (omega arith) inside (omega arith) in
    let low = get_or-first_chunks line n i 1 (2 * i + 1) (omega arith) inside (omega arith) in
    rw same (high, low)

-- the first n pairs of a line are these bytes, and the first of the bytes are held
pub record DecodedFirst (line : List ℕ) (n : ℕ) (bytes held : List ℕ) : Type 0 where
  pub long : length bytes ≡ n
  pub pairs : (k : ℕ) → k < n → PairAt line k (get_or bytes k 0)
  pub first : held ≡ take 15 bytes

module _ (line bytes held : List ℕ) (n byte : ℕ) (d : DecodedFirst line n bytes held) (pair : PairAt line n byte) where
  pairs_more : (k : ℕ) → k < n + 1 → PairAt line k (get_or (bytes ++ byte ∷ []) k 0)
  pairs_more =
      below_more (λ (k : ℕ). PairAt line k (get_or (bytes ++ byte ∷ []) k 0)) n
      (λ k h. let inside : k < length bytes = omega (arith, d.long) in rw (get_or_append_left bytes (byte ∷ []) 0 k inside) (d.pairs k h))
      (rw (get_or_push bytes byte 0 n d.long) pair)

  -- one more byte is held where there is room, and else left out
  pub held_more : length held < 15 → DecodedFirst line (n + 1) (bytes ++ byte ∷ []) (held ++ byte ∷ [])
  held_more room =
      let few : length bytes < 15 = omega (arith, length-take 15 bytes, ap length d.first) in
      record {
        long = length_push bytes byte ∙ ap (λ (k : ℕ). k + 1) d.long;
        pairs = pairs_more;
        first =
            ap (λ (front : List ℕ). front ++ byte ∷ []) (d.first ∙ take_all 15 bytes (omega arith))
            ∙ sym (take_all 15 (bytes ++ byte ∷ []) (omega (arith, length_push bytes byte)));
      }

  pub held_full : 15 ≤ length held → DecodedFirst line (n + 1) (bytes ++ byte ∷ []) held
  held_full full =
      let many : 15 ≤ length bytes = omega (arith, length-take 15 bytes, ap length d.first) in
      record {
        long = length_push bytes byte ∙ ap (λ (k : ℕ). k + 1) d.long;
        pairs = pairs_more;
        first = d.first ∙ sym (take-append-le 15 bytes (byte ∷ []) many);
      }

-- the front of a list that begins with a byte
begins : (kind : ℕ) (n : ℕ) (rest bytes : List ℕ) → kind ∷ rest ≡ take (suc n) bytes → (more : List ℕ) × (kind ∷ more ≡ bytes)
begins kind n rest [] e = absurd (let none = ap length e in omega (arith, none))
begins kind n rest (b ∷ bytes) e = (bytes, let same : kind ≡ b = cc in cc)

-- what the first 15 bytes say, all bytes say: the longest frame has 14
means_all : (bytes : List ℕ) (r : Result Frame FrameFault) → Means (take 15 bytes) r → Means bytes r
means_all bytes (Ok f) e =
    let short = length_bytes f in
    let few : length bytes ≤ 15 = omega (arith, length-take 15 bytes, ap length e) in
    e ∙ take_all 15 bytes few
means_all [] (Err Malformed) e = refl
means_all (b ∷ bytes) (Err Malformed) e = absurd (let none = ap length e in omega (arith, none))
means_all bytes (Err (UnknownKind kind)) (front, none) = (begins kind 14 front.0 bytes front.1, none)
means_all bytes (Err (WrongLength kind)) (front, some, other) = (
  begins kind 14 front.0 bytes front.1,
  some,
  λ f e same. other f e (omega (arith, length_bytes f, length-take 15 bytes)),
)

-- what the bytes say that a line spells, the line says
pub reads_from
    : (line bytes : List ℕ) → Spells line bytes → (r : Result Frame FrameFault) → Means (take 15 bytes) r → Reads line r
reads_from line bytes spelled (Ok f) e = subst (λ (bs : List ℕ). Spells line bs) (sym (means_all bytes (Ok f) e)) spelled
reads_from line bytes spelled (Err Malformed) e =
    λ others other. spells_unique line others bytes other spelled ∙ means_all bytes (Err Malformed) e
reads_from line bytes spelled (Err (UnknownKind kind)) e = (bytes, spelled, means_all bytes (Err (UnknownKind kind)) e)
reads_from line bytes spelled (Err (WrongLength kind)) e = (bytes, spelled, means_all bytes (Err (WrongLength kind)) e)
