-- Report lines, put together from their digits.
use Rattle.std.proofs.Common.{◌≡◌, ℕ, ◌+◌, ◌-◌, ◌*◌, ◌<◌, ◌≤◌, List, [], ◌∷◌, ◌++◌, length, get_or, drop, set, Some, sym, ap, ◌∙◌, arith}
use Rattle.std.proofs.lemmas.Grind.{flat_map-append, common_steps}
use Rattle.std.proofs.lemmas.List.{append_assoc, length-append, drop_more, set_at}
use borrow.Rule.Slice.PartMut.{put_mid}
use Rattle.frames.specs.Digits.{capitals, digits_of}
use Rattle.frames.specs.Reports.{report_line, Printed}
use Rattle.frames.proofs.Spelling.{length_digits}

pub length_line : (bytes : List ℕ) → length (report_line bytes) ≡ 2 * length bytes + 1
length_line bytes = omega (arith, length-append (digits_of bytes) (10 ∷ []), length_digits bytes)

pub length_line_of : (head tail : List ℕ) → length (report_line (head ++ tail)) ≡ 2 * (length head + length tail) + 1
length_line_of head tail = omega (arith, length_line (head ++ tail), length-append head tail)

-- two lists, written one after another
two_put
    : (xs ys buffer : List ℕ) (m e : ℕ) → length xs ≡ m → length ys ≡ e - m → m ≤ e → e < length buffer
    → put_mid m (e - m) (xs ++ drop m buffer) ys ≡ (xs ++ ys) ++ drop e buffer
two_put xs ys buffer m e first second low room = grind (arith, common_steps)

-- and a line feed after them
line_put
    : (xs buffer : List ℕ) (e : ℕ) → length xs ≡ e → e < length buffer → set (xs ++ drop e buffer) e 10 ≡ (xs ++ 10 ∷ []) ++ drop (e + 1) buffer
line_put xs buffer e long room =
    let after : List ℕ = drop (e + 1) buffer in
    ap (λ (rest : List ℕ). set (xs ++ rest) e 10) (drop_more buffer e 0 room)
    ∙ set_at xs (get_or buffer e 0) after 10 e long
    ∙ sym (append_assoc xs (10 ∷ []) after)

-- the digits of two parts and a line feed are a report line
pub line_printed
    : (head tail buffer xs ys : List ℕ) (e : ℕ) → xs ≡ digits_of head → ys ≡ digits_of tail → e ≡ (length head + length tail) * 2 → e < length buffer
    → Printed (head ++ tail) buffer (set (put_mid (2 * length head) (e - 2 * length head) (xs ++ drop (2 * length head) buffer) ys) e 10) (Some (e + 1))
line_printed head tail buffer xs ys e first second end room =
    let size = length_line_of head tail in
    let long_head = ap length first ∙ length_digits head in
    let long_tail = ap length second ∙ length_digits tail in
    let both : xs ++ ys ≡ digits_of (head ++ tail) =
    ap (λ (b : List ℕ). b ++ ys) first ∙ ap (λ (b : List ℕ). digits_of head ++ b) second ∙ sym (flat_map-append capitals head tail) in (
      omega (arith, size),
      omega arith,
      ap (λ (b : List ℕ). set b e 10) (two_put xs ys buffer (2 * length head) e long_head (omega arith) (omega arith) room)
          ∙ line_put (xs ++ ys) buffer e (omega (arith, length-append xs ys)) room
          ∙ ap (λ (b : List ℕ). (b ++ 10 ∷ []) ++ drop (e + 1) buffer) both,
    )
