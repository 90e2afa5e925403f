-- A text is cut into lines in one way.
use Rattle.std.proofs.Common.{◌≡◌, ◌≢◌, ℕ, List, [], ◌∷◌, ◌++◌, length, get_or, drop, sym, refl, ap, ◌∙◌, inl, inr, arith}
use Rattle.std.proofs.lemmas.List.{length-append, get_or_at}
use Rattle.std.proofs.lemmas.List.Elements.{All-tail}
use Rattle.frames.specs.Texts.{Unbroken, LineAt}

unbroken_rest : (x : ℕ) (xs : List ℕ) → Unbroken (x ∷ xs) → Unbroken xs
unbroken_rest = All-tail (λ c. c ≢ 10)

-- a list has one part before its first line feed
one_front : (xs ys r s : List ℕ) → Unbroken xs → Unbroken ys → xs ++ 10 ∷ r ≡ ys ++ 10 ∷ s → xs ≡ ys
one_front [] [] r s p q e = refl
one_front [] (y ∷ ys) r s p q e = absurd (q 0 0 (omega arith) (let same : y ≡ 10 = cc in same))
one_front (x ∷ xs) [] r s p q e = absurd (p 0 0 (omega arith) (let same : x ≡ 10 = cc in same))
one_front (x ∷ xs) (y ∷ ys) r s p q e =
    let heads : x ≡ y = cc in
    let tails = one_front xs ys r s (unbroken_rest x xs p) (unbroken_rest y ys q) (cc) in
    cc

-- a list with no line feed has no part before one
no_front : (xs ys r : List ℕ) → Unbroken ys → xs ++ 10 ∷ r ≡ ys → ⊥
no_front xs ys r q e =
    let longer = ap length e in
    q (length xs) 0 (omega (arith, longer, length-append xs (10 ∷ r)))
    (ap (λ (zs : List ℕ). get_or zs (length xs) 0) (sym e) ∙ get_or_at xs 10 r 0 (length xs) refl)

pub one_cut
    : (text : List ℕ) (position : ℕ) (line other : List ℕ) (next after : ℕ)
    → LineAt text position line next → LineAt text position other after → (line ≡ other) × (next ≡ after)
one_cut text position line other next after (within, p, inl (e, m)) (within2, q, inl (f, n)) =
    let same = one_front line other (drop next text) (drop after text) p q (sym e ∙ f) in
    (same, omega (arith, ap length same))
one_cut text position line other next after (within, p, inl (e, m)) (within2, q, inr (f, n)) =
    absurd (no_front line other (drop next text) q (sym e ∙ f))
one_cut text position line other next after (within, p, inr (e, m)) (within2, q, inl (f, n)) =
    absurd (no_front other line (drop after text) p (sym f ∙ e))
one_cut text position line other next after (within, p, inr (e, m)) (within2, q, inr (f, n)) = (sym e ∙ f, m ∙ sym n)
