-- What is read up to a limit, and cut off there.
use Rattle.std.proofs.Common.{◌≡◌, ℕ, zero, suc, List, [], ◌∷◌, ◌++◌, take, Some, None, Option, refl, subst, ap, ◌∙◌}
use Rattle.std.specs.Prelude.{IfSome, option_map}

take_twice : (n : ℕ) (xs : List ℕ) → take n (take n xs) ≡ take n xs
take_twice zero xs = refl
take_twice (suc n) [] = refl
take_twice (suc n) (x ∷ xs) = ap (λ z. x ∷ z) (take_twice n xs)

read : (o : Option (List ℕ)) (n : ℕ) (old new out : List ℕ) → old ≡ [] → out ≡ take n new → IfSome (option_map (take n) o) (λ xs. new ≡ old ++ xs)
    → IfSome o (λ bytes. out ≡ take n bytes)
read None n old new out e cut h = tt
read (Some xs) n old new out e cut h = cut ∙ ap (take n) (h ∙ ap (λ z. z ++ take n xs) e) ∙ take_twice n xs

-- the bytes that an empty list is filled with by a reader that is cut off
pub read_up_to : {R : Type 0} (left : R → Option (List ℕ)) (input inner : R) (n limit : ℕ) (old new out : List ℕ) → limit ≡ n → inner ≡ input → old ≡ []
    → out ≡ take limit new → IfSome (option_map (take limit) (left inner)) (λ xs. new ≡ old ++ xs) → IfSome (left input) (λ bytes. out ≡ take n bytes)
read_up_to left input inner n limit old new out p q e cut h =
    subst (λ m. IfSome (left input) (λ bytes. out ≡ take m bytes)) p
    (subst (λ r. IfSome (left r) (λ bytes. out ≡ take limit bytes)) q (read (left inner) limit old new out e cut h))
