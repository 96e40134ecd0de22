-- Zeros behind the bytes that a disk keeps.
use Rattle.std.proofs.Common.{◌≡◌, ℕ, zero, suc, min, List, [], ◌∷◌, ◌++◌, length, take, drop, replicate, refl, sym, ◌∙◌, ap, arith, length-take}
use Rattle.std.proofs.lemmas.List.{drop-replicate}
use Rattle.base_device.specs.Faultless.{padded}
use Rattle.base_device.proofs.Steps.{take_front}

drop_front : (n : ℕ) (xs : List ℕ) → drop (length (take n xs)) xs ≡ drop n xs
drop_front zero xs = refl
drop_front (suc n) [] = refl
drop_front (suc n) (x ∷ xs) = drop_front n xs

-- a place past the end is the end
pub drop_inside : (n : ℕ) (xs : List ℕ) → drop (min n (length xs)) xs ≡ drop n xs
drop_inside n xs = ap (λ k. drop k xs) (sym (length-take n xs)) ∙ drop_front n xs

-- bytes that are copied over the front of zeros
pub over_zeros : (xs : List ℕ) (n count : ℕ) → count ≡ min n (length xs) → take count xs ++ drop count (replicate n 0) ≡ padded (take n xs) n
over_zeros xs n count is =
    let long : count ≡ length (take n xs) = omega (arith, is, length-take n xs) in
    ap (λ k. take k xs ++ drop k (replicate n 0)) long
    ∙ ap (λ (l : List ℕ). l ++ drop (length (take n xs)) (replicate n 0)) (take_front n xs)
    ∙ ap (λ (l : List ℕ). take n xs ++ l) (drop-replicate (length (take n xs)) n 0)
