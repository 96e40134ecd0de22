-- The numbers from 0 on, one more at their end.
use Rattle.std.proofs.Common.{append-nil, append_assoc, ◌≡◌, ℕ, zero, suc, ◌+◌, Bool, List, [], ◌∷◌, ◌++◌, map, true, false, cond, filter, length, drop, ◌<◌, subst, ap, sym, ◌∙◌, arith}
use Rattle.std.specs.List.{range_with_len, flat_map}
use Rattle.std.proofs.lemmas.List.Elements.{filter-append}
use Rattle.std.proofs.lemmas.Grind.{flat_map-append}
use Rattle.std.proofs.lemmas.List.{map-append}
use Rattle.std.proofs.Math.Seq.{drop-cons}
use Rattle.std.proofs.lemmas.List.{drop_all}
use Rattle.std.proofs.lemmas.List.FromFn.{length-range_with_len, get_or-range_with_len}
use Rattle.base_graph.specs.Paths.{numbers}

range_more : (a n j : ℕ) → a + n ≡ j → range_with_len a (suc n) ≡ range_with_len a n ++ j ∷ []
range_more a zero j e = let s : a ≡ j = omega (arith, e) in ap (λ k. k ∷ []) s
range_more a (suc n) j e = ap (λ ks. a ∷ ks) (range_more (a + 1) n j (omega (arith, e)))

pub numbers_more : (n : ℕ) → numbers (n + 1) ≡ numbers n ++ n ∷ []
numbers_more n = let s : n + 1 ≡ suc n = omega arith in ap numbers s ∙ range_more 0 n n (omega arith)

-- the numbers that pass a test, with one number more
pub filter_more : (p : ℕ → Bool) (n : ℕ) → filter p (numbers (n + 1)) ≡ filter p (numbers n) ++ cond (p n) (n ∷ []) []
filter_more p n = ap (filter p) (numbers_more n) ∙ filter-append p (numbers n) (n ∷ [])

-- the next number passes, or does not
pub passes : (p : ℕ → Bool) (n : ℕ) (xs ys : List ℕ) → ys ≡ xs ++ filter p (numbers n) → p n ≡ true → ys ++ n ∷ [] ≡ xs ++ filter p (numbers (n + 1))
passes p n xs ys e t = ap (λ zs. zs ++ n ∷ []) e ∙ append_assoc xs (filter p (numbers n)) (n ∷ []) ∙ ap (λ zs. xs ++ zs) (sym (filter_more p n ∙ ap (λ b. filter p (numbers n) ++ cond b (n ∷ []) []) t))

pub fails : (p : ℕ → Bool) (n : ℕ) (xs ys : List ℕ) → ys ≡ xs ++ filter p (numbers n) → p n ≡ false → ys ≡ xs ++ filter p (numbers (n + 1))
fails p n xs ys e t = e ∙ ap (λ zs. xs ++ zs) (sym (filter_more p n ∙ ap (λ b. filter p (numbers n) ++ cond b (n ∷ []) []) t ∙ append-nil (filter p (numbers n))))

pub flat_map_more : {X : Type 0} (f : ℕ → List X) (n : ℕ) → flat_map f (numbers (n + 1)) ≡ flat_map f (numbers n) ++ f n
flat_map_more f n = ap (flat_map f) (numbers_more n) ∙ flat_map-append f (numbers n) (n ∷ []) ∙ ap (λ xs. flat_map f (numbers n) ++ xs) (append-nil (f n))

pub map_more : {X : Type 0} (f : ℕ → X) (n : ℕ) → map f (numbers (n + 1)) ≡ map f (numbers n) ++ f n ∷ []
map_more f n = ap (map f) (numbers_more n) ∙ map-append f (numbers n) (n ∷ [])

-- the numbers from n on begin with n
pub drop_next : (n count : ℕ) → n < count → drop n (numbers count) ≡ n ∷ drop (n + 1) (numbers count)
drop_next n count l =
    drop-cons (numbers count) n 0 (subst (λ c. n < c) (sym (length-range_with_len 0 count)) l)
    ∙ ap (λ k. k ∷ drop (suc n) (numbers count)) (get_or-range_with_len 0 count n 0 l ∙ plus_zero n) ∙ ap (λ k. n ∷ drop k (numbers count)) (sym (plus_one n))
  where
    plus_zero : (k : ℕ) → 0 + k ≡ k
    plus_zero k = omega arith

    plus_one : (k : ℕ) → k + 1 ≡ suc k
    plus_one k = omega arith

pub drop_end : (count : ℕ) → drop count (numbers count) ≡ []
drop_end count = let counted : length (numbers count) ≡ count = length-range_with_len 0 count in drop_all count (numbers count) (omega (arith, counted))
