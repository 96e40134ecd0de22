-- Sums and lists that grow by one.
use Rattle.std.proofs.Common.{◌≡◌, ℕ, ◌+◌, ◌*◌, ◌<◌, ◌≤◌, ◌^◌, ℤ, ◌+ℤ◌, nat_abs, List, [], ◌∷◌, ◌++◌, length, map, take, get_or, arith, ap, sym, ◌∙◌}
use Rattle.std.proofs.lemmas.Int.{ints}
use Rattle.std.proofs.lemmas.List.{take_more, map-append, append_assoc}
use Rattle.base_num.specs.Sums.{sum_to, total}
use Rattle.base_num.proofs.Fronts.{total_more}
use Rattle.cut_pool.proofs.RaisedBoxMaxima.{summand}

-- the range of a sum with one summand more, each at most m
range_more : (v z r : ℤ) (k m : ℕ) → nat_abs v ≤ k * m → nat_abs z ≤ m → r ≡ v +ℤ z → nat_abs r ≤ (k + 1) * m
range_more v z r k m h small s = omega (arith, ints, s, small, h)

-- the sum r of v and one summand more, and its range
pub summed : (a v z r : ℤ) (k : ℕ) (f : ℕ → ℤ) → v ≡ a +ℤ sum_to k f → nat_abs v ≤ (k + 1) * 2 ^ 104 → z ≡ f k → nat_abs z ≤ 2 ^ 104 → r ≡ v +ℤ z → (r ≡ a +ℤ sum_to (k + 1) f) × (nat_abs r ≤ (k + 1 + 1) * 2 ^ 104)
summed a v z r k f e h is small s = (
  summand a v z r k f e is s,
  range_more v z r (k + 1) (2 ^ 104) h small s,
)

-- the sum over a list, from 0 on
pub totalled : {A : Type 0} (f : A → ℤ) (xs : List A) (i m : ℕ) (d : A) (v z r : ℤ) → i < length xs → v ≡ total f (take i xs) → nat_abs v ≤ i * m → z ≡ f (get_or xs i d) → nat_abs z ≤ m → r ≡ v +ℤ z → (r ≡ total f (take (i + 1) xs)) × (nat_abs r ≤ (i + 1) * m)
totalled f xs i m d v z r inside e h is small s = (
  s ∙ ap (λ (x : ℤ). x +ℤ z) e ∙ ap (λ (x : ℤ). total f (take i xs) +ℤ x) is ∙ sym (total_more f xs i d inside),
  range_more v z r i m h small s,
)

-- one item more of a list that a function makes
pub map_more : {A B : Type 0} (f : A → B) (xs : List A) (i : ℕ) (d : A) (before old new : List B) (x : B) → i < length xs → old ≡ before ++ map f (take i xs) → x ≡ f (get_or xs i d) → new ≡ old ++ x ∷ [] → new ≡ before ++ map f (take (i + 1) xs)
map_more f xs i d before old new x h e is n =
    n ∙ ap (λ (ys : List _). ys ++ x ∷ []) e ∙ append_assoc before (map f (take i xs)) (x ∷ [])
    ∙ ap (λ (ys : List _). before ++ ys) (ap (λ y. map f (take i xs) ++ y ∷ []) is ∙ sym (map-append f (take i xs) (get_or xs i d ∷ [])) ∙ ap (map f) (sym (take_more xs i d h)))
