-- Sums of a front of a list, or of the first numbers: one summand more, and never more than the whole where no summand is negative.
use Rattle.std.proofs.Common.{◌≡◌, ℕ, zero, suc, ◌+◌, ◌<◌, ◌≤◌, ℤ, pos, ◌+ℤ◌, ◌≤ℤ◌, List, [], ◌∷◌, ◌++◌, length, take, get_or, map, zip, arith, refl, ap, ap₂, sym, ◌∙◌}
use Rattle.std.proofs.lemmas.List.{take_more}
use lib.IntN.{+ℤ_assoc, +ℤ_idl, +ℤ_idr}
use Rattle.base_num.specs.Sums.{sum_to, total}
use Rattle.base_num.proofs.Order.{le_refl, le_add}

pub total-append : {A : Type 0} (f : A → ℤ) (xs ys : List A) → total f (xs ++ ys) ≡ total f xs +ℤ total f ys
total-append f [] ys = sym (+ℤ_idl (total f ys))
total-append f (x ∷ xs) ys = ap (λ (k : ℤ). f x +ℤ k) (total-append f xs ys) ∙ sym (+ℤ_assoc (f x) (total f xs) (total f ys))

pub total_more : {A : Type 0} (f : A → ℤ) (xs : List A) (i : ℕ) (d : A) → i < length xs → total f (take (i + 1) xs) ≡ total f (take i xs) +ℤ f (get_or xs i d)
total_more f xs i d h = ap (total f) (take_more xs i d h) ∙ total-append f (take i xs) (get_or xs i d ∷ []) ∙ ap (λ (k : ℤ). total f (take i xs) +ℤ k) (+ℤ_idr (f (get_or xs i d)))

pub total_some : {A : Type 0} (f : A → ℤ) (xs : List A) → ((x : A) → pos 0 ≤ℤ f x) → pos 0 ≤ℤ total f xs
total_some f [] h = le_refl (pos 0)
total_some f (x ∷ xs) h = le_add (pos 0) (f x) (pos 0) (total f xs) (h x) (total_some f xs h)

pub total_front : {A : Type 0} (f : A → ℤ) (xs : List A) (i : ℕ) → ((x : A) → pos 0 ≤ℤ f x) → total f (take i xs) ≤ℤ total f xs
total_front f [] zero h = le_refl (pos 0)
total_front f [] (suc i) h = le_refl (pos 0)
total_front f (x ∷ xs) zero h = total_some f (x ∷ xs) h
total_front f (x ∷ xs) (suc i) h = le_add (f x) (f x) (total f (take i xs)) (total f xs) (le_refl (f x)) (total_front f xs i h)

pub sum_more : (i : ℕ) (f : ℕ → ℤ) → sum_to (suc i) f ≡ sum_to i f +ℤ f i
sum_more zero f = +ℤ_idr (f 0) ∙ sym (+ℤ_idl (f 0))
sum_more (suc i) f = ap (λ (k : ℤ). f 0 +ℤ k) (sum_more i (λ j. f (suc j))) ∙ sym (+ℤ_assoc (f 0) (sum_to i (λ j. f (suc j))) (f (suc i)))

pub sum_some : (n : ℕ) (f : ℕ → ℤ) → ((k : ℕ) → pos 0 ≤ℤ f k) → pos 0 ≤ℤ sum_to n f
sum_some zero f h = le_refl (pos 0)
sum_some (suc n) f h = le_add (pos 0) (f 0) (pos 0) (sum_to n (λ j. f (suc j))) (h 0) (sum_some n (λ j. f (suc j)) (λ k. h (suc k)))

pub sum_front : (i n : ℕ) (f : ℕ → ℤ) → i ≤ n → ((k : ℕ) → pos 0 ≤ℤ f k) → sum_to i f ≤ℤ sum_to n f
sum_front zero n f p h = sum_some n f h
sum_front (suc i) zero f p h = absurd (omega arith)
sum_front (suc i) (suc n) f p h = le_add (f 0) (f 0) (sum_to i (λ j. f (suc j))) (sum_to n (λ j. f (suc j))) (le_refl (f 0)) (sum_front i n (λ j. f (suc j)) (omega arith) (λ k. h (suc k)))

-- sums over two lists that go side by side, the second made from the first
pub total-zip_map : {A B : Type 0} (f : A × B → ℤ) (g : A → B) (xs : List A) → total f (zip xs (map g xs)) ≡ total (λ x. f (x, g x)) xs
total-zip_map f g [] = refl
total-zip_map f g (x ∷ xs) = ap (λ (k : ℤ). f (x, g x) +ℤ k) (total-zip_map f g xs)

-- a sum by numbers over what is read of a list
pub sum-entries : {A : Type 0} (f : A → ℤ) (g : ℕ → ℤ) (xs : List A) → ((k : ℕ) (x : A) → k < length xs → g k ≡ f (get_or xs k x)) → sum_to (length xs) g ≡ total f xs
sum-entries f g [] h = refl
sum-entries f g (x ∷ xs) h = ap₂ ◌+ℤ◌ (h 0 x (omega arith)) (sum-entries f (λ j. g (suc j)) xs (λ k d p. h (suc k) d (omega arith)))
