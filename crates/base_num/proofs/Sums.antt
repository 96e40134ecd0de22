-- Sums: what they do at a sum, a multiple, an order, and one inside another.
use Rattle.std.proofs.Common.{◌≡◌, ℕ, zero, suc, ◌<◌, ◌≤◌, ℤ, pos, ◌+ℤ◌, ◌*ℤ◌, ◌≤ℤ◌, List, [], ◌∷◌, length, map, All, arith, refl, ap, ap₂, sym, ◌∙◌}
use lib.IntN.{zero-*ℤ, *ℤ-zero, +ℤ_idl, +ℤ_idr}
use Rattle.base_num.specs.Sums.{sum_to, total, entry, dot, Term, at_terms, same_place, coefficient, placed, table}
use Rattle.base_num.proofs.Ring.{ring, var, ◌⊕◌, ◌⊗◌, one_mul}
use Rattle.base_num.proofs.Order.{le_refl, le_add}

pub sum_ext : (n : ℕ) (f g : ℕ → ℤ) → ((k : ℕ) → k < n → f k ≡ g k) → sum_to n f ≡ sum_to n g
sum_ext zero f g h = refl
sum_ext (suc n) f g h = ap₂ ◌+ℤ◌ (h 0 (omega arith)) (sum_ext n (λ j. f (suc j)) (λ j. g (suc j)) (λ k p. h (suc k) (omega arith)))

pub sum_zero : (n : ℕ) (f : ℕ → ℤ) → ((k : ℕ) → k < n → f k ≡ pos 0) → sum_to n f ≡ pos 0
sum_zero zero f h = refl
sum_zero (suc n) f h = ap₂ ◌+ℤ◌ (h 0 (omega arith)) (sum_zero n (λ j. f (suc j)) (λ k p. h (suc k) (omega arith)))

pub sum_add : (n : ℕ) (f g : ℕ → ℤ) → sum_to n (λ j. f j +ℤ g j) ≡ sum_to n f +ℤ sum_to n g
sum_add zero f g = refl
sum_add (suc n) f g =
    ap (λ (k : ℤ). f 0 +ℤ g 0 +ℤ k) (sum_add n (λ j. f (suc j)) (λ j. g (suc j)))
    ∙ ring (f 0 ∷ g 0 ∷ sum_to n (λ j. f (suc j)) ∷ sum_to n (λ j. g (suc j)) ∷ []) (var 0 ⊕ var 1 ⊕ (var 2 ⊕ var 3)) (var 0 ⊕ var 2 ⊕ (var 1 ⊕ var 3)) tt

pub sum_times : (n : ℕ) (c : ℤ) (f : ℕ → ℤ) → sum_to n (λ j. c *ℤ f j) ≡ c *ℤ sum_to n f
sum_times zero c f = sym (*ℤ-zero c)
sum_times (suc n) c f =
    ap (λ (k : ℤ). c *ℤ f 0 +ℤ k) (sum_times n c (λ j. f (suc j)))
    ∙ ring (c ∷ f 0 ∷ sum_to n (λ j. f (suc j)) ∷ []) (var 0 ⊗ var 1 ⊕ var 0 ⊗ var 2) (var 0 ⊗ (var 1 ⊕ var 2)) tt

pub sum_le : (n : ℕ) (f g : ℕ → ℤ) → ((k : ℕ) → k < n → f k ≤ℤ g k) → sum_to n f ≤ℤ sum_to n g
sum_le zero f g h = le_refl (pos 0)
sum_le (suc n) f g h = le_add (f 0) (g 0) (sum_to n (λ j. f (suc j))) (sum_to n (λ j. g (suc j))) (h 0 (omega arith)) (sum_le n (λ j. f (suc j)) (λ j. g (suc j)) (λ k p. h (suc k) (omega arith)))

pub total_ext : {A : Type 0} (f g : A → ℤ) (xs : List A) → ((x : A) → f x ≡ g x) → total f xs ≡ total g xs
total_ext f g [] h = refl
total_ext f g (x ∷ xs) h = ap₂ ◌+ℤ◌ (h x) (total_ext f g xs h)

pub total_add : {A : Type 0} (f g : A → ℤ) (xs : List A) → total (λ x. f x +ℤ g x) xs ≡ total f xs +ℤ total g xs
total_add f g [] = refl
total_add f g (x ∷ xs) =
    ap (λ (k : ℤ). f x +ℤ g x +ℤ k) (total_add f g xs)
    ∙ ring (f x ∷ g x ∷ total f xs ∷ total g xs ∷ []) (var 0 ⊕ var 1 ⊕ (var 2 ⊕ var 3)) (var 0 ⊕ var 2 ⊕ (var 1 ⊕ var 3)) tt

pub total_times : {A : Type 0} (c : ℤ) (f : A → ℤ) (xs : List A) → total (λ x. c *ℤ f x) xs ≡ c *ℤ total f xs
total_times c f [] = sym (*ℤ-zero c)
total_times c f (x ∷ xs) =
    ap (λ (k : ℤ). c *ℤ f x +ℤ k) (total_times c f xs)
    ∙ ring (c ∷ f x ∷ total f xs ∷ []) (var 0 ⊗ var 1 ⊕ var 0 ⊗ var 2) (var 0 ⊗ (var 1 ⊕ var 2)) tt

pub total_swap : {A : Type 0} (n : ℕ) (f : A → ℕ → ℤ) (xs : List A) → sum_to n (λ j. total (λ x. f x j) xs) ≡ total (λ x. sum_to n (f x)) xs
total_swap n f [] = sum_zero n (λ j. pos 0) (λ k p. refl)
total_swap n f (x ∷ xs) = sum_add n (f x) (λ j. total (λ y. f y j) xs) ∙ ap (λ (k : ℤ). sum_to n (f x) +ℤ k) (total_swap n f xs)

pub All_head : {A : Type 0} (P : A → Type 0) (x : A) (xs : List A) → All P (x ∷ xs) → P x
All_head P x xs h = h 0 x (omega arith)

pub All_tail : {A : Type 0} (P : A → Type 0) (x : A) (xs : List A) → All P (x ∷ xs) → All P xs
All_tail P x xs h = λ k d p. h (suc k) d (omega arith)

pub total_le : {A : Type 0} (P : A → Type 0) (f g : A → ℤ) (xs : List A) → All P xs → ((x : A) → P x → f x ≤ℤ g x) → total f xs ≤ℤ total g xs
total_le P f g [] h k = le_refl (pos 0)
total_le P f g (x ∷ xs) h k = le_add (f x) (g x) (total f xs) (total g xs) (k x (All_head P x xs h)) (total_le P f g xs (All_tail P x xs h) k)

-- terms
pub sum_same : (n i : ℕ) (x : ℕ → ℤ) → i < n → sum_to n (λ j. same_place i j *ℤ x j) ≡ x i
sum_same zero i x h = absurd (omega arith)
sum_same (suc n) zero x h = ap (λ (k : ℤ). pos 1 *ℤ x 0 +ℤ k) (sum_zero n (λ j. pos 0 *ℤ x (suc j)) (λ k p. zero-*ℤ (x (suc k)))) ∙ +ℤ_idr (pos 1 *ℤ x 0) ∙ one_mul (x 0)
sum_same (suc n) (suc i) x h = ap (λ (k : ℤ). k +ℤ sum_to n (λ j. same_place i j *ℤ x (suc j))) (zero-*ℤ (x 0)) ∙ +ℤ_idl (sum_to n (λ j. same_place i j *ℤ x (suc j))) ∙ sum_same n i (λ j. x (suc j)) (omega arith)

pub sum_past : (n i : ℕ) (x : ℕ → ℤ) → n ≤ i → sum_to n (λ j. same_place i j *ℤ x j) ≡ pos 0
sum_past zero i x h = refl
sum_past (suc n) zero x h = absurd (omega arith)
sum_past (suc n) (suc i) x h = ap (λ (k : ℤ). k +ℤ sum_to n (λ j. same_place i j *ℤ x (suc j))) (zero-*ℤ (x 0)) ∙ +ℤ_idl (sum_to n (λ j. same_place i j *ℤ x (suc j))) ∙ sum_past n i (λ j. x (suc j)) (omega arith)

-- the numbers x end at n
pub Ends : ℕ → (ℕ → ℤ) → Type 0
Ends n x = (i : ℕ) → n ≤ i → x i ≡ pos 0

le_or_lt : (i n : ℕ) (P : Type 0) → (i < n → P) → (n ≤ i → P) → P
le_or_lt i zero P f g = g (omega arith)
le_or_lt zero (suc n) P f g = f (omega arith)
le_or_lt (suc i) (suc n) P f g = le_or_lt i n P (λ h. f (omega arith)) (λ h. g (omega arith))

pub sum_place : (n i : ℕ) (x : ℕ → ℤ) → ((j : ℕ) → n ≤ j → x j ≡ pos 0) → sum_to n (λ j. same_place i j *ℤ x j) ≡ x i
sum_place n i x e = le_or_lt i n (sum_to n (λ j. same_place i j *ℤ x j) ≡ x i) (λ h. sum_same n i x h) (λ h. sum_past n i x h ∙ sym (e i h))

pub sum_terms : (n : ℕ) (ts : List Term) (x : ℕ → ℤ) → ((j : ℕ) → n ≤ j → x j ≡ pos 0) → sum_to n (λ j. coefficient ts j *ℤ x j) ≡ at_terms ts x
sum_terms n [] x e = sum_zero n (λ j. pos 0 *ℤ x j) (λ k p. zero-*ℤ (x k))
sum_terms n (t ∷ ts) x e =
    sum_ext n (λ j. (t.1 *ℤ same_place t.0 j +ℤ coefficient ts j) *ℤ x j) (λ j. t.1 *ℤ (same_place t.0 j *ℤ x j) +ℤ coefficient ts j *ℤ x j)
    (λ j p. ring (t.1 ∷ same_place t.0 j ∷ coefficient ts j ∷ x j ∷ []) ((var 0 ⊗ var 1 ⊕ var 2) ⊗ var 3) (var 0 ⊗ (var 1 ⊗ var 3) ⊕ var 2 ⊗ var 3) tt)
    ∙ sum_add n (λ j. t.1 *ℤ (same_place t.0 j *ℤ x j)) (λ j. coefficient ts j *ℤ x j)
    ∙ ap₂ ◌+ℤ◌ (sum_times n t.1 (λ j. same_place t.0 j *ℤ x j) ∙ ap (λ (k : ℤ). t.1 *ℤ k) (sum_place n t.0 x e)) (sum_terms n ts x e)

pub dot_placed : (ps : List ℕ) (xs : List ℤ) (x : ℕ → ℤ) → at_terms (placed ps xs) x ≡ dot xs (map x ps)
dot_placed [] [] x = refl
dot_placed [] (y ∷ ys) x = refl
dot_placed (p ∷ ps) [] x = refl
dot_placed (p ∷ ps) (y ∷ ys) x = ap (λ (k : ℤ). y *ℤ x p +ℤ k) (dot_placed ps ys x)

pub dot_sum : (xs ys : List ℤ) → dot xs ys ≡ sum_to (length xs) (λ j. entry xs j *ℤ entry ys j)
dot_sum [] ys = refl
dot_sum (x ∷ xs) [] = sym (ap₂ ◌+ℤ◌ (*ℤ-zero x) (sum_zero (length xs) (λ j. entry xs j *ℤ pos 0) (λ k p. *ℤ-zero (entry xs k))))
dot_sum (x ∷ xs) (y ∷ ys) = ap (λ (k : ℤ). x *ℤ y +ℤ k) (dot_sum xs ys)

pub dot_table : (n : ℕ) (f : ℕ → ℤ) (ys : List ℤ) → dot (table n f) ys ≡ sum_to n (λ j. f j *ℤ entry ys j)
dot_table zero f ys = refl
dot_table (suc n) f [] = sym (ap₂ ◌+ℤ◌ (*ℤ-zero (f 0)) (sum_zero n (λ j. f (suc j) *ℤ pos 0) (λ k p. *ℤ-zero (f (suc k)))))
dot_table (suc n) f (y ∷ ys) = ap (λ (k : ℤ). f 0 *ℤ y +ℤ k) (dot_table n (λ j. f (suc j)) ys)

pub entry_past : (xs : List ℤ) (n i : ℕ) → length xs ≤ n → n ≤ i → entry xs i ≡ pos 0
entry_past [] n i h k = refl
entry_past (x ∷ xs) n zero h k = absurd (omega arith)
entry_past (x ∷ xs) zero (suc i) h k = absurd (omega arith)
entry_past (x ∷ xs) (suc n) (suc i) h k = entry_past xs n i (omega arith) (omega arith)
