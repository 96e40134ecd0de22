-- Sums of products, with bounds on their sizes.
use Rattle.std.proofs.Common.{◌≡◌, ◌∙◌, ℕ, zero, suc, ◌+◌, ◌*◌, ◌≤◌, ℤ, pos, ◌+ℤ◌, ◌*ℤ◌, List, [], ◌∷◌, nat_abs, add-one, sym, ap, refl, arith}
use Rattle.std.proofs.lemmas.Int.{ints}
use lib.IntN.{*ℤ-zero}
use Rattle.base_num.specs.Sums.{Term, at_terms, dot, entry, sum_to}
use Rattle.base_num.proofs.Fronts.{sum_more}
use Rattle.base_num.proofs.Ring.{ring, var, ◌⊕◌, ◌⊗◌}
use Rattle.base_num.proofs.Sums.{total_ext, total_times}
use Rattle.theory.specs.Problem.{S}
use Rattle.theory.specs.Tree.{times_all}

-- one product more
pub one_product : (f : ℕ → ℤ) (i m : ℕ) (v z r : ℤ) → v ≡ sum_to i f → nat_abs v ≤ i * m → z ≡ f i → nat_abs z ≤ m → r ≡ v +ℤ z → (r ≡ sum_to (i + 1) f) × (nat_abs r ≤ (i + 1) * m)
one_product f i m v z r value small is bound sum = (sum ∙ added ∙ sym (sum_is i), within v z r i m sum small bound)
  where
    sum_is : (i : ℕ) → sum_to (i + 1) f ≡ sum_to i f +ℤ f i
    sum_is i = rw add-one (sum_more i f)

    added : v +ℤ z ≡ sum_to i f +ℤ f i
    added = ap (λ (k : ℤ). k +ℤ z) value ∙ ap (λ (k : ℤ). sum_to i f +ℤ k) is

    within : (v z r : ℤ) (i m : ℕ) → r ≡ v +ℤ z → nat_abs v ≤ i * m → nat_abs z ≤ m → nat_abs r ≤ (i + 1) * m
    within v z r i m e p q = omega (arith, ints, e, p, q)

-- numbers times S
pub entry-times_all : (xs : List ℤ) (k : ℕ) → entry (times_all S xs) k ≡ pos S *ℤ entry xs k
entry-times_all [] k = sym (*ℤ-zero (pos S))
entry-times_all (x ∷ xs) zero = refl
entry-times_all (x ∷ xs) (suc k) = entry-times_all xs k

pub at_terms-times_all : (ts : List Term) (xs : List ℤ) → at_terms ts (entry (times_all S xs)) ≡ pos S *ℤ at_terms ts (entry xs)
at_terms-times_all ts xs =
    total_ext (λ (t : Term). t.1 *ℤ entry (times_all S xs) t.0) (λ (t : Term). pos S *ℤ (t.1 *ℤ entry xs t.0)) ts
    (λ t. ap (λ (z : ℤ). t.1 *ℤ z) (entry-times_all xs t.0) ∙ ring (t.1 ∷ pos S ∷ entry xs t.0 ∷ []) (var 0 ⊗ (var 1 ⊗ var 2)) (var 1 ⊗ (var 0 ⊗ var 2)) tt)
    ∙ total_times (pos S) (λ (t : Term). t.1 *ℤ entry xs t.0) ts

pub dot-times_all : (cs xs : List ℤ) → dot cs (times_all S xs) ≡ pos S *ℤ dot cs xs
dot-times_all [] xs = sym (*ℤ-zero (pos S))
dot-times_all (c ∷ cs) [] = sym (*ℤ-zero (pos S))
dot-times_all (c ∷ cs) (x ∷ xs) =
    ap (λ (z : ℤ). c *ℤ (pos S *ℤ x) +ℤ z) (dot-times_all cs xs)
    ∙ ring (c ∷ pos S ∷ x ∷ dot cs xs ∷ []) (var 0 ⊗ (var 1 ⊗ var 2) ⊕ var 1 ⊗ var 3) (var 1 ⊗ (var 0 ⊗ var 2 ⊕ var 3)) tt
