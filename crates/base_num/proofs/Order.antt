-- The order of whole numbers.
use Rattle.std.proofs.Common.{◌≡◌, ℕ, suc, ◌+◌, ◌*◌, ◌<◌, ◌≤◌, ℤ, pos, negsuc, ◌+ℤ◌, ◌*ℤ◌, ◌≤ℤ◌, ◌<ℤ◌, [], ◌∷◌, arith, mul-le-mul_left}
use native.Mathlib.Nat.{le_of_mul-le-mul_left}
use Rattle.std.specs.Int.{int_min}
use Rattle.std.proofs.lemmas.Int.{ints, clamps}
use borrow.Author.Differences.{up, down, le_out, at_most_in}
use Rattle.base_num.specs.Sums.{floor_over}
use Rattle.base_num.proofs.Ring.{ring, var, ◌⊗◌}

pub le_refl : (a : ℤ) → a ≤ℤ a
le_refl a = omega (arith, ints)

pub le_of_eq : (a b : ℤ) → a ≡ b → a ≤ℤ b
le_of_eq a b e = omega (arith, ints)

pub le_trans : (a b c : ℤ) → a ≤ℤ b → b ≤ℤ c → a ≤ℤ c
le_trans a b c h k = omega (arith, ints)

pub le_add : (a b c d : ℤ) → a ≤ℤ b → c ≤ℤ d → (a +ℤ c) ≤ℤ (b +ℤ d)
le_add a b c d h k = omega (arith, ints)

pub le_scale : (k : ℕ) (a b : ℤ) → a ≤ℤ b → (pos k *ℤ a) ≤ℤ (pos k *ℤ b)
le_scale k a b h = omega (arith, ints, mul-le-mul_left k (le_out a b h))

pub le_flip : (k : ℕ) (a b : ℤ) → a ≤ℤ b → (negsuc k *ℤ b) ≤ℤ (negsuc k *ℤ a)
le_flip k a b h = omega (arith, ints, mul-le-mul_left (suc k) (le_out a b h))

pub le_cancel : (k : ℕ) (a b : ℤ) → 0 < k → (pos k *ℤ a) ≤ℤ (pos k *ℤ b) → a ≤ℤ b
le_cancel k a b p h =
    let h' : k * (up a + down b) ≤ k * (up b + down a) = omega (arith, ints) in
    at_most_in a b (le_of_mul-le-mul_left h' p)

pub least_l : (x y : ℤ) → int_min x y ≤ℤ x
least_l x y = omega (arith, ints, clamps)

pub least_r : (x y : ℤ) → int_min x y ≤ℤ y
least_r x y = omega (arith, ints, clamps)

pub box_least_is : (units : ℕ) (d l h u : ℤ) → (pos units *ℤ l) ≤ℤ u → u ≤ℤ (pos units *ℤ h) → (pos units *ℤ int_min (d *ℤ l) (d *ℤ h)) ≤ℤ (d *ℤ u)
box_least_is n (pos k) l h u p q =
    le_trans (pos n *ℤ int_min (pos k *ℤ l) (pos k *ℤ h)) (pos n *ℤ (pos k *ℤ l)) (pos k *ℤ u) (le_scale n (int_min (pos k *ℤ l) (pos k *ℤ h)) (pos k *ℤ l) (least_l (pos k *ℤ l) (pos k *ℤ h)))
    (le_trans (pos n *ℤ (pos k *ℤ l)) (pos k *ℤ (pos n *ℤ l)) (pos k *ℤ u)
    (le_of_eq (pos n *ℤ (pos k *ℤ l)) (pos k *ℤ (pos n *ℤ l)) (ring (pos n ∷ pos k ∷ l ∷ []) (var 0 ⊗ (var 1 ⊗ var 2)) (var 1 ⊗ (var 0 ⊗ var 2)) tt)) (le_scale k (pos n *ℤ l) u p))
box_least_is n (negsuc k) l h u p q =
    le_trans (pos n *ℤ int_min (negsuc k *ℤ l) (negsuc k *ℤ h)) (pos n *ℤ (negsuc k *ℤ h)) (negsuc k *ℤ u) (le_scale n (int_min (negsuc k *ℤ l) (negsuc k *ℤ h)) (negsuc k *ℤ h) (least_r (negsuc k *ℤ l) (negsuc k *ℤ h)))
    (le_trans (pos n *ℤ (negsuc k *ℤ h)) (negsuc k *ℤ (pos n *ℤ h)) (negsuc k *ℤ u)
    (le_of_eq (pos n *ℤ (negsuc k *ℤ h)) (negsuc k *ℤ (pos n *ℤ h)) (ring (pos n ∷ negsuc k ∷ h ∷ []) (var 0 ⊗ (var 1 ⊗ var 2)) (var 1 ⊗ (var 0 ⊗ var 2)) tt)) (le_flip k u (pos n *ℤ h) q))

pub floor_at_most : (a : ℤ) (d : ℕ) → 0 < d → (pos d *ℤ floor_over a d) ≤ℤ a
floor_at_most (pos a) d p = omega (arith, ints)
floor_at_most (negsuc a) d p = omega (arith, ints)

pub floor_above : (a : ℤ) (d : ℕ) → 0 < d → a <ℤ (pos d *ℤ floor_over a d +ℤ pos d)
floor_above (pos a) d p = omega (arith, ints)
floor_above (negsuc a) d p = omega (arith, ints)
