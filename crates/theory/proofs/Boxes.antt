-- Boxes entry by entry.
use Rattle.std.proofs.Common.{ℕ, zero, suc, ◌<◌, ℤ, pos, ◌*ℤ◌, ◌≤ℤ◌, List, [], ◌∷◌, length, refl, ap, arith}
use Rattle.base_num.specs.Sums.{entry}
use Rattle.theory.specs.Tree.{InBox}

pub InBox-nil : (units : ℕ) → InBox units [] [] []
InBox-nil units = record { count = refl; above = λ k h. absurd (omega arith); below = λ k h. absurd (omega arith) }

pub InBox-cons : (units : ℕ) (l h x : ℤ) (ls hs xs : List ℤ) → (pos units *ℤ l) ≤ℤ x → x ≤ℤ (pos units *ℤ h) → InBox units ls hs xs → InBox units (l ∷ ls) (h ∷ hs) (x ∷ xs)
InBox-cons units l h x ls hs xs p q b = record { count = ap suc b.count; above = above; below = below }
  where
    above : (k : ℕ) → k < length (l ∷ ls) → (pos units *ℤ entry (l ∷ ls) k) ≤ℤ entry (x ∷ xs) k
    above zero i = p
    above (suc k) i = b.above k (omega arith)

    below : (k : ℕ) → k < length (l ∷ ls) → entry (x ∷ xs) k ≤ℤ (pos units *ℤ entry (h ∷ hs) k)
    below zero i = q
    below (suc k) i = b.below k (omega arith)
