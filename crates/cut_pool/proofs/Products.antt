-- One product more: its magnitude, and the part that is left.
use Rattle.std.proofs.Common.{◌≡◌, ℕ, ◌+◌, ◌<◌, ◌≤◌, ◌^◌, ℤ, pos, ◌+ℤ◌, ◌*ℤ◌, ◌≤ℤ◌, ◌<ℤ◌, List, [], ◌∷◌, length, drop, SFits, w64, to_z, of_z, add-one, arith, refl, ap, ◌∙◌, drop-cons, drop_of_length-le}
use Rattle.std.proofs.lemmas.Int.{ints, to_z-of_z}
use mir.Syntax.{w128}
use Rattle.base_num.specs.Sums.{dot, entry}
use Rattle.theory.specs.Size.{magnitude, magnitudes}
use Rattle.theory.proofs.SizeToFit.{size_mul}
use Rattle.theory.proofs.OneMore.{Added, added}
use Rattle.base_num.proofs.Order.{le_refl, le_of_eq}

pub dot_next : (xs ys : List ℤ) (i : ℕ) → i < length xs → i < length ys → dot (drop i xs) (drop i ys) ≡ entry xs i *ℤ entry ys i +ℤ dot (drop (i + 1) xs) (drop (i + 1) ys)
dot_next xs ys i h k = rw (add-one, drop-cons xs i (pos 0), drop-cons ys i (pos 0)) refl

pub sizes_next : (xs ys : List ℤ) (i : ℕ) → i < length xs → i < length ys → dot (magnitudes (drop i xs)) (magnitudes (drop i ys)) ≡ magnitude (entry xs i) *ℤ magnitude (entry ys i) +ℤ dot (magnitudes (drop (i + 1) xs)) (magnitudes (drop (i + 1) ys))
sizes_next xs ys i h k = rw (add-one, drop-cons xs i (pos 0), drop-cons ys i (pos 0)) refl

pub sizes_some : (xs ys : List ℤ) → pos 0 ≤ℤ dot (magnitudes xs) (magnitudes ys)
sizes_some [] ys = le_refl (pos 0)
sizes_some (x ∷ xs) [] = le_refl (pos 0)
sizes_some (x ∷ xs) (y ∷ ys) = omega (arith, ints, sizes_some xs ys)

-- one product more, of entries as they are read
pub step : (xs ys : List ℤ) (i : ℕ) (s f : ℤ) → SFits w128 (entry xs i) → SFits w64 (entry ys i) → SFits w128 f → f ≡ to_z w64 (of_z w64 (entry ys i)) → length xs ≡ length ys → i < length xs → dot xs ys ≡ s +ℤ dot (drop i xs) (drop i ys)
    → (magnitude s +ℤ dot (magnitudes (drop i xs)) (magnitudes (drop i ys))) ≤ℤ dot (magnitudes xs) (magnitudes ys) → dot (magnitudes xs) (magnitudes ys) <ℤ pos (2 ^ 127)
    → Added (dot xs ys) s (to_z w128 (of_z w128 (entry xs i)) *ℤ to_z w128 (of_z w128 f)) (dot (drop (i + 1) xs) (drop (i + 1) ys)) (dot (magnitudes (drop (i + 1) xs)) (magnitudes (drop (i + 1) ys))) (dot (magnitudes xs) (magnitudes ys))
step xs ys i s f fx fy ff is e h v r b =
    let k : i < length ys = omega arith in
    let below : magnitude (entry xs i *ℤ entry ys i) ≤ℤ (magnitude (entry xs i) *ℤ magnitude (entry ys i)) = le_of_eq _ _ (size_mul (entry xs i) (entry ys i)) in
    rw (to_z-of_z w128 (entry xs i) fx, to_z-of_z w128 f ff ∙ is ∙ to_z-of_z w64 (entry ys i) fy)
    (added (dot xs ys) s (entry xs i *ℤ entry ys i) (magnitude (entry xs i) *ℤ magnitude (entry ys i)) (dot (drop (i + 1) xs) (drop (i + 1) ys)) (dot (magnitudes (drop (i + 1) xs)) (magnitudes (drop (i + 1) ys))) (dot (magnitudes xs) (magnitudes ys))
    (v ∙ ap (λ (q : ℤ). s +ℤ q) (dot_next xs ys i h k)) (rw (sizes_next xs ys i h k) at r) below (sizes_some (drop (i + 1) xs) (drop (i + 1) ys)) b)

pub dot_end : (xs ys : List ℤ) (i : ℕ) → length xs ≤ i → dot (drop i xs) (drop i ys) ≡ pos 0
dot_end xs ys i h = rw (drop_of_length-le xs h) refl
