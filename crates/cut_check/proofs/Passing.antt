-- The realization at which a size passes its range is at most the number of certificates.
use Rattle.std.proofs.Common.{◌≡◌, if◌then◌else◌, ℕ, suc, ◌+◌, ◌-◌, ◌<◌, ◌≤◌, ◌^◌, ℤ, pos, ◌+ℤ◌, Bool, true, false, List, [], ◌∷◌, length, map, zip, Option, Some, None, arith}
use Rattle.std.specs.Prelude.{int_le}
use Rattle.std.proofs.lemmas.List.{length-map, length-append}
use Rattle.std.proofs.lemmas.Slice.Zip.{length-zip}
use Rattle.theory.specs.declared.cut.Cut.{Cut}
use Rattle.theory.specs.declared.cut.Certificate.{Certificate}
use Rattle.theory.specs.Problem.{Realization, Node}
use Rattle.theory.specs.Size.{realization_size, remainder_size, size_parts}
use Rattle.theory.specs.Range.{range_from, range_of}

few-range_from : (zs : List ℤ) (sum : ℤ) (r k : ℕ) → range_from sum r zs ≡ Some k → k < r + length zs
few-range_from [] sum r k e = absurd (no e)
  where
    no : (let o : Option ℕ = None in o ≡ Some k) → ⊥
    no h = cc
few-range_from (z ∷ zs) sum r k e = step (int_le (sum +ℤ z) (pos (2 ^ 127 - 1))) (λ h. omega (arith, few-range_from zs (sum +ℤ z) (suc r) k h)) e
  where
    same : (a b : ℕ) → (let o : Option ℕ = Some a in o ≡ Some b) → a ≡ b
    same a b h = cc

    step : (b : Bool) → (range_from (sum +ℤ z) (suc r) zs ≡ Some k → k < r + suc (length zs)) → (if b then range_from (sum +ℤ z) (suc r) zs else Some r) ≡ Some k → k < r + suc (length zs)
    step true tail h = tail h
    step false tail h = omega (arith, same r k h)

pub few-range_of : (pools : List (List Cut)) (n : Node) (list : List Certificate) (r : ℕ) → range_of pools n list ≡ Some r → r ≤ length list
few-range_of pools n list r e =
    let qs : List (Realization × Certificate) = zip n.realizations list in
    let parts : r < 0 + length (size_parts pools n list) = few-range_from (size_parts pools n list) (pos 0) 0 r e in
    let sizes : List ℤ = map (realization_size pools n) qs in
    omega (arith, parts, length-append sizes (remainder_size n list ∷ []), length-map qs (realization_size pools n), length-zip n.realizations list)
