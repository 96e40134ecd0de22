-- When a list of certificates is accepted, and else the first fault.
use Rattle.std.specs.Prelude.{◌≡◌, ℕ, zero, suc, ◌+◌, ◌*◌, ℤ, pos, negsuc, Bool, true, ◌&&◌, ◌==◌, List, [], ◌∷◌, length, min, zip, nat_le, nat_lt, Option, Some, None, Result, Ok, Err, is_some, if◌then◌else◌}
use Rattle.std.specs.Option.{option_map}
use Rattle.problem.specs.declared.parts.Row.{Row}
use Rattle.theory.specs.declared.cut.Cut.{Cut}
use Rattle.theory.specs.declared.cut.Certificate.{Certificate}
use Rattle.theory.specs.Problem.{S, Successor, Node}
use Rattle.theory.specs.Pools.{pool}
use Rattle.theory.specs.Certificates.{multipliers}
use Rattle.theory.specs.Range.{range_of}
use Rattle.cut_make.specs.declared.fault.CertFault.{CertFault}
use Rattle.cut_make.specs.declared.fault.CertFault.TheVariants.{Shape, Sign, Cutless, Sum, Range}

-- the first of two faults
abbrev pub or_then_fault : Option CertFault → Option CertFault → Option CertFault
or_then_fault (Some f) next = Some f
or_then_fault None next = next

-- one multiplier per row and one list of pairs per successor
abbrev pub is_shaped : Node → Certificate → Bool
is_shaped n c = (length c.rows == length n.rows) && (length c.cuts == length n.successors)

abbrev pub first_unshaped : Node → ℕ → List Certificate → Option CertFault
first_unshaped n r [] = None
first_unshaped n r (c ∷ cs) = if is_shaped n c then first_unshaped n (suc r) cs else Some (Shape r)

-- one certificate per realization, each of its node's shape
abbrev pub shape_fault : Node → List Certificate → Option CertFault
shape_fault n list = if length list == length n.realizations then first_unshaped n 0 list else Some (Shape (min (length list) (length n.realizations)))

-- no positive multiplier without a lower side, no negative one without an upper
abbrev pub is_sign : Row → ℤ → Bool
is_sign row (pos zero) = true
is_sign row (pos (suc y)) = is_some row.low
is_sign row (negsuc y) = is_some row.high

-- the first row, from the one with number i, with a multiplier of wrong sign
abbrev pub sign_fault : ℕ → ℕ → List (Row × ℤ) → Option CertFault
sign_fault r i [] = None
sign_fault r i (q ∷ qs) = if is_sign q.0 q.1 then sign_fault r (suc i) qs else Some (Sign r i)

-- the place is from `least` on and in the pool, and the multiplier is positive
abbrev pub is_pair : ℕ → ℕ → ℕ × ℕ → Bool
is_pair least count s = nat_le least s.0 && nat_lt s.0 count && nat_lt 0 s.1

-- the first pair, from the one with number e, that does not rise above the one before, is not in the pool, or has no multiplier
abbrev pub pair_fault : ℕ → ℕ → ℕ → ℕ → ℕ → List (ℕ × ℕ) → Option CertFault
pair_fault r i count e least [] = None
pair_fault r i count e least (s ∷ ss) = if is_pair least count s then pair_fault r i count (suc e) (s.0 + 1) ss else Some (Cutless r i e)

-- the multipliers of a successor sum to S times its weight
abbrev pub sum_fault : ℕ → ℕ → Successor → List (ℕ × ℕ) → Option CertFault
sum_fault r i successor pairs = if multipliers pairs == S * successor.weight then None else Some (Sum r i)

-- the successors from the one with number i on
abbrev pub successors_fault : List (List Cut) → ℕ → ℕ → List (Successor × List (ℕ × ℕ)) → Option CertFault
successors_fault pools r i [] = None
successors_fault pools r i (q ∷ qs) =
    or_then_fault (pair_fault r i (length (pool pools q.0.node)) 0 0 q.1) (or_then_fault (sum_fault r i q.0 q.1) (successors_fault pools r (suc i) qs))

-- the certificates from that of realization r on
abbrev pub certificates_fault : List (List Cut) → Node → ℕ → List Certificate → Option CertFault
certificates_fault pools n r [] = None
certificates_fault pools n r (c ∷ cs) =
    or_then_fault (sign_fault r 0 (zip n.rows c.rows)) (or_then_fault (successors_fault pools r 0 (zip n.successors c.cuts)) (certificates_fault pools n (suc r) cs))

-- the first fault before the size: shapes, then signs, pairs and sums by realization
abbrev pub right_fault : List (List Cut) → Node → List Certificate → Option CertFault
right_fault pools n list = or_then_fault (shape_fault n list) (certificates_fault pools n 0 list)

-- the size passes 2^127 - 1
abbrev pub range_fault : List (List Cut) → Node → List Certificate → Option CertFault
range_fault pools n list = option_map Range (range_of pools n list)

-- the first fault of a list of certificates at a node: shapes, then signs, pairs and sums by realization, then the size
unfoldable pub fault_of : List (List Cut) → Node → List Certificate → Option CertFault
fault_of pools n list = or_then_fault (shape_fault n list) (or_then_fault (certificates_fault pools n 0 list) (range_fault pools n list))

-- Ok exactly where there is no fault, else the first one
abbrev pub Accepts : Result (Unit {0}) CertFault → Option CertFault → Type 0
Accepts (Ok u) fault = fault ≡ None
Accepts (Err f) fault = fault ≡ Some f
