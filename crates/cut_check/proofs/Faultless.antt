-- A right list of certificates has no fault but that its size passes the range.
use Rattle.std.proofs.Common.{◌≡◌, ℕ, zero, suc, ◌+◌, ◌*◌, ◌<◌, ◌≤◌, ◌-◌, ◌^◌, ℤ, pos, negsuc, ◌≤ℤ◌, true, ◌==◌, List, [], ◌∷◌, length, get_or, zip, All, IsSome, Option, Some, None, refl, ap, ◌∙◌, arith}
use Rattle.std.specs.Prelude.{is_some}
use Rattle.std.specs.Option.{option_map}
use Rattle.std.proofs.lemmas.Grind.{common_steps}
use Rattle.std.proofs.lemmas.Bool.Decides.{nat_tests}
use Rattle.std.proofs.lemmas.List.Elements.{All-head, All-tail}
use Rattle.problem.specs.declared.parts.Row.{Row}
use Rattle.theory.specs.declared.cut.Cut.{Cut}
use Rattle.theory.specs.declared.cut.Certificate.{Certificate}
use Rattle.theory.specs.Problem.{S, Successor, Node}
use Rattle.theory.specs.Pools.{pool}
use Rattle.theory.specs.Certificates.{SignRight, Rising, multipliers, PairsRight, RightAt, Right}
use Rattle.theory.specs.CutOf.{divisor}
use Rattle.theory.specs.Size.{size_of}
use Rattle.theory.proofs.Ranges.{none-range_of}
use Rattle.cut_make.specs.declared.fault.CertFault.TheVariants.{Range}
use Rattle.cut_make.specs.Acceptance.{is_shaped, first_unshaped, is_sign, sign_fault, is_pair, pair_fault, sum_fault, successors_fault, certificates_fault, range_fault, fault_of}
use Rattle.cut_check.proofs.Accepted.{fault-range}

eq-test : (a b : ℕ) → a ≡ b → (a == b) ≡ true
eq-test a b h = grind (arith, nat_tests)

-- shapes
shaped : (pools : List (List Cut)) (n : Node) (c : Certificate) → RightAt pools n c → is_shaped n c ≡ true
shaped pools n c h = rw (eq-test (length c.rows) (length n.rows) h.rows, eq-test (length c.cuts) (length n.successors) h.successors) refl

none-first_unshaped : (pools : List (List Cut)) (n : Node) (r : ℕ) (list : List Certificate) → All (RightAt pools n) list → first_unshaped n r list ≡ None
none-first_unshaped pools n r [] h = refl
none-first_unshaped pools n r (c ∷ cs) h = rw (shaped pools n c (All-head (RightAt pools n) c cs h)) (none-first_unshaped pools n (suc r) cs (All-tail (RightAt pools n) c cs h))

-- signs
abbrev RightSign : Row × ℤ → Type 0
RightSign q = SignRight q.0 q.1

some : (o : Option ℤ) → IsSome o → is_some o ≡ true
some None h = cc
some (Some x) h = refl

right_sign : (row : Row) (y : ℤ) → SignRight row y → is_sign row y ≡ true
right_sign row (pos zero) h = refl
right_sign row (pos (suc y)) h = some row.low h
right_sign row (negsuc y) h = some row.high h

none-sign_fault : (r i : ℕ) (qs : List (Row × ℤ)) → All RightSign qs → sign_fault r i qs ≡ None
none-sign_fault r i [] h = refl
none-sign_fault r i (q ∷ qs) h = rw (right_sign q.0 q.1 (All-head RightSign q qs h)) (none-sign_fault r (suc i) qs (All-tail RightSign q qs h))

-- pairs
right_pair : (least count : ℕ) (s : ℕ × ℕ) → least ≤ s.0 → s.0 < count → 0 < s.1 → is_pair least count s ≡ true
right_pair least count s a b c = grind (arith, nat_tests, common_steps)

rising_tail : (s : ℕ × ℕ) (ss : List (ℕ × ℕ)) → Rising (s ∷ ss) → Rising ss
rising_tail s [] h = tt
rising_tail s (n ∷ ss) h = h.1

rising_first : (s : ℕ × ℕ) (ss : List (ℕ × ℕ)) → Rising (s ∷ ss) → 0 < length ss → s.0 + 1 ≤ (get_or ss 0 (0, 0)).0
rising_first s [] h l = absurd (omega arith)
rising_first s (n ∷ ss) h l = omega (arith, h.0)

none-pair_fault : (r i count e least : ℕ) (ss : List (ℕ × ℕ)) → (0 < length ss → least ≤ (get_or ss 0 (0, 0)).0) → Rising ss → All (λ (s : ℕ × ℕ). s.0 < count) ss → All (λ (s : ℕ × ℕ). 0 < s.1) ss → pair_fault r i count e least ss ≡ None
none-pair_fault r i count e least [] f t a b = refl
none-pair_fault r i count e least (s ∷ ss) f t a b =
    rw (right_pair least count s (f (omega arith)) (All-head (λ (s : ℕ × ℕ). s.0 < count) s ss a) (All-head (λ (s : ℕ × ℕ). 0 < s.1) s ss b))
    (none-pair_fault r i count (suc e) (s.0 + 1) ss (rising_first s ss t) (rising_tail s ss t) (All-tail (λ (s : ℕ × ℕ). s.0 < count) s ss a) (All-tail (λ (s : ℕ × ℕ). 0 < s.1) s ss b))

none-sum_fault : (r i : ℕ) (successor : Successor) (ss : List (ℕ × ℕ)) → multipliers ss ≡ S * successor.weight → sum_fault r i successor ss ≡ None
none-sum_fault r i successor ss e = rw (eq-test (multipliers ss) (S * successor.weight) e) refl

none-successors_fault : (pools : List (List Cut)) (r i : ℕ) (qs : List (Successor × List (ℕ × ℕ))) → All (PairsRight pools) qs → successors_fault pools r i qs ≡ None
none-successors_fault pools r i [] h = refl
none-successors_fault pools r i (q ∷ qs) h =
    let p : PairsRight pools q = All-head (PairsRight pools) q qs h in
    rw (none-pair_fault r i (length (pool pools q.0.node)) 0 0 q.1 (λ l. omega arith) p.rising p.there p.positive, none-sum_fault r i q.0 q.1 p.sum)
    (none-successors_fault pools r (suc i) qs (All-tail (PairsRight pools) q qs h))

-- certificates
none-certificates_fault : (pools : List (List Cut)) (n : Node) (r : ℕ) (list : List Certificate) → All (RightAt pools n) list → certificates_fault pools n r list ≡ None
none-certificates_fault pools n r [] h = refl
none-certificates_fault pools n r (c ∷ cs) h =
    let p : RightAt pools n c = All-head (RightAt pools n) c cs h in
    rw (none-sign_fault r 0 (zip n.rows c.rows) p.signs, none-successors_fault pools r 0 (zip n.successors c.cuts) p.pairs)
    (none-certificates_fault pools n (suc r) cs (All-tail (RightAt pools n) c cs h))

-- the only fault that is left
pub right-range_fault : (pools : List (List Cut)) (n : Node) (list : List Certificate) → Right pools n list → fault_of pools n list ≡ range_fault pools n list
right-range_fault pools n list h =
    fault-range pools n list (rw (eq-test (length list) (length n.realizations) h.count) (none-first_unshaped pools n 0 list h.each)) (none-certificates_fault pools n 0 list h.each)

-- a right list with a size in range is accepted
pub accepted : (pools : List (List Cut)) (n : Node) (list : List Certificate) → 0 < divisor n → Right pools n list → size_of pools n list ≤ℤ pos (2 ^ 127 - 1) → fault_of pools n list ≡ None
accepted pools n list d h size = right-range_fault pools n list h ∙ ap (option_map Range) (none-range_of pools n list d size)
