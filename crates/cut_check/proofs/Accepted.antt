-- An accepted list of certificates is right, and its size is in range.
use Rattle.std.proofs.Common.{◌≡◌, ℕ, zero, suc, ◌+◌, ◌*◌, ◌<◌, ◌≤◌, ◌-◌, ◌^◌, ℤ, pos, negsuc, ◌≤ℤ◌, Bool, true, false, ◌==◌, if◌then◌else◌, List, [], ◌∷◌, length, get_or, zip, min, All, IsSome, Option, Some, None, refl, ap, ◌∙◌, arith}
use Rattle.std.specs.Prelude.{is_some}
use Rattle.std.specs.Option.{option_map}
use Rattle.std.proofs.lemmas.Grind.{common_steps}
use Rattle.std.proofs.lemmas.Bool.Decides.{nat_tests}
use Rattle.std.proofs.lemmas.List.Elements.{All-nil, All-cons, All-head, All-tail}
use Rattle.problem.specs.declared.parts.Row.{Row}
use Rattle.theory.specs.declared.cut.Cut.{Cut}
use Rattle.theory.specs.declared.cut.Certificate.{Certificate}
use Rattle.theory.specs.Problem.{S, Successor, Node}
use Rattle.theory.specs.Pools.{pool}
use Rattle.theory.specs.Certificates.{SignRight, Rising, multipliers, PairsRight, RightAt, Right}
use Rattle.theory.specs.Size.{size_of}
use Rattle.theory.specs.Range.{range_of}
use Rattle.theory.proofs.Ranges.{within-range_of}
use Rattle.cut_make.specs.declared.fault.CertFault.{CertFault}
use Rattle.cut_make.specs.declared.fault.CertFault.TheVariants.{Shape, Sign, Cutless, Sum, Range}
use Rattle.cut_make.specs.Acceptance.{or_then_fault, is_shaped, first_unshaped, shape_fault, is_sign, sign_fault, is_pair, pair_fault, sum_fault, successors_fault, certificates_fault, right_fault, range_fault, fault_of}

-- a fault that is not there
pub none-or_then_fault : (a b : Option CertFault) → or_then_fault a b ≡ None → (a ≡ None) × (b ≡ None)
none-or_then_fault None b e = (refl, e)
none-or_then_fault (Some f) b e = absurd (no e)
  where
    no : (let o : Option CertFault = Some f in o ≡ None) → ⊥
    no h = cc

pub none-if : (b : Bool) (x : Option CertFault) (f : CertFault) → (if b then x else Some f) ≡ None → (b ≡ true) × (x ≡ None)
none-if true x f e = (refl, e)
none-if false x f e = absurd (no e)
  where
    no : (let o : Option CertFault = Some f in o ≡ None) → ⊥
    no h = cc

-- shapes
abbrev pub IsShaped : Node → Certificate → Type 0
IsShaped n c = (length c.rows ≡ length n.rows) × (length c.cuts ≡ length n.successors)

shaped : (n : Node) (c : Certificate) → is_shaped n c ≡ true → IsShaped n c
shaped n c e = grind (arith, nat_tests, common_steps)

pub shaped-first_unshaped : (n : Node) (r : ℕ) (list : List Certificate) → first_unshaped n r list ≡ None → All (IsShaped n) list
shaped-first_unshaped n r [] e = All-nil (IsShaped n)
shaped-first_unshaped n r (c ∷ cs) e =
    let q = none-if (is_shaped n c) (first_unshaped n (suc r) cs) (Shape r) e in
    All-cons (IsShaped n) c cs (shaped n c q.0) (shaped-first_unshaped n (suc r) cs q.1)

pub shaped-shape_fault : (n : Node) (list : List Certificate) → shape_fault n list ≡ None → (length list ≡ length n.realizations) × All (IsShaped n) list
shaped-shape_fault n list e =
    let q = none-if (length list == length n.realizations) (first_unshaped n 0 list) (Shape (min (length list) (length n.realizations))) e in
    (same (length list) (length n.realizations) q.0, shaped-first_unshaped n 0 list q.1)
  where
    same : (a b : ℕ) → (a == b) ≡ true → a ≡ b
    same a b h = grind (arith, nat_tests)

-- signs
abbrev RightSign : Row × ℤ → Type 0
RightSign q = SignRight q.0 q.1

some-is_some : (o : Option ℤ) → is_some o ≡ true → IsSome o
some-is_some None e = cc
some-is_some (Some x) e = cc

right_sign : (row : Row) (y : ℤ) → is_sign row y ≡ true → SignRight row y
right_sign row (pos zero) e = tt
right_sign row (pos (suc y)) e = some-is_some row.low e
right_sign row (negsuc y) e = some-is_some row.high e

right-sign_fault : (r i : ℕ) (qs : List (Row × ℤ)) → sign_fault r i qs ≡ None → All RightSign qs
right-sign_fault r i [] e = All-nil RightSign
right-sign_fault r i (q ∷ qs) e =
    let t = none-if (is_sign q.0 q.1) (sign_fault r (suc i) qs) (Sign r i) e in
    All-cons RightSign q qs (right_sign q.0 q.1 t.0) (right-sign_fault r (suc i) qs t.1)

-- pairs
abbrev IsPair : ℕ → ℕ → ℕ × ℕ → Type 0
IsPair least count s = (least ≤ s.0) × (s.0 < count) × (0 < s.1)

right_pair : (least count : ℕ) (s : ℕ × ℕ) → is_pair least count s ≡ true → IsPair least count s
right_pair least count s e = grind (arith, nat_tests, common_steps)

record Pairs (count least : ℕ) (ss : List (ℕ × ℕ)) : Type 0 where
  first : 0 < length ss → least ≤ (get_or ss 0 (0, 0)).0
  rising : Rising ss
  there : All (λ (s : ℕ × ℕ). s.0 < count) ss
  positive : All (λ (s : ℕ × ℕ). 0 < s.1) ss

rising_more : (s : ℕ × ℕ) (ss : List (ℕ × ℕ)) → (0 < length ss → s.0 + 1 ≤ (get_or ss 0 (0, 0)).0) → Rising ss → Rising (s ∷ ss)
rising_more s [] h t = tt
rising_more s (n ∷ ss) h t = (omega (arith, h (omega arith)), t)

right-pair_fault : (r i count e least : ℕ) (ss : List (ℕ × ℕ)) → pair_fault r i count e least ss ≡ None → Pairs count least ss
right-pair_fault r i count e least [] h = record {
  first = λ l. absurd (omega arith);
  rising = tt;
  there = All-nil (λ (s : ℕ × ℕ). s.0 < count);
  positive = All-nil (λ (s : ℕ × ℕ). 0 < s.1);
}
right-pair_fault r i count e least (s ∷ ss) h =
    let t = none-if (is_pair least count s) (pair_fault r i count (suc e) (s.0 + 1) ss) (Cutless r i e) h in
    let here : IsPair least count s = right_pair least count s t.0 in
    let tail : Pairs count (s.0 + 1) ss = right-pair_fault r i count (suc e) (s.0 + 1) ss t.1 in
    record {
      first = λ l. here.0;
      rising = rising_more s ss tail.first tail.rising;
      there = All-cons (λ (s : ℕ × ℕ). s.0 < count) s ss here.1 tail.there;
      positive = All-cons (λ (s : ℕ × ℕ). 0 < s.1) s ss here.2 tail.positive;
    }

right-sum_fault : (r i : ℕ) (successor : Successor) (ss : List (ℕ × ℕ)) → sum_fault r i successor ss ≡ None → multipliers ss ≡ S * successor.weight
right-sum_fault r i successor ss e = same (multipliers ss) (S * successor.weight) (none-if (multipliers ss == S * successor.weight) None (Sum r i) e).0
  where
    same : (a b : ℕ) → (a == b) ≡ true → a ≡ b
    same a b h = grind (arith, nat_tests)

right-successors_fault : (pools : List (List Cut)) (r i : ℕ) (qs : List (Successor × List (ℕ × ℕ))) → successors_fault pools r i qs ≡ None → All (PairsRight pools) qs
right-successors_fault pools r i [] e = All-nil (PairsRight pools)
right-successors_fault pools r i (q ∷ qs) e =
    let a = none-or_then_fault (pair_fault r i (length (pool pools q.0.node)) 0 0 q.1) (or_then_fault (sum_fault r i q.0 q.1) (successors_fault pools r (suc i) qs)) e in
    let b = none-or_then_fault (sum_fault r i q.0 q.1) (successors_fault pools r (suc i) qs) a.1 in
    let pairs : Pairs (length (pool pools q.0.node)) 0 q.1 = right-pair_fault r i (length (pool pools q.0.node)) 0 0 q.1 a.0 in
    All-cons (PairsRight pools) q qs
    (record { rising = pairs.rising; there = pairs.there; positive = pairs.positive; sum = right-sum_fault r i q.0 q.1 b.0 })
    (right-successors_fault pools r (suc i) qs b.1)

-- certificates
right-certificates_fault : (pools : List (List Cut)) (n : Node) (r : ℕ) (list : List Certificate) → All (IsShaped n) list → certificates_fault pools n r list ≡ None → All (RightAt pools n) list
right-certificates_fault pools n r [] h e = All-nil (RightAt pools n)
right-certificates_fault pools n r (c ∷ cs) h e =
    let a = none-or_then_fault (sign_fault r 0 (zip n.rows c.rows)) (or_then_fault (successors_fault pools r 0 (zip n.successors c.cuts)) (certificates_fault pools n (suc r) cs)) e in
    let b = none-or_then_fault (successors_fault pools r 0 (zip n.successors c.cuts)) (certificates_fault pools n (suc r) cs) a.1 in
    let s : IsShaped n c = All-head (IsShaped n) c cs h in
    All-cons (RightAt pools n) c cs
    (record { rows = s.0; successors = s.1; signs = right-sign_fault r 0 (zip n.rows c.rows) a.0; pairs = right-successors_fault pools r 0 (zip n.successors c.cuts) b.0 })
    (right-certificates_fault pools n (suc r) cs (All-tail (IsShaped n) c cs h) b.1)

-- a list without faults before its size is right
pub right-walk : (pools : List (List Cut)) (n : Node) (list : List Certificate) → shape_fault n list ≡ None → certificates_fault pools n 0 list ≡ None → Right pools n list
right-walk pools n list e h =
    let s = shaped-shape_fault n list e in
    record { count = s.0; each = right-certificates_fault pools n 0 list s.1 h }

-- an accepted list is right, and its size is in range
-- a size without a fault is in range
pub none-option_map : (o : Option ℕ) → option_map Range o ≡ None → o ≡ None
none-option_map None h = refl
none-option_map (Some r) h = absurd (no h)
  where
    no : (let o : Option CertFault = Some (Range r) in o ≡ None) → ⊥
    no h = cc

module _ (pools : List (List Cut)) (n : Node) (list : List Certificate) (e : fault_of pools n list ≡ None) where
  none-shape : (shape_fault n list ≡ None) × (or_then_fault (certificates_fault pools n 0 list) (range_fault pools n list) ≡ None)
  unfolding fault_of
  none-shape = none-or_then_fault (shape_fault n list) (or_then_fault (certificates_fault pools n 0 list) (range_fault pools n list)) e

  none-tail : (certificates_fault pools n 0 list ≡ None) × (range_fault pools n list ≡ None)
  none-tail = none-or_then_fault (certificates_fault pools n 0 list) (range_fault pools n list) none-shape.1

  pub right-fault_of : Right pools n list
  right-fault_of = right-walk pools n list none-shape.0 none-tail.0

  pub range-fault_of : range_of pools n list ≡ None
  range-fault_of = none-option_map (range_of pools n list) none-tail.1

  pub size-fault_of : size_of pools n list ≤ℤ pos (2 ^ 127 - 1)
  size-fault_of = within-range_of pools n list range-fault_of

-- a list without a fault before its size is right
pub right-right_fault : (pools : List (List Cut)) (n : Node) (list : List Certificate) → right_fault pools n list ≡ None → Right pools n list
right-right_fault pools n list e =
    let q = none-or_then_fault (shape_fault n list) (certificates_fault pools n 0 list) e in
    right-walk pools n list q.0 q.1

-- the first fault: that before the size, or the size's
or_then_fault-or_then_fault : (a b c : Option CertFault) → or_then_fault a (or_then_fault b c) ≡ or_then_fault (or_then_fault a b) c
or_then_fault-or_then_fault None b c = refl
or_then_fault-or_then_fault (Some f) b c = refl

module _ (pools : List (List Cut)) (n : Node) (list : List Certificate) where
  pub fault-right : (f : CertFault) → right_fault pools n list ≡ Some f → fault_of pools n list ≡ Some f
  unfolding fault_of
  fault-right f e = or_then_fault-or_then_fault (shape_fault n list) (certificates_fault pools n 0 list) (range_fault pools n list) ∙ ap (λ (o : Option CertFault). or_then_fault o (range_fault pools n list)) e

  pub fault-size : right_fault pools n list ≡ None → fault_of pools n list ≡ range_fault pools n list
  unfolding fault_of
  fault-size e = or_then_fault-or_then_fault (shape_fault n list) (certificates_fault pools n 0 list) (range_fault pools n list) ∙ ap (λ (o : Option CertFault). or_then_fault o (range_fault pools n list)) e

  pub fault-range : shape_fault n list ≡ None → certificates_fault pools n 0 list ≡ None → fault_of pools n list ≡ range_fault pools n list
  unfolding fault_of
  fault-range e h = rw (e, h) refl
