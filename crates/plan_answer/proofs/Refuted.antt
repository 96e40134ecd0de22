-- A positive refuting value leaves no decisions.
use Rattle.std.proofs.Common.{◌≡◌, ◌==◌, ◌&&◌, true, ℕ, zero, suc, ◌*◌, ◌^◌, ◌<◌, ◌≤◌, ℤ, pos, negsuc, ◌+ℤ◌, ◌*ℤ◌, ◌-ℤ◌, neg_ℤ, ◌≤ℤ◌, List, [], ◌∷◌, length, All, zip, nat_lt, Option, Some, None, IsSome, is_some, arith, refl, ap, sym, ◌∙◌}
use Rattle.std.specs.Prelude.{int_lt}
use Rattle.std.specs.List.{list_all}
use Rattle.std.proofs.lemmas.Int.{ints}
use Rattle.std.proofs.lemmas.List.Elements.{All-cons}
use lib.IntN.{*ℤ-zero}
use Rattle.base_num.specs.Sums.{sum_to, total, entry, Term, at_terms, coefficient}
use Rattle.base_num.proofs.Order.{le_refl, le_of_eq, le_add, le_scale, le_flip, box_least_is}
use Rattle.base_num.proofs.Ring.{ring, var, num, ◌⊕◌, ◌⊗◌, ⊖}
use Rattle.base_num.proofs.Sums.{sum_ext, sum_times, sum_le, sum_terms, total_ext, total_times, total_le, entry_past}
use Rattle.base_num.proofs.Tests.{and_first, and_second}
use Rattle.problem.specs.declared.parts.Row.{Row}
use Rattle.theory.specs.Problem.{S, Node}
use Rattle.theory.specs.Tree.{InBox, AtLeast, AtMost, RowHolds, Decides, times_all}
use Rattle.theory.specs.Certificates.{SignRight}
use Rattle.theory.specs.CutOf.{side_of, box_least}
use Rattle.theory.proofs.Fractions.{between}
use Rattle.theory.proofs.Lists.{All-zip, All-both}
use Rattle.theory.proofs.OneStage.{sum_total}
use Rattle.cut_make.specs.Acceptance.{is_sign}
use Rattle.plan_answer.specs.Farkas.{right_side, farkas_reduced_cost, farkas_value, farkas_size, refutes_of, NoDecision}

-- numbers times the units
pub entry_times : (units : ℕ) (xs : List ℤ) (k : ℕ) → entry (times_all units xs) k ≡ pos units *ℤ entry xs k
entry_times units [] k = sym (*ℤ-zero (pos units))
entry_times units (x ∷ xs) zero = refl
entry_times units (x ∷ xs) (suc k) = entry_times units xs k

pub terms_times : (units : ℕ) (xs : List ℤ) (ts : List Term) → at_terms ts (entry (times_all units xs)) ≡ pos units *ℤ at_terms ts (entry xs)
terms_times units xs ts =
    total_ext (λ (t : Term). t.1 *ℤ entry (times_all units xs) t.0) (λ (t : Term). pos units *ℤ (t.1 *ℤ entry xs t.0)) ts
    (λ t. ap (λ (k : ℤ). t.1 *ℤ k) (entry_times units xs t.0) ∙ ring (t.1 ∷ pos units ∷ entry xs t.0 ∷ []) (var 0 ⊗ (var 1 ⊗ var 2)) (var 1 ⊗ (var 0 ⊗ var 2)) tt)
    ∙ total_times (pos units) (λ (t : Term). t.1 *ℤ entry xs t.0) ts

-- a row: s is S, n the units, x its side, g and b its random and state terms, l those of the decisions
row_low : (o : Option ℤ) (k s n : ℕ) (g b l e : ℤ) → IsSome o → e ≡ pos n *ℤ b → AtLeast o (s * n) (l +ℤ e +ℤ pos (s * n) *ℤ g) → (pos n *ℤ (pos (suc k) *ℤ (pos s *ℤ (side_of o -ℤ g) -ℤ b))) ≤ℤ (pos (suc k) *ℤ l)
row_low None k s n g b l e i f h = cc
row_low (Some x) k s n g b l e i f h =
    let less : ℤ = neg_ℤ (pos n *ℤ b +ℤ pos (s * n) *ℤ g) in
    between (pos n *ℤ (pos (suc k) *ℤ (pos s *ℤ (x -ℤ g) -ℤ b))) (pos (suc k) *ℤ (pos (s * n) *ℤ x +ℤ less)) (pos (suc k) *ℤ (l +ℤ e +ℤ pos (s * n) *ℤ g +ℤ less)) (pos (suc k) *ℤ l)
    (ring (pos n ∷ pos (suc k) ∷ pos s ∷ x ∷ g ∷ b ∷ []) (var 0 ⊗ (var 1 ⊗ (var 2 ⊗ (var 3 ⊕ ⊖ (var 4)) ⊕ ⊖ (var 5)))) (var 1 ⊗ (var 2 ⊗ var 0 ⊗ var 3 ⊕ ⊖ (var 0 ⊗ var 5 ⊕ var 2 ⊗ var 0 ⊗ var 4))) tt)
    (le_scale (suc k) (pos (s * n) *ℤ x +ℤ less) (l +ℤ e +ℤ pos (s * n) *ℤ g +ℤ less) (le_add (pos (s * n) *ℤ x) (l +ℤ e +ℤ pos (s * n) *ℤ g) less less h (le_refl less)))
    (ap (λ (z : ℤ). pos (suc k) *ℤ (l +ℤ z +ℤ pos (s * n) *ℤ g +ℤ less)) f ∙ ring (pos (suc k) ∷ l ∷ pos n ∷ b ∷ pos s ∷ g ∷ []) (var 0 ⊗ (var 1 ⊕ var 2 ⊗ var 3 ⊕ var 4 ⊗ var 2 ⊗ var 5 ⊕ ⊖ (var 2 ⊗ var 3 ⊕ var 4 ⊗ var 2 ⊗ var 5))) (var 0 ⊗ var 1) tt)

row_high : (o : Option ℤ) (k s n : ℕ) (g b l e : ℤ) → IsSome o → e ≡ pos n *ℤ b → AtMost o (s * n) (l +ℤ e +ℤ pos (s * n) *ℤ g) → (pos n *ℤ (negsuc k *ℤ (pos s *ℤ (side_of o -ℤ g) -ℤ b))) ≤ℤ (negsuc k *ℤ l)
row_high None k s n g b l e i f h = cc
row_high (Some x) k s n g b l e i f h =
    let less : ℤ = neg_ℤ (pos n *ℤ b +ℤ pos (s * n) *ℤ g) in
    between (pos n *ℤ (negsuc k *ℤ (pos s *ℤ (x -ℤ g) -ℤ b))) (negsuc k *ℤ (pos (s * n) *ℤ x +ℤ less)) (negsuc k *ℤ (l +ℤ e +ℤ pos (s * n) *ℤ g +ℤ less)) (negsuc k *ℤ l)
    (ring (pos n ∷ negsuc k ∷ pos s ∷ x ∷ g ∷ b ∷ []) (var 0 ⊗ (var 1 ⊗ (var 2 ⊗ (var 3 ⊕ ⊖ (var 4)) ⊕ ⊖ (var 5)))) (var 1 ⊗ (var 2 ⊗ var 0 ⊗ var 3 ⊕ ⊖ (var 0 ⊗ var 5 ⊕ var 2 ⊗ var 0 ⊗ var 4))) tt)
    (le_flip k (l +ℤ e +ℤ pos (s * n) *ℤ g +ℤ less) (pos (s * n) *ℤ x +ℤ less) (le_add (l +ℤ e +ℤ pos (s * n) *ℤ g) (pos (s * n) *ℤ x) less less h (le_refl less)))
    (ap (λ (z : ℤ). negsuc k *ℤ (l +ℤ z +ℤ pos (s * n) *ℤ g +ℤ less)) f ∙ ring (negsuc k ∷ l ∷ pos n ∷ b ∷ pos s ∷ g ∷ []) (var 0 ⊗ (var 1 ⊕ var 2 ⊗ var 3 ⊕ var 4 ⊗ var 2 ⊗ var 5 ⊕ ⊖ (var 2 ⊗ var 3 ⊕ var 4 ⊗ var 2 ⊗ var 5))) (var 0 ⊗ var 1) tt)

row_step : (units : ℕ) (values x u : List ℤ) (row : Row) (y : ℤ) → SignRight row y → RowHolds (S * units) values (times_all units x) u row
    → (pos units *ℤ (y *ℤ right_side values x row y)) ≤ℤ (y *ℤ at_terms row.decisions (entry u))
row_step units values x u row (pos zero) s h =
    le_of_eq (pos units *ℤ (pos 0 *ℤ right_side values x row (pos 0))) (pos 0 *ℤ at_terms row.decisions (entry u))
    (ring (pos units ∷ right_side values x row (pos 0) ∷ at_terms row.decisions (entry u) ∷ []) (var 0 ⊗ (num (pos 0) ⊗ var 1)) (num (pos 0) ⊗ var 2) tt)
row_step units values x u row (pos (suc k)) s h =
    row_low row.low k S units (at_terms row.randoms (entry values)) (at_terms row.states (entry x)) (at_terms row.decisions (entry u)) (at_terms row.states (entry (times_all units x))) s (terms_times units x row.states) h.low
row_step units values x u row (negsuc k) s h =
    row_high row.high k S units (at_terms row.randoms (entry values)) (at_terms row.states (entry x)) (at_terms row.decisions (entry u)) (at_terms row.states (entry (times_all units x))) s (terms_times units x row.states) h.high

-- all rows at once
rows_step : (units : ℕ) (values x u ys : List ℤ) (n : Node) → All (λ (q : Row × ℤ). SignRight q.0 q.1) (zip n.rows ys) → All (RowHolds (S * units) values (times_all units x) u) n.rows
    → (pos units *ℤ total (λ (q : Row × ℤ). q.1 *ℤ right_side values x q.0 q.1) (zip n.rows ys)) ≤ℤ total (λ (q : Row × ℤ). q.1 *ℤ at_terms q.0.decisions (entry u)) (zip n.rows ys)
rows_step units values x u ys n s h =
    between (pos units *ℤ total (λ (q : Row × ℤ). q.1 *ℤ right_side values x q.0 q.1) (zip n.rows ys)) (total (λ (q : Row × ℤ). pos units *ℤ (q.1 *ℤ right_side values x q.0 q.1)) (zip n.rows ys))
    (total (λ (q : Row × ℤ). q.1 *ℤ at_terms q.0.decisions (entry u)) (zip n.rows ys)) (total (λ (q : Row × ℤ). q.1 *ℤ at_terms q.0.decisions (entry u)) (zip n.rows ys))
    (sym (total_times (pos units) (λ (q : Row × ℤ). q.1 *ℤ right_side values x q.0 q.1) (zip n.rows ys)))
    (total_le (λ (q : Row × ℤ). SignRight q.0 q.1 × RowHolds (S * units) values (times_all units x) u q.0) (λ (q : Row × ℤ). pos units *ℤ (q.1 *ℤ right_side values x q.0 q.1)) (λ (q : Row × ℤ). q.1 *ℤ at_terms q.0.decisions (entry u)) (zip n.rows ys)
    (All-both (λ (q : Row × ℤ). SignRight q.0 q.1) (λ (q : Row × ℤ). RowHolds (S * units) values (times_all units x) u q.0) (zip n.rows ys) s (All-zip (RowHolds (S * units) values (times_all units x) u) n.rows ys h))
    (λ q r. row_step units values x u q.0 q.1 r.0 r.1))
    refl

-- d·u
reduced_sum : (d : ℕ) (n : Node) (ys u : List ℤ) → length u ≤ d → sum_to d (λ j. farkas_reduced_cost n.rows ys j *ℤ entry u j) ≡ neg_ℤ (total (λ (q : Row × ℤ). q.1 *ℤ at_terms q.0.decisions (entry u)) (zip n.rows ys))
reduced_sum d n ys u le =
    let sum : ℕ → ℤ = λ (j : ℕ). total (λ (q : Row × ℤ). q.1 *ℤ coefficient q.0.decisions j) (zip n.rows ys) in
    let whole : ℤ = total (λ (q : Row × ℤ). q.1 *ℤ at_terms q.0.decisions (entry u)) (zip n.rows ys) in
    sum_ext d (λ j. farkas_reduced_cost n.rows ys j *ℤ entry u j) (λ j. negsuc 0 *ℤ (sum j *ℤ entry u j)) (λ j p. ring (sum j ∷ entry u j ∷ []) (⊖ (var 0) ⊗ var 1) (num (negsuc 0) ⊗ (var 0 ⊗ var 1)) tt)
    ∙ sum_times d (negsuc 0) (λ j. sum j *ℤ entry u j)
    ∙ ap (λ (k : ℤ). negsuc 0 *ℤ k)
    (sum_total d (λ (q : Row × ℤ) j. q.1 *ℤ coefficient q.0.decisions j) (λ (q : Row × ℤ). q.1 *ℤ at_terms q.0.decisions (entry u)) (entry u) (zip n.rows ys)
    (λ q.
    sum_ext d (λ j. q.1 *ℤ coefficient q.0.decisions j *ℤ entry u j) (λ j. q.1 *ℤ (coefficient q.0.decisions j *ℤ entry u j)) (λ j p. ring (q.1 ∷ coefficient q.0.decisions j ∷ entry u j ∷ []) (var 0 ⊗ var 1 ⊗ var 2) (var 0 ⊗ (var 1 ⊗ var 2)) tt)
    ∙ sum_times d q.1 (λ j. coefficient q.0.decisions j *ℤ entry u j) ∙ ap (λ (k : ℤ). q.1 *ℤ k) (sum_terms d q.0.decisions (entry u) (λ j h. entry_past u d j le h))))
    ∙ ring (whole ∷ []) (num (negsuc 0) ⊗ var 0) (⊖ (var 0)) tt

-- the boxes
boxes_step : (units : ℕ) (n : Node) (ys u : List ℤ) → InBox units n.decision_low n.decision_high u
    → (pos units *ℤ sum_to (length n.decision_low) (λ j. box_least n j (farkas_reduced_cost n.rows ys j))) ≤ℤ sum_to (length n.decision_low) (λ j. farkas_reduced_cost n.rows ys j *ℤ entry u j)
boxes_step units n ys u b =
    between (pos units *ℤ sum_to (length n.decision_low) (λ j. box_least n j (farkas_reduced_cost n.rows ys j))) (sum_to (length n.decision_low) (λ j. pos units *ℤ box_least n j (farkas_reduced_cost n.rows ys j)))
    (sum_to (length n.decision_low) (λ j. farkas_reduced_cost n.rows ys j *ℤ entry u j)) (sum_to (length n.decision_low) (λ j. farkas_reduced_cost n.rows ys j *ℤ entry u j))
    (sym (sum_times (length n.decision_low) (pos units) (λ j. box_least n j (farkas_reduced_cost n.rows ys j))))
    (sum_le (length n.decision_low) (λ j. pos units *ℤ box_least n j (farkas_reduced_cost n.rows ys j)) (λ j. farkas_reduced_cost n.rows ys j *ℤ entry u j)
    (λ j p. box_least_is units (farkas_reduced_cost n.rows ys j) (entry n.decision_low j) (entry n.decision_high j) (entry u j) (b.above j p) (b.below j p)))
    refl

assemble : (s n : ℕ) (r m a d : ℤ) → (pos n *ℤ r) ≤ℤ a → (pos (s * n) *ℤ m) ≤ℤ d → d ≡ neg_ℤ a → (pos n *ℤ (r +ℤ pos s *ℤ m)) ≤ℤ pos 0
assemble s n r m a d h k e =
    between (pos n *ℤ (r +ℤ pos s *ℤ m)) (pos n *ℤ r +ℤ pos (s * n) *ℤ m) (a +ℤ d) (pos 0)
    (ring (pos n ∷ r ∷ pos s ∷ m ∷ []) (var 0 ⊗ (var 1 ⊕ var 2 ⊗ var 3)) (var 0 ⊗ var 1 ⊕ var 2 ⊗ var 0 ⊗ var 3) tt)
    (le_add (pos n *ℤ r) a (pos (s * n) *ℤ m) d h k)
    (ap (λ (z : ℤ). a +ℤ z) e ∙ ring (a ∷ []) (var 0 ⊕ ⊖ (var 0)) (num (pos 0)) tt)

-- the value is not positive where decisions exist
value_at_most : (units : ℕ) (n : Node) (values x ys u : List ℤ) → All (λ (q : Row × ℤ). SignRight q.0 q.1) (zip n.rows ys) → Decides (S * units) n values (times_all units x) u → (pos units *ℤ farkas_value n values x ys) ≤ℤ pos 0
value_at_most units n values x ys u s d =
    assemble S units (total (λ (q : Row × ℤ). q.1 *ℤ right_side values x q.0 q.1) (zip n.rows ys)) (sum_to (length n.decision_low) (λ j. box_least n j (farkas_reduced_cost n.rows ys j)))
    (total (λ (q : Row × ℤ). q.1 *ℤ at_terms q.0.decisions (entry u)) (zip n.rows ys)) (sum_to (length n.decision_low) (λ j. farkas_reduced_cost n.rows ys j *ℤ entry u j))
    (rows_step units values x u ys n s d.rows) (boxes_step (S * units) n ys u d.box) (reduced_sum (length n.decision_low) n ys u (omega (arith, d.box.count)))

-- the signs as a test
is_some-true : (o : Option ℤ) → is_some o ≡ true → IsSome o
is_some-true None e = cc
is_some-true (Some x) e = e

sign_right : (row : Row) (y : ℤ) → is_sign row y ≡ true → SignRight row y
sign_right row (pos zero) e = tt
sign_right row (pos (suc y)) e = is_some-true row.low e
sign_right row (negsuc y) e = is_some-true row.high e

signs_right : (qs : List (Row × ℤ)) → list_all (λ (q : Row × ℤ). is_sign q.0 q.1) qs ≡ true → All (λ (q : Row × ℤ). SignRight q.0 q.1) qs
signs_right [] e = λ k d p. absurd (omega arith)
signs_right (q ∷ qs) e =
    All-cons (λ (r : Row × ℤ). SignRight r.0 r.1) q qs (sign_right q.0 q.1 (and_first (is_sign q.0 q.1) (list_all (λ (r : Row × ℤ). is_sign r.0 r.1) qs) e))
    (signs_right qs (and_second (is_sign q.0 q.1) (list_all (λ (r : Row × ℤ). is_sign r.0 r.1) qs) e))

positive : (n : ℕ) (v : ℤ) → 0 < n → int_lt (pos 0) v ≡ true → (pos n *ℤ v) ≤ℤ pos 0 → ⊥
positive n v p e h =
    let one : pos 1 ≤ℤ v = grind (arith, ints, e) in
    absurd (omega (arith, ints, h, p, le_scale n (pos 1) v one))

pub refuted : (n : Node) (values x ys : List ℤ) → refutes_of n values x ys ≡ true → NoDecision n values x
unfolding refutes_of
refuted n values x ys e = λ units u p d.
    let shape : ((length ys == length n.rows) && list_all (λ (q : Row × ℤ). is_sign q.0 q.1) (zip n.rows ys)) ≡ true = and_first _ (nat_lt (farkas_size n values x ys) (2 ^ 127) && int_lt (pos 0) (farkas_value n values x ys)) e in
    let range : (nat_lt (farkas_size n values x ys) (2 ^ 127) && int_lt (pos 0) (farkas_value n values x ys)) ≡ true = and_second ((length ys == length n.rows) && list_all (λ (q : Row × ℤ). is_sign q.0 q.1) (zip n.rows ys)) _ e in
    positive units (farkas_value n values x ys) p (and_second (nat_lt (farkas_size n values x ys) (2 ^ 127)) (int_lt (pos 0) (farkas_value n values x ys)) range)
    (value_at_most units n values x ys u (signs_right (zip n.rows ys) (and_second (length ys == length n.rows) (list_all (λ (q : Row × ℤ). is_sign q.0 q.1) (zip n.rows ys)) shape)) d)
