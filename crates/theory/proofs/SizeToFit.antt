-- Absolute values: of sums, products, a least value, and the law that ties the bound on a certificate to that on its cut.
use Rattle.std.proofs.Common.{◌-◌, mul-pos, ◌≡◌, ℕ, zero, suc, ◌+◌, ◌*◌, ◌<◌, ◌≤◌, ◌^◌, max, ℤ, pos, negsuc, ◌+ℤ◌, ◌*ℤ◌, ◌-ℤ◌, ◌≤ℤ◌, nat_abs, int_lt, Bool, true, false, cond, List, [], ◌∷◌, length, zip, arith, refl, ap, ap₂, sym, ◌∙◌}
use Rattle.std.proofs.lemmas.Int.{ints, unsigned_abs-mul}
use Rattle.std.specs.Int.{int_min}
use lib.IntN.{*ℤ_comm}
use Rattle.base_num.specs.Sums.{sum_to, total, entry, dot, Term, at_terms, same_place, coefficient, placed, table, floor_over}
use Rattle.base_num.proofs.Order.{le_refl, le_of_eq, le_trans, le_add, le_scale, le_cancel, floor_at_most}
use Rattle.base_num.proofs.Ring.{ring, var, num, ◌⊕◌, ◌⊗◌}
use Rattle.base_num.proofs.Sums.{sum_ext, sum_add, sum_times, sum_le, total_add}
use Rattle.theory.specs.Certificates.{cut_at}
use Rattle.theory.specs.CutOf.{side, scale, over_pairs, over_rows, reduced_cost, box_least, alpha_at, beta_at, alpha_sum, beta_sum, divisor, slope, remainder, cut_of}
use Rattle.theory.specs.Fit.{cut_size, CutFits}
use Rattle.theory.specs.Premises.{Narrow}
use Rattle.theory.specs.Problem.{S, Realization, Successor, Node, realization_weight, successor_weight, with_weights}
use Rattle.theory.specs.Size.{magnitude, magnitudes, terms_size, coefficient_size, reach, rows_size, reduced_size, alpha_size, beta_size, size_of}
use Rattle.theory.proofs.Duality.{scale_some}
use Rattle.theory.proofs.Fractions.{between}
use Rattle.theory.proofs.OneStage.{sum_total}
use Rattle.problem.specs.declared.parts.Row.{Row}
use Rattle.theory.specs.declared.cut.Cut.{Cut}
use Rattle.theory.specs.declared.cut.Certificate.{Certificate}

pub size_add : (a b x y : ℤ) → magnitude a ≤ℤ x → magnitude b ≤ℤ y → magnitude (a +ℤ b) ≤ℤ (x +ℤ y)
size_add a b x y h k = omega (arith, ints)

size_minus : (a b x y : ℤ) → magnitude a ≤ℤ x → magnitude b ≤ℤ y → magnitude (a -ℤ b) ≤ℤ (x +ℤ y)
size_minus a b x y h k = omega (arith, ints)

pub size_mul : (a b : ℤ) → magnitude (a *ℤ b) ≡ magnitude a *ℤ magnitude b
size_mul a b = ap pos (unsigned_abs-mul a b)

-- a product whose parts are bounded
pub size_times : (a b x y : ℤ) → magnitude a ≤ℤ x → magnitude b ≤ℤ y → magnitude (a *ℤ b) ≤ℤ (x *ℤ y)
size_times a b (negsuc x) y h k = absurd (omega (arith, ints))
size_times a b (pos x) (negsuc y) h k = absurd (omega (arith, ints))
size_times a b (pos x) (pos y) h k =
    between (magnitude (a *ℤ b)) (magnitude a *ℤ magnitude b) (pos x *ℤ pos y) (pos x *ℤ pos y) (size_mul a b)
    (le_trans (magnitude a *ℤ magnitude b) (magnitude a *ℤ pos y) (pos x *ℤ pos y) (le_scale (nat_abs a) (magnitude b) (pos y) k)
    (between (magnitude a *ℤ pos y) (pos y *ℤ magnitude a) (pos y *ℤ pos x) (pos x *ℤ pos y) (*ℤ_comm (magnitude a) (pos y)) (le_scale y (magnitude a) (pos x) h) (*ℤ_comm (pos y) (pos x))))
    refl

pub size_total : {A : Type 0} (f g : A → ℤ) (xs : List A) → ((x : A) → magnitude (f x) ≤ℤ g x) → magnitude (total f xs) ≤ℤ total g xs
size_total f g [] h = le_refl (pos 0)
size_total f g (x ∷ xs) h = size_add (f x) (total f xs) (g x) (total g xs) (h x) (size_total f g xs h)

pub size_sum : (n : ℕ) (f g : ℕ → ℤ) → ((k : ℕ) → magnitude (f k) ≤ℤ g k) → magnitude (sum_to n f) ≤ℤ sum_to n g
size_sum zero f g h = le_refl (pos 0)
size_sum (suc n) f g h = size_add (f 0) (sum_to n (λ k. f (suc k))) (g 0) (sum_to n (λ k. g (suc k))) (h 0) (size_sum n (λ k. f (suc k)) (λ k. g (suc k)) (λ k. h (suc k)))

pub size_same : (a : ℤ) → magnitude a ≤ℤ magnitude a
size_same a = le_refl (magnitude a)

pub size_dot : (xs ys : List ℤ) → magnitude (dot xs ys) ≤ℤ dot (magnitudes xs) (magnitudes ys)
size_dot [] ys = le_refl (pos 0)
size_dot (x ∷ xs) [] = le_refl (pos 0)
size_dot (x ∷ xs) (y ∷ ys) = size_add (x *ℤ y) (dot xs ys) (magnitude x *ℤ magnitude y) (dot (magnitudes xs) (magnitudes ys)) (le_of_eq (magnitude (x *ℤ y)) (magnitude x *ℤ magnitude y) (size_mul x y)) (size_dot xs ys)

place_size : (i j : ℕ) → magnitude (same_place i j) ≤ℤ same_place i j
place_size zero zero = le_refl (pos 1)
place_size zero (suc j) = le_refl (pos 0)
place_size (suc i) zero = le_refl (pos 0)
place_size (suc i) (suc j) = place_size i j

size_coefficient : (ts : List Term) (j : ℕ) → magnitude (coefficient ts j) ≤ℤ coefficient_size ts j
size_coefficient ts j = size_total (λ t. t.1 *ℤ same_place t.0 j) (λ t. magnitude t.1 *ℤ same_place t.0 j) ts (λ t. size_times t.1 (same_place t.0 j) (magnitude t.1) (same_place t.0 j) (size_same t.1) (place_size t.0 j))

size_terms : (ts : List Term) (x : ℕ → ℤ) → magnitude (at_terms ts x) ≤ℤ terms_size ts x
size_terms ts x = size_total (λ t. t.1 *ℤ x t.0) (λ t. magnitude t.1 *ℤ magnitude (x t.0)) ts (λ t. size_times t.1 (x t.0) (magnitude t.1) (magnitude (x t.0)) (size_same t.1) (size_same (x t.0)))

size_rows : (n : Node) (c : Certificate) (f g : Row → ℤ → ℤ) → ((row : Row) (y : ℤ) → magnitude (f row y) ≤ℤ g row y) → magnitude (over_rows n c f) ≤ℤ rows_size n c g
size_rows n c f g h = size_total (λ (q : Row × ℤ). q.1 *ℤ f q.0 q.1) (λ (q : Row × ℤ). magnitude q.1 *ℤ g q.0 q.1) (zip n.rows c.rows) (λ q. size_times q.1 (f q.0 q.1) (magnitude q.1) (g q.0 q.1) (size_same q.1) (h q.0 q.1))

size_pairs : (pools : List (List Cut)) (n : Node) (c : Certificate) (f g : Cut → ℤ) → ((x : Cut) → magnitude (f x) ≤ℤ g x) → magnitude (over_pairs pools n c f) ≤ℤ over_pairs pools n c g
size_pairs pools n c f g h =
    size_total (λ (q : Successor × List (ℕ × ℕ)). total (λ (s : ℕ × ℕ). pos s.1 *ℤ f (cut_at pools q.0 s)) q.1) (λ (q : Successor × List (ℕ × ℕ)). total (λ (s : ℕ × ℕ). pos s.1 *ℤ g (cut_at pools q.0 s)) q.1) (zip n.successors c.cuts)
    (λ q. size_total (λ (s : ℕ × ℕ). pos s.1 *ℤ f (cut_at pools q.0 s)) (λ (s : ℕ × ℕ). pos s.1 *ℤ g (cut_at pools q.0 s)) q.1
    (λ s. size_times (pos s.1) (f (cut_at pools q.0 s)) (pos s.1) (g (cut_at pools q.0 s)) (le_refl (pos s.1)) (h (cut_at pools q.0 s))))

pub lesser_by : (P : ℤ → Type 0) (x y : ℤ) → P x → P y → P (int_min x y)
lesser_by P x y a b = pick (int_lt y x)
  where
    pick : (t : Bool) → P (cond t y x)
    pick true = b
    pick false = a

pub size_box : (low high : List ℤ) (j : ℕ) (d x : ℤ) → magnitude d ≤ℤ x → magnitude (int_min (d *ℤ entry low j) (d *ℤ entry high j)) ≤ℤ (reach low high j *ℤ x)
size_box low high j d x h =
    lesser_by (λ z. magnitude z ≤ℤ (reach low high j *ℤ x)) (d *ℤ entry low j) (d *ℤ entry high j) (one (entry low j) (omega (arith, ints))) (one (entry high j) (omega (arith, ints)))
  where
    one : (e : ℤ) → magnitude e ≤ℤ reach low high j → magnitude (d *ℤ e) ≤ℤ (reach low high j *ℤ x)
    one e k = between (magnitude (d *ℤ e)) (magnitude (e *ℤ d)) (reach low high j *ℤ x) (reach low high j *ℤ x) (ap magnitude (*ℤ_comm d e)) (size_times e d (reach low high j) x k h) refl

pub size_scaled : (k : ℕ) (a x : ℤ) → magnitude a ≤ℤ x → magnitude (pos k *ℤ a) ≤ℤ (pos k *ℤ x)
size_scaled k a x h = size_times (pos k) a (pos k) x (le_refl (pos k)) h

pub size_reduced : (pools : List (List Cut)) (n : Node) (c : Certificate) (j : ℕ) → magnitude (reduced_cost pools n c j) ≤ℤ reduced_size pools n c j
size_reduced pools n c j =
    size_add (scale n *ℤ entry n.costs j -ℤ pos S *ℤ over_rows n c (λ row y. coefficient row.decisions j)) (over_pairs pools n c (λ cut. coefficient (placed n.outs cut.beta) j))
    (scale n *ℤ magnitude (entry n.costs j) +ℤ pos S *ℤ rows_size n c (λ row y. magnitude (coefficient row.decisions j))) (over_pairs pools n c (λ cut. coefficient_size (placed n.outs cut.beta) j))
    (size_minus (scale n *ℤ entry n.costs j) (pos S *ℤ over_rows n c (λ row y. coefficient row.decisions j)) (scale n *ℤ magnitude (entry n.costs j)) (pos S *ℤ rows_size n c (λ row y. magnitude (coefficient row.decisions j)))
    (size_scaled (S * S * successor_weight n) (entry n.costs j) (magnitude (entry n.costs j)) (size_same (entry n.costs j)))
    (size_scaled S (over_rows n c (λ row y. coefficient row.decisions j)) (rows_size n c (λ row y. magnitude (coefficient row.decisions j))) (size_rows n c (λ row y. coefficient row.decisions j) (λ row y. magnitude (coefficient row.decisions j)) (λ row y. size_same (coefficient row.decisions j)))))
    (size_pairs pools n c (λ cut. coefficient (placed n.outs cut.beta) j) (λ cut. coefficient_size (placed n.outs cut.beta) j) (λ cut. size_coefficient (placed n.outs cut.beta) j))

pub size_alpha : (pools : List (List Cut)) (n : Node) (values : List ℤ) (c : Certificate) → magnitude (alpha_at pools n values c) ≤ℤ alpha_size pools n values c
size_alpha pools n values c =
    let a : ℤ = scale n *ℤ (n.constant +ℤ dot n.random_costs values) in
    let b : ℤ = pos S *ℤ over_rows n c (λ row y. side row y -ℤ at_terms row.randoms (entry values)) in
    let d : ℤ = over_pairs pools n c (λ cut. cut.alpha) in
    let a' : ℤ = scale n *ℤ (magnitude n.constant +ℤ dot (magnitudes n.random_costs) (magnitudes values)) in
    let b' : ℤ = pos S *ℤ rows_size n c (λ row y. magnitude (side row y) +ℤ terms_size row.randoms (entry values)) in
    let d' : ℤ = over_pairs pools n c (λ cut. magnitude cut.alpha) in
    size_add (a +ℤ b +ℤ d) (sum_to (length n.costs) (λ j. box_least n j (reduced_cost pools n c j))) (a' +ℤ b' +ℤ d') (sum_to (length n.costs) (λ j. reach n.decision_low n.decision_high j *ℤ reduced_size pools n c j))
    (size_add (a +ℤ b) d (a' +ℤ b') d'
    (size_add a b a' b'
    (size_scaled (S * S * successor_weight n) (n.constant +ℤ dot n.random_costs values) (magnitude n.constant +ℤ dot (magnitudes n.random_costs) (magnitudes values)) (size_add n.constant (dot n.random_costs values) (magnitude n.constant) (dot (magnitudes n.random_costs) (magnitudes values)) (size_same n.constant) (size_dot n.random_costs values)))
    (size_scaled S (over_rows n c (λ row y. side row y -ℤ at_terms row.randoms (entry values))) (rows_size n c (λ row y. magnitude (side row y) +ℤ terms_size row.randoms (entry values)))
    (size_rows n c (λ row y. side row y -ℤ at_terms row.randoms (entry values)) (λ row y. magnitude (side row y) +ℤ terms_size row.randoms (entry values))
    (λ row y. size_minus (side row y) (at_terms row.randoms (entry values)) (magnitude (side row y)) (terms_size row.randoms (entry values)) (size_same (side row y)) (size_terms row.randoms (entry values))))))
    (size_pairs pools n c (λ cut. cut.alpha) (λ cut. magnitude cut.alpha) (λ cut. size_same cut.alpha)))
    (size_sum (length n.costs) (λ j. box_least n j (reduced_cost pools n c j)) (λ j. reach n.decision_low n.decision_high j *ℤ reduced_size pools n c j) (λ j. size_box n.decision_low n.decision_high j (reduced_cost pools n c j) (reduced_size pools n c j) (size_reduced pools n c j)))

pub size_beta : (n : Node) (c : Certificate) (k : ℕ) → magnitude (beta_at n c k) ≤ℤ beta_size n c k
size_beta n c k =
    size_minus (scale n *ℤ entry n.state_costs k) (pos S *ℤ over_rows n c (λ row y. coefficient row.states k)) (scale n *ℤ magnitude (entry n.state_costs k)) (pos S *ℤ rows_size n c (λ row y. magnitude (coefficient row.states k)))
    (size_scaled (S * S * successor_weight n) (entry n.state_costs k) (magnitude (entry n.state_costs k)) (size_same (entry n.state_costs k)))
    (size_scaled S (over_rows n c (λ row y. coefficient row.states k)) (rows_size n c (λ row y. magnitude (coefficient row.states k))) (size_rows n c (λ row y. coefficient row.states k) (λ row y. magnitude (coefficient row.states k)) (λ row y. size_same (coefficient row.states k))))

-- the law
floor_size : (a : ℤ) (d : ℕ) → 0 < d → (pos d *ℤ magnitude (floor_over a d)) ≤ℤ (magnitude a +ℤ pos d)
floor_size (pos a) d p = omega (arith, ints)
floor_size (negsuc a) d p = omega (arith, ints)

pub entry_table : (n : ℕ) (f : ℕ → ℤ) (k : ℕ) → k < n → entry (table n f) k ≡ f k
entry_table zero f k h = absurd (omega arith)
entry_table (suc n) f zero h = refl
entry_table (suc n) f (suc k) h = entry_table n (λ j. f (suc j)) k (omega arith)

-- B_k is at most the sum of its magnitudes
pub beta_sum_size : (n : Node) (list : List Certificate) (k : ℕ) → magnitude (beta_sum n list k) ≤ℤ total (λ (q : Realization × Certificate). pos q.0.weight *ℤ beta_size n q.1 k) (zip n.realizations list)
beta_sum_size n list k = size_total (λ (q : Realization × Certificate). pos q.0.weight *ℤ beta_at n q.1 k) (λ (q : Realization × Certificate). pos q.0.weight *ℤ beta_size n q.1 k) (zip n.realizations list)
    (λ q. size_scaled q.0.weight (beta_at n q.1 k) (beta_size n q.1 k) (size_beta n q.1 k))

pub alpha_sum_size : (pools : List (List Cut)) (n : Node) (list : List Certificate) → magnitude (alpha_sum pools n list) ≤ℤ total (λ (q : Realization × Certificate). pos q.0.weight *ℤ alpha_size pools n q.0.values q.1) (zip n.realizations list)
alpha_sum_size pools n list = size_total (λ (q : Realization × Certificate). pos q.0.weight *ℤ alpha_at pools n q.0.values q.1) (λ (q : Realization × Certificate). pos q.0.weight *ℤ alpha_size pools n q.0.values q.1) (zip n.realizations list)
    (λ q. size_scaled q.0.weight (alpha_at pools n q.0.values q.1) (alpha_size pools n q.0.values q.1) (size_alpha pools n q.0.values q.1))

pub rest_sum_size : (n : Node) (list : List Certificate) → 0 < divisor n → magnitude (sum_to (length n.low) (λ k. remainder n list k *ℤ entry n.low k)) ≤ℤ sum_to (length n.low) (λ k. remainder n list k *ℤ magnitude (entry n.low k))
rest_sum_size n list z = size_sum (length n.low) (λ k. remainder n list k *ℤ entry n.low k) (λ k. remainder n list k *ℤ magnitude (entry n.low k))
    (λ k. size_times (remainder n list k) (entry n.low k) (remainder n list k) (magnitude (entry n.low k)) (rest_own (beta_sum n list k) (pos (divisor n) *ℤ slope n list k) (floor_at_most (beta_sum n list k) (divisor n) z)) (size_same (entry n.low k)))
  where
    rest_own : (b f : ℤ) → f ≤ℤ b → magnitude (b -ℤ f) ≤ℤ (b -ℤ f)
    rest_own b f h = omega (arith, ints)

-- the sum over the states, with both sides times the reach
slopes_size : (n : Node) (list : List Certificate) (pools : List (List Cut)) → 0 < divisor n
    → sum_to (length n.low) (λ k. pos (divisor n) *ℤ (magnitude (entry (cut_of pools n list).beta k) *ℤ reach n.low n.high k))
    ≤ℤ sum_to (length n.low) (λ k. total (λ (q : Realization × Certificate). pos q.0.weight *ℤ beta_size n q.1 k) (zip n.realizations list) *ℤ reach n.low n.high k +ℤ pos (divisor n) *ℤ reach n.low n.high k)
slopes_size n list pools z =
    sum_le (length n.low) (λ k. pos (divisor n) *ℤ (magnitude (entry (cut_of pools n list).beta k) *ℤ reach n.low n.high k)) (λ k. total (λ (q : Realization × Certificate). pos q.0.weight *ℤ beta_size n q.1 k) (zip n.realizations list) *ℤ reach n.low n.high k +ℤ pos (divisor n) *ℤ reach n.low n.high k)
    (λ k p.
    let b : ℤ = beta_sum n list k in
    let y : ℤ = total (λ (q : Realization × Certificate). pos q.0.weight *ℤ beta_size n q.1 k) (zip n.realizations list) in
    let m : ℕ = max 1 (max (nat_abs (entry n.low k)) (nat_abs (entry n.high k))) in
    between (pos (divisor n) *ℤ (magnitude (entry (cut_of pools n list).beta k) *ℤ pos m)) (pos m *ℤ (pos (divisor n) *ℤ magnitude (slope n list k))) (pos m *ℤ (y +ℤ pos (divisor n))) (y *ℤ pos m +ℤ pos (divisor n) *ℤ pos m)
    (ap (λ (e : ℤ). pos (divisor n) *ℤ (magnitude e *ℤ pos m)) (entry_table (length n.low) (slope n list) k p) ∙ ring (pos (divisor n) ∷ magnitude (slope n list k) ∷ pos m ∷ []) (var 0 ⊗ (var 1 ⊗ var 2)) (var 2 ⊗ (var 0 ⊗ var 1)) tt)
    (le_scale m (pos (divisor n) *ℤ magnitude (slope n list k)) (y +ℤ pos (divisor n))
    (le_trans (pos (divisor n) *ℤ magnitude (slope n list k)) (magnitude b +ℤ pos (divisor n)) (y +ℤ pos (divisor n)) (floor_size b (divisor n) z) (le_add (magnitude b) y (pos (divisor n)) (pos (divisor n)) (beta_sum_size n list k) (le_refl (pos (divisor n))))))
    (ring (pos (divisor n) ∷ y ∷ pos m ∷ []) (var 2 ⊗ (var 1 ⊕ var 0)) (var 1 ⊗ var 2 ⊕ var 0 ⊗ var 2) tt))

pub size_law : (pools : List (List Cut)) (n : Node) (list : List Certificate) → 0 < divisor n
    → (pos (divisor n) *ℤ cut_size n (cut_of pools n list)) ≤ℤ (size_of pools n list +ℤ pos (divisor n) *ℤ (pos 1 +ℤ sum_to (length n.low) (reach n.low n.high)))
size_law pools n list z =
    let d : ℤ = pos (divisor n) in
    let k : ℕ = length n.low in
    let m : ℕ → ℤ = reach n.low n.high in
    let qs : List (Realization × Certificate) = zip n.realizations list in
    let beta : List ℤ = (cut_of pools n list).beta in
    let alpha : ℤ = (cut_of pools n list).alpha in
    let a : ℤ = total (λ (q : Realization × Certificate). pos q.0.weight *ℤ alpha_size pools n q.0.values q.1) qs in
    let r : ℤ = sum_to k (λ j. remainder n list j *ℤ magnitude (entry n.low j)) in
    let w : ℤ = total (λ (q : Realization × Certificate). pos q.0.weight *ℤ sum_to k (λ j. m j *ℤ beta_size n q.1 j)) qs in
    let ms : ℤ = sum_to k m in
    let bs : ℤ = sum_to k (λ j. total (λ (q : Realization × Certificate). pos q.0.weight *ℤ beta_size n q.1 j) qs *ℤ m j) in
    let ea : (d *ℤ magnitude alpha) ≤ℤ (a +ℤ r +ℤ d) =
    le_trans (d *ℤ magnitude alpha) (magnitude (alpha_sum pools n list +ℤ sum_to k (λ j. remainder n list j *ℤ entry n.low j)) +ℤ d) (a +ℤ r +ℤ d) (floor_size (alpha_sum pools n list +ℤ sum_to k (λ j. remainder n list j *ℤ entry n.low j)) (divisor n) z)
    (le_add (magnitude (alpha_sum pools n list +ℤ sum_to k (λ j. remainder n list j *ℤ entry n.low j))) (a +ℤ r) d d
    (size_add (alpha_sum pools n list) (sum_to k (λ j. remainder n list j *ℤ entry n.low j)) a r (alpha_sum_size pools n list) (rest_sum_size n list z)) (le_refl d)) in
    let eb : (d *ℤ sum_to k (λ j. magnitude (entry beta j) *ℤ m j)) ≤ℤ (bs +ℤ d *ℤ ms) =
    between (d *ℤ sum_to k (λ j. magnitude (entry beta j) *ℤ m j)) (sum_to k (λ j. d *ℤ (magnitude (entry beta j) *ℤ m j))) (sum_to k (λ j. total (λ (q : Realization × Certificate). pos q.0.weight *ℤ beta_size n q.1 j) qs *ℤ m j +ℤ d *ℤ m j)) (bs +ℤ d *ℤ ms)
    (sym (sum_times k d (λ j. magnitude (entry beta j) *ℤ m j))) (slopes_size n list pools z)
    (sum_add k (λ j. total (λ (q : Realization × Certificate). pos q.0.weight *ℤ beta_size n q.1 j) qs *ℤ m j) (λ j. d *ℤ m j) ∙ ap (λ (e : ℤ). bs +ℤ e) (sum_times k d m)) in
    let ew : bs ≡ w =
    sum_total k (λ (q : Realization × Certificate) j. pos q.0.weight *ℤ beta_size n q.1 j) (λ (q : Realization × Certificate). pos q.0.weight *ℤ sum_to k (λ j. m j *ℤ beta_size n q.1 j)) m qs
    (λ q. sum_ext k (λ j. pos q.0.weight *ℤ beta_size n q.1 j *ℤ m j) (λ j. pos q.0.weight *ℤ (m j *ℤ beta_size n q.1 j)) (λ j p. ring (pos q.0.weight ∷ beta_size n q.1 j ∷ m j ∷ []) (var 0 ⊗ var 1 ⊗ var 2) (var 0 ⊗ (var 2 ⊗ var 1)) tt) ∙ sum_times k (pos q.0.weight) (λ j. m j *ℤ beta_size n q.1 j)) in
    between (d *ℤ (magnitude alpha +ℤ sum_to k (λ j. magnitude (entry beta j) *ℤ m j))) (d *ℤ magnitude alpha +ℤ d *ℤ sum_to k (λ j. magnitude (entry beta j) *ℤ m j)) (a +ℤ r +ℤ d +ℤ (bs +ℤ d *ℤ ms)) (size_of pools n list +ℤ d *ℤ (pos 1 +ℤ ms))
    (ring (d ∷ magnitude alpha ∷ sum_to k (λ j. magnitude (entry beta j) *ℤ m j) ∷ []) (var 0 ⊗ (var 1 ⊕ var 2)) (var 0 ⊗ var 1 ⊕ var 0 ⊗ var 2) tt)
    (le_add (d *ℤ magnitude alpha) (a +ℤ r +ℤ d) (d *ℤ sum_to k (λ j. magnitude (entry beta j) *ℤ m j)) (bs +ℤ d *ℤ ms) ea eb)
    (ap (λ (e : ℤ). a +ℤ r +ℤ d +ℤ (e +ℤ d *ℤ ms)) ew
    ∙ ring (a ∷ r ∷ d ∷ w ∷ ms ∷ []) (var 0 ⊕ var 1 ⊕ var 2 ⊕ (var 3 ⊕ var 2 ⊗ var 4)) (var 0 ⊕ var 3 ⊕ var 1 ⊕ var 2 ⊗ (num (pos 1) ⊕ var 4)) tt
    ∙ ap (λ (e : ℤ). e +ℤ r +ℤ d *ℤ (pos 1 +ℤ ms))
    (sym (total_add (λ (q : Realization × Certificate). pos q.0.weight *ℤ alpha_size pools n q.0.values q.1) (λ (q : Realization × Certificate). pos q.0.weight *ℤ sum_to k (λ j. m j *ℤ beta_size n q.1 j)) qs)
    ∙ total_split pools n qs))
  where
    total_split : (pools : List (List Cut)) (n : Node) (qs : List (Realization × Certificate))
        → total (λ (q : Realization × Certificate). pos q.0.weight *ℤ alpha_size pools n q.0.values q.1 +ℤ pos q.0.weight *ℤ sum_to (length n.low) (λ j. reach n.low n.high j *ℤ beta_size n q.1 j)) qs
        ≡ total (λ (q : Realization × Certificate). pos q.0.weight *ℤ (alpha_size pools n q.0.values q.1 +ℤ sum_to (length n.low) (λ j. reach n.low n.high j *ℤ beta_size n q.1 j))) qs
    total_split pools n [] = refl
    total_split pools n (q ∷ qs) = ap₂ ◌+ℤ◌ (ring (pos q.0.weight ∷ alpha_size pools n q.0.values q.1 ∷ sum_to (length n.low) (λ j. reach n.low n.high j *ℤ beta_size n q.1 j) ∷ []) (var 0 ⊗ var 1 ⊕ var 0 ⊗ var 2) (var 0 ⊗ (var 1 ⊕ var 2)) tt) (total_split pools n qs)

scale_least : (d : ℕ) → S ≤ d → pos (2 ^ 127) ≤ℤ (pos d *ℤ pos (2 ^ 103))
unfolding S
scale_least d h = omega (arith, ints)

-- the bound of acceptance keeps the cut small
small_cut : (pools : List (List Cut)) (n : Node) (list : List Certificate) → 0 < divisor n → S ≤ divisor n → size_of pools n list ≤ℤ pos (2 ^ 127) → Narrow n → cut_size n (cut_of pools n list) ≤ℤ pos (2 ^ 103 + 2 ^ 46)
small_cut pools n list z sd h k =
    le_cancel (divisor n) (cut_size n (cut_of pools n list)) (pos (2 ^ 103 + 2 ^ 46)) z
    (le_trans (pos (divisor n) *ℤ cut_size n (cut_of pools n list)) (size_of pools n list +ℤ pos (divisor n) *ℤ (pos 1 +ℤ sum_to (length n.low) (reach n.low n.high))) (pos (divisor n) *ℤ pos (2 ^ 103 + 2 ^ 46)) (size_law pools n list z)
    (between (size_of pools n list +ℤ pos (divisor n) *ℤ (pos 1 +ℤ sum_to (length n.low) (reach n.low n.high))) (size_of pools n list +ℤ pos (divisor n) *ℤ (pos 1 +ℤ sum_to (length n.low) (reach n.low n.high))) (pos (divisor n) *ℤ pos (2 ^ 103) +ℤ pos (divisor n) *ℤ pos (2 ^ 46)) (pos (divisor n) *ℤ pos (2 ^ 103 + 2 ^ 46)) refl
    (le_add (size_of pools n list) (pos (divisor n) *ℤ pos (2 ^ 103)) (pos (divisor n) *ℤ (pos 1 +ℤ sum_to (length n.low) (reach n.low n.high))) (pos (divisor n) *ℤ pos (2 ^ 46))
    (le_trans (size_of pools n list) (pos (2 ^ 127)) (pos (divisor n) *ℤ pos (2 ^ 103)) h (scale_least (divisor n) sd))
    (le_scale (divisor n) (pos 1 +ℤ sum_to (length n.low) (reach n.low n.high)) (pos (2 ^ 46)) k))
    (ring (pos (divisor n) ∷ pos (2 ^ 103) ∷ pos (2 ^ 46) ∷ []) (var 0 ⊗ var 1 ⊕ var 0 ⊗ var 2) (var 0 ⊗ (var 1 ⊕ var 2)) tt)))

pub length_table : (n : ℕ) (f : ℕ → ℤ) → length (table n f) ≡ n
length_table zero f = refl
length_table (suc n) f = ap suc (length_table n (λ j. f (suc j)))

multiple : (s q w : ℕ) → 0 < q → 0 < w → s ≤ s * q * w
multiple s zero w a b = absurd (omega arith)
multiple s (suc q) zero a b = absurd (omega arith)
multiple s (suc q) (suc w) a b = omega arith

pub size_to_fit : (pools : List (List Cut)) (n : Node) (list : List Certificate) → 0 < successor_weight n → 0 < realization_weight n → Narrow n → size_of pools n list ≤ℤ pos (2 ^ 127 - 1) → CutFits n (cut_of pools n list)
size_to_fit pools n list q w k h = record {
  slopes = length_table (length n.low) (slope n list);
  small = below (cut_size n (cut_of pools n list)) (small_cut pools n list (mul-pos (mul-pos scale_some q) w) (multiple S (successor_weight n) (realization_weight n) q w) (wider (size_of pools n list) h) k);
}
  where
    below : (a : ℤ) → a ≤ℤ pos (2 ^ 103 + 2 ^ 46) → a ≤ℤ pos (2 ^ 104)
    below a h = omega (arith, ints)

    wider : (a : ℤ) → a ≤ℤ pos (2 ^ 127 - 1) → a ≤ℤ pos (2 ^ 127)
    wider a h = omega (arith, ints)

pub size_to_fit_given : (pools : List (List Cut)) (ws : List ℕ) (n : Node) (list : List Certificate) → 0 < successor_weight n → 0 < realization_weight (with_weights ws n) → Narrow n → size_of pools (with_weights ws n) list ≤ℤ pos (2 ^ 127 - 1) → CutFits n (cut_of pools (with_weights ws n) list)
size_to_fit_given pools ws n list q w k h =
    let f : CutFits (with_weights ws n) (cut_of pools (with_weights ws n) list) = size_to_fit pools (with_weights ws n) list q w k h in
    record { slopes = f.slopes; small = f.small }
