-- The base cut of a node without successors, and its size.
use Rattle.std.proofs.lemmas.List.Elements.{All-nil}
use Rattle.std.proofs.Common.{All, ◌≡◌, ℕ, zero, suc, ◌*◌, ◌<◌, ℤ, pos, ◌+ℤ◌, ◌*ℤ◌, ◌-ℤ◌, ◌≤ℤ◌, List, [], ◌∷◌, length, map, zip, arith, refl, ap, ap₂, sym, ◌∙◌, subst, mul-pos}
use Rattle.std.proofs.lemmas.Int.{ints}
use Rattle.std.specs.Int.{int_min}
use lib.IntN.{zero-*ℤ, +ℤ_idr}
use Rattle.base_num.specs.Sums.{sum_to, total, entry, dot, at_terms, coefficient, placed, table, floor_over}
use Rattle.base_num.proofs.Floors.{floor_exact, floor_scaled}
use Rattle.base_num.proofs.Fronts.{sum_some, total-zip_map}
use Rattle.base_num.proofs.Order.{le_scale, least_l, least_r}
use Rattle.base_num.proofs.Ring.{ring, var, num, ◌⊕◌, ◌⊗◌, ⊖}
use Rattle.base_num.proofs.Sums.{sum_ext, sum_zero, sum_times, total_ext, total_times}
use Rattle.theory.specs.Base.{base_certificate, base_list}
use Rattle.theory.specs.CutOf.{side, scale, over_pairs, over_rows, reduced_cost, box_least, alpha_at, beta_at, alpha_sum, beta_sum, divisor, slope, remainder, cut_of}
use Rattle.theory.specs.Leaf.{least_stage, least_cost, stage_size, cost_size}
use Rattle.theory.specs.Pools.{Holds, pool}
use Rattle.theory.specs.Premises.{Shaped}
use Rattle.theory.specs.Problem.{S, Realization, Successor, Node, Problem, node_at, weight_of_realizations, realization_weight, successor_weight}
use Rattle.theory.specs.Size.{magnitude, magnitudes, terms_size, coefficient_size, reach, rows_size, reduced_size, alpha_size, beta_size, realization_size, remainder_size, size_of}
use Rattle.theory.proofs.Duality.{scale_some, weak_duality}
use Rattle.theory.proofs.SizeToFit.{size_add, size_total, size_sum, size_same, size_dot, lesser_by, size_box, size_scaled}
use Rattle.theory.proofs.SoundBase.{base_right}
use Rattle.problem.specs.declared.parts.Row.{Row}
use Rattle.theory.specs.declared.cut.Cut.{Cut}
use Rattle.theory.specs.declared.cut.Certificate.{Certificate}

-- the parts that fall away
pub successor_weight-leaf : (n : Node) → n.successors ≡ [] → successor_weight n ≡ 1
successor_weight-leaf n e = rw e refl

scale-leaf : (n : Node) → n.successors ≡ [] → scale n ≡ pos (S * S)
scale-leaf n e = ap (λ (q : ℕ). pos (S * S * q)) (successor_weight-leaf n e) ∙ one (S * S)
  where
    one : (s : ℕ) → pos (s * 1) ≡ pos s
    one s = omega (arith, ints)

divisor-leaf : (n : Node) → n.successors ≡ [] → divisor n ≡ S * realization_weight n
divisor-leaf n e = ap (λ (q : ℕ). S * q * realization_weight n) (successor_weight-leaf n e) ∙ one S (realization_weight n)
  where
    one : (s w : ℕ) → s * 1 * w ≡ s * w
    one s w = omega arith

over_pairs-leaf : (pools : List (List Cut)) (n : Node) (c : Certificate) (f : Cut → ℤ) → n.successors ≡ [] → over_pairs pools n c f ≡ pos 0
over_pairs-leaf pools n c f e = rw e refl

rows_none : (rows : List Row) (f : Row → ℤ → ℤ) → total (λ (q : Row × ℤ). q.1 *ℤ f q.0 q.1) (zip rows (map (λ (row : Row). pos 0) rows)) ≡ pos 0
rows_none [] f = refl
rows_none (r ∷ rs) f = ap₂ ◌+ℤ◌ (zero-*ℤ (f r (pos 0))) (rows_none rs f)

over_rows-base : (n : Node) (f : Row → ℤ → ℤ) → over_rows n (base_certificate n) f ≡ pos 0
over_rows-base n f = rows_none n.rows f

rows_size-base : (n : Node) (f : Row → ℤ → ℤ) → rows_size n (base_certificate n) f ≡ pos 0
rows_size-base n f = none n.rows
  where
    none : (rows : List Row) → total (λ (q : Row × ℤ). magnitude q.1 *ℤ f q.0 q.1) (zip rows (map (λ (row : Row). pos 0) rows)) ≡ pos 0
    none [] = refl
    none (r ∷ rs) = ap₂ ◌+ℤ◌ (zero-*ℤ (f r (pos 0))) (none rs)

-- a least value times a factor
min_scaled : (k : ℕ) (a b : ℤ) → int_min (pos k *ℤ a) (pos k *ℤ b) ≡ pos k *ℤ int_min a b
min_scaled k a b =
    both (int_min (pos k *ℤ a) (pos k *ℤ b)) (pos k *ℤ int_min a b)
    (lesser_by (λ z. int_min (pos k *ℤ a) (pos k *ℤ b) ≤ℤ (pos k *ℤ z)) a b (least_l (pos k *ℤ a) (pos k *ℤ b)) (least_r (pos k *ℤ a) (pos k *ℤ b)))
    (lesser_by (λ z. (pos k *ℤ int_min a b) ≤ℤ z) (pos k *ℤ a) (pos k *ℤ b) (le_scale k (int_min a b) a (least_l a b)) (le_scale k (int_min a b) b (least_r a b)))
  where
    both : (x y : ℤ) → x ≤ℤ y → y ≤ℤ x → x ≡ y
    both x y h i = omega (arith, ints)

-- one realization
reduced_cost-leaf : (pools : List (List Cut)) (n : Node) (j : ℕ) → n.successors ≡ [] → reduced_cost pools n (base_certificate n) j ≡ pos (S * S) *ℤ entry n.costs j
reduced_cost-leaf pools n j e =
    ap₂ (λ (a b : ℤ). a *ℤ entry n.costs j -ℤ pos S *ℤ b +ℤ over_pairs pools n (base_certificate n) (λ cut. coefficient (placed n.outs cut.beta) j)) (scale-leaf n e) (over_rows-base n (λ row y. coefficient row.decisions j))
    ∙ ap (λ (a : ℤ). pos (S * S) *ℤ entry n.costs j -ℤ pos S *ℤ pos 0 +ℤ a) (over_pairs-leaf pools n (base_certificate n) (λ cut. coefficient (placed n.outs cut.beta) j) e)
    ∙ ring (pos (S * S) ∷ entry n.costs j ∷ pos S ∷ []) (var 0 ⊗ var 1 ⊕ ⊖ (var 2 ⊗ num (pos 0)) ⊕ num (pos 0)) (var 0 ⊗ var 1) tt

least-leaf : (pools : List (List Cut)) (n : Node) (j : ℕ) → n.successors ≡ [] → box_least n j (reduced_cost pools n (base_certificate n) j) ≡ pos (S * S) *ℤ box_least n j (entry n.costs j)
least-leaf pools n j e =
    ap (box_least n j) (reduced_cost-leaf pools n j e)
    ∙ ap₂ int_min (ring (pos (S * S) ∷ entry n.costs j ∷ entry n.decision_low j ∷ []) (var 0 ⊗ var 1 ⊗ var 2) (var 0 ⊗ (var 1 ⊗ var 2)) tt) (ring (pos (S * S) ∷ entry n.costs j ∷ entry n.decision_high j ∷ []) (var 0 ⊗ var 1 ⊗ var 2) (var 0 ⊗ (var 1 ⊗ var 2)) tt)
    ∙ min_scaled (S * S) (entry n.costs j *ℤ entry n.decision_low j) (entry n.costs j *ℤ entry n.decision_high j)

pub alpha_at-leaf : (pools : List (List Cut)) (n : Node) (values : List ℤ) → n.successors ≡ [] → alpha_at pools n values (base_certificate n) ≡ pos (S * S) *ℤ least_stage n values
alpha_at-leaf pools n values e =
    let c : Certificate = base_certificate n in
    let a : ℤ = n.constant +ℤ dot n.random_costs values in
    let m : ℤ = sum_to (length n.costs) (λ j. box_least n j (entry n.costs j)) in
    ap₂ (λ (k l : ℤ). k *ℤ a +ℤ pos S *ℤ l +ℤ over_pairs pools n c (λ cut. cut.alpha) +ℤ sum_to (length n.costs) (λ j. box_least n j (reduced_cost pools n c j))) (scale-leaf n e) (over_rows-base n (λ row y. side row y -ℤ at_terms row.randoms (entry values)))
    ∙ ap₂ (λ (k l : ℤ). pos (S * S) *ℤ a +ℤ pos S *ℤ pos 0 +ℤ k +ℤ l) (over_pairs-leaf pools n c (λ cut. cut.alpha) e)
    (sum_ext (length n.costs) (λ j. box_least n j (reduced_cost pools n c j)) (λ j. pos (S * S) *ℤ box_least n j (entry n.costs j)) (λ j h. least-leaf pools n j e) ∙ sum_times (length n.costs) (pos (S * S)) (λ j. box_least n j (entry n.costs j)))
    ∙ ring (pos (S * S) ∷ a ∷ pos S ∷ m ∷ []) (var 0 ⊗ var 1 ⊕ var 2 ⊗ num (pos 0) ⊕ num (pos 0) ⊕ var 0 ⊗ var 3) (var 0 ⊗ (var 1 ⊕ var 3)) tt

pub beta_at-leaf : (n : Node) (k : ℕ) → n.successors ≡ [] → beta_at n (base_certificate n) k ≡ pos (S * S) *ℤ entry n.state_costs k
beta_at-leaf n k e =
    ap₂ (λ (a b : ℤ). a *ℤ entry n.state_costs k -ℤ pos S *ℤ b) (scale-leaf n e) (over_rows-base n (λ row y. coefficient row.states k))
    ∙ ring (pos (S * S) ∷ entry n.state_costs k ∷ pos S ∷ []) (var 0 ⊗ var 1 ⊕ ⊖ (var 2 ⊗ num (pos 0))) (var 0 ⊗ var 1) tt

-- all realizations
pub alpha_sum-leaf : (pools : List (List Cut)) (n : Node) → n.successors ≡ [] → alpha_sum pools n (base_list n) ≡ pos (S * S) *ℤ least_cost n
alpha_sum-leaf pools n e =
    total-zip_map (λ (q : Realization × Certificate). pos q.0.weight *ℤ alpha_at pools n q.0.values q.1) (λ r. base_certificate n) n.realizations
    ∙ total_ext (λ (r : Realization). pos r.weight *ℤ alpha_at pools n r.values (base_certificate n)) (λ (r : Realization). pos (S * S) *ℤ (pos r.weight *ℤ least_stage n r.values)) n.realizations
    (λ r. ap (λ (k : ℤ). pos r.weight *ℤ k) (alpha_at-leaf pools n r.values e) ∙ ring (pos r.weight ∷ pos (S * S) ∷ least_stage n r.values ∷ []) (var 0 ⊗ (var 1 ⊗ var 2)) (var 1 ⊗ (var 0 ⊗ var 2)) tt)
    ∙ total_times (pos (S * S)) (λ (r : Realization). pos r.weight *ℤ least_stage n r.values) n.realizations

weights_total : (rs : List Realization) (a : ℤ) → total (λ (r : Realization). pos r.weight *ℤ a) rs ≡ pos (weight_of_realizations rs) *ℤ a
weights_total [] a = sym (zero-*ℤ a)
weights_total (r ∷ rs) a = ap (λ (k : ℤ). pos r.weight *ℤ a +ℤ k) (weights_total rs a) ∙ ring (pos r.weight ∷ pos (weight_of_realizations rs) ∷ a ∷ []) (var 0 ⊗ var 2 ⊕ var 1 ⊗ var 2) ((var 0 ⊕ var 1) ⊗ var 2) tt

pub beta_sum-leaf : (n : Node) (k : ℕ) → n.successors ≡ [] → beta_sum n (base_list n) k ≡ pos (divisor n) *ℤ (pos S *ℤ entry n.state_costs k)
beta_sum-leaf n k e =
    let x : ℤ = entry n.state_costs k in
    total-zip_map (λ (q : Realization × Certificate). pos q.0.weight *ℤ beta_at n q.1 k) (λ r. base_certificate n) n.realizations
    ∙ weights_total n.realizations (beta_at n (base_certificate n) k)
    ∙ ap (λ (a : ℤ). pos (realization_weight n) *ℤ a) (beta_at-leaf n k e)
    ∙ ring (pos (realization_weight n) ∷ pos S ∷ x ∷ []) (var 0 ⊗ (var 1 ⊗ var 1 ⊗ var 2)) (var 1 ⊗ var 0 ⊗ (var 1 ⊗ var 2)) tt
    ∙ ap (λ (d : ℕ). pos d *ℤ (pos S *ℤ x)) (sym (divisor-leaf n e))

-- slopes, remainders and the first number
pub slope-leaf : (n : Node) (k : ℕ) → n.successors ≡ [] → 0 < realization_weight n → slope n (base_list n) k ≡ pos S *ℤ entry n.state_costs k
slope-leaf n k e w =
    ap (λ (b : ℤ). floor_over b (divisor n)) (beta_sum-leaf n k e)
    ∙ floor_exact (divisor n) (pos S *ℤ entry n.state_costs k) (subst (λ (d : ℕ). 0 < d) (sym (divisor-leaf n e)) (mul-pos scale_some w))

pub remainder-leaf : (n : Node) (k : ℕ) → n.successors ≡ [] → 0 < realization_weight n → remainder n (base_list n) k ≡ pos 0
remainder-leaf n k e w =
    ap₂ (λ (b q : ℤ). b -ℤ pos (divisor n) *ℤ q) (beta_sum-leaf n k e) (slope-leaf n k e w)
    ∙ none (pos (divisor n) *ℤ (pos S *ℤ entry n.state_costs k))
  where
    none : (a : ℤ) → a -ℤ a ≡ pos 0
    none a = omega (arith, ints)

pub alpha-leaf : (pools : List (List Cut)) (n : Node) → n.successors ≡ [] → 0 < realization_weight n → (cut_of pools n (base_list n)).alpha ≡ floor_over (pos S *ℤ least_cost n) (realization_weight n)
alpha-leaf pools n e w =
    let none : sum_to (length n.low) (λ k. remainder n (base_list n) k *ℤ entry n.low k) ≡ pos 0 =
    sum_zero (length n.low) (λ k. remainder n (base_list n) k *ℤ entry n.low k) (λ k h. ap (λ (r : ℤ). r *ℤ entry n.low k) (remainder-leaf n k e w) ∙ zero-*ℤ (entry n.low k)) in
    ap₂ (λ (a r : ℤ). floor_over (a +ℤ r) (divisor n)) (alpha_sum-leaf pools n e) none
    ∙ ap₂ floor_over (ring (pos S ∷ least_cost n ∷ []) (var 0 ⊗ var 0 ⊗ var 1 ⊕ num (pos 0)) (var 0 ⊗ (var 0 ⊗ var 1)) tt) (divisor-leaf n e)
    ∙ floor_scaled S (realization_weight n) (pos S *ℤ least_cost n) scale_some w

table_ext : (n : ℕ) (f g : ℕ → ℤ) → ((k : ℕ) → f k ≡ g k) → table n f ≡ table n g
table_ext zero f g h = refl
table_ext (suc n) f g h = ap₂ ◌∷◌ (h 0) (table_ext n (λ j. f (suc j)) (λ j. g (suc j)) (λ k. h (suc k)))

pub beta-leaf : (pools : List (List Cut)) (n : Node) → n.successors ≡ [] → 0 < realization_weight n → (cut_of pools n (base_list n)).beta ≡ table (length n.low) (λ k. pos S *ℤ entry n.state_costs k)
beta-leaf pools n e w = table_ext (length n.low) (slope n (base_list n)) (λ k. pos S *ℤ entry n.state_costs k) (λ k. slope-leaf n k e w)

-- the base cut as a whole
pub cut-leaf : (pools : List (List Cut)) (n : Node) → n.successors ≡ [] → 0 < realization_weight n → cut_of pools n (base_list n) ≡ record { alpha = floor_over (pos S *ℤ least_cost n) (realization_weight n); beta = table (length n.low) (λ k. pos S *ℤ entry n.state_costs k) }
cut-leaf pools n e w = ap₂ (λ (a : ℤ) (b : List ℤ). record { alpha = a; beta = b }) (alpha-leaf pools n e w) (beta-leaf pools n e w)

-- sizes
reduced_size-leaf : (pools : List (List Cut)) (n : Node) (j : ℕ) → n.successors ≡ [] → reduced_size pools n (base_certificate n) j ≡ pos (S * S) *ℤ magnitude (entry n.costs j)
reduced_size-leaf pools n j e =
    ap₂ (λ (a b : ℤ). a *ℤ magnitude (entry n.costs j) +ℤ pos S *ℤ b +ℤ over_pairs pools n (base_certificate n) (λ cut. coefficient_size (placed n.outs cut.beta) j)) (scale-leaf n e) (rows_size-base n (λ row y. magnitude (coefficient row.decisions j)))
    ∙ ap (λ (a : ℤ). pos (S * S) *ℤ magnitude (entry n.costs j) +ℤ pos S *ℤ pos 0 +ℤ a) (over_pairs-leaf pools n (base_certificate n) (λ cut. coefficient_size (placed n.outs cut.beta) j) e)
    ∙ ring (pos (S * S) ∷ magnitude (entry n.costs j) ∷ pos S ∷ []) (var 0 ⊗ var 1 ⊕ var 2 ⊗ num (pos 0) ⊕ num (pos 0)) (var 0 ⊗ var 1) tt

beta_size-leaf : (n : Node) (k : ℕ) → n.successors ≡ [] → beta_size n (base_certificate n) k ≡ pos (S * S) *ℤ magnitude (entry n.state_costs k)
beta_size-leaf n k e =
    ap₂ (λ (a b : ℤ). a *ℤ magnitude (entry n.state_costs k) +ℤ pos S *ℤ b) (scale-leaf n e) (rows_size-base n (λ row y. magnitude (coefficient row.states k)))
    ∙ ring (pos (S * S) ∷ magnitude (entry n.state_costs k) ∷ pos S ∷ []) (var 0 ⊗ var 1 ⊕ var 2 ⊗ num (pos 0)) (var 0 ⊗ var 1) tt

-- a sum of reaches times sizes that have a common factor
reaches : (n : ℕ) (s : ℤ) (m f g : ℕ → ℤ) → ((k : ℕ) → f k ≡ s *ℤ g k) → sum_to n (λ k. m k *ℤ f k) ≡ s *ℤ sum_to n (λ k. m k *ℤ g k)
reaches n s m f g h =
    sum_ext n (λ k. m k *ℤ f k) (λ k. s *ℤ (m k *ℤ g k)) (λ k p. ap (λ (x : ℤ). m k *ℤ x) (h k) ∙ ring (m k ∷ s ∷ g k ∷ []) (var 0 ⊗ (var 1 ⊗ var 2)) (var 1 ⊗ (var 0 ⊗ var 2)) tt)
    ∙ sum_times n s (λ k. m k *ℤ g k)

alpha_size-leaf : (pools : List (List Cut)) (n : Node) (values : List ℤ) → n.successors ≡ []
    → alpha_size pools n values (base_certificate n) ≡ pos (S * S) *ℤ (magnitude n.constant +ℤ dot (magnitudes n.random_costs) (magnitudes values) +ℤ sum_to (length n.costs) (λ j. reach n.decision_low n.decision_high j *ℤ magnitude (entry n.costs j)))
alpha_size-leaf pools n values e =
    let c : Certificate = base_certificate n in
    let a : ℤ = magnitude n.constant +ℤ dot (magnitudes n.random_costs) (magnitudes values) in
    let m : ℤ = sum_to (length n.costs) (λ j. reach n.decision_low n.decision_high j *ℤ magnitude (entry n.costs j)) in
    ap₂ (λ (k l : ℤ). k *ℤ a +ℤ pos S *ℤ l +ℤ over_pairs pools n c (λ cut. magnitude cut.alpha) +ℤ sum_to (length n.costs) (λ j. reach n.decision_low n.decision_high j *ℤ reduced_size pools n c j)) (scale-leaf n e) (rows_size-base n (λ row y. magnitude (side row y) +ℤ terms_size row.randoms (entry values)))
    ∙ ap₂ (λ (k l : ℤ). pos (S * S) *ℤ a +ℤ pos S *ℤ pos 0 +ℤ k +ℤ l) (over_pairs-leaf pools n c (λ cut. magnitude cut.alpha) e)
    (reaches (length n.costs) (pos (S * S)) (reach n.decision_low n.decision_high) (reduced_size pools n c) (λ j. magnitude (entry n.costs j)) (λ j. reduced_size-leaf pools n j e))
    ∙ ring (pos (S * S) ∷ a ∷ pos S ∷ m ∷ []) (var 0 ⊗ var 1 ⊕ var 2 ⊗ num (pos 0) ⊕ num (pos 0) ⊕ var 0 ⊗ var 3) (var 0 ⊗ (var 1 ⊕ var 3)) tt

pub realization_size-leaf : (pools : List (List Cut)) (n : Node) (r : Realization) → n.successors ≡ [] → realization_size pools n (r, base_certificate n) ≡ pos (S * S) *ℤ (pos r.weight *ℤ stage_size n r.values)
realization_size-leaf pools n r e =
    let a : ℤ = magnitude n.constant +ℤ dot (magnitudes n.random_costs) (magnitudes r.values) +ℤ sum_to (length n.costs) (λ j. reach n.decision_low n.decision_high j *ℤ magnitude (entry n.costs j)) in
    let b : ℤ = sum_to (length n.low) (λ k. reach n.low n.high k *ℤ magnitude (entry n.state_costs k)) in
    ap₂ (λ (x y : ℤ). pos r.weight *ℤ (x +ℤ y)) (alpha_size-leaf pools n r.values e)
    (reaches (length n.low) (pos (S * S)) (reach n.low n.high) (beta_size n (base_certificate n)) (λ k. magnitude (entry n.state_costs k)) (λ k. beta_size-leaf n k e))
    ∙ ring (pos r.weight ∷ pos (S * S) ∷ a ∷ b ∷ []) (var 0 ⊗ (var 1 ⊗ var 2 ⊕ var 1 ⊗ var 3)) (var 1 ⊗ (var 0 ⊗ (var 2 ⊕ var 3))) tt

pub remainder_size-leaf : (n : Node) → n.successors ≡ [] → 0 < realization_weight n → remainder_size n (base_list n) ≡ pos 0
remainder_size-leaf n e w = sum_zero (length n.low) (λ k. remainder n (base_list n) k *ℤ magnitude (entry n.low k)) (λ k h. ap (λ (r : ℤ). r *ℤ magnitude (entry n.low k)) (remainder-leaf n k e w) ∙ zero-*ℤ (magnitude (entry n.low k)))

pub size-leaf : (pools : List (List Cut)) (n : Node) → n.successors ≡ [] → 0 < realization_weight n → size_of pools n (base_list n) ≡ pos (S * S) *ℤ cost_size n
size-leaf pools n e w =
    ap₂ ◌+ℤ◌
    (total-zip_map (realization_size pools n) (λ r. base_certificate n) n.realizations
    ∙ total_ext (λ (r : Realization). realization_size pools n (r, base_certificate n)) (λ (r : Realization). pos (S * S) *ℤ (pos r.weight *ℤ stage_size n r.values)) n.realizations (λ r. realization_size-leaf pools n r e)
    ∙ total_times (pos (S * S)) (λ (r : Realization). pos r.weight *ℤ stage_size n r.values) n.realizations)
    (remainder_size-leaf n e w)
    ∙ +ℤ_idr (pos (S * S) *ℤ cost_size n)

-- the least cost is within its size
least_stage_size : (n : Node) (values : List ℤ) → magnitude (least_stage n values) ≤ℤ stage_size n values
least_stage_size n values =
    let a : ℤ = n.constant +ℤ dot n.random_costs values in
    let m : ℤ = sum_to (length n.costs) (λ j. box_least n j (entry n.costs j)) in
    let x : ℤ = magnitude n.constant +ℤ dot (magnitudes n.random_costs) (magnitudes values) in
    let y : ℤ = sum_to (length n.costs) (λ j. reach n.decision_low n.decision_high j *ℤ magnitude (entry n.costs j)) in
    let z : ℤ = sum_to (length n.low) (λ k. reach n.low n.high k *ℤ magnitude (entry n.state_costs k)) in
    more (magnitude (a +ℤ m)) (x +ℤ y) z
    (size_add a m x y (size_add n.constant (dot n.random_costs values) (magnitude n.constant) (dot (magnitudes n.random_costs) (magnitudes values)) (size_same n.constant) (size_dot n.random_costs values))
    (size_sum (length n.costs) (λ j. box_least n j (entry n.costs j)) (λ j. reach n.decision_low n.decision_high j *ℤ magnitude (entry n.costs j)) (λ j. size_box n.decision_low n.decision_high j (entry n.costs j) (magnitude (entry n.costs j)) (size_same (entry n.costs j)))))
    (sum_some (length n.low) (λ k. reach n.low n.high k *ℤ magnitude (entry n.state_costs k)) (λ k. omega (arith, ints)))
  where
    more : (p q z : ℤ) → p ≤ℤ q → pos 0 ≤ℤ z → p ≤ℤ (q +ℤ z)
    more p q z h i = omega (arith, ints)

pub least_cost_size : (n : Node) → magnitude (least_cost n) ≤ℤ cost_size n
least_cost_size n = size_total (λ (r : Realization). pos r.weight *ℤ least_stage n r.values) (λ (r : Realization). pos r.weight *ℤ stage_size n r.values) n.realizations (λ r. size_scaled r.weight (least_stage n r.values) (stage_size n r.values) (least_stage_size n r.values))

pub least_cost_within : (pools : List (List Cut)) (n : Node) → n.successors ≡ [] → 0 < realization_weight n → (pos (S * S) *ℤ magnitude (least_cost n)) ≤ℤ size_of pools n (base_list n)
least_cost_within pools n e w = subst (λ (z : ℤ). (pos (S * S) *ℤ magnitude (least_cost n)) ≤ℤ z) (sym (size-leaf pools n e w)) (le_scale (S * S) (magnitude (least_cost n)) (cost_size n) (least_cost_size n))

-- it holds, whatever the pools
pub holds-leaf : (p : Problem) (pools : List (List Cut)) (m : ℕ) → (node_at p m).successors ≡ [] → Shaped p (node_at p m) → Holds p m (cut_of pools (node_at p m) (base_list (node_at p m)))
holds-leaf p pools m e sh =
    let n : Node = node_at p m in
    subst (Holds p m) (cut-leaf [] n e sh.realizations ∙ sym (cut-leaf pools n e sh.realizations))
    (weak_duality p [] m (base_list n) sh (λ k. All-nil (Holds p k)) (base_right [] n (subst (λ (ls : List Successor). All (λ (l : Successor). (0 < l.weight) × (0 < length (pool [] l.node))) ls) (sym e) (All-nil (λ (l : Successor). (0 < l.weight) × (0 < length (pool [] l.node)))))))
