-- Base cuts are 0 where decisions cost nothing at their least values and never less; where costs are small, sizes are in range.
use Rattle.std.proofs.Common.{◌≡◌, ℕ, zero, suc, ◌*◌, ◌^◌, ◌-◌, ◌<◌, ◌⊎◌, inl, inr, ℤ, pos, ◌+ℤ◌, ◌-ℤ◌, ◌*ℤ◌, ◌≤ℤ◌, List, [], ◌∷◌, ◌++◌, length, map, zip, get_or, set, replicate, Option, None, Ok, refl, sym, ap, ap₂, subst, ◌∙◌, arith}
use Rattle.std.specs.Int.{int_min}
use Rattle.std.proofs.lemmas.Int.{ints, clamps}
use lib.IntN.{zero-*ℤ}
use Rattle.base_num.specs.Sums.{sum_to, total, entry, dot, coefficient, placed, table, floor_over, same_place, at_terms}
use Rattle.base_num.proofs.Floors.{floor_exact}
use Rattle.base_num.proofs.Fronts.{total-zip_map}
use Rattle.base_num.proofs.Order.{le_scale}
use Rattle.base_num.proofs.Ring.{ring, var, num, ◌⊕◌, ◌⊗◌, ⊖}
use Rattle.base_num.proofs.Sums.{sum_ext, sum_zero, sum_times, total_ext}
use Rattle.problem.specs.declared.parts.Row.{Row}
use Rattle.theory.specs.declared.cut.Cut.{Cut}
use Rattle.theory.specs.declared.cut.Certificate.{Certificate}
use Rattle.theory.specs.Base.{base_certificate, base_list}
use Rattle.theory.specs.Certificates.{cut_at}
use Rattle.theory.specs.CutOf.{scale, over_pairs, over_rows, reduced_cost, box_least, alpha_at, beta_at, alpha_sum, beta_sum, divisor, slope, remainder, cut_of, side}
use Rattle.theory.specs.Pools.{pool, no_cut, push}
use Rattle.theory.specs.Problem.{S, Realization, Successor, Node, Problem, no_node, node_at, weight_of_realizations, realization_weight, successor_weight}
use Rattle.theory.specs.Range.{range_of, unless, base_from}
use Rattle.theory.specs.Size.{magnitude, magnitudes, terms_size, coefficient_size, reach, rows_size, reduced_size, alpha_size, beta_size, realization_size, remainder_size, size_of}
use Rattle.theory.proofs.Ranges.{none-range_of, some_mul}

-- ---- cuts that are 0

pub record Zero (c : Cut) : Type 0 where
  pub alpha : c.alpha ≡ pos 0
  pub beta : (k : ℕ) → entry c.beta k ≡ pos 0

pub record ZeroPools (pools : List (List Cut)) : Type 0 where
  pub each : (m i : ℕ) → Zero (get_or (pool pools m) i no_cut)

no_cut_zero : Zero no_cut
no_cut_zero = record { alpha = refl; beta = λ k. refl }

empty_pool : (n m : ℕ) → get_or {A = List Cut} (replicate n []) m [] ≡ []
empty_pool zero m = refl
empty_pool (suc n) zero = refl
empty_pool (suc n) (suc m) = empty_pool n m

pub no_cuts_zero : (n : ℕ) → ZeroPools (replicate n [])
no_cuts_zero n = record { each = λ m i. subst (λ (cs : List Cut). Zero (get_or cs i no_cut)) (sym (empty_pool n m)) no_cut_zero }

with_cut : (cs : List Cut) (c : Cut) → ((i : ℕ) → Zero (get_or cs i no_cut)) → Zero c → (i : ℕ) → Zero (get_or (cs ++ c ∷ []) i no_cut)
with_cut [] c h z zero = z
with_cut [] c h z (suc i) = no_cut_zero
with_cut (d ∷ cs) c h z zero = h 0
with_cut (d ∷ cs) c h z (suc i) = with_cut cs c (λ k. h (suc k)) z i

either_pool : (pools : List (List Cut)) (m k : ℕ) (cs : List Cut) → (get_or (set pools m cs) k [] ≡ cs) ⊎ (get_or (set pools m cs) k [] ≡ get_or pools k [])
either_pool [] m k cs = inr refl
either_pool (p ∷ pools) zero zero cs = inl refl
either_pool (p ∷ pools) zero (suc k) cs = inr refl
either_pool (p ∷ pools) (suc m) zero cs = inr refl
either_pool (p ∷ pools) (suc m) (suc k) cs = either_pool pools m k cs

by_pool : (pools : List (List Cut)) (cs ds : List Cut) (k i : ℕ) → (ds ≡ cs) ⊎ (ds ≡ get_or pools k []) → ((j : ℕ) → Zero (get_or cs j no_cut)) → ZeroPools pools → Zero (get_or ds i no_cut)
by_pool pools cs ds k i (inl e) h z = rw e (h i)
by_pool pools cs ds k i (inr e) h z = rw e (z.each k i)

pub push_zero : (pools : List (List Cut)) (m : ℕ) (c : Cut) → ZeroPools pools → Zero c → ZeroPools (push pools m c)
push_zero pools m c z p =
    record { each = λ k i. by_pool pools (pool pools m ++ c ∷ []) (pool (push pools m c) k) k i (either_pool pools m k (pool pools m ++ c ∷ [])) (with_cut (pool pools m) c (z.each m) p) z }

-- ---- sums that are 0

times_zero : (a : ℤ) → a *ℤ pos 0 ≡ pos 0
times_zero a = omega (arith, ints)

total_zero : {A : Type 0} (f : A → ℤ) (xs : List A) → ((x : A) → f x ≡ pos 0) → total f xs ≡ pos 0
total_zero f [] h = refl
total_zero f (x ∷ xs) h = rw (h x, total_zero f xs h) refl

placed_zero : (ps : List ℕ) (xs : List ℤ) (j : ℕ) → ((k : ℕ) → entry xs k ≡ pos 0) → coefficient (placed ps xs) j ≡ pos 0
placed_zero [] xs j h = refl
placed_zero (p ∷ ps) [] j h = refl
placed_zero (p ∷ ps) (x ∷ xs) j h = ap₂ ◌+ℤ◌ (ap (λ (z : ℤ). z *ℤ same_place p j) (h 0) ∙ zero-*ℤ (same_place p j)) (placed_zero ps xs j (λ k. h (suc k)))

placed_small : (ps : List ℕ) (xs : List ℤ) (j : ℕ) → ((k : ℕ) → entry xs k ≡ pos 0) → coefficient_size (placed ps xs) j ≡ pos 0
placed_small [] xs j h = refl
placed_small (p ∷ ps) [] j h = refl
placed_small (p ∷ ps) (x ∷ xs) j h = ap₂ ◌+ℤ◌ (ap (λ (z : ℤ). magnitude z *ℤ same_place p j) (h 0) ∙ zero-*ℤ (same_place p j)) (placed_small ps xs j (λ k. h (suc k)))

module _ (pools : List (List Cut)) (z : ZeroPools pools) where
  pairs_zero : (n : Node) (c : Certificate) (f : Cut → ℤ) → ((cut : Cut) → Zero cut → f cut ≡ pos 0) → over_pairs pools n c f ≡ pos 0
  pairs_zero n c f h =
      total_zero (λ (q : Successor × List (ℕ × ℕ)). total (λ (s : ℕ × ℕ). pos s.1 *ℤ f (cut_at pools q.0 s)) q.1) (zip n.successors c.cuts)
      (λ q. total_zero (λ (s : ℕ × ℕ). pos s.1 *ℤ f (cut_at pools q.0 s)) q.1 (λ s. ap (λ (y : ℤ). pos s.1 *ℤ y) (h (cut_at pools q.0 s) (z.each q.0.node s.0)) ∙ times_zero (pos s.1)))

rows_zero : (rows : List Row) (f : Row → ℤ → ℤ) → total (λ (q : Row × ℤ). q.1 *ℤ f q.0 q.1) (zip rows (map (λ (row : Row). pos 0) rows)) ≡ pos 0
rows_zero [] f = refl
rows_zero (r ∷ rs) f = ap₂ ◌+ℤ◌ (zero-*ℤ (f r (pos 0))) (rows_zero rs f)

rows_small : (rows : List Row) (f : Row → ℤ → ℤ) → total (λ (q : Row × ℤ). magnitude q.1 *ℤ f q.0 q.1) (zip rows (map (λ (row : Row). pos 0) rows)) ≡ pos 0
rows_small [] f = refl
rows_small (r ∷ rs) f = ap₂ ◌+ℤ◌ (zero-*ℤ (f r (pos 0))) (rows_small rs f)

-- ---- nodes that cost at least 0, where no decision costs at its least value

pub record Tame (n : Node) : Type 0 where
  pub constant : n.constant ≡ pos 0
  pub randoms : (values : List ℤ) → dot n.random_costs values ≡ pos 0
  pub randoms_small : (values : List ℤ) → dot (magnitudes n.random_costs) values ≡ pos 0
  pub states : (k : ℕ) → entry n.state_costs k ≡ pos 0
  pub lows : (j : ℕ) → entry n.costs j *ℤ entry n.decision_low j ≡ pos 0
  pub highs : (j : ℕ) → pos 0 ≤ℤ entry n.decision_high j
  pub costs : (j : ℕ) → pos 0 ≤ℤ entry n.costs j
  pub weights : 0 < divisor n
  pub fits : (pos (realization_weight n * (S * S * successor_weight n)) *ℤ sum_to (length n.costs) (λ j. reach n.decision_low n.decision_high j *ℤ magnitude (entry n.costs j))) ≤ℤ pos (2 ^ 127 - 1)

over_rows_zero : (n : Node) (f : Row → ℤ → ℤ) → over_rows n (base_certificate n) f ≡ pos 0
over_rows_zero n f = rows_zero n.rows f

rows_size_zero : (n : Node) (f : Row → ℤ → ℤ) → rows_size n (base_certificate n) f ≡ pos 0
rows_size_zero n f = rows_small n.rows f

lesser : (x : ℤ) → pos 0 ≤ℤ x → int_min (pos 0) x ≡ pos 0
lesser x r = omega (arith, ints, clamps)

-- a variable that costs nothing at its least value and at least 0 anywhere
least_zero : (k : ℕ) (c l h : ℤ) → c *ℤ l ≡ pos 0 → pos 0 ≤ℤ c → pos 0 ≤ℤ h → int_min (pos k *ℤ c *ℤ l) (pos k *ℤ c *ℤ h) ≡ pos 0
least_zero k c l h e p q =
    let some : pos 0 ≤ℤ (pos k *ℤ c) = subst (λ (x : ℤ). x ≤ℤ (pos k *ℤ c)) (times_zero (pos k)) (le_scale k (pos 0) c p) in
    let r : pos 0 ≤ℤ (pos k *ℤ c *ℤ h) = some_mul (pos k *ℤ c) h some q in
    let o : pos k *ℤ c *ℤ l ≡ pos 0 = ring (pos k ∷ c ∷ l ∷ []) (var 0 ⊗ var 1 ⊗ var 2) (var 0 ⊗ (var 1 ⊗ var 2)) tt ∙ ap (λ (x : ℤ). pos k *ℤ x) e ∙ times_zero (pos k) in
    ap (λ (x : ℤ). int_min x (pos k *ℤ c *ℤ h)) o ∙ lesser (pos k *ℤ c *ℤ h) r

table_zero : (n : ℕ) (f : ℕ → ℤ) → ((k : ℕ) → f k ≡ pos 0) → (k : ℕ) → entry (table n f) k ≡ pos 0
table_zero zero f h k = refl
table_zero (suc n) f h zero = h 0
table_zero (suc n) f h (suc k) = table_zero n (λ j. f (suc j)) (λ j. h (suc j)) k

zero_floor : (d : ℕ) → 0 < d → floor_over (pos 0) d ≡ pos 0
zero_floor d h = ap (λ (a : ℤ). floor_over a d) (sym (times_zero (pos d))) ∙ floor_exact d (pos 0) h

module _ (pools : List (List Cut)) (z : ZeroPools pools) (n : Node) (t : Tame n) where
  abbrev base : Certificate
  base = base_certificate n

  cost_is : (j : ℕ) → reduced_cost pools n base j ≡ scale n *ℤ entry n.costs j
  cost_is j =
      ap₂ (λ (a b : ℤ). scale n *ℤ entry n.costs j -ℤ pos S *ℤ a +ℤ b) (over_rows_zero n (λ row y. coefficient row.decisions j)) (pairs_zero pools z n base (λ cut. coefficient (placed n.outs cut.beta) j) (λ cut q. placed_zero n.outs cut.beta j q.beta))
      ∙ ring (scale n ∷ entry n.costs j ∷ pos S ∷ []) (var 0 ⊗ var 1 ⊕ ⊖ (var 2 ⊗ num (pos 0)) ⊕ num (pos 0)) (var 0 ⊗ var 1) tt

  least_is : (j : ℕ) → box_least n j (reduced_cost pools n base j) ≡ pos 0
  least_is j =
      ap (box_least n j) (cost_is j) ∙ least_zero (S * S * successor_weight n) (entry n.costs j) (entry n.decision_low j) (entry n.decision_high j) (t.lows j) (t.costs j) (t.highs j)

  alpha_zero : (values : List ℤ) → alpha_at pools n values base ≡ pos 0
  alpha_zero values =
      ap₂ (λ (a b : ℤ). scale n *ℤ (a +ℤ b) +ℤ pos S *ℤ over_rows n base (λ row y. side row y -ℤ at_terms row.randoms (entry values)) +ℤ over_pairs pools n base (λ cut. cut.alpha) +ℤ sum_to (length n.costs) (λ j. box_least n j (reduced_cost pools n base j))) t.constant (t.randoms values)
      ∙ ap₂ (λ (a b : ℤ). scale n *ℤ (pos 0 +ℤ pos 0) +ℤ pos S *ℤ a +ℤ b +ℤ sum_to (length n.costs) (λ j. box_least n j (reduced_cost pools n base j))) (over_rows_zero n (λ row y. side row y -ℤ at_terms row.randoms (entry values))) (pairs_zero pools z n base (λ cut. cut.alpha) (λ cut q. q.alpha))
      ∙ ap (λ (a : ℤ). scale n *ℤ (pos 0 +ℤ pos 0) +ℤ pos S *ℤ pos 0 +ℤ pos 0 +ℤ a) (sum_zero (length n.costs) (λ j. box_least n j (reduced_cost pools n base j)) (λ j h. least_is j))
      ∙ ring (scale n ∷ pos S ∷ []) (var 0 ⊗ (num (pos 0) ⊕ num (pos 0)) ⊕ var 1 ⊗ num (pos 0) ⊕ num (pos 0) ⊕ num (pos 0)) (num (pos 0)) tt

  beta_zero : (k : ℕ) → beta_at n base k ≡ pos 0
  beta_zero k =
      ap₂ (λ (a b : ℤ). scale n *ℤ a -ℤ pos S *ℤ b) (t.states k) (over_rows_zero n (λ row y. coefficient row.states k))
      ∙ ring (scale n ∷ pos S ∷ []) (var 0 ⊗ num (pos 0) ⊕ ⊖ (var 1 ⊗ num (pos 0))) (num (pos 0)) tt

  alpha_sum_zero : alpha_sum pools n (base_list n) ≡ pos 0
  alpha_sum_zero =
      total-zip_map (λ (q : Realization × Certificate). pos q.0.weight *ℤ alpha_at pools n q.0.values q.1) (λ r. base) n.realizations
      ∙ total_zero (λ (r : Realization). pos r.weight *ℤ alpha_at pools n r.values base) n.realizations (λ r. ap (λ (x : ℤ). pos r.weight *ℤ x) (alpha_zero r.values) ∙ times_zero (pos r.weight))

  beta_sum_zero : (k : ℕ) → beta_sum n (base_list n) k ≡ pos 0
  beta_sum_zero k =
      total-zip_map (λ (q : Realization × Certificate). pos q.0.weight *ℤ beta_at n q.1 k) (λ r. base) n.realizations
      ∙ total_zero (λ (r : Realization). pos r.weight *ℤ beta_at n base k) n.realizations (λ r. ap (λ (x : ℤ). pos r.weight *ℤ x) (beta_zero k) ∙ times_zero (pos r.weight))

  slope_zero : (k : ℕ) → slope n (base_list n) k ≡ pos 0
  slope_zero k = ap (λ (a : ℤ). floor_over a (divisor n)) (beta_sum_zero k) ∙ zero_floor (divisor n) t.weights

  remainder_zero : (k : ℕ) → remainder n (base_list n) k ≡ pos 0
  remainder_zero k =
      ap₂ (λ (a b : ℤ). a -ℤ pos (divisor n) *ℤ b) (beta_sum_zero k) (slope_zero k)
      ∙ ring (pos (divisor n) ∷ []) (num (pos 0) ⊕ ⊖ (var 0 ⊗ num (pos 0))) (num (pos 0)) tt

  pub cut_zero : Zero (cut_of pools n (base_list n))
  cut_zero = record {
    alpha =
        ap₂ (λ (a b : ℤ). floor_over (a +ℤ b) (divisor n)) alpha_sum_zero
        (sum_zero (length n.low) (λ k. remainder n (base_list n) k *ℤ entry n.low k) (λ k h. ap (λ (x : ℤ). x *ℤ entry n.low k) (remainder_zero k) ∙ zero-*ℤ (entry n.low k)))
        ∙ zero_floor (divisor n) t.weights;
    beta = table_zero (length n.low) (slope n (base_list n)) slope_zero;
  }

  -- ---- sizes

  abbrev costs_size : ℤ
  costs_size = sum_to (length n.costs) (λ j. reach n.decision_low n.decision_high j *ℤ magnitude (entry n.costs j))

  reduced_is : (j : ℕ) → reduced_size pools n base j ≡ scale n *ℤ magnitude (entry n.costs j)
  reduced_is j =
      ap₂ (λ (a b : ℤ). scale n *ℤ magnitude (entry n.costs j) +ℤ pos S *ℤ a +ℤ b) (rows_size_zero n (λ row y. magnitude (coefficient row.decisions j))) (pairs_zero pools z n base (λ cut. coefficient_size (placed n.outs cut.beta) j) (λ cut q. placed_small n.outs cut.beta j q.beta))
      ∙ ring (scale n ∷ magnitude (entry n.costs j) ∷ pos S ∷ []) (var 0 ⊗ var 1 ⊕ var 2 ⊗ num (pos 0) ⊕ num (pos 0)) (var 0 ⊗ var 1) tt

  reaches_are : sum_to (length n.costs) (λ j. reach n.decision_low n.decision_high j *ℤ reduced_size pools n base j) ≡ scale n *ℤ costs_size
  reaches_are =
      sum_ext (length n.costs) (λ j. reach n.decision_low n.decision_high j *ℤ reduced_size pools n base j) (λ j. scale n *ℤ (reach n.decision_low n.decision_high j *ℤ magnitude (entry n.costs j)))
      (λ j h. ap (λ (x : ℤ). reach n.decision_low n.decision_high j *ℤ x) (reduced_is j) ∙ ring (reach n.decision_low n.decision_high j ∷ scale n ∷ magnitude (entry n.costs j) ∷ []) (var 0 ⊗ (var 1 ⊗ var 2)) (var 1 ⊗ (var 0 ⊗ var 2)) tt)
      ∙ sum_times (length n.costs) (scale n) (λ j. reach n.decision_low n.decision_high j *ℤ magnitude (entry n.costs j))

  alpha_size_is : (values : List ℤ) → alpha_size pools n values base ≡ scale n *ℤ costs_size
  alpha_size_is values =
      let most = λ (k : ℤ). k +ℤ pos S *ℤ rows_size n base (λ row y. magnitude (side row y) +ℤ terms_size row.randoms (entry values)) +ℤ over_pairs pools n base (λ cut. magnitude cut.alpha) +ℤ sum_to (length n.costs) (λ j. reach n.decision_low n.decision_high j *ℤ reduced_size pools n base j) in
      ap₂ (λ (a b : ℤ). most (scale n *ℤ (magnitude a +ℤ b))) t.constant (t.randoms_small (magnitudes values))
      ∙ ap₂ (λ (a b : ℤ). scale n *ℤ (pos 0 +ℤ pos 0) +ℤ pos S *ℤ a +ℤ b +ℤ sum_to (length n.costs) (λ j. reach n.decision_low n.decision_high j *ℤ reduced_size pools n base j)) (rows_size_zero n (λ row y. magnitude (side row y) +ℤ terms_size row.randoms (entry values))) (pairs_zero pools z n base (λ cut. magnitude cut.alpha) (λ cut q. ap magnitude q.alpha))
      ∙ ap (λ (a : ℤ). scale n *ℤ (pos 0 +ℤ pos 0) +ℤ pos S *ℤ pos 0 +ℤ pos 0 +ℤ a) reaches_are
      ∙ ring (scale n ∷ pos S ∷ costs_size ∷ []) (var 0 ⊗ (num (pos 0) ⊕ num (pos 0)) ⊕ var 1 ⊗ num (pos 0) ⊕ num (pos 0) ⊕ var 0 ⊗ var 2) (var 0 ⊗ var 2) tt

  beta_size_zero : (k : ℕ) → beta_size n base k ≡ pos 0
  beta_size_zero k =
      ap₂ (λ (a b : ℤ). scale n *ℤ magnitude a +ℤ pos S *ℤ b) (t.states k) (rows_size_zero n (λ row y. magnitude (coefficient row.states k)))
      ∙ ring (scale n ∷ pos S ∷ []) (var 0 ⊗ num (pos 0) ⊕ var 1 ⊗ num (pos 0)) (num (pos 0)) tt

  realization_is : (r : Realization) → realization_size pools n (r, base) ≡ pos r.weight *ℤ (scale n *ℤ costs_size)
  realization_is r =
      ap₂ (λ (a b : ℤ). pos r.weight *ℤ (a +ℤ b)) (alpha_size_is r.values)
      (sum_zero (length n.low) (λ k. reach n.low n.high k *ℤ beta_size n base k) (λ k h. ap (λ (x : ℤ). reach n.low n.high k *ℤ x) (beta_size_zero k) ∙ times_zero (reach n.low n.high k)))
      ∙ ring (pos r.weight ∷ (scale n *ℤ costs_size) ∷ []) (var 0 ⊗ (var 1 ⊕ num (pos 0))) (var 0 ⊗ var 1) tt

  weights_total : (rs : List Realization) (a : ℤ) → total (λ (r : Realization). pos r.weight *ℤ a) rs ≡ pos (weight_of_realizations rs) *ℤ a
  weights_total [] a = sym (zero-*ℤ a)
  weights_total (r ∷ rs) a = ap (λ (k : ℤ). pos r.weight *ℤ a +ℤ k) (weights_total rs a) ∙ ring (pos r.weight ∷ pos (weight_of_realizations rs) ∷ a ∷ []) (var 0 ⊗ var 2 ⊕ var 1 ⊗ var 2) ((var 0 ⊕ var 1) ⊗ var 2) tt

  remainders_zero : remainder_size n (base_list n) ≡ pos 0
  remainders_zero = sum_zero (length n.low) (λ k. remainder n (base_list n) k *ℤ magnitude (entry n.low k)) (λ k h. ap (λ (x : ℤ). x *ℤ magnitude (entry n.low k)) (remainder_zero k) ∙ zero-*ℤ (magnitude (entry n.low k)))

  size_is : size_of pools n (base_list n) ≡ pos (realization_weight n * (S * S * successor_weight n)) *ℤ costs_size
  size_is =
      ap₂ ◌+ℤ◌ (total-zip_map (realization_size pools n) (λ r. base) n.realizations ∙ total_ext (λ (r : Realization). realization_size pools n (r, base)) (λ (r : Realization). pos r.weight *ℤ (scale n *ℤ costs_size)) n.realizations realization_is
      ∙ weights_total n.realizations (scale n *ℤ costs_size)) remainders_zero
      ∙ ring (pos (realization_weight n) ∷ scale n ∷ costs_size ∷ []) (var 0 ⊗ (var 1 ⊗ var 2) ⊕ num (pos 0)) ((var 0 ⊗ var 1) ⊗ var 2) tt

  pub size_fits : size_of pools n (base_list n) ≤ℤ pos (2 ^ 127 - 1)
  size_fits = rw size_is t.fits

  pub in_range : range_of pools n (base_list n) ≡ None
  in_range = none-range_of pools n (base_list n) t.weights size_fits

-- ---- all nodes in an order

-- a tame node, or none
abbrev pub MayBeTame : Node → Type 0
MayBeTame n = (n ≡ no_node) ⊎ Tame n

none_in_range : (pools : List (List Cut)) → range_of pools no_node (base_list no_node) ≡ None
none_in_range pools = refl

none_zero : (pools : List (List Cut)) → Zero (cut_of pools no_node (base_list no_node))
unfolding S
none_zero pools = record { alpha = refl; beta = λ k. refl }

may_range : (pools : List (List Cut)) → ZeroPools pools → (n : Node) → MayBeTame n → range_of pools n (base_list n) ≡ None
may_range pools z n (inl e) = subst (λ (m : Node). range_of pools m (base_list m) ≡ None) (sym e) (none_in_range pools)
may_range pools z n (inr t) = in_range pools z n t

may_zero : (pools : List (List Cut)) → ZeroPools pools → (n : Node) → MayBeTame n → Zero (cut_of pools n (base_list n))
may_zero pools z n (inl e) = subst (λ (m : Node). Zero (cut_of pools m (base_list m))) (sym e) (none_zero pools)
may_zero pools z n (inr t) = cut_zero pools z n t

pub all_based : (p : Problem) → ((m : ℕ) → MayBeTame (node_at p m)) → (ms : List ℕ) (pools : List (List Cut)) → ZeroPools pools → (all : List (List Cut)) × (base_from p ms pools ≡ Ok all)
all_based p good [] pools z = (pools, refl)
all_based p good (m ∷ ms) pools z =
    let cut = cut_of pools (node_at p m) (base_list (node_at p m)) in
    let tail = all_based p good ms (push pools m cut) (push_zero pools m cut z (may_zero pools z (node_at p m) (good m))) in
    (tail.0, ap (λ (o : Option ℕ). unless o m (base_from p ms (push pools m cut))) (may_range pools z (node_at p m) (good m)) ∙ tail.1)
