-- Risk cuts: a candidate's cut is at most the greatest average of a stage's costs, and so is the bound over risk cuts.
use Rattle.std.proofs.Common.{◌≡◌, ℕ, zero, suc, ◌+◌, ◌*◌, ◌<◌, ℤ, pos, ◌+ℤ◌, ◌*ℤ◌, ◌≤ℤ◌, Bool, true, false, List, [], ◌∷◌, length, get_or, All, zip, sum, int_lt, arith, refl, ap, sym, ◌∙◌, subst, mul-pos, if◌then◌else◌}
use Rattle.std.proofs.lemmas.Int.{ints}
use Rattle.std.proofs.lemmas.List.Sums.{sum_by-cons}
use Rattle.std.proofs.lemmas.List.Elements.{All-nil, All-cons}
use Rattle.base_num.specs.Sums.{sum_to, total, entry}
use Rattle.base_num.proofs.Order.{le_trans, le_scale, le_cancel}
use Rattle.base_num.proofs.Ring.{ring, var, ◌⊗◌}
use Rattle.base_num.proofs.Sums.{All_head, All_tail}
use Rattle.theory.specs.Certificates.{RightAt, Right, AboveCuts}
use Rattle.theory.specs.Cost.{stage}
use Rattle.theory.specs.CutOf.{alpha_sum, beta_sum, divisor, cut_of}
use Rattle.theory.specs.Fraction.{Fraction, ◌≤ᶠ◌, plus, times, over, weighted}
use Rattle.theory.specs.Pools.{scaled_value}
use Rattle.theory.specs.Premises.{Shaped}
use Rattle.theory.specs.Problem.{S, Realization, Successor, Node, Problem, node_at, successor_weights, weight_of_realizations, realization_weight, successor_weight, reweighted, with_weights}
use Rattle.theory.specs.Tree.{InBox, next_state, Tree, Forest, no_branch, branch, no_tree, tree, FeasibleTree, FeasibleForest}
use Rattle.theory.proofs.Fractions.{ratio, between, below_none, below_plus, below_times, below_over, below_less, below_cancel}
use Rattle.theory.proofs.Duality.{in_next, one_stage, part, parts_total, rounding, scale_some, under_is}
use Rattle.theory.specs.declared.cut.Cut.{Cut}
use Rattle.theory.specs.declared.cut.Certificate.{Certificate}
use Rattle.policy_robust.specs.Listed.{lists_at}
use Rattle.policy_robust.specs.RiskCost.{Weighty, greater_fraction, average_cost, worst, branch_risk_costs, risk_costs, RiskHolds, RiskSound}

-- a lower bound of a fraction is one of a greater fraction
carried : (a : ℤ) (k : ℕ) (f g : Fraction) → 0 < f.under → (f.up *ℤ pos g.under) ≤ℤ (g.up *ℤ pos f.under) → ratio a k ≤ᶠ f → ratio a k ≤ᶠ g
carried a k f g p le h =
    let first : (pos f.under *ℤ (a *ℤ pos g.under)) ≤ℤ (pos k *ℤ (f.up *ℤ pos g.under)) = between (pos f.under *ℤ (a *ℤ pos g.under)) (pos g.under *ℤ (a *ℤ pos f.under)) (pos g.under *ℤ (f.up *ℤ pos k)) (pos k *ℤ (f.up *ℤ pos g.under))
    (ring (pos f.under ∷ a ∷ pos g.under ∷ []) (var 0 ⊗ (var 1 ⊗ var 2)) (var 2 ⊗ (var 1 ⊗ var 0)) tt)
    (le_scale g.under (a *ℤ pos f.under) (f.up *ℤ pos k) h.crossed)
    (ring (pos g.under ∷ f.up ∷ pos k ∷ []) (var 0 ⊗ (var 1 ⊗ var 2)) (var 2 ⊗ (var 1 ⊗ var 0)) tt) in
    let second : (pos k *ℤ (f.up *ℤ pos g.under)) ≤ℤ (pos f.under *ℤ (g.up *ℤ pos k)) = between (pos k *ℤ (f.up *ℤ pos g.under)) (pos k *ℤ (f.up *ℤ pos g.under)) (pos k *ℤ (g.up *ℤ pos f.under)) (pos f.under *ℤ (g.up *ℤ pos k))
    refl (le_scale k (f.up *ℤ pos g.under) (g.up *ℤ pos f.under) le)
    (ring (pos k ∷ g.up ∷ pos f.under ∷ []) (var 0 ⊗ (var 1 ⊗ var 2)) (var 2 ⊗ (var 1 ⊗ var 0)) tt) in
    record { crossed = le_cancel f.under (a *ℤ pos g.under) (g.up *ℤ pos k) p (le_trans (pos f.under *ℤ (a *ℤ pos g.under)) (pos k *ℤ (f.up *ℤ pos g.under)) (pos f.under *ℤ (g.up *ℤ pos k)) first second) }

lt_le : (x y : ℤ) → int_lt x y ≡ true → x ≤ℤ y
lt_le x y e = grind (arith, ints, e)

not_lt_le : (x y : ℤ) → int_lt x y ≡ false → y ≤ℤ x
not_lt_le x y e = grind (arith, ints, e)

below_first : (a : ℤ) (k : ℕ) (f g : Fraction) → 0 < f.under → ratio a k ≤ᶠ f → ratio a k ≤ᶠ greater_fraction f g
below_first a k f g p h = by (int_lt (f.up *ℤ pos g.under) (g.up *ℤ pos f.under)) refl
  where
    by : (b : Bool) → int_lt (f.up *ℤ pos g.under) (g.up *ℤ pos f.under) ≡ b → ratio a k ≤ᶠ (if b then g else f)
    by true e = carried a k f g p (lt_le (f.up *ℤ pos g.under) (g.up *ℤ pos f.under) e) h
    by false e = h

below_second : (a : ℤ) (k : ℕ) (f g : Fraction) → 0 < g.under → ratio a k ≤ᶠ g → ratio a k ≤ᶠ greater_fraction f g
below_second a k f g p h = by (int_lt (f.up *ℤ pos g.under) (g.up *ℤ pos f.under)) refl
  where
    by : (b : Bool) → int_lt (f.up *ℤ pos g.under) (g.up *ℤ pos f.under) ≡ b → ratio a k ≤ᶠ (if b then g else f)
    by true e = h
    by false e = carried a k g f p (not_lt_le (f.up *ℤ pos g.under) (g.up *ℤ pos f.under) e) h

-- the denominators of risk costs are positive
abbrev pub Some : Fraction → Type 0
Some f = 0 < f.under

under_weighted : (ws : List ℕ) (fs : List Fraction) → All Some fs → 0 < (weighted ws fs).under
under_weighted [] fs h = omega arith
under_weighted (w ∷ ws) [] h = omega arith
under_weighted (w ∷ ws) (f ∷ fs) h = mul-pos (All_head Some f fs h) (under_weighted ws fs (All_tail Some f fs h))

under_average : (ws : List ℕ) (fs : List Fraction) → 0 < sum ws → All Some fs → Some (average_cost ws fs)
under_average ws fs p h = mul-pos (under_weighted ws fs h) p

under_greater : (f g : Fraction) → Some f → Some g → Some (greater_fraction f g)
under_greater f g p q = by (int_lt (f.up *ℤ pos g.under) (g.up *ℤ pos f.under))
  where
    by : (b : Bool) → Some (if b then g else f)
    by true = q
    by false = p

-- lists of some weight each
abbrev pub Heavy : List (List ℕ) → Type 0
Heavy lists = All (λ (ws : List ℕ). 0 < sum ws) lists

under_worst : (lists : List (List ℕ)) (fs : List Fraction) → Heavy lists → All Some fs → Some (worst lists fs)
under_worst [] fs p h = omega arith
under_worst (ws ∷ []) fs p h = under_average ws fs (All_head (λ (ws : List ℕ). 0 < sum ws) ws [] p) h
under_worst (ws ∷ (vs ∷ lists)) fs p h =
    under_greater (average_cost ws fs) (worst (vs ∷ lists) fs) (under_average ws fs (All_head (λ (ws : List ℕ). 0 < sum ws) ws (vs ∷ lists) p) h)
    (under_worst (vs ∷ lists) fs (All_tail (λ (ws : List ℕ). 0 < sum ws) ws (vs ∷ lists) p) h)

-- a lower bound of one of the averages is one of the worst
below_worst : (a : ℤ) (k i : ℕ) (lists : List (List ℕ)) (fs : List Fraction) → Heavy lists → All Some fs → i < length lists → ratio a k ≤ᶠ average_cost (get_or lists i []) fs → ratio a k ≤ᶠ worst lists fs
below_worst a k i [] fs p h lt le = absurd (omega arith)
below_worst a k zero (ws ∷ []) fs p h lt le = le
below_worst a k (suc i) (ws ∷ []) fs p h lt le = absurd (omega arith)
below_worst a k zero (ws ∷ (vs ∷ lists)) fs p h lt le = below_first a k (average_cost ws fs) (worst (vs ∷ lists) fs) (under_average ws fs (All_head (λ (ws : List ℕ). 0 < sum ws) ws (vs ∷ lists) p) h) le
below_worst a k (suc i) (ws ∷ (vs ∷ lists)) fs p h lt le =
    let tail : Heavy (vs ∷ lists) = All_tail (λ (ws : List ℕ). 0 < sum ws) ws (vs ∷ lists) p in
    below_second a k (average_cost ws fs) (worst (vs ∷ lists) fs) (under_worst (vs ∷ lists) fs tail h) (below_worst a k i (vs ∷ lists) fs tail h (omega arith) le)

mutual
  pub branches_some : (p : Problem) (x : List (List (List ℕ))) (units : ℕ) (n : Node) (rs : List Realization) (xi : List ℤ) (t : Tree) → 0 < units → Weighty p x → 0 < successor_weight n → All Some (branch_risk_costs p x units n rs xi t)
  branches_some p x units n rs xi no_branch z w q = All-nil Some
  branches_some p x units n [] xi (branch u f t) z w q = All-nil Some
  branches_some p x units n (r ∷ rs) xi (branch u f t) z w q =
      All-cons Some (plus (stage units n r.values xi u) (over (weighted (successor_weights n.successors) (risk_costs p x units n.successors (next_state n u) f)) (successor_weight n))) (branch_risk_costs p x units n rs xi t)
      (mul-pos z (mul-pos (under_weighted (successor_weights n.successors) (risk_costs p x units n.successors (next_state n u) f) (risks_some p x units n.successors (next_state n u) f z w)) q))
      (branches_some p x units n rs xi t z w q)

  pub risks_some : (p : Problem) (x : List (List (List ℕ))) (units : ℕ) (ls : List Successor) (xi : List ℤ) (f : Forest) → 0 < units → Weighty p x → All Some (risk_costs p x units ls xi f)
  risks_some p x units ls xi no_tree z w = All-nil Some
  risks_some p x units [] xi (tree t f) z w = All-nil Some
  risks_some p x units (l ∷ ls) xi (tree t f) z w =
      All-cons Some (worst (lists_at x l.node) (branch_risk_costs p x units (node_at p l.node) (node_at p l.node).realizations xi t)) (risk_costs p x units ls xi f)
      (under_worst (lists_at x l.node) (branch_risk_costs p x units (node_at p l.node) (node_at p l.node).realizations xi t) (w.lists l.node) (branches_some p x units (node_at p l.node) (node_at p l.node).realizations xi t z w (w.successors l.node)))
      (risks_some p x units ls xi f z w)

-- the successors' trees
risks_above : (p : Problem) (x : List (List (List ℕ))) (pools : List (List Cut)) (units : ℕ) (xi : List ℤ) (ls : List Successor) (f : Forest) → 0 < units → RiskSound p x pools → All (λ (l : Successor). InBox units (node_at p l.node).low (node_at p l.node).high xi) ls
    → FeasibleForest p units ls xi f → AboveCuts pools units xi ls (risk_costs p x units ls xi f)
risks_above p x pools units xi [] no_tree z s b h = tt
risks_above p x pools units xi (l ∷ ls) no_tree z s b h = absurd h
risks_above p x pools units xi [] (tree t f) z s b h = absurd h
risks_above p x pools units xi (l ∷ ls) (tree t f) z s b h = (
  (λ k d q. s l.node k d q units xi t z (All_head (λ (l : Successor). InBox units (node_at p l.node).low (node_at p l.node).high xi) l ls b) h.0),
  risks_above p x pools units xi ls f z s (All_tail (λ (l : Successor). InBox units (node_at p l.node).low (node_at p l.node).high xi) l ls b) h.1,
)

-- the average by given weights
abbrev stage_scale : Node → ℕ → ℕ
stage_scale n units = S * S * successor_weight n * units

averaged : (p : Problem) (x : List (List (List ℕ))) (pools : List (List Cut)) (units : ℕ) (n : Node) (xi : List ℤ) (ws : List ℕ) (rs : List Realization) (list : List Certificate) (t : Tree) → 0 < units → RiskSound p x pools → Shaped p n → length xi ≡ length n.state_costs
    → length ws ≡ length rs → length list ≡ length rs → All (RightAt pools n) list → FeasibleTree p units n rs xi t
    → ratio (total (λ (q : Realization × Certificate). pos q.0.weight *ℤ part pools units n xi q) (zip (reweighted ws rs) list)) (stage_scale n units) ≤ᶠ weighted ws (branch_risk_costs p x units n rs xi t)
averaged p x pools units n xi [] [] list no_branch z s sh ex c e r h = below_none (stage_scale n units)
averaged p x pools units n xi [] [] list (branch u f t) z s sh ex c e r h = absurd h
averaged p x pools units n xi [] (w ∷ rs) list t z s sh ex c e r h = absurd (omega arith)
averaged p x pools units n xi (v ∷ ws) [] list t z s sh ex c e r h = absurd (omega arith)
averaged p x pools units n xi (v ∷ ws) (w ∷ rs) list no_branch z s sh ex c e r h = absurd h
averaged p x pools units n xi (v ∷ ws) (w ∷ rs) [] (branch u f t) z s sh ex c e r h = absurd (omega arith)
averaged p x pools units n xi (v ∷ ws) (w ∷ rs) (d ∷ list) (branch u f t) z s sh ex c e r h =
    let costs : List Fraction = risk_costs p x units n.successors (next_state n u) f in
    let here : Fraction = plus (stage units n w.values xi u) (over (weighted (successor_weights n.successors) costs) (successor_weight n)) in
    below_plus (pos v *ℤ part pools units n xi (w, d)) (total (λ (q : Realization × Certificate). pos q.0.weight *ℤ part pools units n xi q) (zip (reweighted ws rs) list)) (stage_scale n units)
    (times v here) (weighted ws (branch_risk_costs p x units n rs xi t))
    (below_times (part pools units n xi (w, d)) (stage_scale n units) v here
    (one_stage pools units n d w.values xi u costs sh.decisions ex (All_head (RightAt pools n) d list r) h.0
    (risks_above p x pools units (next_state n u) n.successors f z s (λ k b q. in_next units n (node_at p (get_or n.successors k b).node) u (sh.nested k b q) h.0.box) h.1)))
    (averaged p x pools units n xi ws rs list t z s sh ex (omega arith) (omega arith) (All_tail (RightAt pools n) d list r) h.2)

-- W of given weights is their sum
pub weight-reweighted : (ws : List ℕ) (rs : List Realization) → length ws ≡ length rs → weight_of_realizations (reweighted ws rs) ≡ sum ws
weight-reweighted [] rs e = refl
weight-reweighted (w ∷ ws) [] e = absurd (omega arith)
weight-reweighted (w ∷ ws) (r ∷ rs) e = ap (λ (k : ℕ). w + k) (weight-reweighted ws rs (omega arith)) ∙ sym (sum_by-cons (λ k. k) w ws)

-- a right list with the weights of one of the node's lists
pub risk_duality : (p : Problem) (x : List (List (List ℕ))) (pools : List (List Cut)) (m i : ℕ) (ws : List ℕ) (list : List Certificate) → Weighty p x → Shaped p (node_at p m) → RiskSound p x pools
    → i < length (lists_at x m) → get_or (lists_at x m) i [] ≡ ws → length ws ≡ length (node_at p m).realizations → 0 < sum ws → Right pools (with_weights ws (node_at p m)) list → RiskHolds p x m (cut_of pools (with_weights ws (node_at p m)) list)
risk_duality p x pools m i ws list wt sh s lt at count some r units xi t z b h =
    let n : Node = node_at p m in
    let k : Node = with_weights ws n in
    let costs : List Fraction = branch_risk_costs p x units n n.realizations xi t in
    let ex : length xi ≡ length n.state_costs = b.count ∙ sh.states in
    let total_weight : realization_weight k ≡ sum ws = weight-reweighted ws n.realizations count in
    let whole : ℤ = alpha_sum pools k list *ℤ pos units +ℤ sum_to (length n.state_costs) (λ j. beta_sum k list j *ℤ entry xi j) in
    let zd : 0 < divisor k = mul-pos (mul-pos scale_some sh.successors) (subst (λ (j : ℕ). 0 < j) (sym total_weight) some) in
    let counted : length list ≡ length n.realizations = r.count ∙ length-reweighted ws n.realizations count in
    let each : All (RightAt pools n) list = λ j d q. let a : RightAt pools k (get_or list j d) = r.each j d q in record { rows = a.rows; successors = a.successors; signs = a.signs; pairs = a.pairs } in
    let one : ratio whole (stage_scale n units) ≤ᶠ weighted ws costs = subst (λ (j : ℤ). ratio j (stage_scale n units) ≤ᶠ weighted ws costs) (parts_total pools units n xi (zip (reweighted ws n.realizations) list)) (averaged p x pools units n xi ws n.realizations list t z s sh ex count counted each h) in
    let two : ratio whole (stage_scale n units * sum ws) ≤ᶠ average_cost ws costs = below_over whole (stage_scale n units) (sum ws) (weighted ws costs) one in
    let three : ratio whole (divisor k * (S * units)) ≤ᶠ average_cost ws costs = subst (λ (j : ℕ). ratio whole j ≤ᶠ average_cost ws costs) (ap (λ (j : ℕ). stage_scale n units * j) (sym total_weight) ∙ under_is S (successor_weight n) units (realization_weight k)) two in
    let four : (pos (divisor k) *ℤ scaled_value units xi (cut_of pools k list)) ≤ℤ whole = subst (λ (j : ℕ). (pos (divisor k) *ℤ scaled_value units xi (cut_of pools k list)) ≤ℤ (alpha_sum pools k list *ℤ pos units +ℤ sum_to j (λ j. beta_sum k list j *ℤ entry xi j))) sh.states (rounding pools units k list xi zd (record { count = b.count; above = b.above; below = b.below })) in
    let five : ratio (scaled_value units xi (cut_of pools k list)) (S * units) ≤ᶠ average_cost ws costs = below_cancel (scaled_value units xi (cut_of pools k list)) (S * units) (divisor k) (average_cost ws costs) zd
    (below_less (pos (divisor k) *ℤ scaled_value units xi (cut_of pools k list)) whole (divisor k * (S * units)) (average_cost ws costs) four three) in
    below_worst (scaled_value units xi (cut_of pools k list)) (S * units) i (lists_at x m) costs (wt.lists m) (branches_some p x units n n.realizations xi t z wt (wt.successors m)) lt
    (subst (λ (vs : List ℕ). ratio (scaled_value units xi (cut_of pools k list)) (S * units) ≤ᶠ average_cost vs costs) (sym at) five)
  where
    length-reweighted : (ws : List ℕ) (rs : List Realization) → length ws ≡ length rs → length (reweighted ws rs) ≡ length rs
    length-reweighted [] [] e = refl
    length-reweighted [] (r ∷ rs) e = absurd (omega arith)
    length-reweighted (w ∷ ws) [] e = absurd (omega arith)
    length-reweighted (w ∷ ws) (r ∷ rs) e = ap suc (length-reweighted ws rs (omega arith))
