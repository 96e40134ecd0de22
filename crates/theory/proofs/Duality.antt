-- Weak duality: one stage, the average over realizations, the rounding, and the bound.
use Rattle.std.proofs.Common.{◌≡◌, ℕ, zero, suc, ◌+◌, ◌*◌, ◌<◌, ℤ, pos, negsuc, ◌+ℤ◌, ◌*ℤ◌, ◌-ℤ◌, ◌≤ℤ◌, List, [], ◌∷◌, length, get_or, All, zip, arith, refl, ap, ap₂, sym, ◌∙◌, subst, mul-pos}
use Rattle.std.proofs.lemmas.Int.{ints}
use Rattle.std.proofs.lemmas.List.{length-map, get_or-map}
use Rattle.base_num.specs.Sums.{sum_to, total, entry}
use Rattle.base_num.proofs.Order.{le_refl, le_of_eq, le_trans, le_add, le_scale, floor_at_most}
use Rattle.base_num.proofs.Ring.{ring, var, num, ◌⊕◌, ◌⊗◌, ⊖}
use Rattle.base_num.proofs.Sums.{sum_ext, sum_times, sum_le, All_head, All_tail, dot_table}
use Rattle.theory.specs.Certificates.{cut_at, multipliers, PairsRight, RightAt, Right, AboveCuts}
use Rattle.theory.specs.Cost.{stage, cost, cost_sum, costs_of}
use Rattle.theory.specs.CutOf.{scale, over_pairs, alpha_at, beta_at, alpha_sum, beta_sum, divisor, slope, remainder, cut_of}
use Rattle.theory.specs.Fraction.{Fraction, ◌≤ᶠ◌, plus, times, over, weighted}
use Rattle.theory.specs.Pools.{scaled_value, cut_value, Holds, pool, Sound, no_cut}
use Rattle.theory.specs.Premises.{Nested, Shaped}
use Rattle.theory.specs.Problem.{S, Realization, Successor, Node, Problem, node_at, successor_weights, realization_weight, successor_weight}
use Rattle.theory.specs.Tree.{InBox, Decides, next_state, Tree, Forest, no_branch, branch, no_tree, tree, FeasibleTree, FeasibleForest}
use Rattle.theory.proofs.Fractions.{ratio, between, below_none, below_plus, below_times, below_over, below_less, below_cancel}
use Rattle.theory.proofs.OneStage.{sum_total, total_linear, stage_whole}
use Rattle.theory.specs.declared.cut.Cut.{Cut}
use Rattle.theory.specs.declared.cut.Certificate.{Certificate}

-- one stage
one_pool : (pools : List (List Cut)) (units : ℕ) (x : List ℤ) (l : Successor) (f : Fraction) (ss : List (ℕ × ℕ)) → All (λ c. cut_value units x c ≤ᶠ f) (pool pools l.node) → All (λ (s : ℕ × ℕ). s.0 < length (pool pools l.node)) ss
    → ratio (total (λ (s : ℕ × ℕ). pos s.1 *ℤ scaled_value units x (cut_at pools l s)) ss) (S * units) ≤ᶠ times (multipliers ss) f
one_pool pools units x l f [] h t = record { crossed = le_of_eq (pos 0 *ℤ pos f.under) (pos 0 *ℤ f.up *ℤ pos (S * units)) (ring (pos f.under ∷ f.up ∷ pos (S * units) ∷ []) (num (pos 0) ⊗ var 0) (num (pos 0) ⊗ var 1 ⊗ var 2) tt) }
one_pool pools units x l f (s ∷ ss) h t =
    let a : ℤ = scaled_value units x (cut_at pools l s) in
    let b : ℤ = total (λ (s : ℕ × ℕ). pos s.1 *ℤ scaled_value units x (cut_at pools l s)) ss in
    let i : ratio b (S * units) ≤ᶠ times (multipliers ss) f = one_pool pools units x l f ss h (All_tail (λ (s : ℕ × ℕ). s.0 < length (pool pools l.node)) s ss t) in
    let g : ratio a (S * units) ≤ᶠ f = h s.0 no_cut (All_head (λ (s : ℕ × ℕ). s.0 < length (pool pools l.node)) s ss t) in
    record {
      crossed = between ((pos s.1 *ℤ a +ℤ b) *ℤ pos f.under) (pos s.1 *ℤ (a *ℤ pos f.under) +ℤ b *ℤ pos f.under) (pos s.1 *ℤ (f.up *ℤ pos (S * units)) +ℤ pos (multipliers ss) *ℤ f.up *ℤ pos (S * units)) (pos (s.1 + multipliers ss) *ℤ f.up *ℤ pos (S * units))
          (ring (pos s.1 ∷ a ∷ b ∷ pos f.under ∷ []) ((var 0 ⊗ var 1 ⊕ var 2) ⊗ var 3) (var 0 ⊗ (var 1 ⊗ var 3) ⊕ var 2 ⊗ var 3) tt)
          (le_add (pos s.1 *ℤ (a *ℤ pos f.under)) (pos s.1 *ℤ (f.up *ℤ pos (S * units))) (b *ℤ pos f.under) (pos (multipliers ss) *ℤ f.up *ℤ pos (S * units)) (le_scale s.1 (a *ℤ pos f.under) (f.up *ℤ pos (S * units)) g.crossed) i.crossed)
          (ring (pos s.1 ∷ pos (multipliers ss) ∷ f.up ∷ pos (S * units) ∷ []) (var 0 ⊗ (var 2 ⊗ var 3) ⊕ var 1 ⊗ var 2 ⊗ var 3) ((var 0 ⊕ var 1) ⊗ var 2 ⊗ var 3) tt);
    }

one_successor : (b : ℤ) (units m w : ℕ) (f : Fraction) → m ≡ S * w → ratio b (S * units) ≤ᶠ times m f → ratio b (S * S * units) ≤ᶠ times w f
one_successor b units m w f e h =
    let h' : ratio b (S * units) ≤ᶠ times (S * w) f = subst (λ (k : ℕ). ratio b (S * units) ≤ᶠ times k f) e h in
    record {
      crossed = le_trans (b *ℤ pos f.under) (pos (S * w) *ℤ f.up *ℤ pos (S * units)) (pos w *ℤ f.up *ℤ pos (S * S * units)) h'.crossed
          (le_of_eq (pos (S * w) *ℤ f.up *ℤ pos (S * units)) (pos w *ℤ f.up *ℤ pos (S * S * units))
          (ring (pos S ∷ pos w ∷ f.up ∷ pos units ∷ []) (var 0 ⊗ var 1 ⊗ var 2 ⊗ (var 0 ⊗ var 3)) (var 1 ⊗ var 2 ⊗ (var 0 ⊗ var 0 ⊗ var 3)) tt));
    }

all_successors : (pools : List (List Cut)) (units : ℕ) (x : List ℤ) (ls : List Successor) (cs : List (List (ℕ × ℕ))) (fs : List Fraction) → length cs ≡ length ls → All (PairsRight pools) (zip ls cs) → AboveCuts pools units x ls fs
    → ratio (total (λ (q : Successor × List (ℕ × ℕ)). total (λ (s : ℕ × ℕ). pos s.1 *ℤ scaled_value units x (cut_at pools q.0 s)) q.1) (zip ls cs)) (S * S * units) ≤ᶠ weighted (successor_weights ls) fs
all_successors pools units x [] cs fs e r h = below_none (S * S * units)
all_successors pools units x (l ∷ ls) [] fs e r h = absurd (omega arith)
all_successors pools units x (l ∷ ls) (c ∷ cs) [] e r h = absurd h
all_successors pools units x (l ∷ ls) (c ∷ cs) (f ∷ fs) e r h =
    let q : PairsRight pools (l, c) = All_head (PairsRight pools) (l, c) (zip ls cs) r in
    below_plus (total (λ (s : ℕ × ℕ). pos s.1 *ℤ scaled_value units x (cut_at pools l s)) c) (total (λ (q : Successor × List (ℕ × ℕ)). total (λ (s : ℕ × ℕ). pos s.1 *ℤ scaled_value units x (cut_at pools q.0 s)) q.1) (zip ls cs)) (S * S * units) (times l.weight f) (weighted (successor_weights ls) fs)
    (one_successor (total (λ (s : ℕ × ℕ). pos s.1 *ℤ scaled_value units x (cut_at pools l s)) c) units (multipliers c) l.weight f q.sum (one_pool pools units x l f c h.0 q.there))
    (all_successors pools units x ls cs fs (omega arith) (All_tail (PairsRight pools) (l, c) (zip ls cs) r) h.1)

pub one_stage : (pools : List (List Cut)) (units : ℕ) (n : Node) (c : Certificate) (values xi u : List ℤ) (fs : List Fraction) → length n.decision_low ≡ length n.costs → length xi ≡ length n.state_costs
    → RightAt pools n c → Decides units n values xi u → AboveCuts pools units (next_state n u) n.successors fs
    → ratio (alpha_at pools n values c *ℤ pos units +ℤ sum_to (length n.state_costs) (λ k. beta_at n c k *ℤ entry xi k)) (S * S * successor_weight n * units) ≤ᶠ plus (stage units n values xi u) (over (weighted (successor_weights n.successors) fs) (successor_weight n))
one_stage pools units n c values xi u fs e ex r d h =
    let g : ℤ = over_pairs pools n c (λ cut. scaled_value units (next_state n u) cut) in
    let st : Fraction = stage units n values xi u in
    let w : Fraction = weighted (successor_weights n.successors) fs in
    let k : ratio g (S * S * units) ≤ᶠ w = all_successors pools units (next_state n u) n.successors c.cuts fs r.successors r.pairs h in
    below_less (alpha_at pools n values c *ℤ pos units +ℤ sum_to (length n.state_costs) (λ k. beta_at n c k *ℤ entry xi k)) (scale n *ℤ st.up +ℤ g) (S * S * successor_weight n * units) (plus st (over w (successor_weight n)))
    (stage_whole units pools n values xi u c e ex r.signs d)
    (below_plus (scale n *ℤ st.up) g (S * S * successor_weight n * units) st (over w (successor_weight n))
    (record { crossed = le_of_eq (scale n *ℤ st.up *ℤ pos units) (st.up *ℤ pos (S * S * successor_weight n * units)) (ring (pos S ∷ pos (successor_weight n) ∷ st.up ∷ pos units ∷ []) (var 0 ⊗ var 0 ⊗ var 1 ⊗ var 2 ⊗ var 3) (var 2 ⊗ (var 0 ⊗ var 0 ⊗ var 1 ⊗ var 3)) tt) })
    (record {
      crossed = between (g *ℤ pos (w.under * successor_weight n)) (pos (successor_weight n) *ℤ (g *ℤ pos w.under)) (pos (successor_weight n) *ℤ (w.up *ℤ pos (S * S * units))) (w.up *ℤ pos (S * S * successor_weight n * units))
          (ring (g ∷ pos w.under ∷ pos (successor_weight n) ∷ []) (var 0 ⊗ (var 1 ⊗ var 2)) (var 2 ⊗ (var 0 ⊗ var 1)) tt)
          (le_scale (successor_weight n) (g *ℤ pos w.under) (w.up *ℤ pos (S * S * units)) k.crossed)
          (ring (pos S ∷ pos (successor_weight n) ∷ w.up ∷ pos units ∷ []) (var 1 ⊗ (var 2 ⊗ (var 0 ⊗ var 0 ⊗ var 3))) (var 2 ⊗ (var 0 ⊗ var 0 ⊗ var 1 ⊗ var 3)) tt);
    }))

-- the successors' trees
pub in_next : (units : ℕ) (n m : Node) (u : List ℤ) → Nested n m → InBox units n.decision_low n.decision_high u → InBox units m.low m.high (next_state n u)
in_next units n m u h b = record {
  count = length-map n.outs (entry u) ∙ h.count;
  above = λ k p. let q : k < length n.outs = omega (arith, h.count) in
      subst (λ (z : ℤ). (pos units *ℤ entry m.low k) ≤ℤ z) (sym (get_or-map (entry u) n.outs k 0 (pos 0) q))
      (le_trans (pos units *ℤ entry m.low k) (pos units *ℤ entry n.decision_low (get_or n.outs k 0)) (entry u (get_or n.outs k 0)) (le_scale units (entry m.low k) (entry n.decision_low (get_or n.outs k 0)) (h.lows k p)) (b.above (get_or n.outs k 0) (h.outs k p)));
  below = λ k p. let q : k < length n.outs = omega (arith, h.count) in
      subst (λ (z : ℤ). z ≤ℤ (pos units *ℤ entry m.high k)) (sym (get_or-map (entry u) n.outs k 0 (pos 0) q))
      (le_trans (entry u (get_or n.outs k 0)) (pos units *ℤ entry n.decision_high (get_or n.outs k 0)) (pos units *ℤ entry m.high k) (b.below (get_or n.outs k 0) (h.outs k p)) (le_scale units (entry n.decision_high (get_or n.outs k 0)) (entry m.high k) (h.highs k p)));
}

costs_above : (p : Problem) (pools : List (List Cut)) (units : ℕ) (x : List ℤ) (ls : List Successor) (f : Forest) → 0 < units → Sound p pools → All (λ (l : Successor). InBox units (node_at p l.node).low (node_at p l.node).high x) ls
    → FeasibleForest p units ls x f → AboveCuts pools units x ls (costs_of p units ls x f)
costs_above p pools units x [] no_tree z s b h = tt
costs_above p pools units x (l ∷ ls) no_tree z s b h = absurd h
costs_above p pools units x [] (tree t f) z s b h = absurd h
costs_above p pools units x (l ∷ ls) (tree t f) z s b h = (
  (λ k d q. s l.node k d q units x t z (All_head (λ (l : Successor). InBox units (node_at p l.node).low (node_at p l.node).high x) l ls b) h.0),
  costs_above p pools units x ls f z s (All_tail (λ (l : Successor). InBox units (node_at p l.node).low (node_at p l.node).high x) l ls b) h.1,
)

-- the average
abbrev pub part : List (List Cut) → ℕ → Node → List ℤ → Realization × Certificate → ℤ
part pools units n xi q = alpha_at pools n q.0.values q.1 *ℤ pos units +ℤ sum_to (length n.state_costs) (λ k. beta_at n q.1 k *ℤ entry xi k)

average : (p : Problem) (pools : List (List Cut)) (units : ℕ) (n : Node) (xi : List ℤ) (rs : List Realization) (list : List Certificate) (t : Tree) → 0 < units → Sound p pools → Shaped p n → length xi ≡ length n.state_costs
    → length list ≡ length rs → All (RightAt pools n) list → FeasibleTree p units n rs xi t
    → ratio (total (λ (q : Realization × Certificate). pos q.0.weight *ℤ part pools units n xi q) (zip rs list)) (S * S * successor_weight n * units) ≤ᶠ cost_sum p units n rs xi t
average p pools units n xi [] list no_branch z s sh ex e r h = below_none (S * S * successor_weight n * units)
average p pools units n xi [] list (branch u f t) z s sh ex e r h = absurd h
average p pools units n xi (w ∷ rs) list no_branch z s sh ex e r h = absurd h
average p pools units n xi (w ∷ rs) [] (branch u f t) z s sh ex e r h = absurd (omega arith)
average p pools units n xi (w ∷ rs) (c ∷ list) (branch u f t) z s sh ex e r h =
    below_plus (pos w.weight *ℤ part pools units n xi (w, c)) (total (λ (q : Realization × Certificate). pos q.0.weight *ℤ part pools units n xi q) (zip rs list)) (S * S * successor_weight n * units)
    (times w.weight (plus (stage units n w.values xi u) (over (weighted (successor_weights n.successors) (costs_of p units n.successors (next_state n u) f)) (successor_weight n)))) (cost_sum p units n rs xi t)
    (below_times (part pools units n xi (w, c)) (S * S * successor_weight n * units) w.weight (plus (stage units n w.values xi u) (over (weighted (successor_weights n.successors) (costs_of p units n.successors (next_state n u) f)) (successor_weight n)))
    (one_stage pools units n c w.values xi u (costs_of p units n.successors (next_state n u) f) sh.decisions ex (All_head (RightAt pools n) c list r) h.0
    (costs_above p pools units (next_state n u) n.successors f z s (λ k d q. in_next units n (node_at p (get_or n.successors k d).node) u (sh.nested k d q) h.0.box) h.1)))
    (average p pools units n xi rs list t z s sh ex (omega arith) (All_tail (RightAt pools n) c list r) h.2)

-- the rounding
le_scale_by : (c a b : ℤ) → pos 0 ≤ℤ c → a ≤ℤ b → (c *ℤ a) ≤ℤ (c *ℤ b)
le_scale_by (pos k) a b h i = le_scale k a b i
le_scale_by (negsuc k) a b h i = absurd (omega (arith, ints))

sum_minus : (n : ℕ) (d : ℤ) (f g x : ℕ → ℤ) → sum_to n (λ k. (f k -ℤ d *ℤ g k) *ℤ x k) ≡ sum_to n (λ k. f k *ℤ x k) -ℤ d *ℤ sum_to n (λ k. g k *ℤ x k)
sum_minus zero d f g x = ring (d ∷ []) (num (pos 0)) (num (pos 0) ⊕ ⊖ (var 0 ⊗ num (pos 0))) tt
sum_minus (suc n) d f g x =
    ap (λ (k : ℤ). (f 0 -ℤ d *ℤ g 0) *ℤ x 0 +ℤ k) (sum_minus n d (λ k. f (suc k)) (λ k. g (suc k)) (λ k. x (suc k)))
    ∙ ring (d ∷ f 0 ∷ g 0 ∷ x 0 ∷ sum_to n (λ k. f (suc k) *ℤ x (suc k)) ∷ sum_to n (λ k. g (suc k) *ℤ x (suc k)) ∷ [])
    ((var 1 ⊕ ⊖ (var 0 ⊗ var 2)) ⊗ var 3 ⊕ (var 4 ⊕ ⊖ (var 0 ⊗ var 5))) (var 1 ⊗ var 3 ⊕ var 4 ⊕ ⊖ (var 0 ⊗ (var 2 ⊗ var 3 ⊕ var 5))) tt

not_below : (a b : ℤ) → a ≤ℤ b → pos 0 ≤ℤ (b -ℤ a)
not_below a b h = omega (arith, ints)

-- plain numbers: l is the sum of r_k lo_k, x that of r_k xi_k
round_numbers : (d n : ℕ) (a alpha l x b g : ℤ) → (pos d *ℤ alpha) ≤ℤ (a +ℤ l) → (pos n *ℤ l) ≤ℤ x → x ≡ b -ℤ pos d *ℤ g → (pos d *ℤ (alpha *ℤ pos n +ℤ g)) ≤ℤ (a *ℤ pos n +ℤ b)
round_numbers d n a alpha l x b g h i e =
    between (pos d *ℤ (alpha *ℤ pos n +ℤ g)) (pos n *ℤ (pos d *ℤ alpha) +ℤ (pos n *ℤ l +ℤ (pos d *ℤ g -ℤ pos n *ℤ l))) (pos n *ℤ (a +ℤ l) +ℤ (x +ℤ (pos d *ℤ g -ℤ pos n *ℤ l))) (a *ℤ pos n +ℤ b)
    (ring (pos d ∷ alpha ∷ pos n ∷ g ∷ l ∷ []) (var 0 ⊗ (var 1 ⊗ var 2 ⊕ var 3)) (var 2 ⊗ (var 0 ⊗ var 1) ⊕ (var 2 ⊗ var 4 ⊕ (var 0 ⊗ var 3 ⊕ ⊖ (var 2 ⊗ var 4)))) tt)
    (le_add (pos n *ℤ (pos d *ℤ alpha)) (pos n *ℤ (a +ℤ l)) (pos n *ℤ l +ℤ (pos d *ℤ g -ℤ pos n *ℤ l)) (x +ℤ (pos d *ℤ g -ℤ pos n *ℤ l)) (le_scale n (pos d *ℤ alpha) (a +ℤ l) h)
    (le_add (pos n *ℤ l) x (pos d *ℤ g -ℤ pos n *ℤ l) (pos d *ℤ g -ℤ pos n *ℤ l) i (le_refl (pos d *ℤ g -ℤ pos n *ℤ l))))
    (ap (λ (k : ℤ). pos n *ℤ (a +ℤ l) +ℤ (k +ℤ (pos d *ℤ g -ℤ pos n *ℤ l))) e
    ∙ ring (pos d ∷ a ∷ pos n ∷ g ∷ l ∷ b ∷ []) (var 2 ⊗ (var 1 ⊕ var 4) ⊕ (var 5 ⊕ ⊖ (var 0 ⊗ var 3) ⊕ (var 0 ⊗ var 3 ⊕ ⊖ (var 2 ⊗ var 4)))) (var 1 ⊗ var 2 ⊕ var 5) tt)

pub rounding : (pools : List (List Cut)) (units : ℕ) (n : Node) (list : List Certificate) (xi : List ℤ) → 0 < divisor n → InBox units n.low n.high xi
    → (pos (divisor n) *ℤ scaled_value units xi (cut_of pools n list)) ≤ℤ (alpha_sum pools n list *ℤ pos units +ℤ sum_to (length n.low) (λ k. beta_sum n list k *ℤ entry xi k))
rounding pools units n list xi z b =
    let a : ℤ = alpha_sum pools n list in
    let low : ℤ = sum_to (length n.low) (λ k. remainder n list k *ℤ entry n.low k) in
    let alpha : ℤ = (cut_of pools n list).alpha in
    subst (λ (g : ℤ). (pos (divisor n) *ℤ (alpha *ℤ pos units +ℤ g)) ≤ℤ (a *ℤ pos units +ℤ sum_to (length n.low) (λ k. beta_sum n list k *ℤ entry xi k))) (sym (dot_table (length n.low) (slope n list) xi))
    (round_numbers (divisor n) units a alpha low (sum_to (length n.low) (λ k. remainder n list k *ℤ entry xi k)) (sum_to (length n.low) (λ k. beta_sum n list k *ℤ entry xi k)) (sum_to (length n.low) (λ k. slope n list k *ℤ entry xi k))
    (floor_at_most (a +ℤ low) (divisor n) z)
    (between (pos units *ℤ low) (sum_to (length n.low) (λ k. pos units *ℤ (remainder n list k *ℤ entry n.low k))) (sum_to (length n.low) (λ k. remainder n list k *ℤ entry xi k)) (sum_to (length n.low) (λ k. remainder n list k *ℤ entry xi k))
    (sym (sum_times (length n.low) (pos units) (λ k. remainder n list k *ℤ entry n.low k)))
    (sum_le (length n.low) (λ k. pos units *ℤ (remainder n list k *ℤ entry n.low k)) (λ k. remainder n list k *ℤ entry xi k)
    (λ k p. between (pos units *ℤ (remainder n list k *ℤ entry n.low k)) (remainder n list k *ℤ (pos units *ℤ entry n.low k)) (remainder n list k *ℤ entry xi k) (remainder n list k *ℤ entry xi k)
    (ring (pos units ∷ remainder n list k ∷ entry n.low k ∷ []) (var 0 ⊗ (var 1 ⊗ var 2)) (var 1 ⊗ (var 0 ⊗ var 2)) tt)
    (le_scale_by (remainder n list k) (pos units *ℤ entry n.low k) (entry xi k) (let f : (pos (divisor n) *ℤ slope n list k) ≤ℤ beta_sum n list k = floor_at_most (beta_sum n list k) (divisor n) z in not_below (pos (divisor n) *ℤ slope n list k) (beta_sum n list k) f) (b.above k p))
    refl))
    refl)
    (sum_minus (length n.low) (pos (divisor n)) (beta_sum n list) (slope n list) (entry xi)))

-- weak duality
pub parts_total : (pools : List (List Cut)) (units : ℕ) (n : Node) (xi : List ℤ) (qs : List (Realization × Certificate))
    → total (λ (q : Realization × Certificate). pos q.0.weight *ℤ part pools units n xi q) qs
    ≡ total (λ (q : Realization × Certificate). pos q.0.weight *ℤ alpha_at pools n q.0.values q.1) qs *ℤ pos units +ℤ sum_to (length n.state_costs) (λ k. total (λ (q : Realization × Certificate). pos q.0.weight *ℤ beta_at n q.1 k) qs *ℤ entry xi k)
parts_total pools units n xi qs =
    total_linear (pos units) (λ (q : Realization × Certificate). pos q.0.weight *ℤ alpha_at pools n q.0.values q.1) (λ (q : Realization × Certificate). pos q.0.weight *ℤ sum_to (length n.state_costs) (λ k. beta_at n q.1 k *ℤ entry xi k)) (λ (q : Realization × Certificate). pos q.0.weight *ℤ part pools units n xi q) qs
    (λ q. ring (pos q.0.weight ∷ alpha_at pools n q.0.values q.1 ∷ pos units ∷ sum_to (length n.state_costs) (λ k. beta_at n q.1 k *ℤ entry xi k) ∷ []) (var 0 ⊗ (var 1 ⊗ var 2 ⊕ var 3)) (var 2 ⊗ (var 0 ⊗ var 1) ⊕ var 0 ⊗ var 3) tt)
    ∙ ap₂ ◌+ℤ◌
    (ring (pos units ∷ total (λ (q : Realization × Certificate). pos q.0.weight *ℤ alpha_at pools n q.0.values q.1) qs ∷ []) (var 0 ⊗ var 1) (var 1 ⊗ var 0) tt)
    (sym (sum_total (length n.state_costs) (λ (q : Realization × Certificate) k. pos q.0.weight *ℤ beta_at n q.1 k) (λ (q : Realization × Certificate). pos q.0.weight *ℤ sum_to (length n.state_costs) (λ k. beta_at n q.1 k *ℤ entry xi k)) (entry xi) qs
    (λ q. sum_ext (length n.state_costs) (λ k. pos q.0.weight *ℤ beta_at n q.1 k *ℤ entry xi k) (λ k. pos q.0.weight *ℤ (beta_at n q.1 k *ℤ entry xi k)) (λ k p. ring (pos q.0.weight ∷ beta_at n q.1 k ∷ entry xi k ∷ []) (var 0 ⊗ var 1 ⊗ var 2) (var 0 ⊗ (var 1 ⊗ var 2)) tt)
    ∙ sum_times (length n.state_costs) (pos q.0.weight) (λ k. beta_at n q.1 k *ℤ entry xi k))))

pub under_is : (s q n w : ℕ) → s * s * q * n * w ≡ s * q * w * (s * n)
under_is s q n w = omega arith

pub scale_some : 0 < S
unfolding S
scale_some = omega arith

pub weak_duality : (p : Problem) (pools : List (List Cut)) (m : ℕ) (list : List Certificate) → Shaped p (node_at p m) → Sound p pools → Right pools (node_at p m) list → Holds p m (cut_of pools (node_at p m) list)
weak_duality p pools m list sh s r units xi t z b h =
    let n : Node = node_at p m in
    let ex : length xi ≡ length n.state_costs = b.count ∙ sh.states in
    let whole : ℤ = alpha_sum pools n list *ℤ pos units +ℤ sum_to (length n.state_costs) (λ k. beta_sum n list k *ℤ entry xi k) in
    let zd : 0 < divisor n = mul-pos (mul-pos scale_some sh.successors) sh.realizations in
    let one : ratio whole (S * S * successor_weight n * units) ≤ᶠ cost_sum p units n n.realizations xi t = subst (λ (k : ℤ). ratio k (S * S * successor_weight n * units) ≤ᶠ cost_sum p units n n.realizations xi t) (parts_total pools units n xi (zip n.realizations list)) (average p pools units n xi n.realizations list t z s sh ex r.count r.each h) in
    let two : ratio whole (S * S * successor_weight n * units * realization_weight n) ≤ᶠ cost p units m xi t = below_over whole (S * S * successor_weight n * units) (realization_weight n) (cost_sum p units n n.realizations xi t) one in
    let three : ratio whole (divisor n * (S * units)) ≤ᶠ cost p units m xi t = subst (λ (k : ℕ). ratio whole k ≤ᶠ cost p units m xi t) (under_is S (successor_weight n) units (realization_weight n)) two in
    let four : (pos (divisor n) *ℤ scaled_value units xi (cut_of pools n list)) ≤ℤ whole = subst (λ (k : ℕ). (pos (divisor n) *ℤ scaled_value units xi (cut_of pools n list)) ≤ℤ (alpha_sum pools n list *ℤ pos units +ℤ sum_to k (λ k. beta_sum n list k *ℤ entry xi k))) sh.states (rounding pools units n list xi zd b) in
    below_cancel (scaled_value units xi (cut_of pools n list)) (S * units) (divisor n) (cost p units m xi t) zd
    (below_less (pos (divisor n) *ℤ scaled_value units xi (cut_of pools n list)) whole (divisor n * (S * units)) (cost p units m xi t) four three)
