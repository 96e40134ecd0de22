-- The base risk cuts made so far, and those still to be made.
use Rattle.std.proofs.Common.{◌≡◌, ℕ, zero, suc, get_or, ◌+◌, ◌<◌, ◌≤◌, true, List, [], ◌∷◌, ◌++◌, length, drop, replicate, All, Contains, Ok, ◌⊎◌, inl, inr, refl, sym, ap, ◌∙◌, subst, length-append, arith}
use Rattle.std.proofs.Math.Logic.{⊎_elim}
use Rattle.std.proofs.lemmas.List.{length-set, length-replicate, get_or-set_same, get_or-set_other, drop_more, drop_all}
use Rattle.std.proofs.lemmas.List.Elements.{All-push, All-weaker}
use Rattle.base_graph.proofs.Paths.{one_of}
use Rattle.base_graph.proofs.Placing.{behind}
use Rattle.problem.specs.Validated.{Validated, is_validated}
use Rattle.theory.specs.declared.cut.Cut.{Cut}
use Rattle.theory.specs.Problem.{Successor, Problem, node_at}
use Rattle.theory.specs.View.{problem_of}
use Rattle.theory.specs.Pools.{pool, push}
use Rattle.theory.specs.Base.{base_list}
use Rattle.theory.specs.Fit.{CutFits, Fit, FitFor}
use Rattle.theory.specs.Premises.{InOrder}
use Rattle.theory.proofs.SoundBase.{no_cuts}
use Rattle.theory.proofs.Appending.{push_at}
use Rattle.theory.proofs.ValidatedOrder.{Fresh, in_order-validated, fresh-validated, ordered-validated}
use Rattle.cut_pool.specs.AtNodes.{PoolsFit}
use Rattle.policy_robust.specs.declared.alternatives.Alternatives.{Alternatives}
use Rattle.policy_robust.specs.declared.risk_cuts.RobustFault.{RobustFault}
use Rattle.policy_robust.specs.Listed.{Listed}
use Rattle.policy_robust.specs.RiskCuts.{each_step, base_added, base_risk_cuts, RiskStops}
use Rattle.policy_robust.proofs.Each.{next_more, next_stops, each_done}
use Rattle.policy_robust.proofs.Planned.{added_risk_cut}
use Rattle.policy_robust.proofs.Keeping.{risk_cut_fits}

-- each node done has one risk cut, which fits, and the others have none; the nodes ms are still to come
pub record Placed (p : Problem) (count : ℕ) (done ms : List ℕ) (risk_cuts : List (List Cut)) : Type 0 where
  pub lists : length risk_cuts ≡ count
  pub order : InOrder p count done ms
  pub fresh : Fresh done ms
  pub every : (k : ℕ) → k < count → Contains done k ⊎ Contains ms k
  pub fits : (k : ℕ) → All (CutFits (node_at p k)) (pool risk_cuts k)
  pub one : (k : ℕ) → Contains done k → length (pool risk_cuts k) ≡ 1
  pub none : (k : ℕ) → (Contains done k → ⊥) → length (pool risk_cuts k) ≡ 0

empty : (count k : ℕ) → length (pool (replicate count []) k) ≡ 0
empty zero k = refl
empty (suc count) zero = refl
empty (suc count) (suc k) = empty count k

placed_none : (p : Problem) (count : ℕ) (order : List ℕ) → InOrder p count [] order → Fresh [] order → ((k : ℕ) → k < count → Contains order k) → Placed p count [] order (replicate count [])
placed_none p count order o f every = record {
  lists = length-replicate count [];
  order = o;
  fresh = f;
  every = λ k h. inr (every k h);
  fits = λ k. no_cuts count k (CutFits (node_at p k));
  one = λ k c. absurd (omega (arith, c.1));
  none = λ k c. empty count k;
}

module _ (p : Problem) (count : ℕ) (done : List ℕ) (m : ℕ) (ms : List ℕ) (risk_cuts : List (List Cut)) (f : Placed p count done (m ∷ ms) risk_cuts) where
  some_done : (k : ℕ) → Contains done k → 0 < length (pool risk_cuts k)
  some_done k c = omega (arith, f.one k c)

  -- the node's successors have risk cuts, and these fit
  placed_for : FitFor p count risk_cuts m
  placed_for = record {
    lists = f.lists;
    some = All-weaker (λ (l : Successor). (0 < l.weight) × Contains done l.node) (λ (l : Successor). 0 < length (pool risk_cuts l.node)) (λ l q. some_done l.node q.1) (node_at p m).successors f.order.2;
    cuts = λ i d h. f.fits (get_or (node_at p m).successors i d).node;
  }

  with_risk_cut : (c : Cut) → CutFits (node_at p m) c → Placed p count (m ∷ done) ms (push risk_cuts m c)
  with_risk_cut c fit = record {
    lists = length-set risk_cuts m (pool risk_cuts m ++ c ∷ []) ∙ f.lists;
    order = f.order.3;
    fresh = f.fresh.1;
    every = λ k l. ⊎_elim (λ d. inl (behind m done k d)) (λ d. ⊎_elim (λ e. inl (0, omega arith, e)) (λ r. inr r) (one_of m ms k d)) (f.every k l);
    fits = λ k. push_at risk_cuts m k c (All (CutFits (node_at p k))) (f.fits k) (λ e. subst (λ (j : ℕ). All (CutFits (node_at p j)) (pool risk_cuts m ++ c ∷ [])) (sym e) (All-push (CutFits (node_at p m)) (pool risk_cuts m) c (f.fits m) fit));
    one = λ k d. ⊎_elim (λ e. subst (λ (j : ℕ). length (pool (push risk_cuts m c) j) ≡ 1) e here) (λ r. other k (λ e. f.fresh.0 (subst (λ (j : ℕ). Contains done j) e r)) ∙ f.one k r) (one_of m done k d);
    none = λ k d. other k (λ e. d (0, omega arith, sym e)) ∙ f.none k (λ r. d (behind m done k r));
  }
    where
      inside : m < length risk_cuts
      inside = omega (arith, f.lists, f.order.0)

      here : length (pool (push risk_cuts m c) m) ≡ 1
      here = ap (λ (cs : List Cut). length cs) (get_or-set_same risk_cuts m (pool risk_cuts m ++ c ∷ []) [] inside) ∙ omega (arith, length-append (pool risk_cuts m) (c ∷ []), f.none m f.fresh.0)

      other : (k : ℕ) → (k ≡ m → ⊥) → length (pool (push risk_cuts m c) k) ≡ length (pool risk_cuts k)
      other k e = ap (λ (cs : List Cut). length cs) (get_or-set_other risk_cuts m k (pool risk_cuts m ++ c ∷ []) [] e)

placed_fit : (p : Problem) (count : ℕ) (done : List ℕ) (risk_cuts : List (List Cut)) → Placed p count done [] risk_cuts → Fit p count risk_cuts
placed_fit p count done risk_cuts f = record { lists = f.lists; some = λ m h. omega (arith, one m h); cuts = λ m h. f.fits m }
  where
    one : (m : ℕ) → m < count → length (pool risk_cuts m) ≡ 1
    one m h = ⊎_elim (f.one m) (λ d. absurd (omega (arith, d.1))) (f.every m h)

-- of a validated problem, from number i of its order on
pub record BaseLeft (p : Validated) (x : Alternatives) (order : List ℕ) (i : ℕ) (risk_cuts : List (List Cut)) : Type 0 where
  pub done : List ℕ
  pub placed : Placed (problem_of p) (length p.parts.nodes) done (drop i order) risk_cuts
  pub so_far : each_step (base_added p x) risk_cuts (drop i order) ≡ base_risk_cuts p x

pub base_left : (p : Validated) (x : Alternatives) (order : List ℕ) → is_validated p ≡ true → order ≡ p.order → BaseLeft p x order 0 (replicate (length p.parts.nodes) [])
unfolding base_risk_cuts
base_left p x order e is = record {
  done = [];
  placed = subst (λ (ms : List ℕ). Placed (problem_of p) (length p.parts.nodes) [] ms (replicate (length p.parts.nodes) [])) (sym is) (placed_none (problem_of p) (length p.parts.nodes) p.order (in_order-validated p e) (fresh-validated p e) (ordered-validated p e));
  so_far = ap (λ (ms : List ℕ). each_step (base_added p x) (replicate (length p.parts.nodes) []) ms) is;
}

module _ (p : Validated) (x : Alternatives) (order : List ℕ) (i : ℕ) (risk_cuts : List (List Cut)) (l : BaseLeft p x order i risk_cuts) where
  module _ (below : i < length order) where
    abbrev now : ℕ
    now = get_or order i 0

    at : Placed (problem_of p) (length p.parts.nodes) l.done (now ∷ drop (i + 1) order) risk_cuts
    at = subst (λ (ms : List ℕ). Placed (problem_of p) (length p.parts.nodes) l.done ms risk_cuts) (drop_more order i 0 below) l.placed

    left : each_step (base_added p x) risk_cuts (now ∷ drop (i + 1) order) ≡ base_risk_cuts p x
    left = ap (λ (ms : List ℕ). each_step (base_added p x) risk_cuts ms) (sym (drop_more order i 0 below)) ∙ l.so_far

    pub base_known : now < length p.parts.nodes
    base_known = at.order.0

    pub base_fit : FitFor (problem_of p) (length p.parts.nodes) risk_cuts now
    base_fit = placed_for (problem_of p) (length p.parts.nodes) l.done now (drop (i + 1) order) risk_cuts at

    pub base_more : is_validated p ≡ true → Listed p x.lists → (new : List (List Cut)) → base_added p x risk_cuts now ≡ Ok new → BaseLeft p x order (i + 1) new
    base_more validated listed new e =
        let a = added_risk_cut p x 0 risk_cuts now (base_list (node_at (problem_of p) now)) new e in
        record {
          done = now ∷ l.done;
          placed = subst (λ (q : List (List Cut)). Placed (problem_of p) (length p.parts.nodes) (now ∷ l.done) (drop (i + 1) order) q) a.2
              (with_risk_cut (problem_of p) (length p.parts.nodes) l.done now (drop (i + 1) order) risk_cuts at a.0 (risk_cut_fits p x validated listed now base_known risk_cuts (base_list (node_at (problem_of p) now)) a.0 a.1));
          so_far = next_more (base_added p x) risk_cuts now (drop (i + 1) order) (base_risk_cuts p x) left new e;
        }

    pub base_stops : (fault : RobustFault) → RiskStops fault (base_added p x risk_cuts now) → RiskStops fault (base_risk_cuts p x)
    base_stops fault e = next_stops (base_added p x) risk_cuts now (drop (i + 1) order) (base_risk_cuts p x) left fault e

  pub base_done : length order ≤ i → base_risk_cuts p x ≡ Ok risk_cuts
  base_done all = each_done (base_added p x) risk_cuts order i (base_risk_cuts p x) all l.so_far

  pub base_fits : length order ≤ i → PoolsFit p risk_cuts
  base_fits all = placed_fit (problem_of p) (length p.parts.nodes) l.done risk_cuts (subst (λ (ms : List ℕ). Placed (problem_of p) (length p.parts.nodes) l.done ms risk_cuts) (drop_all i order all) l.placed)
