-- The parts_of_node of a node as code reads them, and as the definitions see them.
use Rattle.std.proofs.Common.{◌≡◌, ◌∙◌, ℕ, zero, suc, ◌+◌, ◌<◌, ◌≤◌, ℤ, true, nat_lt, List, [], ◌∷◌, length, get_or, drop, sum, Some, slice_get, Option, refl, sym, ap, ap₂, subst, arith}
use Rattle.std.specs.List.{list_all}
use Rattle.std.proofs.lemmas.List.{drop_more, get_or_default}
use Rattle.problem.specs.declared.parts.Node as nodes
use Rattle.problem.specs.Formulas.{successor_total, total_weight}
use Rattle.problem.specs.Limits.{are_values}
use Rattle.problem.specs.Parts.{successors_at, weights_at}
use Rattle.problem.specs.Validated.{Validated, is_validated, subproblem_of}
use Rattle.plan_draw.specs.declared.steps.PathStep.{PathStep}
use Rattle.plan_draw.proofs.Draws.{made_at}
use Rattle.theory.specs.Problem.{Realization, Successor, Node, node_at, successor_weights, weight_of_realizations, realization_weight, weight_of_successors, successor_weight}
use Rattle.theory.specs.View.{successors_of, realizations_of, problem_of}
use Rattle.theory.proofs.ValidatedParts.{Parts, parts_of_node, linked, successors_known, weighty}
use Rattle.theory.proofs.Views.{length-successors_of, successor_at, successor_weights-successors_of, successors-node_of, realizations-node_of, stop-node_of, weight-realizations_of}
use Rattle.plan_forward.specs.Walking.{values_of}
use Rattle.plan_forward.proofs.Arcs.{values-validated}

no_successor : Successor
no_successor = record { node = 0; weight = 0 }

pub no_realization : Realization
no_realization = record { weight = 0; values = [] }

-- the arc at a place, and those behind it
pub successor_here : (ms ws : List ℕ) (i m w : ℕ) → length ws ≡ length ms → i < length ms → m ≡ get_or ms i m → w ≡ get_or ws i w → drop i (successors_of ms ws) ≡ record { node = m; weight = w } ∷ drop (i + 1) (successors_of ms ws)
successor_here ms ws i m w e h em ew =
    let node : get_or ms i 0 ≡ m = get_or_default ms i 0 m h ∙ sym em in
    let weight : get_or ws i 0 ≡ w = get_or_default ws i 0 w (omega (arith, e, h)) ∙ sym ew in
    drop_more (successors_of ms ws) i no_successor (omega (arith, h, length-successors_of ms ws e))
    ∙ ap (λ (l : Successor). l ∷ drop (i + 1) (successors_of ms ws)) (successor_at ms ws i no_successor e h ∙ ap₂ (λ (m w : ℕ). record { node = m; weight = w }) node weight)

realization_at : (ws : List ℕ) (vs : List (List ℤ)) (i : ℕ) → length vs ≡ length ws → i < length ws → get_or (realizations_of ws vs) i no_realization ≡ record { weight = get_or ws i 0; values = get_or vs i [] }
realization_at [] vs i e h = absurd (omega arith)
realization_at (w ∷ ws) [] i e h = absurd (omega arith)
realization_at (w ∷ ws) (v ∷ vs) zero e h = refl
realization_at (w ∷ ws) (v ∷ vs) (suc i) e h = realization_at ws vs i (omega arith) (omega arith)

pub length-realizations_of : (ws : List ℕ) (vs : List (List ℤ)) → length vs ≡ length ws → length (realizations_of ws vs) ≡ length ws
length-realizations_of [] vs e = refl
length-realizations_of (w ∷ ws) [] e = absurd (omega arith)
length-realizations_of (w ∷ ws) (v ∷ vs) e = ap suc (length-realizations_of ws vs (omega arith))

-- the realization at a place, and those behind it
pub realization_here : (ws : List ℕ) (vs : List (List ℤ)) (i w : ℕ) (v : List ℤ) → length vs ≡ length ws → i < length ws → w ≡ get_or ws i w → v ≡ get_or vs i v → drop i (realizations_of ws vs) ≡ record { weight = w; values = v } ∷ drop (i + 1) (realizations_of ws vs)
realization_here ws vs i w v e h ew ev =
    let weight : get_or ws i 0 ≡ w = get_or_default ws i 0 w h ∙ sym ew in
    let values : get_or vs i [] ≡ v = get_or_default vs i [] v (omega (arith, e, h)) ∙ sym ev in
    drop_more (realizations_of ws vs) i no_realization (omega (arith, h, length-realizations_of ws vs e))
    ∙ ap (λ (r : Realization). r ∷ drop (i + 1) (realizations_of ws vs)) (realization_at ws vs i e h ∙ ap₂ (λ (w : ℕ) (v : List ℤ). record { weight = w; values = v }) weight values)

-- the node m is seen as this one
pub record Seen (p : Validated) (m : ℕ) (n : nodes.Node) : Type 0 where
  pub successors : (node_at (problem_of p) m).successors ≡ successors_of n.successors n.successor_weights
  pub realizations : (node_at (problem_of p) m).realizations ≡ realizations_of n.weights n.values
  pub stop : (node_at (problem_of p) m).stop ≡ n.stop
  pub counted : length n.successor_weights ≡ length n.successors
  pub valued : length n.values ≡ length n.weights
  pub known : list_all (λ k. nat_lt k (length p.parts.nodes)) n.successors ≡ true
  pub some : 0 < length n.weights
  pub few : length n.weights ≤ 100
  pub light : sum n.weights ≤ 65535

pub node_same : (a b : nodes.Node) (o : Option nodes.Node) → o ≡ Some a → o ≡ Some b → a ≡ b
node_same a b o e f = cc

pub seen : (p : Validated) (m : ℕ) (n : nodes.Node) → is_validated p ≡ true → m < length p.parts.nodes → slice_get p.parts.nodes m ≡ Some n → Seen p m n
seen p m n e h is =
    let q : Parts p m = parts_of_node p m e h in
    let w = weighty q.node (length q.subproblem.randoms) q.fit.realizations in
    let l = linked q.node (length p.parts.nodes) q.fit.successors in
    subst (Seen p m) (node_same q.node n (slice_get p.parts.nodes m) q.fit.the_node is)
    (record {
      successors = ap (λ (n : Node). n.successors) q.fit.is ∙ successors-node_of q.node q.subproblem q.low q.high;
      realizations = ap (λ (n : Node). n.realizations) q.fit.is ∙ realizations-node_of q.node q.subproblem q.low q.high;
      stop = ap (λ (n : Node). n.stop) q.fit.is ∙ stop-node_of q.node q.subproblem q.low q.high;
      counted = l.1;
      valued = w.3;
      known = successors_known q.node (length p.parts.nodes) q.fit.successors;
      some = w.0;
      few = w.1;
      light = w.2;
    })

-- the reading of a loop through a node's realizations at a place
pub record Read (own : nodes.Node) (i w : ℕ) (v : List ℤ) : Type 0 where
  pub inside : i < length own.weights
  pub weight : w ≡ get_or own.weights i w
  pub values : v ≡ get_or own.values i v

pub read_at : (p : Validated) (m : ℕ) (own other : nodes.Node) (ws : List ℕ) (vs : List (List ℤ)) (i : ℕ) (r v : List ℤ) → ws ≡ own.weights → vs ≡ other.values → slice_get p.parts.nodes m ≡ Some own → slice_get p.parts.nodes m ≡ Some other
    → i < length ws → r ≡ get_or vs i r → v ≡ r → Read own i (get_or ws i 0) v
read_at p m own other ws vs i r v ew ev is again h at e =
    let values : vs ≡ own.values = ev ∙ ap (λ (n : nodes.Node). n.values) (node_same other own (slice_get p.parts.nodes m) again is) in
    record {
      inside = omega (arith, h, ap (λ (ks : List ℕ). length ks) ew);
      weight = get_or_default ws i 0 (get_or ws i 0) h ∙ ap (λ (ks : List ℕ). get_or ks i (get_or ws i 0)) ew;
      values = e ∙ at ∙ ap (λ (ks : List (List ℤ)). get_or ks i r) values ∙ ap (λ (a : List ℤ). get_or own.values i a) (sym e);
    }

-- the values of the realization at a place
pub realization_values : (p : Validated) (m i : ℕ) (n : nodes.Node) (v : List ℤ) → Seen p m n → i < length n.weights → v ≡ get_or n.values i v → (get_or (node_at (problem_of p) m).realizations i no_realization).values ≡ v
realization_values p m i n v s inside ev =
    ap (λ (rs : List Realization). (get_or rs i no_realization).values) s.realizations
    ∙ ap (λ (r : Realization). r.values) (realization_at n.weights n.values i s.valued inside)
    ∙ get_or_default n.values i [] v (omega (arith, inside, s.valued))
    ∙ sym ev

-- the weights of a node
pub total_of : (ws : List ℕ) → 0 < length ws → total_weight ws ≡ sum ws
total_of [] h = absurd (omega (arith, h))
total_of (w ∷ ws) h = refl

pub realization_total : (p : Validated) (m : ℕ) (n : nodes.Node) → Seen p m n → total_weight n.weights ≡ realization_weight (node_at (problem_of p) m)
realization_total p m n s = total_of n.weights s.some ∙ sym (weight-realizations_of n.weights n.values (sym s.valued)) ∙ ap weight_of_realizations (sym s.realizations)

successors : (stop : ℕ) (ms ws : List ℕ) → length ws ≡ length ms → successor_total stop ws ≡ weight_of_successors stop (successors_of ms ws)
successors stop [] [] e = refl
successors stop [] (w ∷ ws) e = absurd (omega (arith, e))
successors stop (m ∷ ms) [] e = absurd (omega (arith, e))
successors stop (m ∷ ms) (w ∷ ws) e = ap (λ (k : List ℕ). stop + sum k) (sym (successor_weights-successors_of (m ∷ ms) (w ∷ ws) (sym e)))

pub successor_sum : (p : Validated) (m : ℕ) (n : nodes.Node) → Seen p m n → successor_total n.stop n.successor_weights ≡ successor_weight (node_at (problem_of p) m)
successor_sum p m n s = successors n.stop n.successors n.successor_weights s.counted ∙ ap₂ weight_of_successors (sym s.stop) (sym s.successors)

-- the successors' weights are at most that of all together
pub within_successors : (stop : ℕ) (ls : List Successor) → sum (successor_weights ls) ≤ weight_of_successors stop ls
within_successors stop [] = omega arith
within_successors stop (l ∷ ls) = omega arith

pub successors_there : (p : Validated) (m : ℕ) (n : nodes.Node) → slice_get p.parts.nodes m ≡ Some n → successors_at p.parts m ≡ n.successors
successors_there p m n is = made_at (λ (n : nodes.Node). n.successors) p.parts.nodes m n [] is

-- the values of a realization
pub values_here : (p : Validated) (m i : ℕ) (n : nodes.Node) (v : List ℤ) → is_validated p ≡ true → m < length p.parts.nodes → slice_get p.parts.nodes m ≡ Some n → i < length n.weights → v ≡ get_or n.values i v → are_values (subproblem_of p m) v ≡ true
values_here p m i n v e h is inside ev =
    let s : Seen p m n = seen p m n e h is in
    let step : PathStep = record { node = m; realization = i } in
    let weights = made_at (λ (n : nodes.Node). n.weights) p.parts.nodes m n [] is in
    let values = made_at (λ (n : nodes.Node). n.values) p.parts.nodes m n [] is in
    let there : i < length (weights_at p.parts m) = subst (λ (ws : List ℕ). i < length ws) (sym weights) inside in
    let same : values_of p.parts step ≡ v = ap (λ (vs : List (List ℤ)). get_or vs i []) values ∙ get_or_default n.values i [] v (omega (arith, inside, s.valued)) ∙ sym ev in
    subst (λ (vs : List ℤ). are_values (subproblem_of p m) vs ≡ true) same (values-validated p step e (h, there))
