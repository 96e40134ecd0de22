-- Where walks along paths are refuted: at a realization of a node on the path.
use Rattle.std.proofs.Common.{◌≡◌, ℕ, ◌<◌, ℤ, true, List, [], ◌∷◌, length, All, Result, Ok, Err, IfErr, refl, ap, arith}
use Rattle.std.proofs.lemmas.List.{get_or_default}
use Rattle.base_num.specs.Steps.{◌>>=◌}
use Rattle.base_num.proofs.Sums.{All_head, All_tail}
use Rattle.problem.specs.declared.parts.Node as nodes
use Rattle.problem.specs.Parts.{weights_at}
use Rattle.problem.specs.Validated.{Validated, is_validated}
use Rattle.theory.specs.declared.cut.Cut.{Cut}
use Rattle.theory.specs.Problem.{S}
use Rattle.theory.specs.Tree.{times_all}
use Rattle.theory.specs.View.{problem_of}
use Rattle.theory.proofs.ValidatedParts.{Parts, parts_of_node, weighty}
use Rattle.plan_answer.specs.declared.classifying.Infeasibility.{Infeasibility}
use Rattle.lp_program.specs.Solving.{Solving}
use Rattle.plan_draw.specs.declared.steps.PathStep.{PathStep}
use Rattle.plan_draw.specs.declared.steps.Trajectory.{Trajectory}
use Rattle.plan_draw.specs.Drawn.{IsInRange, IsPath, path}
use Rattle.plan_draw.proofs.PathFacts.{Drawn, drawn}
use Rattle.plan_draw.proofs.Draws.{made_at}
use Rattle.plan_forward.specs.declared.deciding.Decided.{Decided}
use Rattle.cut_pool.specs.AtNodes.{IsStateAt}
use Rattle.plan_forward.specs.Walking.{decide_step, each_of, no_walk, values_of, trajectory_of, walk_on, walked, walks_of}
use Rattle.plan_forward.proofs.Walks.{ComesTo, comes_first, comes_next, decides}
use Rattle.plan_stage.specs.Orders.{node_values_at}
use Rattle.run_program.specs.Refuted.{IsRealized}
use Rattle.run_program.proofs.RefutedPlace.{Located, decide_located, err_as, err_then}

-- all values of a node are those of its realizations
pub values_realized : (p : Validated) (m : ℕ) → is_validated p ≡ true → m < length p.parts.nodes → All (λ (values : List ℤ). IsRealized p (record { node = m; values = values })) (node_values_at p.parts m)
values_realized p m e h = λ i d inside.
    let q : Parts p m = parts_of_node p m e h in
    let w = weighty q.node (length q.subproblem.randoms) q.fit.realizations in
    let weights = made_at (λ (n : nodes.Node). n.weights) p.parts.nodes m q.node [] q.fit.the_node in
    let values = made_at (λ (n : nodes.Node). n.values) p.parts.nodes m q.node [] q.fit.the_node in
    let range : i < length (weights_at p.parts m) = omega (arith, inside, w.3, ap (λ (ws : List ℕ). length ws) weights, ap (λ (vs : List (List ℤ)). length vs) values) in
    (record { node = m; realization = i }, (h, range), ap (λ (vs : List ℤ). record { node = m; values = vs }) (get_or_default (node_values_at p.parts m) i d [] inside))

-- a path that is drawn is one of the problem's graph
pub path_drawn : (p : Validated) → is_validated p ≡ true → (seed stream : ℕ) → IsPath p (path p seed stream)
path_drawn p e seed stream = let d : Drawn p e (path p seed stream) = drawn p e seed stream in record { starts = d.starts; follows = d.follows; in_range = d.in_range }

-- each in order
module _ {A B E : Type 0} (f : A → Result B E) (R : A → Type 0) (Q : E → Type 0) (h : (x : A) → R x → IfErr (f x) Q) where
  pub each_err : (xs : List A) → All R xs → IfErr (each_of f xs) Q
  each_err [] all = tt
  each_err (x ∷ xs) all =
      err_then Q (f x) (λ y. each_of f xs >>= λ ys. Ok (y ∷ ys)) (h x (All_head R x xs all))
      (λ y is. err_then Q (each_of f xs) (λ ys. Ok (y ∷ ys)) (each_err xs (All_tail R x xs all)) (λ ys s. tt))

module _ {Start Chain : Type 0} (v : Solving Start Chain) (p : Validated) (validated : is_validated p ≡ true) (pools : List (List Cut)) (run : ℕ) where
  abbrev decide : PathStep → List ℤ → Result Decided Infeasibility
  decide = decide_step v p pools run

  abbrev Here : Infeasibility → Type 0
  Here = Located p (IsRealized p)

  -- the walk with a step, and what leaves it
  abbrev after : Trajectory → List ℤ → Result Decided Infeasibility → Result (Trajectory × List ℤ) Infeasibility
  after walk state r = r >>= λ d. Ok (walked walk state d, d.next)

  step_located : (s : PathStep) (state : List ℤ) → IsInRange p.parts s → IsStateAt p s.node state → IfErr (decide s state) Here
  step_located s state r inside = decide_located p (IsRealized p) s.node (values_of p.parts s) state r.0 (s, r, refl) inside v pools run

  walk_located : (walk : Trajectory) (state : List ℤ) (ss : List PathStep) → ComesTo p ss state → IfErr (walk_on decide walk state ss) Here
  walk_located walk state [] c = tt
  walk_located walk state (s ∷ ss) c = by (λ d. walk_located (walked walk state d) d.next ss) (decide s state) refl
    where
      by : ((d : Decided) → ComesTo p ss d.next → IfErr (walk_on decide (walked walk state d) d.next ss) Here) → (r : Result Decided Infeasibility) → decide s state ≡ r → IfErr (after walk state r >>= λ a. walk_on decide a.0 a.1 ss) Here
      by tail (Ok d) is = tail d (comes_next p s ss state d.next c ((decides v p pools run validated).next s state d c.range.0 is))
      by tail (Err d) is = err_as Here (decide s state) (Err d) is (step_located s state c.range c.here)

  path_located : (path : List PathStep) → IsPath p path → IfErr (trajectory_of v p pools run path) Here
  unfolding trajectory_of
  path_located path h = walk_located no_walk (times_all S (problem_of p).initial) path (comes_first p path validated h)

  pub walks_located : (paths : List (List PathStep)) → All (IsPath p) paths → IfErr (walks_of v p pools run paths) Here
  walks_located paths all = each_err (trajectory_of v p pools run) (IsPath p) Here path_located paths all
