use Rattle.std.proofs.Common.{◌≡◌, ◌≤◌, ℤ, List, [], get_or, map, drop, Some}
use Rattle.theory.specs.Problem.{node_at}
use Rattle.theory.specs.View.{problem_of}
use Rattle.lp_program.specs.declared.programs.Program.{Program}
use Rattle.lp_program.specs.Proper.{IsLike}
use Rattle.lp_program.specs.Chains.{answers}
use Rattle.plan_stage.specs.Nodes.{stage_at, stage_in}
use Rattle.plan_backward.specs.Certifying.{certify, certify_all, nothing_certified, values_of}
use Rattle.plan_backward.specs.Given.{IsStageOver}
use Rattle.plan_backward.proofs.chains.certify_in_chain.Given as goal

abbrev pub invariant-loop-k : goal.invariant-loop-k
invariant-loop-k g l = record {
  value : certify_all (certify l.here.pools.now.lists (node_at (problem_of l.here.planner.now.problem.now) l.here.node) l.here.iteration l.here.node l.here.state.now) l.found (values_of l.here.planner.now.problem.now.parts l.here.node (drop l.k l.order))
      (answers (g.V.Solver.does l.here.planner.now.solver.now).next l.chain (map (λ (own : List ℤ). stage_at l.here.planner.now.problem.now l.here.pools.now.lists l.here.node own l.here.state.now) (values_of l.here.planner.now.problem.now.parts l.here.node (drop l.k l.order))))
      ≡ certify_all (certify l.here.pools.now.lists (node_at (problem_of l.here.planner.now.problem.now) l.here.node) l.here.iteration l.here.node l.here.state.now) nothing_certified (values_of l.here.planner.now.problem.now.parts l.here.node l.order)
      (answers (g.V.Solver.does l.here.planner.now.solver.now).next l.fn.chain (map (λ (own : List ℤ). stage_at l.here.planner.now.problem.now l.here.pools.now.lists l.here.node own l.here.state.now) (values_of l.here.planner.now.problem.now.parts l.here.node l.order)));
  few : l.found.unanswered ≤ l.k;
  first : l.k ≡ 0 → stage_in l.here.planner.now.problem.now l.here.pools.now.lists l.here.node (get_or (values_of l.here.planner.now.problem.now.parts l.here.node l.order) 0 []) l.here.state.now ≡ Some l.lp;
  stage : IsStageOver l.here.planner.now.problem.now l.here.pools.now.lists l.here.node l.lp;
  fits : (other : Program) → IsLike l.lp other → g.V.Solver.fits l.here.planner.now.solver.now l.chain other;
}
