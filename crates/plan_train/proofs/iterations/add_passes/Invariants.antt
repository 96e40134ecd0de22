use Rattle.std.proofs.Common.{◌≡◌, [], drop, zip}
use Rattle.theory.specs.Pools.{Sound}
use Rattle.theory.specs.View.{problem_of}
use Rattle.cut_pool.specs.AtNodes.{PoolsFit}
use Rattle.plan_train.specs.Growing.{ExtendsPools}
use Rattle.plan_train.specs.Stepping.{forwards, seen_stepped, with_path}
use Rattle.plan_train.proofs.iterations.add_passes.Given as goal

abbrev pub invariant-loop-i : goal.invariant-loop-i
invariant-loop-i g l =
    let p = l.planner.problem.now in
    let v = g.V.Solver.does l.planner.solver.now in
    record {
      value : forwards (with_path v p l.forward.iteration) (drop l.i (zip l.forward.paths.now l.forward.trajectories.now)) (seen_stepped l.pools.lists l.entries) ≡ forwards (with_path v p l.forward.iteration) (zip l.forward.paths.now l.forward.trajectories.now) (seen_stepped l.initial.pools.lists []);
      extends : ExtendsPools l.i l.initial.pools.lists l.pools.lists;
      fit : PoolsFit p l.pools.lists;
      sound : Sound (problem_of p) l.initial.pools.lists → Sound (problem_of p) l.pools.lists;
    }
