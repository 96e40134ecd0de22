use Rattle.std.proofs.Common.{◌≡◌, ◌≤◌, length}
use Rattle.plan_train.specs.Continuing.{continued}
use Rattle.plan_train.proofs.Grows.{HasIterated, HasRecorded}
use Rattle.plan_train.proofs.training.iterate_all.Given as goal

abbrev pub invariant-loop-done : goal.invariant-loop-done
invariant-loop-done g l =
    let p = l.course.planner.now.problem.now in
    let v = g.V.Solver.does l.course.planner.now.solver.now in
    let first = l.initial.loaded in
    record {
      iterated : HasIterated v p l.course.seed l.done first l.loaded;
      recorded : HasRecorded (g.D.Disk.store l.initial.disk) (g.D.Disk.store l.disk) first.end (continued v p first.pools.lists l.course.seed first.batch (length first.bounds) l.done).lists (continued v p first.pools.lists l.course.seed first.batch (length first.bounds) l.left).lists;
      later : g.D.Disk.faults l.initial.disk ≤ g.D.Disk.faults l.disk;
      stayed : g.D.Disk.faults l.disk ≡ g.D.Disk.faults l.initial.disk;
    }
