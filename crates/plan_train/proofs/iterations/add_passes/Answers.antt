use Rattle.std.proofs.Common.{◌+◌, List, [], length, zip, get_or, refl, sym, ap, ◌∙◌, arith}
use Rattle.std.proofs.lemmas.Result.{err_from_is_err_and}
use Rattle.std.proofs.lemmas.Slice.Zip.{length-zip}
use Rattle.plan_draw.specs.declared.steps.PathStep.{PathStep}
use Rattle.plan_train.specs.Stepping.{seen_stepped, with_path, with_walks}
use Rattle.plan_train.proofs.Forwards.{pair_at, walk_at, forwards-goes, forwards-done, forwards-stops, walks_from}
use Rattle.plan_train.proofs.Growing.{extends_then, extends_wider}
use Rattle.plan_train.proofs.iterations.add_passes.Goals as goal

pub add_pass-requires-clause-walk : goal.add_pass-requires-clause-walk
add_pass-requires-clause-walk g c κs within =
    let path = c.as_slice.ensures ∙ c.index-paths-i.is ∙ ap (λ (x : List PathStep). get_or c.args.forward.now.paths.now c.loop-i.i x) (sym c.as_slice.ensures) in
    walk_at c.args.planner.now.problem.now c.args.forward.now.paths.now c.args.forward.now.trajectories.now c.loop-i.i c.as_slice.result.now c.index-trajectories-i.result c.requires.walks c.loop-i-test.true path c.index-trajectories-i.is

pub returns-in_err-add_pass-clause-value : goal.returns-in_err-add_pass-clause-value
returns-in_err-add_pass-clause-value g c =
    let l = c.loop-i in
    let p = c.args.planner.now.problem.now in
    let v = g.V.Solver.does c.args.planner.now.solver.now in
    let step = with_path v p c.args.forward.now.iteration in
    let path = c.as_slice.ensures ∙ c.index-paths-i.is ∙ ap (λ (x : List PathStep). get_or c.args.forward.now.paths.now c.loop-i.i x) (sym c.as_slice.ensures) in
    let at = pair_at c.args.forward.now.paths.now c.args.forward.now.trajectories.now l.i c.as_slice.result.now c.index-trajectories-i.result c.loop-i-test.true (omega (arith, c.loop-i-test.true, c.requires.walks.count)) path c.index-trajectories-i.is in
    let e = err_from_is_err_and c.from_residual.result c.from_residual.ensures.1 in
    let whole = walks_from v p c.args.pools.now.lists c.args.forward.now.iteration c.args.forward.now.paths.now c.args.forward.now.trajectories.now [] refl in
    rw (e.1, e.2)
    (forwards-stops step (zip c.args.forward.now.paths.now c.args.forward.now.trajectories.now) l.i (seen_stepped l.pools.lists l.entries) (with_walks v p c.args.pools.now.lists c.args.forward.now.iteration c.args.forward.now.paths.now c.args.forward.now.trajectories.now) (c.as_slice.result.now, c.index-trajectories-i.result) c.in_err-add_pass.field-0.0
    (l.invariant.value ∙ whole) at.0 at.1 c.in_err-add_pass.ensures.value)

pub returns-in_err-add_pass-clause-extends : goal.returns-in_err-add_pass-clause-extends
returns-in_err-add_pass-clause-extends g c =
    extends_wider (c.loop-i.i + 1) (length c.args.forward.now.paths.now) c.args.pools.now.lists c.add_pass.new.pools.lists (omega (arith, c.loop-i-test.true))
    (extends_then c.loop-i.i 1 c.args.pools.now.lists c.loop-i.pools.lists c.add_pass.new.pools.lists c.loop-i.invariant.extends c.add_pass.ensures.extends)

pub loop-i-preserved : goal.loop-i-preserved
loop-i-preserved g c =
    let l = c.loop-i in
    let p = c.args.planner.now.problem.now in
    let v = g.V.Solver.does c.args.planner.now.solver.now in
    let step = with_path v p c.args.forward.now.iteration in
    let path = c.as_slice.ensures ∙ c.index-paths-i.is ∙ ap (λ (x : List PathStep). get_or c.args.forward.now.paths.now c.loop-i.i x) (sym c.as_slice.ensures) in
    let at = pair_at c.args.forward.now.paths.now c.args.forward.now.trajectories.now l.i c.as_slice.result.now c.index-trajectories-i.result c.loop-i-test.true (omega (arith, c.loop-i-test.true, c.requires.walks.count)) path c.index-trajectories-i.is in
    record {
      value = forwards-goes step (zip c.args.forward.now.paths.now c.args.forward.now.trajectories.now) l.i (seen_stepped l.pools.lists l.entries) _ l.invariant.value (c.as_slice.result.now, c.index-trajectories-i.result) (seen_stepped c.add_pass.new.pools.lists c.add_pass.new.entries) at.0 at.1 c.in_ok-add_pass.ensures.value;
      extends = extends_then l.i 1 c.args.pools.now.lists l.pools.lists c.add_pass.new.pools.lists l.invariant.extends c.add_pass.ensures.extends;
      fit = c.add_pass.ensures.fit;
      sound = λ s. c.add_pass.ensures.sound (l.invariant.sound s);
    }

pub returns-clause-value : goal.returns-clause-value
returns-clause-value g c =
    let p = c.args.planner.now.problem.now in
    let v = g.V.Solver.does c.args.planner.now.solver.now in
    sym (walks_from v p c.args.pools.now.lists c.args.forward.now.iteration c.args.forward.now.paths.now c.args.forward.now.trajectories.now [] refl)
    ∙ forwards-done (with_path v p c.args.forward.now.iteration) (zip c.args.forward.now.paths.now c.args.forward.now.trajectories.now) c.loop-i.i (seen_stepped c.loop-i.pools.lists c.loop-i.entries) _ c.loop-i.invariant.value (omega (arith, length-zip c.args.forward.now.paths.now c.args.forward.now.trajectories.now, c.loop-i-test.false))
