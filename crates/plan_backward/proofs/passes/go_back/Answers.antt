use Rattle.std.proofs.Common.{◌≡◌, ◌∙◌, ◌+◌, ◌-◌, ◌<◌, ◌^◌, ℕ, ℤ, [], List, length, drop, zip, get_or, All, Ok, Err, refl, ap, sym, subst, drop_of_length-le, arith}
use Rattle.std.proofs.Math.Seq.{take-length}
use Rattle.std.proofs.lemmas.List.{get_or-take, get_or_default, length-take-le}
use Rattle.std.proofs.lemmas.List.Elements.{All-nil}
use Rattle.std.proofs.lemmas.Result.{err_from_is_err_and}
use Rattle.std.proofs.lemmas.Slice.Zip.{length-zip}
use Rattle.theory.specs.Pools.{pool}
use Rattle.cut_pool.specs.declared.entry.EntryStep.{EntryStep}
use Rattle.plan_draw.specs.declared.steps.PathStep.{PathStep}
use Rattle.plan_backward.specs.Given.{IsVisitInside}
use Rattle.plan_backward.specs.Sweeping.{backwards, seen, step_back, taken_back}
use Rattle.plan_backward.proofs.PathNodes.{few_before}
use Rattle.plan_backward.proofs.StepsBack.{get_or-zip, visit_at, step_more, step_stops, stops_through}
use Rattle.plan_backward.proofs.passes.go_back.Goals as goal

pub loop-left-init : goal.loop-left-init
loop-left-init g c =
    let p = c.args.planner.now.problem.now in
    let step = step_back (g.V.Solver.does c.args.planner.now.solver.now) p c.args.entry.now.iteration in
    let none_left : drop (length c.args.pass.now.path.now) (zip c.args.pass.now.path.now c.args.pass.now.trajectory.now.states) ≡ [] = drop_of_length-le (zip c.args.pass.now.path.now c.args.pass.now.trajectory.now.states) (omega (arith, length-zip c.args.pass.now.path.now c.args.pass.now.trajectory.now.states)) in
    record {
      value = ap (λ (visits : List (PathStep × List ℤ)). backwards step visits (seen c.args.pools.now.lists c.args.entry.now)) none_left;
      before = ap (taken_back c.args.pools.now.lists) c.requires.steps;
      known = subst (λ (ss : List EntryStep). All (λ (s : EntryStep). s.node < length p.parts.nodes) ss) (sym c.requires.steps) (All-nil (λ (s : EntryStep). s.node < length p.parts.nodes));
      fit = c.requires.fit;
      sound = λ s. s;
      few = subst (λ (ss : List PathStep). All (λ (s : PathStep). length (pool c.args.pools.now.lists s.node) < 2 ^ 24) ss) (sym (take-length c.args.pass.now.path.now)) c.requires.few;
      room = omega (arith, c.requires.unanswered);
      within = omega arith;
      iteration = refl;
    }

pub step_back-requires-clause-visit : goal.step_back-requires-clause-visit
step_back-requires-clause-visit g c κs within =
    let l = c.loop-left in
    let i = l.left - 1 in
    let p = c.args.planner.now.problem.now in
    let none : PathStep = record { node = 0; realization = 0 } in
    let state : List ℤ = c.index-states-left.result in
    let read = ap (λ (states : List (List ℤ)). get_or states i state) c.as_slice-states.ensures in
    let in_path : i < length c.args.pass.now.path.now = omega (arith, l.invariant.within) in
    let in_states : i < length c.args.pass.now.trajectory.now.states = omega (arith, l.invariant.within, c.requires.states) in
    let zipped = get_or-zip c.args.pass.now.path.now c.args.pass.now.trajectory.now.states i none state in_path in_states in
    let inside = subst (IsVisitInside p) (sym zipped) (c.requires.inside i (get_or c.args.pass.now.path.now i none, get_or c.args.pass.now.trajectory.now.states i state) (omega (arith, length-zip c.args.pass.now.path.now c.args.pass.now.trajectory.now.states, in_path, in_states))) in
    record {
      known = (c.requires.known i none in_path).0;
      fit = l.invariant.fit;
      inside = subst (λ (x : List ℤ). IsVisitInside p (get_or c.args.pass.now.path.now i none, x)) (sym (c.as_slice.ensures ∙ c.index-states-left.is ∙ read)) inside;
    }

pub step_back-requires-clause-few : goal.step_back-requires-clause-few
step_back-requires-clause-few g c κs within =
    let l = c.loop-left in
    let i = l.left - 1 in
    let none : PathStep = record { node = 0; realization = 0 } in
    subst (λ (s : PathStep). length (pool l.pools.lists s.node) < 2 ^ 24) (get_or-take l.left c.args.pass.now.path.now i none (omega arith)) (l.invariant.few i none (omega (arith, l.invariant.within, length-take-le l.left c.args.pass.now.path.now l.invariant.within)))

pub loop-left-preserved : goal.loop-left-preserved
loop-left-preserved g c =
    let l = c.loop-left in
    let i = l.left - 1 in
    let p = c.args.planner.now.problem.now in
    let v = g.V.Solver.does c.args.planner.now.solver.now in
    let none : PathStep = record { node = 0; realization = 0 } in
    let s : PathStep = get_or c.args.pass.now.path.now i none in
    let in_path : i < length c.args.pass.now.path.now = omega (arith, l.invariant.within) in
    let done = c.in_ok-step_back.ensures in
    let x : List ℤ = c.as_slice.result.now in
    let read = ap (λ (states : List (List ℤ)). get_or states i c.index-states-left.result) c.as_slice-states.ensures in
    let in_states : i < length c.args.pass.now.trajectory.now.states = omega (arith, in_path, c.requires.states) in
    let in_zip : i < length (zip c.args.pass.now.path.now c.args.pass.now.trajectory.now.states) = omega (arith, length-zip c.args.pass.now.path.now c.args.pass.now.trajectory.now.states, in_path, in_states) in
    let at = visit_at c.args.pass.now.path.now c.args.pass.now.trajectory.now.states i none x in_path in_states (c.as_slice.ensures ∙ c.index-states-left.is ∙ read ∙ get_or_default c.args.pass.now.trajectory.now.states i c.index-states-left.result x in_states) in
    let next : i + 1 ≡ l.left = omega arith in
    record {
      value = step_more (step_back v p c.args.entry.now.iteration) (zip c.args.pass.now.path.now c.args.pass.now.trajectory.now.states) i (s, x) (seen c.args.pools.now.lists c.args.entry.now) (seen l.pools.lists l.entry) (Ok (seen c.step_back.new.pools.lists c.step_back.new.entry))
          in_zip at (ap (λ (n : ℕ). backwards (step_back v p c.args.entry.now.iteration) (drop n (zip c.args.pass.now.path.now c.args.pass.now.trajectory.now.states)) (seen c.args.pools.now.lists c.args.entry.now)) next ∙ l.invariant.value)
          (ap (λ (k : ℕ). step_back v p k (seen l.pools.lists l.entry) (s, x)) (sym l.invariant.iteration) ∙ done.value);
      before = done.taken ∙ l.invariant.before;
      known = done.known l.invariant.known;
      fit = done.fit;
      sound = λ h. done.sound (l.invariant.sound h);
      few = few_before l.pools.lists c.step_back.new.pools.lists c.args.pass.now.path.now i l.left s (omega arith) in_path (get_or_default c.args.pass.now.path.now i none s in_path) c.requires.distinct done.others l.invariant.few;
      room = omega (arith, l.invariant.room, done.added);
      within = omega (arith, l.invariant.within);
      iteration = done.iteration ∙ l.invariant.iteration;
    }

pub returns-in_err-step_back-clause-value : goal.returns-in_err-step_back-clause-value
returns-in_err-step_back-clause-value g c =
    let l = c.loop-left in
    let i = l.left - 1 in
    let p = c.args.planner.now.problem.now in
    let v = g.V.Solver.does c.args.planner.now.solver.now in
    let none : PathStep = record { node = 0; realization = 0 } in
    let s : PathStep = get_or c.args.pass.now.path.now i none in
    let in_path : i < length c.args.pass.now.path.now = omega (arith, l.invariant.within) in
    let x : List ℤ = c.as_slice.result.now in
    let read = ap (λ (states : List (List ℤ)). get_or states i c.index-states-left.result) c.as_slice-states.ensures in
    let in_states : i < length c.args.pass.now.trajectory.now.states = omega (arith, in_path, c.requires.states) in
    let in_zip : i < length (zip c.args.pass.now.path.now c.args.pass.now.trajectory.now.states) = omega (arith, length-zip c.args.pass.now.path.now c.args.pass.now.trajectory.now.states, in_path, in_states) in
    let at = visit_at c.args.pass.now.path.now c.args.pass.now.trajectory.now.states i none x in_path in_states (c.as_slice.ensures ∙ c.index-states-left.is ∙ read ∙ get_or_default c.args.pass.now.trajectory.now.states i c.index-states-left.result x in_states) in
    let next : i + 1 ≡ l.left = omega arith in
    let e = err_from_is_err_and c.from_residual.result c.from_residual.ensures.1 in
    rw (e.1, e.2)
    (stops_through c.in_err-step_back.field-0.0 (step_back v p l.entry.iteration (seen l.pools.lists l.entry) (s, x)) (backwards (step_back v p c.args.entry.now.iteration) (zip c.args.pass.now.path.now c.args.pass.now.trajectory.now.states) (seen c.args.pools.now.lists c.args.entry.now))
    (λ f is. step_stops (step_back v p c.args.entry.now.iteration) (zip c.args.pass.now.path.now c.args.pass.now.trajectory.now.states) i (seen c.args.pools.now.lists c.args.entry.now) f
    (step_more (step_back v p c.args.entry.now.iteration) (zip c.args.pass.now.path.now c.args.pass.now.trajectory.now.states) i (s, x) (seen c.args.pools.now.lists c.args.entry.now) (seen l.pools.lists l.entry) (Err f)
    in_zip at (ap (λ (n : ℕ). backwards (step_back v p c.args.entry.now.iteration) (drop n (zip c.args.pass.now.path.now c.args.pass.now.trajectory.now.states)) (seen c.args.pools.now.lists c.args.entry.now)) next ∙ l.invariant.value)
    (ap (λ (k : ℕ). step_back v p k (seen l.pools.lists l.entry) (s, x)) (sym l.invariant.iteration) ∙ is)))
    c.in_err-step_back.ensures.value)
