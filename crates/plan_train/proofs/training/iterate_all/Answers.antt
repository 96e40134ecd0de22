use Rattle.std.proofs.Common.{◌≡◌, ℕ, ◌+◌, length, None, refl, sym, ap, ◌∙◌, subst, arith}
use Rattle.std.proofs.lemmas.Result.{err_from_is_err_and}
use Rattle.problem.specs.Formulas.{too_much}
use Rattle.journal_load.specs.declared.loaded.Loaded.{Loaded}
use Rattle.journal_load.specs.Load.{Outcome}
use Rattle.plan_train.specs.Continuing.{continued}
use Rattle.plan_train.proofs.Formulas.{too_much-fewer}
use Rattle.plan_train.proofs.Grows.{after, iterated_none, recorded_none}
use Rattle.plan_train.proofs.OneMore.{next_ends, next_iterated, next_moment, next_near, next_reads, next_recorded, next_stops}
use Rattle.plan_train.proofs.training.iterate_all.Goals as goal

pub loop-done-init : goal.loop-done-init
unfolding continued
loop-done-init g c =
    let p = c.args.course.now.planner.now.problem.now in
    let v = g.V.Solver.does c.args.course.now.planner.now.solver.now in
    let seed = c.args.course.now.seed in
    let old = c.args.loaded.now in
    let s = g.D.Disk.store c.args.disk.now in
    record {
      iterated = iterated_none v p seed old c.requires.open c.requires.whole c.requires.fit c.requires.cuts;
      recorded = recorded_none s old.end (after v p seed old c.args.left).lists (g.D.Disk.lawful c.args.disk.now) c.requires.quiet c.requires.end;
      later = omega arith;
      stayed = refl;
    }

pub iterate-requires-clause-room : goal.iterate-requires-clause-room
iterate-requires-clause-room g c κs within =
    let p = c.args.course.now.planner.now.problem.now in
    let old = c.args.loaded.now in
    let batch : c.loop-done.loaded.batch ≡ old.batch = ap (λ (o : Outcome). o.batch) c.loop-done.invariant.iterated.value in
    subst (λ (b : ℕ). too_much p (c.len-before.result + c.loop-done.done + 1) b ≡ None) (sym batch)
    (too_much-fewer p (c.len-before.result + c.loop-done.done + 1) (length old.bounds + c.args.left) old.batch (omega (arith, c.len-before.ensures, c.loop-done-test.true)) c.requires.room)

pub returns-in_err-body-clause-stop : goal.returns-in_err-body-clause-stop
returns-in_err-body-clause-stop g c =
    let e = err_from_is_err_and c.from_residual.result c.from_residual.ensures.1 in
    rw (e.1, e.2) (next_stops c.loop-done.invariant.iterated c.args.left (c.len-before.result + c.loop-done.done + 1) (omega (arith, c.loop-done-test.true)) (omega (arith, c.len-before.ensures)) (Unit {0}) c.in_err-body.field-0.0 c.in_err-body.ensures.value)

pub returns-in_err-body-clause-reads : goal.returns-in_err-body-clause-reads
returns-in_err-body-clause-reads g c =
    let e = err_from_is_err_and c.from_residual.result c.from_residual.ensures.1 in
    rw (e.1, e.2) (next_reads c.loop-done.invariant.iterated c.args.left (c.len-before.result + c.loop-done.done + 1) (omega (arith, c.loop-done-test.true)) (omega (arith, c.len-before.ensures)) (Unit {0}) c.in_err-body.field-0.0 (g.D.Disk.store c.args.disk.now) (g.D.Disk.store c.loop-done.disk) c.loop-done.invariant.recorded c.in_err-body.ensures.value)

pub append-requires-clause-near : goal.append-requires-clause-near
append-requires-clause-near g c =
    let near = next_near c.loop-done.invariant.iterated c.args.left (c.len-before.result + c.loop-done.done + 1) (omega (arith, c.loop-done-test.true)) (omega (arith, c.len-before.ensures)) c.iterate.new.loaded c.in_ok-body.body.items c.in_ok-body.ensures.value in
    omega (arith, near, c.requires.near, c.requires.last, c.loop-done-test.true)

pub append-requires-clause-last : goal.append-requires-clause-last
append-requires-clause-last g c = next_ends c.loop-done.invariant.iterated c.args.left (c.len-before.result + c.loop-done.done + 1) (omega (arith, c.loop-done-test.true)) (omega (arith, c.len-before.ensures)) c.iterate.new.loaded c.in_ok-body.body.items c.in_ok-body.ensures.value (g.D.Disk.store c.args.disk.now) (g.D.Disk.store c.loop-done.disk) c.requires.open c.loop-done.invariant.recorded c.requires.end

pub returns-in_err-loaded-clause-any_moment : goal.returns-in_err-loaded-clause-any_moment
returns-in_err-loaded-clause-any_moment g c = next_moment c.loop-done.invariant.iterated c.args.left (c.len-before.result + c.loop-done.done + 1) (omega (arith, c.loop-done-test.true)) (omega (arith, c.len-before.ensures)) c.iterate.new.loaded c.in_ok-body.body.items c.in_ok-body.ensures.value (g.D.Disk.store c.args.disk.now) (g.D.Disk.store c.loop-done.disk) c.requires.open c.loop-done.invariant.recorded c.requires.end (g.D.Disk.store c.append.new.disk) c.as_slice.result.now c.as_slice.ensures.value c.append.ensures.any_moment

pub loop-done-preserved : goal.loop-done-preserved
loop-done-preserved g c =
    let m = c.iterate.new.loaded in
    let new : Loaded = record { pools = m.pools; bounds = m.bounds; unanswered = m.unanswered; committed = m.committed; end = c.in_ok-loaded.field-0; tail = m.tail; version = m.version; batch = m.batch } in
    record {
      iterated = next_iterated c.loop-done.invariant.iterated c.args.left (c.len-before.result + c.loop-done.done + 1) (omega (arith, c.loop-done-test.true)) (omega (arith, c.len-before.ensures)) c.iterate.new.loaded c.in_ok-body.body.items c.in_ok-body.ensures.value new c.in_ok-loaded.field-0 c.as_slice.result.now c.as_slice.ensures.value c.in_ok-loaded.ensures.next refl c.in_ok-body.ensures.body c.iterate.ensures.fit c.iterate.ensures.cuts c.iterate.ensures.sound c.in_ok-body.ensures.under c.in_ok-body.ensures.unanswered;
      recorded = next_recorded c.loop-done.invariant.iterated c.args.left (c.len-before.result + c.loop-done.done + 1) (omega (arith, c.loop-done-test.true)) (omega (arith, c.len-before.ensures)) c.iterate.new.loaded c.in_ok-body.body.items c.in_ok-body.ensures.value (g.D.Disk.store c.args.disk.now) (g.D.Disk.store c.loop-done.disk) c.requires.open c.loop-done.invariant.recorded c.requires.end (g.D.Disk.store c.append.new.disk) c.as_slice.result.now c.as_slice.ensures.value c.append.ensures.any_moment c.in_ok-loaded.ensures.quiet c.in_ok-loaded.ensures.reads;
      later = omega (arith, c.loop-done.invariant.later, c.append.ensures.cause.later);
      stayed = c.in_ok-loaded.ensures.cause.succeeded ∙ c.loop-done.invariant.stayed;
    }
