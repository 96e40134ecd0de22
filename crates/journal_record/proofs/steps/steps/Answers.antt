use Rattle.std.specs.Prelude.{None}
use Rattle.std.proofs.lemmas.Result.{err_from_is_err_and}
use Rattle.journal_record.specs.Reading.{entry_steps_at}
use Rattle.journal_record.proofs.Loop.{step_goes_on, step_ends, steps_done}
use Rattle.journal_record.proofs.steps.steps.Goals as goal

pub returns-in_err-step : goal.returns-in_err-step
returns-in_err-step c =
    let l = c.loop-i in
    let p = err_from_is_err_and c.from_residual-in_err-step.result c.from_residual-in_err-step.ensures.1 in
    rw (p.1, p.2) (step_ends c.args.problem.now l.before c.in_err-step.field-0.0 l.found.items c.args.count l.i l.tail.now (entry_steps_at c.args.problem.now None c.args.count c.args.bytes.now) c.loop-i-test.true c.in_err-step.ensures l.invariant)

pub loop-i-preserved : goal.loop-i-preserved
loop-i-preserved c =
    let l = c.loop-i in
    rw c.in_ok-push.ensures.items (step_goes_on c.args.problem.now l.before l.found.items c.args.count l.i l.tail.now c.in_ok-step.step c.in_ok-step.after.now (entry_steps_at c.args.problem.now None c.args.count c.args.bytes.now) c.loop-i-test.true c.in_ok-step.ensures l.invariant)

pub returns : goal.returns
returns c = let l = c.loop-i in rw c.from_vec.ensures (steps_done c.args.problem.now l.before l.found.items c.args.count l.i l.tail.now (entry_steps_at c.args.problem.now None c.args.count c.args.bytes.now) c.loop-i-test.false l.invariant)
