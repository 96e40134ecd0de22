use Rattle.std.proofs.lemmas.Result.{err_from_is_err_and}
use Rattle.journal_record.specs.Reading.{many, entry_at}
use Rattle.journal_record.proofs.Loop.{goes_on, ends, is_done}
use Rattle.journal_record.proofs.decoding.counted_entries.Goals as goal

pub returns-in_err-entry : goal.returns-in_err-entry
returns-in_err-entry c =
    let l = c.loop in
    let p = err_from_is_err_and c.from_residual-in_err-entry.result c.from_residual-in_err-entry.ensures.1 in
    rw (p.1, p.2) (ends (entry_at c.args.problem.now c.args.wanted) c.in_err-entry.field-0.0 l.found.items c.args.count l.counter l.tail.now (many (entry_at c.args.problem.now c.args.wanted) c.args.count c.args.bytes.now) c.loop-test.true c.in_err-entry.ensures l.invariant)

pub loop-preserved : goal.loop-preserved
loop-preserved c =
    let l = c.loop in
    rw c.in_ok-push.ensures.items (goes_on (entry_at c.args.problem.now c.args.wanted) l.found.items c.args.count l.counter l.tail.now c.in_ok-entry.entry c.in_ok-entry.after.now (many (entry_at c.args.problem.now c.args.wanted) c.args.count c.args.bytes.now) c.loop-test.true c.in_ok-entry.ensures l.invariant)

pub returns : goal.returns
returns c = let l = c.loop in rw c.from_vec.ensures (is_done (entry_at c.args.problem.now c.args.wanted) l.found.items c.args.count l.counter l.tail.now (many (entry_at c.args.problem.now c.args.wanted) c.args.count c.args.bytes.now) c.loop-test.false l.invariant)
