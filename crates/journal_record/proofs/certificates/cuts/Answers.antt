use Rattle.std.proofs.lemmas.Result.{err_from_is_err_and}
use Rattle.journal_record.specs.Reading.{many, pairs_at}
use Rattle.journal_record.proofs.Loop.{goes_on, ends, is_done}
use Rattle.journal_record.proofs.certificates.cuts.Goals as goal

pub returns-in_err-pairs : goal.returns-in_err-pairs
returns-in_err-pairs c =
    let l = c.loop in
    let p = err_from_is_err_and c.from_residual-in_err-pairs.result c.from_residual-in_err-pairs.ensures.1 in
    rw (p.1, p.2) (ends pairs_at c.in_err-pairs.field-0.0 l.found.items c.args.count l.counter l.tail.now (many pairs_at c.args.count c.args.bytes.now) c.loop-test.true c.in_err-pairs.ensures l.invariant)

pub loop-preserved : goal.loop-preserved
loop-preserved c =
    let l = c.loop in
    rw c.in_ok-push.ensures.items (goes_on pairs_at l.found.items c.args.count l.counter l.tail.now c.in_ok-pairs.pairs c.in_ok-pairs.after.now (many pairs_at c.args.count c.args.bytes.now) c.loop-test.true c.in_ok-pairs.ensures l.invariant)

pub returns : goal.returns
returns c = let l = c.loop in rw c.from_vec.ensures (is_done pairs_at l.found.items c.args.count l.counter l.tail.now (many pairs_at c.args.count c.args.bytes.now) c.loop-test.false l.invariant)
