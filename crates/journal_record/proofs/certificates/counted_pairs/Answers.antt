use Rattle.std.proofs.lemmas.Result.{err_from_is_err_and}
use Rattle.journal_record.specs.Reading.{many, pair_at}
use Rattle.journal_record.proofs.Loop.{goes_on, ends, is_done}
use Rattle.journal_record.proofs.certificates.counted_pairs.Goals as goal

pub returns-in_err-pair : goal.returns-in_err-pair
returns-in_err-pair c =
    let l = c.loop in
    let p = err_from_is_err_and c.from_residual-in_err-pair.result c.from_residual-in_err-pair.ensures.1 in
    rw (p.1, p.2) (ends pair_at c.in_err-pair.field-0.0 l.found.items c.args.count l.counter l.tail.now (many pair_at c.args.count c.args.bytes.now) c.loop-test.true c.in_err-pair.ensures l.invariant)

pub loop-preserved : goal.loop-preserved
loop-preserved c =
    let l = c.loop in
    rw c.in_ok-push.ensures.items (goes_on pair_at l.found.items c.args.count l.counter l.tail.now c.in_ok-pair.pair c.in_ok-pair.after.now (many pair_at c.args.count c.args.bytes.now) c.loop-test.true c.in_ok-pair.ensures l.invariant)

pub returns : goal.returns
returns c = let l = c.loop in rw c.from_vec.ensures (is_done pair_at l.found.items c.args.count l.counter l.tail.now (many pair_at c.args.count c.args.bytes.now) c.loop-test.false l.invariant)
