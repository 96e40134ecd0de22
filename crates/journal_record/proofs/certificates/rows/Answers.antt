use Rattle.std.proofs.Common.{rules, SFits, w64}
use Rattle.std.proofs.lemmas.Int.{to_z-of_z}
use Rattle.std.proofs.lemmas.Result.{err_from_is_err_and}
use Rattle.journal_record.specs.Reading.{many, read_row_at}
use Rattle.journal_record.proofs.Loop.{goes_on, ends, is_done}
use Rattle.journal_record.proofs.certificates.rows.Goals as goal

pub returns-in_err-row : goal.returns-in_err-row
returns-in_err-row c =
    let l = c.loop in
    let p = err_from_is_err_and c.from_residual-in_err-row.result c.from_residual-in_err-row.ensures.1 in
    rw (p.1, p.2) (ends read_row_at c.in_err-row.field-0.0 l.found.items c.args.count l.counter l.tail.now (many read_row_at c.args.count c.args.bytes.now) c.loop-test.true c.in_err-row.ensures l.invariant)

pub loop-preserved : goal.loop-preserved
loop-preserved c =
    let l = c.loop in
    let f : SFits w64 c.in_ok-row.row = search rules in
    rw (c.in_ok-push.ensures.items, to_z-of_z w64 c.in_ok-row.row f) (goes_on read_row_at l.found.items c.args.count l.counter l.tail.now c.in_ok-row.row c.in_ok-row.after.now (many read_row_at c.args.count c.args.bytes.now) c.loop-test.true c.in_ok-row.ensures l.invariant)

pub returns : goal.returns
returns c = let l = c.loop in rw c.from_vec.ensures (is_done read_row_at l.found.items c.args.count l.counter l.tail.now (many read_row_at c.args.count c.args.bytes.now) c.loop-test.false l.invariant)
