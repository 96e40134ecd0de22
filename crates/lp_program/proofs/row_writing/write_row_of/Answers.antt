use Rattle.std.proofs.Common.{◌∙◌, arith}
use Rattle.lp_program.proofs.AllRows.{on_ok}
use Rattle.lp_program.proofs.PackedRows.{row_here, row_later, later_there}
use Rattle.lp_program.proofs.row_writing.write_row_of.Goals as goal

pub returns-then-left-len : goal.returns-then-left-len
returns-then-left-len c =
    let l = c.loop-cuts in
    on_ok c.write_packed_row.result _ _
    (row_here c.args.view.now.outs c.as_slice.result.now l.column c.args.view.now.first l.cuts-index l.left c.args.number c.as_slice-cuts-items.result.now c.args.view.now.cuts c.cuts-item.result c.write_packed_row.new.over c.as_slice-cuts-items.ensures c.as_slice.ensures c.loop-cuts-test.true c.cuts-item.is (omega (arith, c.if-left-len.true, c.len.ensures.value)) l.invariant.same)
    c.write_packed_row.ensures

pub loop-cuts-preserved : goal.loop-cuts-preserved
loop-cuts-preserved c =
    let l = c.loop-cuts in
    record {
      there = later_there c.args.view.now.outs l.column l.cuts-index l.left c.len-left.result c.as_slice-cuts-items.result.now c.cuts-item.result c.loop-cuts-test.true c.cuts-item.is c.len-left.ensures.value (omega (arith, c.if-left-len.false, c.len.ensures.value, c.len-left.ensures.value)) l.invariant.there;
      same = row_later c.args.view.now.outs l.column l.cuts-index l.left c.len-left.result c.as_slice-cuts-items.result.now c.cuts-item.result c.loop-cuts-test.true c.cuts-item.is c.len-left.ensures.value (omega (arith, c.if-left-len.false, c.len.ensures.value, c.len-left.ensures.value)) ∙ l.invariant.same;
      column = omega (arith, l.invariant.column);
    }
