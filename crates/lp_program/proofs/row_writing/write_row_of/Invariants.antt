use Rattle.std.proofs.Common.{◌≡◌, ◌<◌, ◌+◌, length, drop, slice_get}
use Rattle.lp_program.specs.Packed.{packed_rows}
use Rattle.lp_program.proofs.row_writing.write_row_of.Given as goal

abbrev pub invariant-loop-cuts : goal.invariant-loop-cuts
invariant-loop-cuts l = record {
  there : l.left < length (packed_rows l.view.outs l.column (drop l.cuts-index l.cuts-items));
  same : slice_get (packed_rows l.view.outs l.column (drop l.cuts-index l.cuts-items)) l.left ≡ slice_get (packed_rows l.view.outs l.view.first l.cuts-items) l.number;
  column : l.column ≡ l.view.first + l.cuts-index;
}
