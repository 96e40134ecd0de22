use Rattle.std.proofs.Common.{◌≡◌, ◌≤◌, ◌+◌, ◌*◌, ◌^◌, length, drop}
use Rattle.lp_program.specs.Packed.{packed_rows}
use Rattle.lp_program.proofs.packed.cut_count.Given as goal

abbrev pub invariant-loop-cuts : goal.invariant-loop-cuts
invariant-loop-cuts l = record {
  value : l.count + length (packed_rows l.view.outs (l.view.first + l.cuts-index) (drop l.cuts-index l.cuts-items)) ≡ length (packed_rows l.view.outs l.view.first l.cuts-items);
  few : l.count ≤ l.cuts-index * 2 ^ 24;
}
