use Rattle.std.proofs.Common.{◌≡◌, length, take, drop}
use Rattle.base_num.specs.Each.{each_from}
use Rattle.base_num.proofs.Each.{behind}
use Rattle.lp_wide.specs.Pivot.{wide_moved_or_kept}
use Rattle.lp_wide.proofs.pivots.move_lines.Given as goal

abbrev pub invariant-loop-k : goal.invariant-loop-k
invariant-loop-k l = record {
  count : length l.lines ≡ length l.fn.lines;
  moved : each_from (wide_moved_or_kept l.places l.leaving l.place l.entering) 0 l.fn.lines ≡ behind (take l.k l.lines) (each_from (wide_moved_or_kept l.places l.leaving l.place l.entering) l.k (drop l.k l.lines));
}
