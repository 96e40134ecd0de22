use Rattle.std.proofs.Common.{◌≡◌, length, take, drop}
use Rattle.base_num.specs.Each.{each_from}
use Rattle.base_num.proofs.Each.{behind}
use Rattle.lp_pivot.specs.Pivot.{moved_or_kept}
use Rattle.lp_pivot.proofs.pivots.move_lines.Given as goal

abbrev pub invariant-loop-k : goal.invariant-loop-k
invariant-loop-k l = record {
  count : length l.lines ≡ length l.fn.lines;
  moved : each_from (moved_or_kept l.by.places.now l.by.leaving l.by.place l.by.entering.now) 0 l.fn.lines ≡ behind (take l.k l.lines) (each_from (moved_or_kept l.by.places.now l.by.leaving l.by.place l.by.entering.now) l.k (drop l.k l.lines));
}
