use Rattle.std.proofs.Common.{◌≡◌, drop, length}
use Rattle.lp_program.specs.declared.programs.LpRow.{LpRow}
use Rattle.lp_scale.specs.Walks.{walk}
use Rattle.lp_scale.specs.Waiting.{closed_by, all_closed}
use Rattle.lp_scale.proofs.waiting.close_all.Given as goal

abbrev pub invariant-loop-i : goal.invariant-loop-i
invariant-loop-i l = record {
  count : length l.waiting ≡ length l.fn.waiting;
  value : all_closed l.reaches l.fn.waiting l.cuts ≡ walk (λ i ws (r : LpRow). closed_by l.reaches ws r) l.i l.waiting (drop l.i l.cuts);
}
