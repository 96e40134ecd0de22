use Rattle.std.proofs.Common.{◌≡◌, length, take, drop}
use Rattle.base_num.specs.Each.{each_from}
use Rattle.base_num.proofs.Each.{behind}
use Rattle.lp_wide.specs.Pivot.{wide_turned_entry}
use Rattle.lp_wide.proofs.pivots.turn_all.Given as goal

abbrev pub invariant-loop-j : goal.invariant-loop-j
invariant-loop-j l = record {
  width : length l.line ≡ length l.fn.line;
  turned : each_from (λ j x. wide_turned_entry l.inverse l.k x) 0 l.fn.line ≡ behind (take l.j l.line) (each_from (λ j x. wide_turned_entry l.inverse l.k x) l.j (drop l.j l.line));
}
