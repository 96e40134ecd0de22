use Rattle.std.proofs.Common.{◌≡◌, length, take, drop, Some}
use Rattle.base_num.specs.Each.{each_from}
use Rattle.base_num.proofs.Each.{behind}
use Rattle.lp_pivot.specs.Standings.{map_from, standing_at}
use Rattle.lp_pivot.proofs.standings.write_standings.Given as goal

abbrev pub invariant-loop-j : goal.invariant-loop-j
invariant-loop-j l = record {
  count : length l.high ≡ length l.fn.high;
  standings : Some (map_from (standing_at l.basis l.nonbasic l.reduced) 0 l.fn.high) ≡ behind (take l.j l.high) (each_from (λ j h. Some (standing_at l.basis l.nonbasic l.reduced j h)) l.j (drop l.j l.high));
}
