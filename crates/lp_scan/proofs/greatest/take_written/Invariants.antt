use Rattle.std.proofs.Common.{◌≡◌, drop, length}
use Rattle.lp_program.specs.declared.programs.LpRow.{LpRow}
use Rattle.lp_scale.specs.Walks.{walk}
use Rattle.lp_scan.specs.Values.{greatest_step}
use Rattle.lp_scan.proofs.greatest.take_written.Given as goal

abbrev pub invariant-loop-i : goal.invariant-loop-i
invariant-loop-i l = record {
  value : walk (λ i bests (r : LpRow). greatest_step l.lookup.waiting.now l.lookup.states.now i bests r) l.lookup.first l.fn.greatest (drop l.lookup.first l.lp.rows) ≡ walk (λ i bests (r : LpRow). greatest_step l.lookup.waiting.now l.lookup.states.now i bests r) l.i l.greatest (drop l.i l.lp.rows);
  count : length l.greatest ≡ length l.fn.greatest;
}
