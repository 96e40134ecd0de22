use Rattle.std.proofs.Common.{◌≡◌, ◌+◌, drop, length}
use Rattle.lp_program.specs.declared.programs.LpRow.{LpRow}
use Rattle.lp_scale.specs.Walks.{walk}
use Rattle.lp_scan.specs.Values.{greatest_step}
use Rattle.lp_scan.proofs.greatest.take_rows.Given as goal

abbrev pub invariant-loop-k : goal.invariant-loop-k
invariant-loop-k l = record {
  value : walk (λ i bests (r : LpRow). greatest_step l.lookup.waiting.now l.lookup.states.now i bests r) l.lookup.first l.fn.greatest l.cuts ≡ walk (λ i bests (r : LpRow). greatest_step l.lookup.waiting.now l.lookup.states.now i bests r) (l.lookup.first + l.k) l.greatest (drop l.k l.cuts);
  count : length l.greatest ≡ length l.fn.greatest;
}
