use Rattle.std.proofs.Common.{◌≡◌, ◌+◌, true, length, drop, All}
use Rattle.lp_program.specs.declared.programs.LpRow.{LpRow}
use Rattle.lp_program.specs.Packed.{packed_rows}
use Rattle.lp_scale.specs.Walks.{walk}
use Rattle.lp_scale.specs.Waiting.{waits}
use Rattle.lp_scan.specs.Values.{greatest_step, IsValueWithin}
use Rattle.lp_scan.proofs.packed.take_packed.Given as goal

abbrev pub invariant-loop-k : goal.invariant-loop-k
invariant-loop-k l = record {
  value : walk (λ i bests (r : LpRow). greatest_step l.lookup.waiting.now l.lookup.states.now i bests r) l.lookup.first l.fn.greatest (packed_rows l.outs l.view.first l.cuts) ≡ walk (λ i bests (r : LpRow). greatest_step l.lookup.waiting.now l.lookup.states.now i bests r) l.row l.greatest (packed_rows l.outs (l.view.first + l.k) (drop l.k l.cuts));
  within : All (λ (r : LpRow). waits l.lookup.waiting.now r ≡ true → IsValueWithin l.lookup.states.now r) (packed_rows l.outs (l.view.first + l.k) (drop l.k l.cuts));
  states : l.leaving.states ≡ l.fn.leaving.states;
  count : length l.greatest ≡ length l.fn.greatest;
  rows : l.row + length (packed_rows l.outs (l.view.first + l.k) (drop l.k l.cuts)) ≡ l.lookup.first + length (packed_rows l.outs l.view.first l.cuts);
}
