use Rattle.std.proofs.Common.{◌≡◌, ◌+◌, true, drop, All}
use Rattle.lp_program.specs.declared.programs.LpRow.{LpRow}
use Rattle.lp_program.specs.Packed.{packed_rows, rows_of}
use Rattle.lp_scale.specs.Waiting.{waits}
use Rattle.lp_scale.proofs.packed.do_all_wait.Given as goal

abbrev pub invariant-loop-k : goal.invariant-loop-k
invariant-loop-k l = All (λ (r : LpRow). waits l.waiting r ≡ true) (packed_rows l.view.outs (l.view.first + l.k) (drop l.k l.view.cuts)) → All (λ (r : LpRow). waits l.waiting r ≡ true) (rows_of l.view)
