use Rattle.std.proofs.Common.{◌≡◌, ℕ, drop}
use Rattle.lp_program.specs.declared.programs.LpRow.{LpRow}
use Rattle.base_num.specs.Each.{each_from}
use Rattle.base_num.proofs.Each.{behind}
use Rattle.lp_price.specs.Found.{dual_at}
use Rattle.lp_price.proofs.found.own_duals.Given as goal

abbrev pub invariant-loop-i : goal.invariant-loop-i
invariant-loop-i l = each_from (λ (i : ℕ) (r : LpRow). dual_at l.table i) 0 l.rows ≡ behind l.found (each_from (λ (i : ℕ) (r : LpRow). dual_at l.table i) l.i (drop l.i l.rows))
