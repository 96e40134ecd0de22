use Rattle.std.proofs.Common.{ℕ, ◌+◌, List, [], None, drop, ap, sym, ◌∙◌}
use Rattle.lp_program.specs.declared.fixed.Fx.{Fx}
use Rattle.lp_program.specs.declared.programs.LpRow.{LpRow}
use Rattle.base_num.specs.Each.{each_from}
use Rattle.base_num.proofs.Each.{behind}
use Rattle.lp_price.specs.Found.{dual_at}
use Rattle.lp_price.proofs.Nexts.{each_next, each_stops}
use Rattle.lp_price.proofs.found.own_duals.Goals as goal

pub returns-in-None : goal.returns-in-None
returns-in-None c = sym (each_stops (λ (i : ℕ) (r : LpRow). dual_at c.args.table.now i) _ c.loop-i.found c.args.rows.now c.loop-i.i (record { low = None; high = None; terms = [] }) c.loop-i-test.true (sym c.in-None.ensures) c.loop-i.invariant)

pub loop-i-preserved : goal.loop-i-preserved
loop-i-preserved c =
    each_next (λ (i : ℕ) (r : LpRow). dual_at c.args.table.now i) _ c.loop-i.found c.args.rows.now c.loop-i.i (record { low = None; high = None; terms = [] }) c.in-Some.x c.loop-i-test.true (sym c.in-Some.ensures) c.loop-i.invariant
    ∙ ap (λ (ys : List Fx). behind ys (each_from (λ (i : ℕ) (r : LpRow). dual_at c.args.table.now i) (c.loop-i.i + 1) (drop (c.loop-i.i + 1) c.args.rows.now))) (sym c.in_ok-push-in-Some.ensures)
