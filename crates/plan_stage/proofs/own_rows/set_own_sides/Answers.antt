use Rattle.std.proofs.Common.{◌∙◌, length, ap, sym}
use Rattle.lp_program.specs.declared.programs.Program.{Program}
use Rattle.plan_stage.proofs.Restating.{rest_stays, count_stays, next_restated, next_kept}
use Rattle.plan_stage.proofs.own_rows.set_own_sides.Goals.{then-not-is_fixed, else-not-is_fixed}
use Rattle.plan_stage.proofs.own_rows.set_own_sides.Goals as goal

pub loop-i-preserved : goal.loop-i-preserved
loop-i-preserved c =
    let first = c.args.lp.now in
    let new = c.if-not-is_fixed.lp in
    let is = c.loop-i.invariant in
    elim c.if-not-is_fixed.branch [
      | then-not-is_fixed w ↦
          let set = w.lp-is ∙ w.set_row_sides.ensures in
          record {
            tail = rest_stays c.loop-i.lp new c.loop-i.i _ _ set first is.tail;
            count = count_stays c.loop-i.lp new c.loop-i.i _ _ set first is.count;
            value = λ before now cuts e. next_restated c.args.values.now c.args.state.now before now c.args.rows.now c.loop-i.i c.index-rows-i.result c.loop-i.lp new cuts c.loop-i-test.true c.index-rows-i.is set (is.value before now cuts e);
          }
      | else-not-is_fixed w ↦
          let rows = ap (λ (p : Program). p.rows) w.lp-is in
          record {
            tail = w.lp-is ∙ is.tail ∙ ap (λ (p : Program). record first { rows = p.rows }) (sym w.lp-is);
            count = ap (λ (p : Program). length p.rows) w.lp-is ∙ is.count;
            value = λ before now cuts e. rows ∙ next_kept c.args.values.now c.args.state.now before now c.args.rows.now c.loop-i.i c.index-rows-i.result c.loop-i.lp cuts c.loop-i-test.true c.index-rows-i.is (c.is_fixed.ensures w.if-not-is_fixed.false) (is.value before now cuts e);
          }
    ]
