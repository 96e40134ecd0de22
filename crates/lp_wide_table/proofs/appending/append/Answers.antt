use Rattle.std.proofs.Common.{◌≡◌, rules, true, ap, sym, ◌∙◌, arith}
use Rattle.std.proofs.lemmas.Bool.Decides.{nat_tests}
use Rattle.lp_program.specs.declared.programs.LpRow.{LpRow}
use Rattle.lp_wide_table.specs.Appending.{wide_appended_row}
use Rattle.lp_wide_table.proofs.Giving.{gives_true}
use Rattle.lp_scale.proofs.Walking.{run_next}
use Rattle.lp_wide_table.proofs.appending.append.Goals as goal

pub loop-i-preserved : goal.loop-i-preserved
loop-i-preserved c =
    let t : c.in_ok-append_row.field-0 ≡ true = first_of (search rules, grind (arith, nat_tests)) in
    record {
      whole = c.in_ok-append_row.ensures.whole t;
      count = c.in_ok-append_row.ensures.count t ∙ c.loop-i.invariant.count;
      rows = omega (arith, c.in_ok-append_row.ensures.rows t, c.loop-i.invariant.rows);
      value = run_next (λ i (r : LpRow) s. wide_appended_row r s) _ c.args.rows.now c.loop-i.i c.index-rows-i.result c.loop-i.table c.append_row.new.table c.loop-i-test.true c.loop-i.invariant.value (ap (λ (r : LpRow). wide_appended_row r c.loop-i.table) (sym c.index-rows-i.is) ∙ gives_true _ _ _ t c.in_ok-append_row.ensures.value);
    }
