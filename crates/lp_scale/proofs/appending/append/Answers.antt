use Rattle.std.proofs.Common.{◌≡◌, rules, ℕ, true, ap, sym, ◌∙◌, arith}
use Rattle.std.proofs.lemmas.Bool.Decides.{nat_tests}
use Rattle.lp_program.specs.declared.programs.LpRow.{LpRow}
use Rattle.lp_scale.specs.Appending.{appended_row}
use Rattle.lp_scale.proofs.Shapes.{gives_true}
use Rattle.lp_scale.proofs.Walking.{run_next}
use Rattle.lp_scale.proofs.appending.append.Goals as goal

pub append_row-requires-clause-small : goal.append_row-requires-clause-small
append_row-requires-clause-small c = c.loop-i.invariant.small 1000 c.requires.small

pub loop-i-preserved : goal.loop-i-preserved
loop-i-preserved c =
    let t : c.in_ok-append_row.field-0 ≡ true = first_of (search rules, grind (arith, nat_tests)) in
    record {
      whole = c.in_ok-append_row.ensures.whole t;
      small = λ (most : ℕ) w. c.in_ok-append_row.ensures.small t most (c.loop-i.invariant.small most w);
      count = c.in_ok-append_row.ensures.count t ∙ c.loop-i.invariant.count;
      value = run_next (λ i (r : LpRow) s. appended_row r s) _ c.args.rows.now c.loop-i.i c.index-rows-i.result c.loop-i.table c.append_row.new.table c.loop-i-test.true c.loop-i.invariant.value (ap (λ (r : LpRow). appended_row r c.loop-i.table) (sym c.index-rows-i.is) ∙ gives_true _ _ _ t c.in_ok-append_row.ensures.value);
    }
