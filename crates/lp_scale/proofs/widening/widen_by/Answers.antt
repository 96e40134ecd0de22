use Rattle.std.proofs.Common.{◌≡◌, rules, true, arith, sym, drop, ◌∙◌}
use Rattle.std.proofs.lemmas.List.{length-drop}
use Rattle.std.proofs.lemmas.Bool.Decides.{nat_tests}
use Rattle.lp_scale.proofs.Shapes.{gives_true}
use Rattle.lp_scale.proofs.Fitted.{own_has, put_fits}
use Rattle.lp_scale.proofs.widening.widen_by.Goals as goal

pub returns-clause-fits : goal.returns-clause-fits
returns-clause-fits c =
    let t : c.in_ok-widen_columns.field-0 ≡ true = first_of (search rules, grind (arith, nat_tests)) in
    put_fits c.put_program_cuts.result c.args.lp.now c.args.waiting c.args.lp.now.own (drop c.args.lp.now.own c.args.lp.now.rows) _ c.put_program_cuts.new.table c.put_program_cuts.ensures.value c.put_program_cuts.ensures.whole c.put_program_cuts.ensures.small c.put_program_cuts.ensures.count
    (omega arith) (omega (arith, length-drop c.args.lp.now.own c.args.lp.now.rows, c.requires.proper.own)) (c.requires.suits.columns ∙ sym c.in_ok-widen_columns.ensures.count)
    (own_has c.args.lp.now c.args.waiting c.args.table.now c.widen_columns.new.table (gives_true _ _ _ t c.in_ok-widen_columns.ensures.value) c.requires.suits c.requires.narrow)
