use Rattle.std.proofs.Common.{◌∙◌, ℕ, length, drop, ap, arith}
use Rattle.std.proofs.lemmas.List.{length-replicate}
use Rattle.lp_scan.proofs.Columns.{cuts_inside}
use Rattle.lp_scan.proofs.greatest.take_all.Goals as goal

pub take_rows-requires-clause-few : goal.take_rows-requires-clause-few
take_rows-requires-clause-few c = omega (arith, c.rows_before-first.ensures.value, c.rows_before-first.ensures.few, ap length c.in-Listed.ensures)

pub take_rows-requires-clause-columns : goal.take_rows-requires-clause-columns
take_rows-requires-clause-columns c = cuts_inside c.args.lp.now c.in-Listed.cuts.now _ c.requires.proper c.in-Listed.ensures (ap length c.requires.blank ∙ length-replicate _ _)

pub take_view-requires-clause-columns : goal.take_view-requires-clause-columns
take_view-requires-clause-columns c = cuts_inside c.args.lp.now (drop c.rows_before-first.result c.args.lp.now.rows) _ c.requires.proper (ap (λ (k : ℕ). drop k c.args.lp.now.rows) c.rows_before-first.ensures.value) (ap length c.requires.blank ∙ length-replicate _ _)
