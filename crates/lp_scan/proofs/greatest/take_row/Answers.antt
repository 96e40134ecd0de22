use Rattle.std.proofs.Common.{◌∙◌, ℤ, slice_set, get_or, Some, None, ap, sym}
use Rattle.std.proofs.lemmas.Int.{to_z-of_z}
use mir.Syntax.{w128}
use Rattle.lp_scale.specs.Waiting.{last_column}
use Rattle.lp_scan.specs.Values.{is_value_greater}
use Rattle.lp_scan.proofs.Columns.{waits_at, step_waits, step_rests}
use Rattle.lp_scan.proofs.greatest.take_row.Goals as goal

pub cut_value-value-requires : goal.cut_value-value-requires
cut_value-value-requires c = c.requires.within (waits_at _ c.args.row.now c.in-Some.column _ (sym (c.last_column.ensures ∙ ap last_column c.as_slice.ensures) ∙ c.in-Some.is) c.if-waiting-column.true)

pub returns-then-is_greater-clause-value : goal.returns-then-is_greater-clause-value
returns-then-is_greater-clause-value c =
    let j = c.in-Some.column in
    let e = sym (c.last_column.ensures ∙ ap last_column c.as_slice.ensures) ∙ c.in-Some.is in
    let v = to_z-of_z w128 c.cut_value-value.result (record { sfits = c.cut_value-value.type_inv }) ∙ c.cut_value-value.ensures in
    let g = sym (c.is_greater.ensures ∙ ap (is_value_greater (get_or c.args.greatest.now j None)) v) ∙ c.if-is_greater.true in
    ap (λ (x : ℤ). slice_set c.args.greatest.now j (Some (c.args.i, x))) v ∙ sym (step_waits _ _ c.args.i c.args.greatest.now c.args.row.now j e (waits_at _ c.args.row.now j _ e c.if-waiting-column.true) g)

pub returns-else-waiting-column-clause-value : goal.returns-else-waiting-column-clause-value
returns-else-waiting-column-clause-value c =
    sym (step_rests _ _ c.args.i c.args.greatest.now c.args.row.now (waits_at _ c.args.row.now c.in-Some.column _ (sym (c.last_column.ensures ∙ ap last_column c.as_slice.ensures) ∙ c.in-Some.is) c.if-waiting-column.false))
