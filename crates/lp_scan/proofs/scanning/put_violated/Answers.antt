use Rattle.std.proofs.Common.{◌∙◌, ◌<◌, ℕ, ℤ, Bool, cond, Some, length, All, ap, sym, subst}
use Rattle.std.proofs.lemmas.Int.{to_z-of_z}
use mir.Syntax.{w32}
use Rattle.lp_table.specs.declared.table.WarmTable.{WarmTable}
use Rattle.lp_pivot.specs.Activity.{row_activity}
use Rattle.lp_scale.specs.Appending.{with_appended_row, with_cut}
use Rattle.lp_scale.proofs.Shapes.{on_ok}
use Rattle.lp_scan.specs.Scan.{is_value_below}
use Rattle.lp_scan.proofs.Grown.{rising_inside, rising_few, last_violated}
use Rattle.lp_scan.proofs.scanning.put_violated.Goals as goal

pub row_value-requires-clause-inside : goal.row_value-requires-clause-inside
row_value-requires-clause-inside c =
    let inside = rising_inside 0 (length c.args.table.now.costs) c.args.terms.now c.requires.rising in
    subst (λ (n : ℕ). All (λ (t : ℕ × ℤ). t.0 < n) c.args.terms.now) (sym (ap length c.as_slice.ensures ∙ c.requires.fits.table.values)) inside

pub row_value-requires-clause-few : goal.row_value-requires-clause-few
row_value-requires-clause-few c = rising_few (length c.args.table.now.costs) c.args.terms.now c.requires.fits.table.few c.requires.rising

pub returns-then-is_below-clause-value : goal.returns-then-is_below-clause-value
returns-then-is_below-clause-value c =
    let t = c.args.table.now in
    let u : ℤ → WarmTable = λ e. with_cut c.args.i (with_appended_row e c.args.terms.now c.args.sides t) in
    let value = c.row_value.ensures ∙ ap (row_activity c.args.terms.now) c.as_slice.ensures in
    let violated = last_violated c.args.i c.args.exponent c.args.terms.now c.args.sides t c.requires.fits.table ∙ ap (is_value_below c.args.sides.low) (sym value) ∙ sym c.is_below.ensures ∙ c.if-is_below.true in
    on_ok c.put_cut.result c.put_cut.ensures.value (λ e. ap (λ (b : Bool). cond b (Some (u c.args.exponent)) (Some t)) violated ∙ ap Some (sym (e ∙ ap u (to_z-of_z w32 c.args.exponent c.ranges.exponent))))

pub returns-else-is_below-clause-value : goal.returns-else-is_below-clause-value
returns-else-is_below-clause-value c =
    let t = c.args.table.now in
    let u : WarmTable = with_cut c.args.i (with_appended_row c.args.exponent c.args.terms.now c.args.sides t) in
    let value = c.row_value.ensures ∙ ap (row_activity c.args.terms.now) c.as_slice.ensures in
    ap (λ (b : Bool). cond b (Some u) (Some t)) (last_violated c.args.i c.args.exponent c.args.terms.now c.args.sides t c.requires.fits.table ∙ ap (is_value_below c.args.sides.low) (sym value) ∙ sym c.is_below.ensures ∙ c.if-is_below.false)
