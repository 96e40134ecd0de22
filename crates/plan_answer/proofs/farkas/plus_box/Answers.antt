use Rattle.std.proofs.Common.{ℤ, ◌+◌, ◌*◌, ◌+ℤ◌, ◌*ℤ◌, SFits, w64, rules, ap₂}
use Rattle.std.specs.Int.{int_min}
use Rattle.std.proofs.lemmas.Int.{to_z-of_z}
use Rattle.cut_make.specs.SizeByTerms.{span}
use Rattle.plan_answer.specs.Farkas.{farkas_reduced_cost, farkas_reduced_size}
use Rattle.plan_answer.proofs.Viewed.{sums_same}
use Rattle.plan_answer.proofs.farkas.plus_box.Goals as goal

pub returns : goal.returns
returns c =
    let fl : SFits w64 c.args.decision.now.low = search rules in
    let fh : SFits w64 c.args.decision.now.high = search rules in
    let el = to_z-of_z w64 c.args.decision.now.low fl in
    let eh = to_z-of_z w64 c.args.decision.now.high fh in
    sums_same c.plus_least.result _ _ _ _
    (ap₂ (λ (l h : ℤ). c.args.sum.value +ℤ int_min (farkas_reduced_cost c.args.rows.now c.args.multipliers.now c.args.index *ℤ l) (farkas_reduced_cost c.args.rows.now c.args.multipliers.now c.args.index *ℤ h)) el eh)
    (ap₂ (λ (l h : ℤ). c.args.sum.size.total + span l h * farkas_reduced_size c.args.rows.now c.args.multipliers.now c.args.index) el eh)
    (c.plus_least.ensures _ _ c.rows_sum-column.ensures)
