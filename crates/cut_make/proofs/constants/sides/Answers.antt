use Rattle.std.proofs.Common.{ℕ, ◌<◌, ℤ, pos, ◌+ℤ◌, ◌-ℤ◌, ◌*ℤ◌, List, SFits, w64, get_or, zip, length, to_z, rules, arith, ap, sym, subst, ◌∙◌, All}
use Rattle.std.proofs.lemmas.Slice.Zip.{length-zip}
use mir.Syntax.{w128}
use Rattle.std.specs.Int.{int_wrap}
use Rattle.std.proofs.lemmas.Int.{to_z-of_z}
use Rattle.problem.specs.declared.parts.Row.{Row}
use Rattle.base_num.specs.Sums.{entry, at_terms}
use Rattle.theory.specs.CutOf.{side}
use Rattle.cut_make.proofs.Beside.{row_step}
use Rattle.cut_make.proofs.Congruence.{sum_all, same_read}
use Rattle.cut_make.proofs.constants.sides.Goals as goal

pub add_side-sum-requires : goal.add_side-sum-requires
add_side-sum-requires c =
    let i : ℕ = c.loop-i.i in
    let h : i < length c.args.rows.now = omega (arith, c.min-i-end.ensures) in
    subst (λ (row : Row). All (λ (t : ℕ × ℤ). t.0 < length c.args.values.now) row.randoms) (sym c.index-rows-i.is) (c.requires i c.index-rows-i.result h)

pub loop-i-preserved : goal.loop-i-preserved
loop-i-preserved c =
    let y : ℤ = get_or c.args.multipliers.now c.loop-i.i (pos 0) in
    let fits : SFits w64 y = search rules in
    let part : Row × ℤ → ℤ = λ (q : Row × ℤ). q.1 *ℤ (side q.0 q.1 -ℤ at_terms q.0.randoms (entry c.args.values.now)) in
    row_step c.args.rows.now c.args.multipliers.now c.loop-i.i c.index-rows-i.result (omega (arith, c.min-i-end.ensures)) (omega (arith, c.min-i-end.ensures)) c.index-rows-i.is part (to_z w128 c.loop-i.sum-bits) _ c.loop-i.invariant
    (same_read c.add_side-sum.result (record { sfits = c.add_side-sum.type_inv }) ∙ c.add_side-sum.ensures ∙ ap (λ (z : ℤ). int_wrap w128 (to_z w128 c.loop-i.sum-bits +ℤ part (c.index-rows-i.result, z))) (to_z-of_z w64 y fits))

pub returns : goal.returns
returns c =
    let rows : List Row = c.args.rows.now in
    let ys : List ℤ = c.args.multipliers.now in
    sum_all (λ (q : Row × ℤ). q.1 *ℤ (side q.0 q.1 -ℤ at_terms q.0.randoms (entry c.args.values.now))) (zip rows ys) c.loop-i.i (to_z w128 c.loop-i.sum-bits) (omega (arith, length-zip rows ys, c.min-i-end.ensures, c.loop-i-test.false)) c.loop-i.invariant
