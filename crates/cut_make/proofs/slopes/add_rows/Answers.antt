use Rattle.std.proofs.Common.{ℕ, ◌<◌, ℤ, pos, ◌+ℤ◌, ◌*ℤ◌, SFits, w64, List, length, zip, get_or, take, to_z, of_z, rules, arith, ap, ap₂, sym, subst, ◌∙◌, take_all, All}
use mir.Syntax.{w128}
use Rattle.std.specs.Int.{int_wrap}
use Rattle.std.proofs.lemmas.Int.{to_z-of_z}
use Rattle.std.proofs.lemmas.Slice.Zip.{length-zip}
use Rattle.base_num.specs.Sums.{total, coefficient}
use Rattle.problem.specs.declared.parts.Row.{Row}
use Rattle.cut_make.proofs.Beside.{row_at}
use Rattle.cut_make.proofs.Tables.{tabled_as, more_times}
use Rattle.cut_make.proofs.slopes.add_rows.Goals as goal

pub add_row-requires : goal.add_row-requires
add_row-requires c =
    let i : ℕ = c.loop-i.i in
    let rows : List Row = c.args.rows.now in
    let h : i < length rows = omega (arith, c.min-i-end.ensures) in
    subst (λ (n : ℕ). All (λ (t : ℕ × ℤ). t.0 < n) c.index-rows-i.result.states) (sym c.loop-i.invariant.count)
    (subst (λ (row : Row). All (λ (t : ℕ × ℤ). t.0 < length c.args.sums.now) row.states) (sym c.index-rows-i.is) (c.requires i c.index-rows-i.result h))

pub loop-i-preserved : goal.loop-i-preserved
loop-i-preserved c =
    let row : Row = c.index-rows-i.result in
    let k : ℤ = to_z w64 (of_z w64 c.args.factor) in
    let y : ℤ = get_or c.args.multipliers.now c.loop-i.i (pos 0) in
    let fits : SFits w64 y = search rules in
    let all : List (Row × ℤ) = zip c.args.rows.now c.args.multipliers.now in
    let at = row_at c.args.rows.now c.args.multipliers.now c.loop-i.i row (omega (arith, c.min-i-end.ensures)) (omega (arith, c.min-i-end.ensures)) c.index-rows-i.is in
    record {
      count = omega (arith, c.add_row.ensures.count, c.loop-i.invariant.count);
      value = λ f t. tabled_as _ _ c.add_row.new.sums
          (λ j. let part : Row × ℤ → ℤ = λ (q : Row × ℤ). q.1 *ℤ coefficient q.0.states j in
          ap (int_wrap w128)
          (ap (λ (z : ℤ). f j +ℤ k *ℤ total part (take c.loop-i.i all) +ℤ k *ℤ (z *ℤ coefficient row.states j)) (to_z-of_z w64 y fits)
          ∙ more_times part all c.loop-i.i (row, pos 0) (f j) k (y *ℤ coefficient row.states j) (omega (arith, length-zip c.args.rows.now c.args.multipliers.now, c.min-i-end.ensures)) (sym (ap part at))))
          (c.add_row.ensures.value _ (c.loop-i.invariant.value f t));
    }

pub returns-clause-value : goal.returns-clause-value
returns-clause-value c =
    let rows : List Row = c.args.rows.now in
    let ys : List ℤ = c.args.multipliers.now in
    λ f t. tabled_as _ _ c.loop-i.sums
    (λ j. ap₂ (λ (k : ℤ) (qs : List (Row × ℤ)). int_wrap w128 (f j +ℤ k *ℤ total (λ (q : Row × ℤ). q.1 *ℤ coefficient q.0.states j) qs)) (to_z-of_z w64 c.args.factor c.ranges.factor) (take_all c.loop-i.i (zip rows ys) (omega (arith, length-zip rows ys, c.min-i-end.ensures, c.loop-i-test.false))))
    (c.loop-i.invariant.value f t)
