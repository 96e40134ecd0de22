use Rattle.std.proofs.Common.{◌≡◌, ℕ, ◌<◌, ℤ, pos, ◌+ℤ◌, ◌*ℤ◌, [], ◌∷◌, List, SFits, w64, length, zip, to_z, of_z, rules, arith, refl, ap, sym, ◌∙◌}
use mir.Syntax.{w128}
use Rattle.std.specs.Int.{int_wrap}
use Rattle.std.proofs.lemmas.Slice.Zip.{get_or-zip, length-zip}
use Rattle.base_num.specs.Sums.{dot, total, entry}
use Rattle.cut_make.specs.Congruent.{Congruent}
use Rattle.cut_make.proofs.Congruence.{sum_step, sum_all, same_times, same_read, same_wide}
use Rattle.cut_make.proofs.constants.products.Goals as goal

dot_zip : (xs ys : List ℤ) → total (λ (q : ℤ × ℤ). q.0 *ℤ q.1) (zip xs ys) ≡ dot xs ys
dot_zip [] ys = refl
dot_zip (x ∷ xs) [] = refl
dot_zip (x ∷ xs) (y ∷ ys) = ap (λ (k : ℤ). x *ℤ y +ℤ k) (dot_zip xs ys)

pub loop-i-preserved : goal.loop-i-preserved
loop-i-preserved c =
    let i : ℕ = c.loop-i.i in
    let xs : List ℤ = c.args.costs.now in
    let ys : List ℤ = c.args.values.now in
    let h : i < length xs = omega (arith, c.min-i-end.ensures) in
    let k : i < length ys = omega (arith, c.min-i-end.ensures) in
    let fx : SFits w64 (entry xs i) = search rules in
    let fy : SFits w64 (entry ys i) = search rules in
    let x : Congruent (to_z w128 (of_z w128 c.from.result)) (entry xs i) = same_wide c.from.result (entry xs i) (record { sfits = c.from.type_inv }) fx c.from.ensures in
    let y : Congruent (to_z w128 (of_z w128 c.from-in-loop-i.result)) (entry ys i) = same_wide c.from-in-loop-i.result (entry ys i) (record { sfits = c.from-in-loop-i.type_inv }) fy c.from-in-loop-i.ensures in
    sum_step (λ (q : ℤ × ℤ). q.0 *ℤ q.1) (zip xs ys) i (pos 0, pos 0) (to_z w128 c.loop-i.sum-bits) _ _ (omega (arith, length-zip xs ys)) c.loop-i.invariant
    (same_read c.wrapping_add_product-sum.result (record { sfits = c.wrapping_add_product-sum.type_inv }) ∙ c.wrapping_add_product-sum.ensures)
    (same_times _ _ (entry xs i) (entry ys i) x y ∙ ap (λ (q : ℤ × ℤ). int_wrap w128 (q.0 *ℤ q.1)) (sym (get_or-zip xs ys i (pos 0, pos 0) h k)))

pub returns : goal.returns
returns c =
    let xs : List ℤ = c.args.costs.now in
    let ys : List ℤ = c.args.values.now in
    sum_all (λ (q : ℤ × ℤ). q.0 *ℤ q.1) (zip xs ys) c.loop-i.i (to_z w128 c.loop-i.sum-bits) (omega (arith, length-zip xs ys, c.min-i-end.ensures, c.loop-i-test.false)) c.loop-i.invariant ∙ ap (int_wrap w128) (dot_zip xs ys)
