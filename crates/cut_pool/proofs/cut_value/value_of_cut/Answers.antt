use Rattle.std.proofs.Common.{◌≡◌, ◌^◌, ℤ, pos, ◌+ℤ◌, ◌≤ℤ◌, SFits, to_z, of_z, rules, arith, ap, List, ◌∙◌}
use mir.Syntax.{w128}
use Rattle.std.proofs.lemmas.Int.{ints, to_z-of_z}
use Rattle.base_num.specs.Sums.{dot}
use Rattle.theory.specs.Size.{magnitude, magnitudes}
use Rattle.theory.proofs.SizeToFit.{size_dot}
use Rattle.cut_pool.proofs.cut_value.value_of_cut.Goals as goal

small_sum : (a d s : ℤ) → magnitude d ≤ℤ s → (magnitude a +ℤ s) ≤ℤ pos (2 ^ 104) → (magnitude a +ℤ magnitude d) ≤ℤ pos (2 ^ 104)
small_sum a d s h k = omega (arith, ints)

pub add-requires : goal.add-requires
add-requires c =
    let alpha : SFits w128 c.args.cut.now.alpha = search rules in
    let sum : to_z w128 (of_z w128 c.slopes_at.result) ≡ dot c.args.cut.now.beta c.args.state.now = to_z-of_z w128 c.slopes_at.result (record { sfits = c.slopes_at.type_inv }) ∙ c.slopes_at.ensures ∙ ap (λ (b : List ℤ). dot b c.args.state.now) c.as_slice.ensures in
    rw (to_z-of_z w128 c.args.cut.now.alpha alpha, sum)
    (small_sum c.args.cut.now.alpha (dot c.args.cut.now.beta c.args.state.now) (dot (magnitudes c.args.cut.now.beta) (magnitudes c.args.state.now)) (size_dot c.args.cut.now.beta c.args.state.now) c.requires.small)
