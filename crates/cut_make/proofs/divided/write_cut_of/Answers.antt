use Rattle.std.proofs.Common.{◌≡◌, ℕ, ◌<◌, ℤ, pos, ◌+ℤ◌, ◌*ℤ◌, ◌≤ℤ◌, List, SFits, length, nat_abs, to_z, of_z, arith, ap, ap₂, ◌∙◌}
use mir.Syntax.{w128}
use Rattle.std.proofs.lemmas.Int.{ints, to_z-of_z}
use Rattle.base_num.specs.Sums.{sum_to, entry, floor_over}
use Rattle.theory.specs.Problem.{Node}
use Rattle.theory.specs.View.{node_of}
use Rattle.theory.specs.CutOf.{alpha_sum, divisor, remainder}
use Rattle.cut_make.specs.Congruent.{Congruent}
use Rattle.cut_make.specs.Sized.{Sized, unboxed}
use Rattle.cut_make.proofs.Congruence.{exact, in_range, same_add, same_read}
use Rattle.cut_make.proofs.Divisor.{divisor-unboxed, divisor_some}
use Rattle.cut_make.proofs.divided.write_cut_of.Goals as goal

pub write_slopes-tail-requires-clause-under : goal.write_slopes-tail-requires-clause-under
write_slopes-tail-requires-clause-under c =
    to_z-of_z w128 c.divisor-under.result (record { sfits = c.divisor-under.type_inv }) ∙ c.divisor-under.ensures ∙ ap pos (divisor-unboxed c.args.here.now.weights.now c.args.here.now.node.now c.args.here.now.subproblem.now c.requires.sized.count c.requires.sized.values)

at_least_one : (z : ℤ) (k : ℕ) → z ≡ pos k → 0 < k → pos 1 ≤ℤ z
at_least_one z k e h = omega (arith, ints)

pub write_slopes-tail-requires-clause-some : goal.write_slopes-tail-requires-clause-some
write_slopes-tail-requires-clause-some c =
    let z : Sized c.args.here.now.pools.now.lists c.args.here.now.node.now c.args.here.now.subproblem.now c.args.here.now.low.now c.args.here.now.weights.now = c.requires.sized in
    at_least_one (to_z w128 (of_z w128 c.divisor-under.result)) (divisor (unboxed c.args.here.now.weights.now c.args.here.now.node.now c.args.here.now.subproblem.now))
    (to_z-of_z w128 c.divisor-under.result (record { sfits = c.divisor-under.type_inv }) ∙ c.divisor-under.ensures ∙ ap pos (divisor-unboxed c.args.here.now.weights.now c.args.here.now.node.now c.args.here.now.subproblem.now z.count z.values))
    (divisor_some c.args.here.now.pools.now.lists c.args.here.now.node.now c.args.here.now.subproblem.now c.args.here.now.low.now c.args.here.now.weights.now z)

pub floor_div-cut-requires : goal.floor_div-cut-requires
floor_div-cut-requires c =
    let z : Sized c.args.here.now.pools.now.lists c.args.here.now.node.now c.args.here.now.subproblem.now c.args.here.now.low.now c.args.here.now.weights.now = c.requires.sized in
    at_least_one (to_z w128 (of_z w128 c.divisor-under.result)) (divisor (unboxed c.args.here.now.weights.now c.args.here.now.node.now c.args.here.now.subproblem.now))
    (to_z-of_z w128 c.divisor-under.result (record { sfits = c.divisor-under.type_inv }) ∙ c.divisor-under.ensures ∙ ap pos (divisor-unboxed c.args.here.now.weights.now c.args.here.now.node.now c.args.here.now.subproblem.now z.count z.values))
    (divisor_some c.args.here.now.pools.now.lists c.args.here.now.node.now c.args.here.now.subproblem.now c.args.here.now.low.now c.args.here.now.weights.now z)

pub returns : goal.returns
unfolding node_of
returns c = λ list high made table constant.
    let n : Node = unboxed c.args.here.now.weights.now c.args.here.now.node.now c.args.here.now.subproblem.now in
    let a : ℤ = alpha_sum c.args.here.now.pools.now.lists n list in
    let b : ℤ = sum_to (length c.args.here.now.low.now) (λ k. remainder n list k *ℤ entry c.args.here.now.low.now k) in
    let under : to_z w128 (of_z w128 c.divisor-under.result) ≡ pos (divisor n) =
    to_z-of_z w128 c.divisor-under.result (record { sfits = c.divisor-under.type_inv }) ∙ c.divisor-under.ensures ∙ ap pos (divisor-unboxed c.args.here.now.weights.now c.args.here.now.node.now c.args.here.now.subproblem.now c.requires.sized.count c.requires.sized.values) in
    let fits : SFits w128 c.wrapping_add-sum.result = record { sfits = c.wrapping_add-sum.type_inv } in
    let first : Congruent (to_z w128 (of_z w128 c.args.constant)) a = same_read c.args.constant c.ranges.constant ∙ constant in
    let tail : Congruent (to_z w128 (of_z w128 c.write_slopes-tail.result)) b = same_read c.write_slopes-tail.result (record { sfits = c.write_slopes-tail.type_inv }) ∙ c.write_slopes-tail.ensures.tail list table made.slopes in
    let sum : c.wrapping_add-sum.result ≡ a +ℤ b = exact c.wrapping_add-sum.result (a +ℤ b) fits (in_range (a +ℤ b) made.constant) (c.wrapping_add-sum.ensures ∙ same_add _ _ a b first tail) in
    ap₂ (λ (x : ℤ) (ys : List ℤ). record { alpha = x; beta = ys })
    (to_z-of_z w128 c.floor_div-cut.result (record { sfits = c.floor_div-cut.type_inv }) ∙ c.floor_div-cut.ensures ∙ ap₂ (λ (x y : ℤ). floor_over x (nat_abs y)) (to_z-of_z w128 c.wrapping_add-sum.result fits ∙ sum) under)
    (c.write_slopes-tail.ensures.slopes list table made.slopes)
