use Rattle.std.proofs.Common.{to_z, of_z, ◌∙◌, ◌+ℤ◌, ◌*ℤ◌, ◌*◌, ◌+◌, ◌^◌, ◌≤◌, nat_abs, ap₂, sym, subst, ℕ, ℤ, pos}
use mir.Syntax.{w128}
use Rattle.std.proofs.lemmas.Int.{to_z-of_z}
use Rattle.base_num.specs.Sums.{entry}
use Rattle.base_num.proofs.Fronts.{total_more}
use Rattle.lp_pivot.proofs.Terms.{term_read, small_step}
use Rattle.lp_pivot.proofs.sums.shares.Goals as goal

pub loop-k-preserved : goal.loop-k-preserved
loop-k-preserved c =
    let f : ℕ × ℤ → ℤ = λ t. t.1 *ℤ entry c.args.line.now t.0 in
    let s = to_z-of_z w128 c.plus-sum.result (record { sfits = c.plus-sum.type_inv }) in
    let t = to_z-of_z w128 c.share.result (record { sfits = c.share.type_inv }) in
    let read = term_read c.args.shifts.now c.args.line.now c.loop-k.k c.index-shifts-k.result c.index-shifts-k-in-loop-k.result c.index-line-shifts.result c.loop-k-test.true c.requires.inside c.index-line-shifts.is in
    record {
      value = s ∙ c.plus-sum.ensures.value ∙ ap₂ (λ (a b : ℤ). a +ℤ b) c.loop-k.invariant.value (t ∙ c.share.ensures.value ∙ read) ∙ sym (total_more f c.args.shifts.now c.loop-k.k (0, pos 0) c.loop-k-test.true);
      small = subst (λ (z : ℤ). nat_abs z ≤ (c.loop-k.k + 1) * 2 ^ 116) (sym s) (small_step c.plus-sum.result (to_z w128 c.loop-k.sum-bits) (to_z w128 (of_z w128 c.share.result)) c.loop-k.k (2 ^ 116) c.plus-sum.ensures.small c.loop-k.invariant.small (subst (λ (z : ℤ). nat_abs z ≤ 2 ^ 116) (sym t) c.share.ensures.small));
    }
