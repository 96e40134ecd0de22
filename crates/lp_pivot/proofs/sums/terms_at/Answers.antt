use Rattle.std.proofs.Common.{to_z, of_z, ◌∙◌, ◌+ℤ◌, ◌*ℤ◌, ◌*◌, ◌+◌, ◌^◌, ◌≤◌, nat_abs, ap₂, sym, subst, ℕ, ℤ, pos}
use mir.Syntax.{w128}
use Rattle.std.proofs.lemmas.Int.{to_z-of_z}
use Rattle.base_num.specs.Sums.{entry}
use Rattle.base_num.proofs.Fronts.{total_more}
use Rattle.lp_pivot.proofs.Terms.{term_read, small_step}
use Rattle.lp_pivot.proofs.sums.terms_at.Goals as goal

pub loop-k-preserved : goal.loop-k-preserved
loop-k-preserved c =
    let f : ℕ × ℤ → ℤ = λ t. t.1 *ℤ entry c.args.x.now t.0 in
    let s = to_z-of_z w128 c.plus-sum.result (record { sfits = c.plus-sum.type_inv }) in
    let t = to_z-of_z w128 c.term.result (record { sfits = c.term.type_inv }) in
    let read = term_read c.args.terms.now c.args.x.now c.loop-k.k c.index-terms-k.result c.index-terms-k-in-loop-k.result c.index-x-terms.result c.loop-k-test.true c.requires.inside c.index-x-terms.is in
    record {
      value = s ∙ c.plus-sum.ensures.value ∙ ap₂ (λ (a b : ℤ). a +ℤ b) c.loop-k.invariant.value (t ∙ c.term.ensures.value ∙ read) ∙ sym (total_more f c.args.terms.now c.loop-k.k (0, pos 0) c.loop-k-test.true);
      small = subst (λ (z : ℤ). nat_abs z ≤ (c.loop-k.k + 1) * 2 ^ 95) (sym s) (small_step c.plus-sum.result (to_z w128 c.loop-k.sum-bits) (to_z w128 (of_z w128 c.term.result)) c.loop-k.k (2 ^ 95) c.plus-sum.ensures.small c.loop-k.invariant.small (subst (λ (z : ℤ). nat_abs z ≤ 2 ^ 95) (sym t) c.term.ensures.small));
    }
