use Rattle.std.proofs.Common.{ℕ, ℤ, ◌+◌, pos, get_or, SFits, rules, ap, ◌∙◌, refl, List}
use Rattle.std.proofs.lemmas.Int.{to_z-of_z}
use mir.Syntax.{w128}
use Rattle.cut_make.specs.SizeByTerms.{over_decisions, term_by, terms_by}
use Rattle.cut_check.proofs.Amounts.{pairs_more, pairs_past, take_pairs}
use Rattle.cut_check.proofs.size.cuts.plus_slopes.Goals as goal

pub returns-in_err-sum : goal.returns-in_err-sum
returns-in_err-sum c =
    let fits : SFits w128 (get_or c.args.slopes.now c.loop-k.k (pos 0)) = search rules in
    rw c.from_residual.ensures
    (pairs_past (term_by (over_decisions c.args.decisions.now)) c.args.outs.now c.args.slopes.now c.loop-k.k c.args.size.total c.loop-k.sum.total _ _ 0 _ (pos 0) c.min-k-end.ensures c.loop-k-test.true refl (to_z-of_z w128 _ fits) c.loop-k.invariant c.in_err-sum.ensures)

pub loop-k-preserved : goal.loop-k-preserved
loop-k-preserved c =
    let fits : SFits w128 (get_or c.args.slopes.now c.loop-k.k (pos 0)) = search rules in
    pairs_more (term_by (over_decisions c.args.decisions.now)) c.args.outs.now c.args.slopes.now c.loop-k.k c.args.size.total c.loop-k.sum.total _ _ 0 _ (pos 0) c.min-k-end.ensures c.loop-k-test.true refl (to_z-of_z w128 _ fits) c.loop-k.invariant c.in_ok-sum.sum.total c.in_ok-sum.ensures

pub returns : goal.returns
returns c =
    c.loop-k.invariant ∙ ap (λ (z : List (ℕ × ℤ)). c.args.size.total + terms_by (over_decisions c.args.decisions.now) z) (take_pairs c.args.outs.now c.args.slopes.now c.loop-k.k _ c.min-k-end.ensures c.loop-k-test.false)
