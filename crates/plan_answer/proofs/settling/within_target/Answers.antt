use Rattle.std.proofs.Common.{◌∙◌, ◌++◌, ℕ, List, length, drop, ap, ap₂, arith}
use Rattle.lp_program.specs.declared.fixed.Fx.{Fx}
use Rattle.lp_program.specs.Duals.{dual_in, not_zero, all_kept}
use Rattle.plan_answer.specs.SharedTargets.{kept_pairs, left_over}
use Rattle.plan_answer.proofs.SettledSteps.{shared_out}
use Rattle.plan_answer.proofs.settling.within_target.Goals as goal

pub keep_listed-requires : goal.keep_listed-requires
keep_listed-requires c = omega (arith, c.part-part.ensures.few, c.ranges.count.fits)

pub returns-clause-pairs : goal.returns-clause-pairs
returns-clause-pairs c =
    let part = c.part-part.result in
    let listed : List (ℕ × Fx) = not_zero (dual_in part.listed.now) 0 (length part.listed.now) in
    let stored : List (ℕ × Fx) = all_kept c.args.from c.args.count part.stored.now in
    let all = shared_out (drop c.args.from c.args.duals.now) c.args.target c.args.count listed stored c.part-part.ensures.value in
    let begun = c.in_ok-left.ensures.pairs ∙ ap (λ (ss : List (ℕ × ℕ)). ss ++ kept_pairs c.args.target listed) c.requires in
    c.in_ok-missing.ensures.pairs ∙ ap₂ (λ (ss : List (ℕ × ℕ)) (left : ℕ). ss ++ kept_pairs left stored) begun c.in_ok-left.ensures.left ∙ all.0

pub returns-clause-missing : goal.returns-clause-missing
returns-clause-missing c =
    let part = c.part-part.result in
    let listed : List (ℕ × Fx) = not_zero (dual_in part.listed.now) 0 (length part.listed.now) in
    let stored : List (ℕ × Fx) = all_kept c.args.from c.args.count part.stored.now in
    let all = shared_out (drop c.args.from c.args.duals.now) c.args.target c.args.count listed stored c.part-part.ensures.value in
    c.in_ok-missing.ensures.left ∙ ap (λ (left : ℕ). left_over left stored) c.in_ok-left.ensures.left ∙ all.1
