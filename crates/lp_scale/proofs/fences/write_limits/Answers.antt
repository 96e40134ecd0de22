use Rattle.std.proofs.Common.{◌^◌, ◌≤◌, ℕ, ℤ, pos, ◌-ℤ◌, length, length-set, take, take_all, get_or, arith, refl, ap, sym, subst, ◌∙◌}
use Rattle.std.proofs.lemmas.Int.{to_z-of_z}
use Rattle.std.proofs.lemmas.List.Elements.{All-same}
use mir.Syntax.{w32}
use Rattle.lp_scale.specs.Fences.{near, AreLimits}
use Rattle.lp_scale.proofs.Standing.{lift_fits}
use Rattle.lp_scale.proofs.Fencing.{limits_more}
use Rattle.lp_scale.proofs.fences.write_limits.Goals as goal

pub loop-state-preserved : goal.loop-state-preserved
loop-state-preserved c =
    let l = c.loop-state in
    let f = to_z-of_z w32 (get_or c.args.lifts.now l.state-index (0, pos 0)).1 (lift_fits c.args.lifts.now l.state-index c.loop-state-test.true c.requires.lifts) in
    record {
      count = ap length c.lower.ensures ∙ length-set l.limits _ _ ∙ l.invariant.count;
      value = limits_more _ c.args.lifts.now l.limits c.lower.new.limits l.state-index _ c.limit.result _ c.loop-state-test.true l.invariant.value refl f c.limit.ensures c.lower.ensures;
    }

pub returns-clause-value : goal.returns-clause-value
returns-clause-value c = All-same (λ (x : ℕ × ℤ). get_or c.loop-state.limits x.0 1 ≤ 2 ^ near (c.args.greatest -ℤ x.1)) c.args.lifts.now (take c.loop-state.state-index c.args.lifts.now) (sym (take_all c.loop-state.state-index c.args.lifts.now (omega (arith, c.loop-state-test.false)))) (subst (λ (z : ℤ). AreLimits z (take c.loop-state.state-index c.args.lifts.now) c.loop-state.limits) (to_z-of_z w32 c.args.greatest c.ranges.greatest) c.loop-state.invariant.value)
