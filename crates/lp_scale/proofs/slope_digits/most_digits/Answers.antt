use Rattle.std.proofs.Common.{ℤ, pos, ◌≤ℤ◌, get_or, refl, sym, subst, ◌∙◌}
use Rattle.std.proofs.lemmas.Int.{to_z-of_z}
use mir.Syntax.{w32, w64}
use Rattle.lp_scale.proofs.Standing.{by_state, lift_fits}
use Rattle.lp_scale.proofs.slope_digits.most_digits.Goals as goal

pub loop-state-preserved : goal.loop-state-preserved
loop-state-preserved c =
    let e = to_z-of_z w32 c.greater-most.result (record { sfits = c.greater-most.type_inv }) in
    record {
      least = subst (λ (z : ℤ). pos 0 ≤ℤ z) (sym e) c.greater-most.ensures.least;
      greatest = subst (λ (z : ℤ). z ≤ℤ pos 640) (sym e) c.greater-most.ensures.greatest;
      value = by_state c.args.lifts.now c.args.slopes.now _ c.loop-state.state-index _ _ _ _ _ c.loop-state-test.true c.loop-state.invariant.value (e ∙ c.greater-most.ensures.value) refl (to_z-of_z w32 (get_or c.args.lifts.now c.loop-state.state-index (0, pos 0)).1 (lift_fits c.args.lifts.now c.loop-state.state-index c.loop-state-test.true c.requires.lifts)) (to_z-of_z w64 c.slope_at.result (record { sfits = c.slope_at.type_inv }) ∙ c.slope_at.ensures.value);
    }
