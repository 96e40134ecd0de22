use Rattle.std.proofs.Common.{ℤ, subst}
use Rattle.std.proofs.lemmas.Int.{to_z-of_z}
use mir.Syntax.{w32}
use Rattle.lp_scale.specs.Fences.{AreLimits, ReachesDigits}
use Rattle.lp_scale.proofs.Fencing.{few_fit, fence_keeps}
use Rattle.lp_scale.proofs.fences.fence.Goals as goal

pub returns-clause-keeps : goal.returns-clause-keeps
returns-clause-keeps c =
    let s = c.args.span in
    let b = c.requires.span in
    let most = to_z-of_z w32 s.greatest (few_fit s.greatest b.low_greatest b.high_greatest) in
    let least = to_z-of_z w32 s.least (few_fit s.least b.low_least b.high_least) in
    fence_keeps c.args.lifts.now s c.write_limits.new.limits c.lead_at.result.state c.lead_at.result.size b (subst (λ (z : ℤ). AreLimits z c.args.lifts.now c.write_limits.new.limits) most c.write_limits.ensures.value) (subst (λ (z : ℤ). ReachesDigits c.args.lifts.now z c.lead_at.result.state c.lead_at.result.size) least c.lead_at.ensures)
