use Rattle.std.proofs.Common.{SFits, ap₂, ◌<◌, length, Some, ◌^◌, ◌≤◌, ℕ, ℤ, pos, ◌-ℤ◌, nat_abs, ap, sym, subst, ◌∙◌}
use Rattle.std.proofs.lemmas.Int.{to_z-of_z}
use Rattle.std.proofs.lemmas.Option.{slice_get-get_or}
use mir.Syntax.{w32}
use Rattle.base_num.specs.Sums.{entry}
use Rattle.lp_scale.specs.Fences.{near}
use Rattle.lp_scale.proofs.Standing.{lift_fits}
use Rattle.lp_scale.proofs.Fencing.{lead_reaches, none_reaches}
use Rattle.lp_scale.proofs.fences.lead_at.Goals as goal

pub returns-in-None : goal.returns-in-None
returns-in-None c = λ slopes small reach. absurd (none_reaches slopes c.no_lead.result.state small (subst (λ (n : ℕ). n ≤ nat_abs (entry slopes c.no_lead.result.state)) c.no_lead.ensures.size reach))

pub returns-in-Some : goal.returns-in-Some
returns-in-Some c =
    let x = c.in-Some.field-0.now in
    let there : c.args.place < length c.args.lifts.now = c.in-Some.ensures.lookup.3.0 in
    let found = slice_get-get_or c.args.lifts.now c.args.place x there ∙ ap Some (sym (c.in-Some.ensures.lookup.3.1 x)) in
    let fit : SFits w32 x.1 = subst (λ (y : ℕ × ℤ). SFits w32 y.1) (sym (c.in-Some.ensures.lookup.3.1 (0, pos 0))) (lift_fits c.args.lifts.now c.args.place there c.requires.lifts) in
    lead_reaches c.args.lifts.now c.args.least c.args.place x.0 c.reach.result x.1 found (c.reach.ensures ∙ ap₂ (λ (a b : ℤ). 2 ^ near ((a -ℤ pos 1) -ℤ b)) (to_z-of_z w32 c.args.least c.ranges.least) (to_z-of_z w32 x.1 fit))
