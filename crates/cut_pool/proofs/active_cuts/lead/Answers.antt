use Rattle.std.proofs.Common.{◌∙◌, ◌-ℤ◌, SFits, rules, arith, ap₂}
use mir.Syntax.{w128}
use Rattle.std.proofs.lemmas.Int.{to_z-of_z}
use Rattle.std.proofs.lemmas.Option.{IfSome_then}
use Rattle.lp_program.specs.Covering.{packed_cut_at}
use Rattle.cut_pool.proofs.Leads.{lead_read}
use Rattle.cut_pool.proofs.active_cuts.lead.Goals as goal

pub returns : goal.returns
returns c =
    let fits : SFits w128 c.in_ok-height.height = search rules in
    let height = to_z-of_z w128 c.in_ok-height.height fits ∙ c.in_ok-height.ensures
    ∙ ap₂ ◌-ℤ◌ (to_z-of_z w128 c.height.result (record { sfits = c.height.type_inv }) ∙ c.height.ensures.value) (to_z-of_z w128 c.height-2.result (record { sfits = c.height-2.type_inv }) ∙ c.height-2.ensures.value) in
    IfSome_then c.sum_over.result c.sum_over.ensures
    (λ v is. lead_read c.args.lows.now c.args.highs.now c.slopes-slopes.result.now c.slopes-others.result.now (packed_cut_at c.args.cuts.now c.args.first) (packed_cut_at c.args.cuts.now c.args.second) _ v c.slopes-slopes.ensures.value c.slopes-others.ensures.value (omega (arith, c.if-others-slopes.false)) (omega (arith, c.if-lows-slopes.false)) height is)
