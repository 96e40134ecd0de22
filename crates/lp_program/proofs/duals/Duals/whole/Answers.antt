use Rattle.std.proofs.Common.{◌≡◌, ◌∙◌, List, length, ap, sym, arith}
use Rattle.std.proofs.lemmas.List.{take_all}
use Rattle.lp_program.specs.declared.fixed.Fx.{Fx}
use Rattle.lp_program.proofs.SpreadDuals.{length-joined, one_dual_more}
use Rattle.lp_program.proofs.duals.Duals.whole.Goals as goal

pub loop-row-preserved : goal.loop-row-preserved
loop-row-preserved c =
    let long : length c.args.self.now ≡ c.self.inside.count = sym (ap (λ (fs : List Fx). length fs) c.self.view_is) ∙ length-joined c.self.inside.first c.self.inside.others.items c.self.inside.count c.self.invariant.count in
    one_dual_more c.args.self.now c.loop-row.found c.push.new.self c.loop-row.row c.get.result (omega (arith, long, c.loop-row-test.true)) c.loop-row.invariant c.get.ensures c.in_ok-push.ensures

pub returns : goal.returns
returns c =
    let long : length c.args.self.now ≡ c.self.inside.count = sym (ap (λ (fs : List Fx). length fs) c.self.view_is) ∙ length-joined c.self.inside.first c.self.inside.others.items c.self.inside.count c.self.invariant.count in
    c.loop-row.invariant ∙ take_all c.loop-row.row c.args.self.now (omega (arith, long, c.loop-row-test.false))
