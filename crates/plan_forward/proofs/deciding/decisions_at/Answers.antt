use Rattle.std.proofs.Common.{◌∙◌}
use mir.Syntax.{w128}
use Rattle.std.proofs.lemmas.Int.{to_z-of_z}
use Rattle.plan_forward.proofs.Decisions.{decision_more}
use Rattle.plan_forward.proofs.deciding.decisions_at.Goals as goal

pub loop-j-preserved : goal.loop-j-preserved
loop-j-preserved c =
    let same = to_z-of_z w128 c.decision_at.result (record { sfits = c.decision_at.type_inv }) in
    decision_more c.args.point.now c.args.decisions.now c.loop-j.j c.index-decisions-j.result c.loop-j.found c.push.new.self _ c.loop-j-test.true c.loop-j.invariant c.index-decisions-j.is (same ∙ c.decision_at.ensures) c.in_ok-push.ensures
