use Rattle.std.proofs.Common.{◌+◌, ◌-◌, ◌*◌, ◌++◌, List, ap, ◌∙◌, arith}
use Rattle.plan_draw.specs.declared.steps.PathStep.{PathStep}
use Rattle.plan_draw.specs.Drawn.{path_from, word_in}
use Rattle.plan_draw.proofs.Draws.{path_ends, path_goes_on}
use Rattle.plan_draw.proofs.paths.steps_from.Goals as goal

pub returns-in_default : goal.returns-in_default
returns-in_default c = c.in_ok-push.ensures ∙ path_ends c.args.problem.now c.args.words.now c.loop.words c.step_at-step.new.words c.next_node.new.words c.loop.counter c.loop.node c.args.first c.step_at-step.result c.next_node.result c.loop.found (omega (arith, c.loop-test.true, c.longest-end.ensures)) c.loop.invariant.words c.loop.invariant.found c.step_at-step.ensures.value c.step_at-step.ensures.later c.next_node.ensures.value c.in_default.is

pub loop-preserved : goal.loop-preserved
loop-preserved c =
    let on = path_goes_on c.args.problem.now c.args.words.now c.loop.words c.step_at-step.new.words c.next_node.new.words c.loop.counter c.loop.node c.args.first c.step_at-step.result c.next_node.result c.loop.found (omega (arith, c.loop-test.true, c.longest-end.ensures)) c.loop.invariant.words c.loop.invariant.found c.step_at-step.ensures.value c.step_at-step.ensures.later c.next_node.ensures.value c.in-Some.after c.in-Some.is c.in-Some.ensures.later in
    let behind = λ (steps : List PathStep). steps ++ path_from c.args.problem.now.parts (word_in c.args.words.now) (c.args.problem.now.longest - (c.loop.counter + 1)) (2 * (c.loop.counter + 1) + 1) c.in-Some.after in
    record { inside = c.in-Some.ensures.inside; words = on.0; found = ap behind c.in_ok-push.ensures ∙ on.1 }
