use Rattle.std.proofs.Common.{subst, arith}
use Rattle.std.proofs.lemmas.Grind.{common_steps}
use Rattle.std.proofs.lemmas.List.Elements.{All-more}
use Rattle.journal_record.specs.Shape.{StepFits}
use Rattle.journal_record.proofs.encoding.put_steps.Goals as goal

pub loop-step-preserved : goal.loop-step-preserved
loop-step-preserved c = record {
  text = grind (arith, common_steps);
  numbers = All-more StepFits c.args.steps.now c.loop-step.step-index _ c.loop-step-test.true c.loop-step.invariant.numbers (subst StepFits c.step-item.is c.in_ok-put_step.ensures.numbers);
}
