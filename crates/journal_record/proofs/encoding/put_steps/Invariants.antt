use Rattle.std.proofs.Common.{◌≡◌, ◌++◌, take}
use Rattle.std.specs.Prelude.{All}
use Rattle.std.specs.List.{flat_map}
use Rattle.journal_record.specs.Shape.{StepFits}
use Rattle.journal_record.specs.Spelling.{step_text}
use Rattle.journal_record.proofs.encoding.put_steps.Given as goal

abbrev pub invariant-loop-step : goal.invariant-loop-step
invariant-loop-step l = record { text : l.out.items ≡ l.fn.out.items ++ flat_map step_text (take l.step-index l.steps); numbers : All StepFits (take l.step-index l.steps) }
