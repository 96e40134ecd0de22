-- The journal that is left where the source was read.
use Rattle.std.proofs.Common.{ℕ, List, Option, Some, None, IfSome}
use Rattle.std.specs.Io.KnownBytes.{Consumes, IsAtEnd}
use Rattle.run_words.specs.declared.command.Command.{Command}
use Rattle.run_words.specs.declared.command.TrainingNumbers.{TrainingNumbers}
use Rattle.run_words.specs.Traits.{traits}
use Rattle.run_program.specs.Journals.{IfTraining}
use Rattle.run_program.proofs.KnownBytes.{all_taken}

-- what holds of the bytes that were read holds of those that the source had, where it tells them
pub of_source : (left left_now : Option (List ℕ)) (bytes : List ℕ) (command : Command) (reads : Option (List ℕ)) (P : List ℕ → List ℕ → TrainingNumbers → Type 0) → Consumes left left_now bytes → IsAtEnd left_now
    → IfTraining command (λ t. IfSome reads (λ kept. P bytes kept t)) → IfTraining command (λ t. IfSome left (λ b. IfSome reads (λ kept. P b kept t)))
of_source left left_now bytes command reads P consumes end has = each (traits command).training has
  where
    each : (o : Option TrainingNumbers) → IfSome o (λ t. IfSome reads (λ kept. P bytes kept t)) → IfSome o (λ t. IfSome left (λ b. IfSome reads (λ kept. P b kept t)))
    each None h = tt
    each (Some t) h = all_taken left left_now bytes (λ b. IfSome reads (λ kept. P b kept t)) consumes end h
