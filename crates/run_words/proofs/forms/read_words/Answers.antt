use Rattle.std.proofs.Common.{sym, subst, Option, IfSome}
use Rattle.run_words.specs.declared.command.Command.{Command}
use Rattle.run_words.specs.Traits.{IsWithin}
use Rattle.run_words.proofs.Within.{by-word}
use Rattle.run_words.proofs.forms.read_words.Goals as goal

pub returns-clause-within : goal.returns-clause-within
returns-clause-within c = subst (λ (o : Option Command). IfSome o IsWithin) (sym c.command_by.ensures) (by-word _ _)
