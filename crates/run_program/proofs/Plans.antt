-- The text that `hydro` wrote means what the description says, and bounds of its problem are bounds on plans.
use Rattle.std.proofs.Common.{◌≡◌, ℕ, List, Option, Ok}
use Rattle.std.specs.Prelude.{codes, ⊤}
use Rattle.std.proofs.lemmas.List.Elements.{All-weaker}
use Rattle.hydro_make.specs.Text.{hydro_at}
use Rattle.hydro_accept.specs.Plans.{Means}
use Rattle.hydro_accept.proofs.Accepting.{made_bound, made_means}
use Rattle.theory.specs.View.{problem_of}
use Rattle.policy_report.specs.SoundLines.{Line, claims_of, first_word, lines_of}
use Rattle.lp_program.specs.Solving.{Solving}
use Rattle.run_program.specs.Causes.{Ends, Explains}
use Rattle.run_program.specs.Run.{Describes, PlanLine, PlanLines}
use Rattle.run_program.specs.SoundText.{RiskCutHolds, SoundText, WorstHolds}
use Rattle.run_words.specs.declared.command.Command.{Command}
use Rattle.run_program.specs.declared.status.Status.{Status}
use Rattle.run_program.proofs.Sounding.{all_written_as}

pub describes : {Start Chain : Type 0} (v : Solving Start Chain) (asked : Option Command) (e : Ends) (status : Status) → Explains v asked e status → Describes asked e status
describes v asked e status h = all_written_as v (λ command bytes text. ⊤) Means (λ text. ⊤) (λ command bytes text s. tt) (λ bytes text is accepted. made_means bytes text is) (λ text accepted. tt) asked e status h

-- a line of a bound on each policy of the problem is one of a bound on each workable plan
pub plan_lines : (command : Command) (description problem text : List ℕ) → hydro_at description ≡ Ok problem → SoundText command problem text → PlanLines description text
plan_lines command description problem text e s =
    All-weaker (Line (claims_of (problem_of s.problem) (RiskCutHolds problem s.problem) (WorstHolds problem s.problem))) (λ line. first_word line ≡ codes "bound" → PlanLine description line)
    (λ line sound is. let b = sound.bound is in record { bound = b.number; is = b.is; under = made_bound description problem s.problem b.number e s.read b.claimed })
    (lines_of text) s.lines
