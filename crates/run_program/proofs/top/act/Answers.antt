use Rattle.std.proofs.Common.{◌≡◌, ◌∙◌, Some, rules, sym}
use Rattle.run_program.specs.Words.{asked_command}
use Rattle.run_program.proofs.top.act.Goals.{in-None, in-Some-Hydro, in-Some-Gen, in-Some}
use Rattle.run_program.proofs.top.act.Goals as goal

pub returns-clause-grown : goal.returns-clause-grown
returns-clause-grown g c = elim c.match-read_words.branch [
  | in-None w ↦ search rules
  | in-Some-Hydro w ↦ search rules
  | in-Some-Gen w ↦ search rules
  | in-Some w ↦
      let is : asked_command c.args.words.now ≡ Some w.in-Some.command = sym c.read_words.ensures.value ∙ w.in-Some.is in
      rw (is, w.result-is, w.journal-is) w.plan.ensures.grown
]

pub returns-clause-any_moment : goal.returns-clause-any_moment
returns-clause-any_moment g c = elim c.match-read_words.branch [
  | in-None w ↦ search rules
  | in-Some-Hydro w ↦ search rules
  | in-Some-Gen w ↦ search rules
  | in-Some w ↦
      let is : asked_command c.args.words.now ≡ Some w.in-Some.command = sym c.read_words.ensures.value ∙ w.in-Some.is in
      rw (is, w.journal-is) w.plan.ensures.any_moment
]
