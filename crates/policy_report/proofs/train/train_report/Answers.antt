use Rattle.std.proofs.Common.{◌≡◌, sym, subst, rules}
use Rattle.theory.specs.View.{problem_of}
use Rattle.theory.proofs.BoundBelow.{sound_bound}
use Rattle.theory.proofs.ValidatedPremises.{root_shaped-validated}
use Rattle.cut_pool.proofs.Weighted.{have_cuts-fit}
use Rattle.policy_report.specs.Report.{train_text}
use Rattle.policy_report.specs.SoundLines.{SoundLines}
use Rattle.policy_report.proofs.SoundLines.{sound_training}
use Rattle.policy_report.proofs.train.train_report.Goals as goal

pub returns-clause-sound : goal.returns-clause-sound
unfolding train_text
returns-clause-sound c = λ sound under.
    let p = c.args.problem.now in
    let l = c.args.loaded.now in
    let validated = c.parts.ensures.validated in
    let text : c.push_bound.new.out.items ≡ train_text p l.pools.lists l.bounds l.unanswered = search rules in
    subst (SoundLines (problem_of p)) (sym text)
    (sound_training p l.pools.lists l.bounds l.unanswered under (sound_bound (problem_of p) l.pools.lists (root_shaped-validated p validated) (have_cuts-fit p l.pools.lists validated c.requires) sound))
