use Rattle.std.proofs.Common.{◌≡◌, sym, subst, rules}
use Rattle.theory.specs.View.{problem_of}
use Rattle.theory.proofs.BoundBelow.{sound_bound}
use Rattle.theory.proofs.ValidatedPremises.{root_shaped-validated}
use Rattle.cut_pool.proofs.Weighted.{have_cuts-fit}
use Rattle.policy_report.specs.Report.{check_text}
use Rattle.policy_report.specs.SoundLines.{SoundLines}
use Rattle.policy_report.proofs.SoundLines.{sound_check}
use Rattle.policy_report.proofs.check.check_report.Goals as goal

pub returns-clause-sound : goal.returns-clause-sound
unfolding check_text
returns-clause-sound c = λ safe.
    let p = c.args.problem.now in
    let l = c.args.loaded.now in
    let validated = c.parts.ensures.validated in
    let text : c.push_rest.new.out.items ≡ check_text p l.pools.lists l.bounds l.unanswered l.tail = search rules in
    subst (SoundLines (problem_of p)) (sym text)
    (sound_check p l.pools.lists l.bounds l.unanswered l.tail safe.sound safe.under (sound_bound (problem_of p) l.pools.lists (root_shaped-validated p validated) (have_cuts-fit p l.pools.lists validated c.requires) safe.sound))
