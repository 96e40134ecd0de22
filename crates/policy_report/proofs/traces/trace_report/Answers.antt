use Rattle.std.proofs.Common.{◌≡◌, sym, subst, rules}
use Rattle.theory.specs.View.{problem_of}
use Rattle.theory.proofs.BoundBelow.{sound_bound}
use Rattle.theory.proofs.ValidatedPremises.{root_shaped-validated}
use Rattle.cut_pool.proofs.Weighted.{have_cuts-fit}
use Rattle.policy_report.specs.SoundLines.{SoundLines}
use Rattle.policy_report.specs.Traces.{trace_text}
use Rattle.policy_report.proofs.SoundTraces.{sound_traces}
use Rattle.policy_report.proofs.traces.trace_report.Goals as goal

pub returns-clause-sound : goal.returns-clause-sound
unfolding trace_text
returns-clause-sound c = λ sound.
    let p = c.args.problem.now in
    let pools = c.args.pools.now.lists in
    let validated = c.parts.ensures.validated in
    let text : c.push_bound.new.out.items ≡ trace_text p pools c.args.traces.now = search rules in
    subst (SoundLines (problem_of p)) (sym text)
    (sound_traces p pools c.args.traces.now (sound_bound (problem_of p) pools (root_shaped-validated p validated) (have_cuts-fit p pools validated c.requires.fit) sound))
