use Rattle.std.proofs.Common.{subst}
use Rattle.read_json.specs.declared.refusal.ReadRefusal.{ReadRefusal}
use Rattle.read_json.specs.Steps.{Fails}
use Rattle.run_program.specs.Outcome.{based_at}
use Rattle.run_program.proofs.Reports.{refused_as, sound_texts}
use Rattle.run_program.proofs.outcome.report_of.Goals as goal

pub returns-clause-sound : goal.returns-clause-sound
returns-clause-sound g c = sound_texts (λ v. v.items) c.args.command c.args.bytes.now _ _ c.in-Ok.ensures.read c.report_by.ensures.sound

pub returns-in-Err-Refused-clause-lacks : goal.returns-in-Err-Refused-clause-lacks
returns-in-Err-Refused-clause-lacks g c =
    let refused = subst (λ (f : ReadRefusal). Fails f (based_at c.args.bytes.now)) c.in-Err-Refused.field-0-is c.in-Err-Refused.ensures.value in
    rw c.in-Err-Refused.refusal-is (refused_as c.args.command c.args.bytes.now c.in-Err-Refused.refusal refused)
