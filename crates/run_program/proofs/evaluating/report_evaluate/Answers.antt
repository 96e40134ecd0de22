use Rattle.std.proofs.Common.{◌≡◌, Ok, Result}
use Rattle.journal_load.specs.Load.{Outcome, seen_outcome}
use Rattle.policy_evaluate.specs.TooBig.{too_big_of}
use Rattle.run_program.specs.Loading.{NotLoaded}
use Rattle.run_program.specs.Outcome.{WithBase}
use Rattle.run_program.specs.declared.status.Status.{Status}
use Rattle.run_program.proofs.Evaluated.{classify, classifies, not_classified, verdict_reported, verdict_sound}
use Rattle.run_program.proofs.Loaded.{loaded_by, not_loaded}
use Rattle.run_program.proofs.evaluating.report_evaluate.Goals as goal

pub returns-in-Err-load_within-clause-lacks : goal.returns-in-Err-load_within-clause-lacks
returns-in-Err-load_within-clause-lacks g c =
    let v = g.V.Solver.does c.args.solver.now in
    let b : WithBase = record { problem = c.args.accepted.problem.now; pools = c.args.accepted.pools.lists } in
    let kept = (g.D.Disk.store c.args.journal.now).reads in
    let fault = c.in-Err-load_within.fault in
    let told = loaded_by kept (λ (r : Result Outcome Status). NotLoaded fault r) b _ _ _ _ c.digest-digest.ensures c.in-Ok.ensures c.in-Err-load_within.ensures.value in
    rw c.status_of_fault.ensures (not_loaded v _ kept c.args.accepted.bytes.now b (too_big_of b.problem) (classify v c.args.accepted.bytes.now b) (classifies v c.args.accepted.bytes.now b c.requires.read) _ _ fault c.in-Err-load_within.ensures.cause told)

pub returns-in-Err-verdict_of-clause-lacks : goal.returns-in-Err-verdict_of-clause-lacks
returns-in-Err-verdict_of-clause-lacks g c =
    let v = g.V.Solver.does c.args.solver.now in
    let b : WithBase = record { problem = c.args.accepted.problem.now; pools = c.args.accepted.pools.lists } in
    let kept = (g.D.Disk.store c.args.journal.now).reads in
    let loaded = c.in-Ok-load_within.loaded in
    let told = loaded_by kept (λ (r : Result Outcome Status). r ≡ Ok (seen_outcome loaded)) b _ _ _ _ c.digest-digest.ensures c.in-Ok.ensures c.in-Ok-load_within.ensures.value in
    rw c.status_of_plan.ensures (not_classified v c.args.accepted.bytes.now b kept c.requires.read (seen_outcome loaded) told _ _ c.in-Err-verdict_of.fault c.in-Err-verdict_of.ensures.value c.parts.ensures.validated (c.in-Ok-load_within.ensures.cause.otherwise (λ e. cc)))

pub returns-in-Ok-verdict_report-clause-report : goal.returns-in-Ok-verdict_report-clause-report
returns-in-Ok-verdict_report-clause-report g c =
    let v = g.V.Solver.does c.args.solver.now in
    let b : WithBase = record { problem = c.args.accepted.problem.now; pools = c.args.accepted.pools.lists } in
    let kept = (g.D.Disk.store c.args.journal.now).reads in
    let loaded = c.in-Ok-load_within.loaded in
    let told = loaded_by kept (λ (r : Result Outcome Status). r ≡ Ok (seen_outcome loaded)) b _ _ _ _ c.digest-digest.ensures c.in-Ok.ensures c.in-Ok-load_within.ensures.value in
    verdict_reported v c.args.accepted.bytes.now b kept c.requires.read (seen_outcome loaded) told c.in-Ok-verdict_of.verdict c.in-Ok-verdict_report.text.items c.in-Ok-verdict_of.ensures.value c.in-Ok-verdict_report.ensures

pub returns-in-Ok-verdict_report-clause-sound : goal.returns-in-Ok-verdict_report-clause-sound
returns-in-Ok-verdict_report-clause-sound g c =
    let safe = c.in-Ok-load_within.ensures.safe in
    let pools = c.in-Ok-load_within.loaded.pools.lists in
    (pools, verdict_sound c.args.accepted.bytes.now c.args.accepted.problem.now pools c.in-Ok-verdict_of.verdict c.in-Ok-verdict_report.text.items c.parts.ensures.validated safe.fit safe.sound c.in-Ok-verdict_of.ensures.two_sided c.in-Ok-verdict_report.ensures)
