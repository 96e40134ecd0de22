use Rattle.std.proofs.Common.{◌≡◌, List, ℕ, IfSome, Ok, None, subst}
use Rattle.read_json.specs.declared.refusal.ReadRefusal.{ReadRefusal}
use Rattle.read_json.specs.Steps as steps
use Rattle.cut_pool.specs.declared.entry.Entry.{Entry}
use Rattle.journal_load.specs.Load.{Outcome, load_of, seen_outcome}
use Rattle.journal_load.specs.Refusals.{LoadFails}
use Rattle.policy_robust.specs.Alternatives.{alternatives_of}
use Rattle.run_program.specs.Outcome.{WithBase}
use Rattle.run_program.proofs.Listed.{lists_refused, no_risk_cuts, not_kept, risk_cuts_reported, risk_cuts_sound}
use Rattle.run_program.proofs.risk_cuts.report_robust.Goals as goal

pub returns-in-Err-Refused-clause-lacks : goal.returns-in-Err-Refused-clause-lacks
returns-in-Err-Refused-clause-lacks g c =
    let v = g.V.Solver.does c.args.solver.now in
    let b : WithBase = record { problem = c.args.accepted.problem.now; pools = c.args.accepted.pools.lists } in
    let refused = subst (λ (f : ReadRefusal). steps.Fails f (alternatives_of b.problem c.args.accepted.bytes.now)) c.in-Err-Refused.field-0-is c.in-Err-Refused.ensures.value in
    rw c.in-Err-Refused.refusal-is (lists_refused v (g.D.Disk.store c.args.journal.now).reads c.args.accepted.bytes.now b c.requires.read c.in-Err-Refused.refusal refused)

pub returns-in-Err-clause-lacks : goal.returns-in-Err-clause-lacks
returns-in-Err-clause-lacks g c =
    let v = g.V.Solver.does c.args.solver.now in
    let b : WithBase = record { problem = c.args.accepted.problem.now; pools = c.args.accepted.pools.lists } in
    let kept = (g.D.Disk.store c.args.journal.now).reads in
    let told = subst (λ (d : List ℕ). IfSome kept (λ k. LoadFails c.in-Err.fault (load_of b.problem b.pools d None None k))) c.digest-digest.ensures c.in-Err.ensures.value in
    rw c.status_of_fault.ensures (not_kept v kept c.args.accepted.bytes.now b c.requires.read c.in-Ok.alternatives c.in-Ok.ensures.value _ _ c.in-Err.fault c.in-Err.ensures.cause told)

pub returns-in-Err-robust-clause-lacks : goal.returns-in-Err-robust-clause-lacks
returns-in-Err-robust-clause-lacks g c =
    let v = g.V.Solver.does c.args.solver.now in
    let b : WithBase = record { problem = c.args.accepted.problem.now; pools = c.args.accepted.pools.lists } in
    let kept = (g.D.Disk.store c.args.journal.now).reads in
    let o : Outcome × List (List Entry) = (seen_outcome c.in-Ok-load_keep.loaded, c.load_keep.new.keep) in
    let told = subst (λ (d : List ℕ). IfSome kept (λ k. load_of b.problem b.pools d None None k ≡ Ok o)) c.digest-digest.ensures c.in-Ok-load_keep.ensures.value in
    rw c.status_of_risk_cuts.ensures (no_risk_cuts v kept c.args.accepted.bytes.now b c.requires.read c.in-Ok.alternatives c.in-Ok.ensures.value o told _ _ c.in-Err-robust.fault c.in-Err-robust.ensures.value (c.in-Ok-load_keep.ensures.cause.otherwise (λ e. cc)))

pub returns-in-Ok-robust_report-clause-report : goal.returns-in-Ok-robust_report-clause-report
returns-in-Ok-robust_report-clause-report g c =
    let v = g.V.Solver.does c.args.solver.now in
    let b : WithBase = record { problem = c.args.accepted.problem.now; pools = c.args.accepted.pools.lists } in
    let kept = (g.D.Disk.store c.args.journal.now).reads in
    let o : Outcome × List (List Entry) = (seen_outcome c.in-Ok-load_keep.loaded, c.load_keep.new.keep) in
    let told = subst (λ (d : List ℕ). IfSome kept (λ k. load_of b.problem b.pools d None None k ≡ Ok o)) c.digest-digest.ensures c.in-Ok-load_keep.ensures.value in
    risk_cuts_reported v kept c.args.accepted.bytes.now b c.requires.read c.in-Ok.alternatives c.in-Ok.ensures.value o told c.in-Ok-robust.risk_cuts.lists c.in-Ok-robust_report.text.items c.in-Ok-robust.ensures.value c.in-Ok-robust_report.ensures

pub returns-in-Ok-robust_report-clause-sound : goal.returns-in-Ok-robust_report-clause-sound
returns-in-Ok-robust_report-clause-sound g c =
    let safe = c.in-Ok-load_keep.ensures.safe in
    let made = c.in-Ok-robust.ensures in
    (c.in-Ok-load_keep.loaded.pools.lists, risk_cuts_sound c.args.accepted.bytes.now c.args.accepted.problem.now c.in-Ok-load_keep.loaded.pools.lists c.in-Ok.alternatives c.in-Ok-robust.risk_cuts.lists c.in-Ok-robust_report.text.items c.parts.ensures.validated safe.fit safe.sound c.in-Ok.ensures.value (record { holds = made.holds; under = made.worst }) c.in-Ok-robust_report.ensures)
