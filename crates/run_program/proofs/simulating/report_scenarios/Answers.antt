use Rattle.std.proofs.Common.{◌≡◌, ◌∙◌, ℕ, List, Ok, Result, ap}
use Rattle.plan_forward.specs.declared.traces.Trace.{Trace}
use Rattle.journal_load.specs.Load.{Outcome, seen_outcome}
use Rattle.problem.specs.Formulas.{too_wide}
use Rattle.policy_report.specs.Traces.{trace_text}
use Rattle.run_program.specs.Loading.{NotLoaded}
use Rattle.run_program.specs.Outcome.{WithBase}
use Rattle.run_program.specs.declared.status.Status.{Status}
use Rattle.run_program.proofs.Loaded.{loaded_by, not_loaded}
use Rattle.run_program.proofs.Simulated.{follow, follows, not_traced, scenarios_sound, traces_reported, width}
use Rattle.run_program.proofs.simulating.report_scenarios.Goals as goal

pub returns-in-Err-clause-lacks : goal.returns-in-Err-clause-lacks
returns-in-Err-clause-lacks g c =
    let v = g.V.Solver.does c.args.solver.now in
    let b : WithBase = record { problem = c.args.accepted.problem.now; pools = c.args.accepted.pools.lists } in
    let kept = (g.D.Disk.store c.args.journal.now).reads in
    let formula = c.too_wide-formula.ensures ∙ ap (λ (n : ℕ). too_wide b.problem n) c.count_of.ensures in
    let told = loaded_by kept (λ (r : Result Outcome Status). NotLoaded c.in-Err.fault r) b _ _ _ _ c.digest-digest.ensures formula c.in-Err.ensures.value in
    rw c.status_of_fault.ensures (not_loaded v _ kept c.args.accepted.bytes.now b (width v c.args.scenarios c.args.accepted.bytes.now b) (follow v c.args.scenarios c.args.accepted.bytes.now b) (follows v c.args.scenarios c.args.accepted.bytes.now b c.requires.read) _ _ c.in-Err.fault c.in-Err.ensures.cause told)

pub returns-in-Err-traced-clause-lacks : goal.returns-in-Err-traced-clause-lacks
returns-in-Err-traced-clause-lacks g c =
    let v = g.V.Solver.does c.args.solver.now in
    let b : WithBase = record { problem = c.args.accepted.problem.now; pools = c.args.accepted.pools.lists } in
    let kept = (g.D.Disk.store c.args.journal.now).reads in
    let formula = c.too_wide-formula.ensures ∙ ap (λ (n : ℕ). too_wide b.problem n) c.count_of.ensures in
    let told = loaded_by kept (λ (r : Result Outcome Status). r ≡ Ok (seen_outcome c.in-Ok.loaded)) b _ _ _ _ c.digest-digest.ensures formula c.in-Ok.ensures.value in
    rw c.status_of_plan.ensures (not_traced v c.args.scenarios c.args.accepted.bytes.now b kept c.requires.read (seen_outcome c.in-Ok.loaded) told _ _ c.in-Err-traced.fault c.in-Err-traced.ensures.value c.parts.ensures.validated (c.in-Ok.ensures.cause.otherwise (λ e. cc)))

pub returns-in-Ok-trace_report-clause-report : goal.returns-in-Ok-trace_report-clause-report
returns-in-Ok-trace_report-clause-report g c =
    let v = g.V.Solver.does c.args.solver.now in
    let b : WithBase = record { problem = c.args.accepted.problem.now; pools = c.args.accepted.pools.lists } in
    let kept = (g.D.Disk.store c.args.journal.now).reads in
    let formula = c.too_wide-formula.ensures ∙ ap (λ (n : ℕ). too_wide b.problem n) c.count_of.ensures in
    let told = loaded_by kept (λ (r : Result Outcome Status). r ≡ Ok (seen_outcome c.in-Ok.loaded)) b _ _ _ _ c.digest-digest.ensures formula c.in-Ok.ensures.value in
    let text = c.in-Ok-trace_report.ensures.text ∙ ap (λ (traces : List Trace). trace_text b.problem c.in-Ok.loaded.pools.lists traces) c.as_slice.ensures in
    traces_reported v c.args.scenarios c.args.accepted.bytes.now b kept c.requires.read (seen_outcome c.in-Ok.loaded) told c.in-Ok-traced.traces c.in-Ok-trace_report.text.items c.in-Ok-traced.ensures.value text

pub returns-in-Ok-trace_report-clause-sound : goal.returns-in-Ok-trace_report-clause-sound
returns-in-Ok-trace_report-clause-sound g c =
    let safe = c.in-Ok.ensures.safe in
    let text = c.in-Ok-trace_report.ensures.text ∙ ap (λ (traces : List Trace). trace_text c.args.accepted.problem.now c.in-Ok.loaded.pools.lists traces) c.as_slice.ensures in
    (c.in-Ok.loaded.pools.lists, scenarios_sound c.args.scenarios c.args.accepted.bytes.now c.args.accepted.problem.now c.in-Ok.loaded.pools.lists c.in-Ok-traced.traces c.in-Ok-trace_report.text.items c.parts.ensures.validated safe.fit safe.sound text)
