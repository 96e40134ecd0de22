use Rattle.std.proofs.Common.{Ok, Err, ap, ◌∙◌}
use Rattle.std.proofs.lemmas.Result.{err_from_is_err_and}
use Rattle.journal_load.specs.Load.{seen_outcome}
use Rattle.run_program.specs.Outcome.{WithBase}
use Rattle.run_program.proofs.TrainReports.{cause_later, cause_of_status, grown_after, is_ready, leaves_read, leaves_trained, ready_clear, ready_uncommitted, stopped_lacks, train_is_sound, trained_reports, unloaded_lacks, when_as}
use Rattle.run_program.proofs.training.report_train.Goals as goal

pub returns-in_err-loaded-clause-lacks : goal.returns-in_err-loaded-clause-lacks
returns-in_err-loaded-clause-lacks g c =
    let e = err_from_is_err_and c.from_residual.result c.from_residual.ensures.1 in
    rw (e.1, e.2) (unloaded_lacks _ _ _ _ _ _ c.requires.read _ _ _ _ c.in_err-loaded.field-0.0 c.in_err-loaded.ensures.own c.digest-digest.ensures c.in_err-loaded.ensures.value (cause_of_status _ _ _ _ _ c.in_err-loaded.was c.load_for.ensures.cause))

-- no memory for the starts
pub returns-in_default-clause-any_moment : goal.returns-in_default-clause-any_moment
returns-in_default-clause-any_moment g c =
    let b : WithBase = record { problem = c.args.accepted.problem.now; pools = c.args.accepted.pools.lists } in
    leaves_read (g.V.Solver.does c.args.solver.now) c.args.accepted.bytes.now b c.args.numbers.seed c.args.numbers.count c.args.numbers.batch c.requires.read (g.D.Disk.store c.args.journal.now) (g.D.Disk.store c.load_for.new.journal) (g.D.Disk.lawful c.args.journal.now) c.load_for.ensures.stays

-- what the planner plans for is the problem and the solver that are given
pub train_on-requires-clause-can : goal.train_on-requires-clause-can
train_on-requires-clause-can g c κs within = rw c.new-planner.ensures.problem c.in_ok-loaded.ensures.can

pub train_on-requires-clause-uncommitted : goal.train_on-requires-clause-uncommitted
train_on-requires-clause-uncommitted g c κs within = λ none.
    let ready = is_ready _ _ _ _ _ _ _ _ c.requires.read c.digest-digest.ensures c.in_ok-loaded.ensures.value in
    ready_uncommitted ready _ c.load_for.ensures.stays.reads none

pub train_on-requires-clause-clear : goal.train_on-requires-clause-clear
train_on-requires-clause-clear g c κs within = λ so.
    let ready = is_ready _ _ _ _ _ _ _ _ c.requires.read c.digest-digest.ensures c.in_ok-loaded.ensures.value in
    ready_clear ready _ c.load_for.ensures.stays.reads so

pub returns-in_err-train_on-clause-lacks : goal.returns-in_err-train_on-clause-lacks
returns-in_err-train_on-clause-lacks g c =
    let ready = is_ready _ _ _ _ _ _ _ _ c.requires.read c.digest-digest.ensures c.in_ok-loaded.ensures.value in
    let e = err_from_is_err_and c.from_residual-in_err-train_on.result c.from_residual-in_err-train_on.ensures.1 in
    let stop = rw (c.new-planner.ensures.problem, c.new-planner.ensures.solver) at c.in_err-train_on.ensures.stop in
    rw (e.1, e.2) (stopped_lacks _ _ _ _ _ _ ready.base _ (Unit {0}) _ _ _ c.in_err-train_on.field-0.0 ready.ready stop (cause_later _ _ _ _ (c.in_ok-loaded.ensures.cause.otherwise (λ e. cc)) (cause_of_status _ _ _ _ _ c.in_err-train_on.was c.train_on.ensures.cause)) c.parts.ensures.validated)

pub returns-in_err-train_on-clause-grown : goal.returns-in_err-train_on-clause-grown
returns-in_err-train_on-clause-grown g c =
    let ready = is_ready _ _ _ _ _ _ _ _ c.requires.read c.digest-digest.ensures c.in_ok-loaded.ensures.value in
    let e = err_from_is_err_and c.from_residual-in_err-train_on.result c.from_residual-in_err-train_on.ensures.1 in
    let as_ended = when_as (Unit {0}) _ c.in_err-train_on.field-0.0 c.from_residual-in_err-train_on.result in
    let is = e.1 ∙ ap Err e.2 in
    let reads = rw (c.new-planner.ensures.problem, c.new-planner.ensures.solver) at c.in_err-train_on.ensures.reads in
    grown_after _ _ _ _ _ _ ready.base (g.D.Disk.store c.args.journal.now) (g.D.Disk.store c.train_on.new.journal) _ c.from_residual-in_err-train_on.result _ (g.D.Disk.store c.load_for.new.journal) _ c.digest-digest.ensures ready.loads c.load_for.ensures.stays.reads (as_ended _ is reads) (as_ended _ is c.in_err-train_on.ensures.quiet)

pub returns-in_err-train_on-clause-any_moment : goal.returns-in_err-train_on-clause-any_moment
returns-in_err-train_on-clause-any_moment g c =
    let ready = is_ready _ _ _ _ _ _ _ _ c.requires.read c.digest-digest.ensures c.in_ok-loaded.ensures.value in
    let run = rw (c.new-planner.ensures.problem, c.new-planner.ensures.solver) at c.train_on.ensures.any_moment in
    leaves_trained _ _ _ _ _ _ ready.base _ _ _ _ _ c.digest-digest.ensures ready.loads (g.D.Disk.lawful c.args.journal.now) c.load_for.ensures.stays run

pub returns-in-Ok-train_report-clause-report : goal.returns-in-Ok-train_report-clause-report
returns-in-Ok-train_report-clause-report g c =
    let ready = is_ready _ _ _ _ _ _ _ _ c.requires.read c.digest-digest.ensures c.in_ok-loaded.ensures.value in
    let stop = rw (c.new-planner.ensures.problem, c.new-planner.ensures.solver) at c.in_ok-train_on.ensures.stop in
    let value = rw (c.new-planner.ensures.problem, c.new-planner.ensures.solver) at c.in_ok-train_on.ensures.value in
    trained_reports _ _ _ _ _ _ ready.base _ _ (seen_outcome c.train_on.new.loaded) c.in-Ok-train_report.text.items ready.ready stop value c.in-Ok-train_report.ensures.text

pub returns-in-Ok-train_report-clause-sound : goal.returns-in-Ok-train_report-clause-sound
returns-in-Ok-train_report-clause-sound g c =
    let safe = c.in_ok-loaded.ensures.safe in
    let new = c.train_on.new.loaded in
    let fit = rw c.new-planner.ensures.problem at c.in_ok-train_on.ensures.fit in
    let sound = rw c.new-planner.ensures.problem at c.in_ok-train_on.ensures.sound in
    let under = rw c.new-planner.ensures.problem at c.in_ok-train_on.ensures.under in
    (new.pools.lists, train_is_sound c.args.accepted.bytes.now c.args.accepted.problem.now new.pools.lists new.bounds new.unanswered c.args.numbers.seed c.args.numbers.count c.args.numbers.batch c.in-Ok-train_report.text.items c.parts.ensures.validated fit (sound safe.sound) (under safe.sound safe.under) c.in-Ok-train_report.ensures.text)

pub returns-in-Ok-train_report-clause-grown : goal.returns-in-Ok-train_report-clause-grown
returns-in-Ok-train_report-clause-grown g c =
    let ready = is_ready _ _ _ _ _ _ _ _ c.requires.read c.digest-digest.ensures c.in_ok-loaded.ensures.value in
    let reads = rw (c.new-planner.ensures.problem, c.new-planner.ensures.solver) at c.in_ok-train_on.ensures.reads in
    grown_after _ _ _ _ _ _ ready.base (g.D.Disk.store c.args.journal.now) (g.D.Disk.store c.train_on.new.journal) _ (Ok c.in-Ok-train_report.text) _ (g.D.Disk.store c.load_for.new.journal) _ c.digest-digest.ensures ready.loads c.load_for.ensures.stays.reads reads c.in_ok-train_on.ensures.quiet

pub returns-in-Ok-train_report-clause-any_moment : goal.returns-in-Ok-train_report-clause-any_moment
returns-in-Ok-train_report-clause-any_moment g c =
    let ready = is_ready _ _ _ _ _ _ _ _ c.requires.read c.digest-digest.ensures c.in_ok-loaded.ensures.value in
    let run = rw (c.new-planner.ensures.problem, c.new-planner.ensures.solver) at c.train_on.ensures.any_moment in
    leaves_trained _ _ _ _ _ _ ready.base _ _ _ _ _ c.digest-digest.ensures ready.loads (g.D.Disk.lawful c.args.journal.now) c.load_for.ensures.stays run

pub returns-clause-any_moment : goal.returns-clause-any_moment
returns-clause-any_moment g c =
    let ready = is_ready _ _ _ _ _ _ _ _ c.requires.read c.digest-digest.ensures c.in_ok-loaded.ensures.value in
    let run = rw (c.new-planner.ensures.problem, c.new-planner.ensures.solver) at c.train_on.ensures.any_moment in
    leaves_trained _ _ _ _ _ _ ready.base _ _ _ _ _ c.digest-digest.ensures ready.loads (g.D.Disk.lawful c.args.journal.now) c.load_for.ensures.stays run
