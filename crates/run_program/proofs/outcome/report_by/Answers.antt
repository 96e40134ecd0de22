use Rattle.run_program.proofs.TrainReports.{leaves_grown}
use Rattle.run_program.proofs.Checks.{base_reports, base_sounds}
use Rattle.run_program.proofs.outcome.report_by.Goals as goal

pub returns-in-Base-clause-report : goal.returns-in-Base-clause-report
returns-in-Base-clause-report g c = base_reports (g.V.Solver.does c.args.solver.now) (λ v. v.items) c.report_base.result c.args.command (g.D.Disk.store c.args.journal.now).reads c.args.accepted.bytes.now
    (record { problem = c.args.accepted.problem.now; pools = c.args.accepted.pools.lists }) c.in-Base.is c.requires.read c.report_base.ensures.text

pub returns-in-Base-clause-sound : goal.returns-in-Base-clause-sound
returns-in-Base-clause-sound g c = base_sounds (λ v. v.items) c.report_base.result c.args.command c.args.accepted.bytes.now c.args.accepted.problem.now c.args.accepted.pools.lists c.in-Base.is (c.report_base.ensures.sound c.args.accepted.bytes.now)

pub returns-in-Train-clause-grown : goal.returns-in-Train-clause-grown
returns-in-Train-clause-grown g c =
    let v = g.V.Solver.does c.args.solver.now in
    leaves_grown v _ c.report_train.result c.args.accepted.bytes.now (record { problem = c.args.accepted.problem.now; pools = c.args.accepted.pools.lists }) c.in-Train.seed c.in-Train.count c.in-Train.batch (g.D.Disk.store c.args.journal.now).reads (g.D.Disk.store c.report_train.new.journal) c.args.command c.in-Train.is c.requires.read c.report_train.ensures.grown
