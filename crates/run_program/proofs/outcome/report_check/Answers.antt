use Rattle.run_program.proofs.Checks.{check_reports, check_lacks}
use Rattle.run_program.proofs.outcome.report_check.Goals as goal

pub returns-in-Ok-clause-report : goal.returns-in-Ok-clause-report
returns-in-Ok-clause-report g c =
    check_reports (g.V.Solver.does c.args.solver.now) (g.D.Disk.store c.args.journal.now).reads c.args.accepted.bytes.now _ (record { problem = c.args.accepted.problem.now; pools = c.args.accepted.pools.lists }) c.requires.read c.in-Ok.ensures.value

pub returns-in-Err-clause-lacks : goal.returns-in-Err-clause-lacks
returns-in-Err-clause-lacks g c = rw c.status_of_fault.ensures (check_lacks (g.V.Solver.does c.args.solver.now) (λ v. v.items) (g.D.Disk.store c.args.journal.now).reads (g.D.Disk.faults c.args.journal.now) (g.D.Disk.faults c.check.new.journal)
    c.args.accepted.bytes.now (record { problem = c.args.accepted.problem.now; pools = c.args.accepted.pools.lists }) c.in-Err.fault c.requires.read c.in-Err.ensures.cause c.in-Err.ensures.value)
