use Rattle.run_program.specs.Run.{telling}
use Rattle.run_program.proofs.AnyStops.{ends_alike, stands_for}
use Rattle.run_program.proofs.laws.any_stops.Goals as goal

pub returns : goal.returns
returns g c =
    let v = g.V.Solver.does c.args.solver.now in
    let t = telling g.I.Source.left g.I.Source.faults g.D.Disk.store g.D.Disk.faults g.O.Sink.taken g.O.Sink.faults in
    record {
      stands = λ bytes content b seed count batch asked from. stands_for v bytes b seed batch count asked t content from;
      ends = λ bytes kept b seed count batch old new status asked from run. ends_alike v bytes b seed batch count asked t kept old new status from run;
    }
