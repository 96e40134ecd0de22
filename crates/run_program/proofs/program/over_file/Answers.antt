use Rattle.std.proofs.Common.{inl, inr, refl, subst}
use Rattle.base_device.specs.Counted.{CountedFile}
use Rattle.run_program.specs.OwnSolver.{own_solver}
use Rattle.run_program.specs.Run.{IsRun, devices, telling_streams}
use Rattle.run_program.specs.Words.{asked_command}
use Rattle.run_program.specs.declared.status.Status.TheVariants.{Memory}
use Rattle.run_program.proofs.program.over_file.Goals as goal

-- the journal that the run began with is the one that the words name
pub returns-in-Ok : goal.returns-in-Ok
returns-in-Ok g c =
    let run = c.execute-end in (
      run.ensures.0,
      run.ensures.1,
      inr (
        run.new.outside.1.0,
        subst (λ (d : CountedFile). IsRun own_solver (asked_command c.args.words.now) (telling_streams g.I.Read.remaining g.O.Write.contents) (devices c.args.problem.now d c.args.out.now) (devices run.new.outside.0 run.new.outside.1.0 run.new.outside.1.1.0) run.ensures.0)
            c.in-Ok.ensures run.ensures.2,
      ),
    )

pub returns-in-Err : goal.returns-in-Err
returns-in-Err g c = (Memory, c.ended.ensures.number, inl (refl, refl, refl))
