use Rattle.lp_program.specs.declared.programs.Program.{Program}
use Rattle.lp_program.specs.Proper.{IsProper, IsLike}
use Rattle.test_golden.proofs.chain.push_answers.Given as goal

abbrev pub invariant-loop-lp : goal.invariant-loop-lp
invariant-loop-lp g l = IsProper l.last × ((other : Program) → IsLike l.last other → g.V.Solver.fits l.solver l.chain other)
