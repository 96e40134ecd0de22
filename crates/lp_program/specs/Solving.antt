-- The functions of a solver.
use Rattle.std.specs.Prelude.{Bool, ℕ}
use Rattle.lp_program.specs.declared.programs.Program.{Program}
use Rattle.lp_program.specs.declared.programs.Answer.{Answer}

-- a solver, known by four functions: the start that it makes for a node by a program, the state of a chain that begins with a program, before that program, the answer to a program with the state of the chain after it, and whether so many solves of programs like one go in two chains
pub record Solving (Start Chain : Type 0) : Type 0 where
  pub started : Program → Start
  pub begun : Start → Program → Chain
  pub next : Chain → Program → Answer × Chain
  pub in_two : Program → ℕ → Bool
