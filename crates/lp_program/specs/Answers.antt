-- Answers without work.
use Rattle.std.specs.Prelude.{List, map}
use Rattle.lp_program.specs.declared.fixed.Fx.{Fx}
use Rattle.lp_program.specs.declared.programs.Column.{Column}
use Rattle.lp_program.specs.declared.programs.LpRow.{LpRow}
use Rattle.lp_program.specs.declared.programs.Program.{Program}
use Rattle.lp_program.specs.declared.programs.Answer.{Answer}
use Rattle.lp_program.specs.declared.programs.Kind.TheVariants as kinds
use Rattle.lp_program.specs.Numbers.{zero_fx}

-- each column at its lower bound
abbrev pub lows_of : List Column → List Fx
lows_of cs = map (λ (c : Column). c.low) cs

abbrev pub zeros_of : List LpRow → List Fx
zeros_of rs = map (λ (r : LpRow). zero_fx) rs

-- a claim without work: each column at its lower bound, each dual 0
unfoldable pub zero_of : Program → Answer
zero_of lp = record { kind = kinds.Found; point = lows_of lp.columns; duals = zeros_of lp.rows }
