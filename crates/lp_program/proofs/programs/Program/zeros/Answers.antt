use Rattle.std.proofs.Common.{◌∙◌, ℕ, replicate, ap}
use Rattle.lp_program.specs.Numbers.{zero_fx}
use Rattle.lp_program.proofs.AllRows.{zeros_all}
use Rattle.lp_program.proofs.programs.Program.zeros.Goals as goal

pub returns : goal.returns
returns c = c.zeros.ensures ∙ ap (λ (n : ℕ). replicate n zero_fx) c.len.ensures ∙ zeros_all c.args.self.now.rows
