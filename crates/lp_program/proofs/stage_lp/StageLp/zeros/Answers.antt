use Rattle.std.proofs.Common.{◌∙◌, ◌++◌, ℕ, replicate, ap}
use Rattle.lp_program.specs.declared.programs.Program.{Program}
use Rattle.lp_program.specs.Answers.{zeros_of}
use Rattle.lp_program.specs.Numbers.{zero_fx}
use Rattle.lp_program.specs.Packed.{unlisted}
use Rattle.lp_program.proofs.AllRows.{zeros_all}
use Rattle.lp_program.proofs.stage_lp.StageLp.zeros.Goals as goal

pub returns : goal.returns
returns c =
    c.zeros.ensures ∙ ap (λ (n : ℕ). replicate n zero_fx) c.self.invariant.count ∙ zeros_all (c.self.inside.listed.rows ++ unlisted c.self.inside.packed)
    ∙ ap (λ (p : Program). zeros_of p.rows) c.self.view_is
