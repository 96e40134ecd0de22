use Rattle.std.proofs.Common.{◌∙◌, length, ap, sym}
use Rattle.lp_program.proofs.SideBySide.{length-cuts_of}
use Rattle.lp_program.proofs.packed.CutList.len.Goals as goal

pub returns-clause-value : goal.returns-clause-value
returns-clause-value c = sym (length-cuts_of c.self.inside.states c.self.inside.heights.now c.self.inside.slopes.now) ∙ ap length c.self.view_is
