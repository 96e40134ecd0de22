use Rattle.std.proofs.Common.{◌∙◌, List, length, ap, sym}
use Rattle.lp_program.specs.declared.fixed.Fx.{Fx}
use Rattle.lp_program.proofs.SpreadDuals.{length-joined}
use Rattle.lp_program.proofs.duals.Duals.len.Goals as goal

pub returns : goal.returns
returns c = sym (length-joined c.self.inside.first c.self.inside.others.items c.self.inside.count c.self.invariant.count) ∙ ap (λ (fs : List Fx). length fs) c.self.view_is
