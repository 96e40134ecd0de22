use Rattle.std.proofs.Common.{◌∙◌, ℕ, List, get_or, ap, sym, arith}
use Rattle.lp_program.specs.declared.fixed.Fx.{Fx}
use Rattle.lp_program.specs.Numbers.{zero_fx}
use Rattle.lp_program.specs.Duals.{dual_among}
use Rattle.lp_program.proofs.SpreadDuals.{joined_at}
use Rattle.lp_program.proofs.duals.Duals.get.Goals as goal

pub returns-else-row-len : goal.returns-else-row-len
returns-else-row-len c =
    c.dual_among.ensures ∙ ap (λ (ps : List (ℕ × Fx)). dual_among ps c.args.row) c.as_slice-else-row-len.ensures.value
    ∙ sym (joined_at c.self.inside.first c.self.inside.others.items c.self.inside.count c.self.invariant c.args.row (omega (arith, c.len.ensures, c.if-row-len.false)))
    ∙ ap (λ (fs : List Fx). get_or fs c.args.row zero_fx) c.self.view_is
