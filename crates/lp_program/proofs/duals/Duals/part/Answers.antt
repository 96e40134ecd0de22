use Rattle.std.proofs.Common.{◌∙◌, ℕ, List, ◌++◌, length, take, drop, ap, ap₂}
use Rattle.lp_program.specs.declared.fixed.Fx.{Fx}
use Rattle.lp_program.specs.Duals.{dual_in, not_zero, all_kept}
use Rattle.lp_program.proofs.KeptDuals.{listed_and_kept}
use Rattle.lp_program.proofs.duals.Duals.part.Goals as goal

pub returns-clause-value : goal.returns-clause-value
returns-clause-value c =
    let d = c.self.inside in
    let listed = c.part.ensures ∙ ap (λ (fs : List Fx). take c.args.count (drop c.args.from fs)) c.as_slice.ensures in
    ap₂ (λ (fs : List Fx) (ps : List (ℕ × Fx)). not_zero (dual_in fs) 0 (length fs) ++ all_kept c.args.from c.args.count ps) listed c.as_slice-2.ensures.value
    ∙ listed_and_kept d.first d.others.items d.count c.args.from c.args.count c.self.invariant
    ∙ ap (λ (fs : List Fx). not_zero (dual_in (drop c.args.from fs)) 0 c.args.count) c.self.view_is
