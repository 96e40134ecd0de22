use Rattle.std.proofs.Common.{◌<◌, ℕ, Option, IfSome, length, sym, subst}
use Rattle.lp_program.specs.Proper.{AreRising}
use Rattle.lp_scale.proofs.Cuts.{last_inside}
use Rattle.lp_scale.proofs.waiting.close_by.Goals as goal

pub close-requires : goal.close-requires
close-requires c =
    let n : ℕ = length c.args.waiting.now in
    subst (λ (o : Option ℕ). IfSome o (λ j. j < n)) (sym c.last_column.ensures) (last_inside 0 n c.as_slice.result.now (subst (AreRising 0 n) (sym c.as_slice.ensures) c.requires))
