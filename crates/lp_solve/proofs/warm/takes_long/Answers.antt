use Rattle.std.proofs.Common.{ℕ, ◌+◌, ◌*◌, min, leb, ap, ◌∙◌, arith}
use Rattle.lp_solve.proofs.Saturating.{stopped_product}
use Rattle.lp_solve.proofs.warm.takes_long.Goals as goal

pub returns : goal.returns
returns c =
    let most : ℕ = 18446744073709551615 in
    ap (leb 1048576) (c.saturating_mul-2.ensures ∙ ap (λ (n : ℕ). min (n * c.args.solves) most) (c.saturating_mul.ensures ∙ ap (λ (n : ℕ). min (c.args.columns * n) most) c.saturating_add-rows.ensures))
    ∙ stopped_product 1048576 most c.args.columns (c.args.own + 8) c.args.solves (omega (arith))
