use Rattle.std.proofs.Common.{◌≡◌, ◌+◌, ◌-◌, ◌*◌, ℕ, take, drop, arith, ap, sym, ◌∙◌}
use Rattle.base_num.proofs.Flat.{row_is}
use Rattle.lp_wide_table.proofs.square.row_of.Goals as goal

pub returns-clause-row : goal.returns-clause-row
returns-clause-row c =
    let n : ℕ = c.args.size in
    let e : c.args.v * n + n - c.args.v * n ≡ n = omega arith in
    ap (λ (k : ℕ). take k (drop (c.args.v * n) c.args.cells.now)) e ∙ sym (row_is n n c.args.v c.args.cells.now c.requires.there)
