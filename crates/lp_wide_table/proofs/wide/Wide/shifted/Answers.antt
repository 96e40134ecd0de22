use Rattle.std.proofs.Common.{ℤ, pos, ◌*ℤ◌, ◌^◌, ◌-◌, arith, ap, sym, ◌∙◌}
use Rattle.std.proofs.lemmas.Int.{to_z-of_z}
use mir.Syntax.{w128}
use Rattle.lp_wide_table.specs.WideWhole.{held_wide}
use Rattle.lp_wide_table.proofs.ByHalves.{none_up, some_up}
use Rattle.lp_wide_table.proofs.Shifts.{shifted_high}
use Rattle.lp_wide_table.proofs.wide.Wide.shifted.Goals as goal

pub returns-in_err-high : goal.returns-in_err-high
returns-in_err-high c =
    let read = ap (λ (z : ℤ). held_wide 127 (z *ℤ pos (2 ^ (c.args.k - 128)))) (to_z-of_z w128 c.args.number c.ranges.number) in
    c.from_residual.ensures ∙ none_up (c.args.number *ℤ pos (2 ^ (c.args.k - 128))) (c.args.number *ℤ pos (2 ^ c.args.k)) 0 (omega arith) (shifted_high c.args.number c.args.k c.if-k-le126.false c.if-k-eq127.false) (sym c.in_err-high.was ∙ c.shift_up.ensures ∙ read)

pub returns-in_ok-high : goal.returns-in_ok-high
returns-in_ok-high c =
    let read = ap (λ (z : ℤ). held_wide 127 (z *ℤ pos (2 ^ (c.args.k - 128)))) (to_z-of_z w128 c.args.number c.ranges.number) in
    some_up c.in_ok-high.high (c.args.number *ℤ pos (2 ^ (c.args.k - 128))) (c.args.number *ℤ pos (2 ^ c.args.k)) 0 (omega arith) (shifted_high c.args.number c.args.k c.if-k-le126.false c.if-k-eq127.false) (sym c.in_ok-high.was ∙ c.shift_up.ensures ∙ read)
