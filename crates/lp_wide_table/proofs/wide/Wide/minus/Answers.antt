use Rattle.std.proofs.Common.{◌^◌, ◌<◌, ℤ, pos, ◌-ℤ◌, rules, ap₂, sym, ◌∙◌}
use Rattle.std.specs.Int.{from_bool}
use Rattle.std.proofs.lemmas.Int.{to_z-of_z}
use mir.Syntax.{w128}
use Rattle.lp_wide_table.specs.WideWhole.{held_wide}
use Rattle.lp_wide_table.proofs.ByHalves.{some_up, none_up, difference_by_halves}
use Rattle.lp_wide_table.proofs.wide.Wide.minus.Goals as goal

pub returns-in_err-high : goal.returns-in_err-high
returns-in_err-high c =
    let below : c.low_difference-low.result.0 < 2 ^ 128 = search rules in
    let e = difference_by_halves c.args.self c.args.other c.self.inside.high c.other.inside.high c.self.inside.low c.other.inside.low c.low_difference-low.result.0 c.low_difference-low.result.1 c.self.view_is c.other.view_is c.low_difference-low.ensures in
    let read = ap₂ (λ (m n : ℤ). held_wide 127 (m -ℤ n -ℤ pos (from_bool c.low_difference-low.result.1))) (to_z-of_z w128 c.self.inside.high c.self.invariant.0) (to_z-of_z w128 c.other.inside.high c.other.invariant.0) in
    c.from_residual.ensures ∙ none_up (c.self.inside.high -ℤ c.other.inside.high -ℤ pos (from_bool c.low_difference-low.result.1)) (c.args.self -ℤ c.args.other) c.low_difference-low.result.0 below e (sym c.in_err-high.was ∙ c.high_difference.ensures ∙ read)

pub returns : goal.returns
returns c =
    let below : c.low_difference-low.result.0 < 2 ^ 128 = search rules in
    let e = difference_by_halves c.args.self c.args.other c.self.inside.high c.other.inside.high c.self.inside.low c.other.inside.low c.low_difference-low.result.0 c.low_difference-low.result.1 c.self.view_is c.other.view_is c.low_difference-low.ensures in
    let read = ap₂ (λ (m n : ℤ). held_wide 127 (m -ℤ n -ℤ pos (from_bool c.low_difference-low.result.1))) (to_z-of_z w128 c.self.inside.high c.self.invariant.0) (to_z-of_z w128 c.other.inside.high c.other.invariant.0) in
    some_up c.in_ok-high.high (c.self.inside.high -ℤ c.other.inside.high -ℤ pos (from_bool c.low_difference-low.result.1)) (c.args.self -ℤ c.args.other) c.low_difference-low.result.0 below e (sym c.in_ok-high.was ∙ c.high_difference.ensures ∙ read)
