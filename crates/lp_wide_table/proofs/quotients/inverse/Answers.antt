use Rattle.std.proofs.Common.{ℕ, ◌*◌, ◌^◌, ◌≤◌, nat_abs, ap, sym, subst, ◌∙◌}
use Rattle.std.proofs.lemmas.Int.{to_z-of_z}
use mir.Syntax.{w128}
use Rattle.lp_wide_table.specs.WideWhole.{bits_of_wide}
use Rattle.lp_wide_table.proofs.Division.{digits_least}
use Rattle.lp_wide_table.proofs.quotients.inverse.Goals as goal

pub power_over-requires-clause-least : goal.power_over-requires-clause-least
power_over-requires-clause-least c =
    let read = to_z-of_z w128 c.args.p c.ranges.p in
    let digits = c.bits.ensures.value ∙ ap bits_of_wide read in
    let size = c.unsigned_abs.ensures.value ∙ ap nat_abs read in
    subst (λ (n : ℕ). 2 ^ c.bits.result ≤ 2 * n) (sym size) (subst (λ (b : ℕ). 2 ^ b ≤ 2 * nat_abs c.args.p) (sym digits) (digits_least (nat_abs c.args.p) c.requires.least c.requires.most))
