use Rattle.std.proofs.Common.{◌≡◌, ◌≤◌, ◌∙◌, ℕ, ℤ, nat_abs, List, length, Option, Some, None, slice_get, arith, refl, ap, sym, subst, SFits, rules}
use mir.Syntax.{w128}
use Rattle.std.proofs.lemmas.Int.{to_z-of_z}
use Rattle.std.proofs.lemmas.Option.{slice_get_read, slice_get_past}
use Rattle.base_num.specs.Sums.{entry}
use Rattle.theory.specs.declared.cut.Cut.{Cut}
use Rattle.cut_make.specs.SizeByTerms.{found_amount}
use Rattle.cut_check.specs.declared.size.tally.Tally.{Tally}
use Rattle.cut_check.specs.Bounds.{cut_bound}
use Rattle.cut_check.proofs.Bounding.{cut_within}
use Rattle.cut_check.proofs.size.tally.Tally.widened.Goals as goal

pub returns-in-Some-clause-cut : goal.returns-in-Some-clause-cut
returns-in-Some-clause-cut c = λ ds outs.
    let cut : Cut = c.in-Some.cut.now in
    let fits : SFits w128 cut.alpha = search rules in
    let own : c.unsigned_abs.result ≡ nat_abs cut.alpha = c.unsigned_abs.ensures.value ∙ ap nat_abs (to_z-of_z w128 _ fits) in
    let wide : Tally = record { multipliers = c.args.self.multipliers; alpha = c.max.result; slope = c.greatest_slope.result } in
    let slopes : (k : ℕ) → nat_abs (entry cut.beta k) ≤ wide.slope = subst (λ (zs : List ℤ). (k : ℕ) → nat_abs (entry zs k) ≤ wide.slope) c.as_slice.ensures c.greatest_slope.ensures.slopes in
    let max = c.max.ensures in
    let look = c.in-Some.ensures.lookup in
    let found : slice_get c.args.cuts.now c.args.place ≡ Some cut = slice_get_read c.args.cuts.now (length c.args.cuts.now) c.args.place cut refl look.3.0 look.1 in
    subst (λ (o : Option Cut). found_amount ds outs o ≤ cut_bound ds outs wide) (sym found) (cut_within ds outs cut wide (omega (arith, max, own)) slopes)

pub returns-in-None-clause-cut : goal.returns-in-None-clause-cut
returns-in-None-clause-cut c = λ ds outs.
    let look = c.in-None.ensures.lookup in
    let found : slice_get c.args.cuts.now c.args.place ≡ None = slice_get_past c.args.cuts.now c.args.place look.3 in
    subst (λ (o : Option Cut). found_amount ds outs o ≤ cut_bound ds outs c.args.self) (sym found) (omega arith)
