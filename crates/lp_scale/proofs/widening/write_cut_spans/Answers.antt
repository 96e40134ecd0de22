use Rattle.std.proofs.Common.{◌<◌, ℕ, Option, IfSome, length, sym, subst}
use Rattle.std.proofs.lemmas.List.Elements.{All-get_or}
use Rattle.lp_program.specs.declared.programs.LpRow.{LpRow}
use Rattle.lp_program.specs.Proper.{AreRising}
use Rattle.lp_scale.proofs.Cuts.{last_inside}
use Rattle.lp_scale.proofs.widening.write_cut_spans.Goals as goal

pub add_top-requires-clause-column : goal.add_top-requires-clause-column
add_top-requires-clause-column c =
    let n : ℕ = length c.args.spans.now in
    let row = All-get_or (λ (r : LpRow). AreRising 0 n r.terms) c.args.cuts.now c.loop-i.i c.index-cuts-i.result c.loop-i-test.true c.requires.rising in
    let inside = last_inside 0 n c.as_slice-terms.result.now (subst (AreRising 0 n) (sym c.as_slice-terms.ensures) row) in
    subst (λ (m : ℕ). IfSome c.last_column.result (λ j. j < m)) (sym c.loop-i.invariant.count) (subst (λ (o : Option ℕ). IfSome o (λ j. j < n)) (sym c.last_column.ensures) inside)
