use Rattle.std.proofs.Common.{◌∙◌, ℤ, Bool, List, map, ap, sym, subst}
use Rattle.lp_scale.proofs.Shapes.{gives_true}
use Rattle.lp_scan.specs.Values.{state_number, AreWaitingCutsWithin}
use Rattle.lp_scan.proofs.Narrow.{rows_within}
use Rattle.lp_scan.proofs.scanning.look_up.Goals as goal

pub write_greatest-requires-clause-within : goal.write_greatest-requires-clause-within
write_greatest-requires-clause-within c =
    let t = c.args.table.now in
    let lp = c.args.lp.now in
    let states = c.as_slice-3.ensures ∙ c.in_ok-write_states.ensures ∙ ap (map state_number) c.as_slice.ensures in
    subst (λ (ws : List Bool). AreWaitingCutsWithin ws c.as_slice-3.result.now lp) (sym c.as_slice-2.ensures)
    (subst (λ (xs : List ℤ). AreWaitingCutsWithin t.cuts.waiting xs lp) (sym states) (rows_within t lp _ t.cuts.waiting (gives_true _ _ _ c.if-not-branch.false c.in_ok-points.ensures) c.requires.proper c.requires.fits.narrow))
