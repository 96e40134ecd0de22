use Rattle.std.proofs.Common.{◌≡◌, ◌∙◌, length}
use Rattle.lp_program.specs.PackedCut.{PackedCut}
use Rattle.lp_scan.proofs.Covered.{covering_below, covered_same}
use Rattle.lp_scan.proofs.Numbered.{by_numbers, rows_fit, holds_at}
use Rattle.lp_scan.proofs.packed.take_best.Goals as goal

pub take_active-requires-clause-rows : goal.take_active-requires-clause-rows
take_active-requires-clause-rows c =
    let a = c.in-Some.active.now in
    rows_fit c.args.first (length c.args.cuts.now) a.places.now c.requires.rows (covering_below c.args.cuts.now a.places.now a.lows.now a.highs.now c.in-Some.ensures.cover)

pub take_active-requires-clause-counts : goal.take_active-requires-clause-counts
take_active-requires-clause-counts c =
    let a = c.in-Some.active.now in
    holds_at (λ (d : PackedCut). length d.slopes ≡ length c.args.leaving.now) c.args.cuts.now a.cuts a.places.now c.in-Some.ensures.same (covering_below c.args.cuts.now a.places.now a.lows.now a.highs.now c.in-Some.ensures.cover) c.requires.counts

pub take_active-requires-clause-coarse : goal.take_active-requires-clause-coarse
take_active-requires-clause-coarse c = c.in-Some.ensures.coarse

pub returns-then-are_inside : goal.returns-then-are_inside
returns-then-are_inside c =
    let a = c.in-Some.active.now in
    c.take_active.ensures ∙ by_numbers c.args.leaving.now c.args.first c.args.best c.args.cuts.now a.cuts a.places.now c.in-Some.ensures.same
    ∙ covered_same c.args.leaving.now c.args.first c.args.best c.args.cuts.now a.places.now a.lows.now a.highs.now c.in-Some.ensures.cover (c.are_inside.ensures c.if-are_inside.true)
