use Rattle.std.proofs.Common.{◌≡◌, length, rules}
use Rattle.lp_wide.specs.declared.inspecting.WideInspection.TheVariants as inspections
use Rattle.lp_wide.specs.Turns.{inspection_at}
use Rattle.lp_wide.proofs.Steps.{inspection_passes, inspection_mends, inspection_shows, inspection_stops}
use Rattle.lp_wide.proofs.inspecting.inspect_all.Goals as goal

pub returns-in-Mends-clause-inspection : goal.returns-in-Mends-clause-inspection
returns-in-Mends-clause-inspection c =
    let g : inspections.Mends c.in-Mends.mend ≡ inspection_at c.args.lp.now c.args.table.now c.in-Some.violation = search rules in
    inspection_mends c.args.lp.now c.args.table.now c.args.violations.now _ (length c.args.violations.now) c.loop-violation._violation c.loop-violation.last c.in-Some.violation c.in-Mends.mend c.loop-violation-test.true c.in-Some.ensures.next g c.loop-violation.invariant

pub returns-in-Shows-clause-inspection : goal.returns-in-Shows-clause-inspection
returns-in-Shows-clause-inspection c =
    let g : inspections.Shows c.in-Shows.answer ≡ inspection_at c.args.lp.now c.args.table.now c.in-Some.violation = search rules in
    inspection_shows c.args.lp.now c.args.table.now c.args.violations.now _ (length c.args.violations.now) c.loop-violation._violation c.loop-violation.last c.in-Some.violation c.in-Shows.answer c.loop-violation-test.true c.in-Some.ensures.next g c.loop-violation.invariant

pub returns-in-Stops-clause-inspection : goal.returns-in-Stops-clause-inspection
returns-in-Stops-clause-inspection c =
    let g : inspections.Stops ≡ inspection_at c.args.lp.now c.args.table.now c.in-Some.violation = search rules in
    inspection_stops c.args.lp.now c.args.table.now c.args.violations.now _ (length c.args.violations.now) c.loop-violation._violation c.loop-violation.last c.in-Some.violation c.loop-violation-test.true c.in-Some.ensures.next g c.loop-violation.invariant

pub loop-violation-preserved : goal.loop-violation-preserved
loop-violation-preserved c =
    let g : inspections.Rests ≡ inspection_at c.args.lp.now c.args.table.now c.in-Some.violation = search rules in
    inspection_passes c.args.lp.now c.args.table.now c.args.violations.now _ (length c.args.violations.now) c.loop-violation._violation c.loop-violation.last c.in-Some.violation c.loop-violation-test.true c.in-Some.ensures.next g c.loop-violation.invariant
