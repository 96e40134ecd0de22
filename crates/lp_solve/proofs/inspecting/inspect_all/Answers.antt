use Rattle.std.proofs.Common.{◌≡◌, length, rules, ap, sym, ◌∙◌}
use Rattle.lp_solve.specs.Turns.{passes, mends, shows, stops, inspection_of, rests}
use Rattle.lp_solve.proofs.Steps.{survey_passes, survey_takes, survey_finds, survey_fails, survey_rests}
use Rattle.lp_solve.proofs.inspecting.inspect_all.Goals as goal

pub returns-in_default-clause-survey : goal.returns-in_default-clause-survey
returns-in_default-clause-survey c =
    survey_rests c.args.fitted.now.lp.now c.args.fitted.now.table.now c.args.violations.now _ (length c.args.violations.now) c.loop-violation._violation c.loop-violation.last c.loop-violation-test.true (sym c.in_default.is ∙ c.next_violation.ensures.next) c.loop-violation.invariant.survey
    ∙ ap rests (sym c.is_some.ensures)

pub returns-in-Mends-clause-survey : goal.returns-in-Mends-clause-survey
returns-in-Mends-clause-survey c =
    let g : inspection_of c.args.fitted.now.lp.now c.args.fitted.now.table.now c.in-Some.violation ≡ mends c.in-Mends.swap c.inspect.new.line c.inspect.new.flips = search rules in
    survey_takes c.args.fitted.now.lp.now c.args.fitted.now.table.now c.args.violations.now _ (length c.args.violations.now) c.loop-violation._violation c.loop-violation.last c.in-Some.violation c.in-Mends.swap c.inspect.new.line c.inspect.new.flips c.loop-violation-test.true c.in-Some.ensures.next g c.loop-violation.invariant.survey

pub returns-in-Shows-clause-survey : goal.returns-in-Shows-clause-survey
returns-in-Shows-clause-survey c =
    let g : inspection_of c.args.fitted.now.lp.now c.args.fitted.now.table.now c.in-Some.violation ≡ shows c.in-Shows.answer = search rules in
    survey_finds c.args.fitted.now.lp.now c.args.fitted.now.table.now c.args.violations.now _ (length c.args.violations.now) c.loop-violation._violation c.loop-violation.last c.in-Some.violation c.in-Shows.answer c.loop-violation-test.true c.in-Some.ensures.next g c.loop-violation.invariant.survey

pub returns-in-Stops-clause-survey : goal.returns-in-Stops-clause-survey
returns-in-Stops-clause-survey c =
    let g : inspection_of c.args.fitted.now.lp.now c.args.fitted.now.table.now c.in-Some.violation ≡ stops = search rules in
    survey_fails c.args.fitted.now.lp.now c.args.fitted.now.table.now c.args.violations.now _ (length c.args.violations.now) c.loop-violation._violation c.loop-violation.last c.in-Some.violation c.loop-violation-test.true c.in-Some.ensures.next g c.loop-violation.invariant.survey

pub loop-violation-preserved : goal.loop-violation-preserved
loop-violation-preserved c =
    let g : inspection_of c.args.fitted.now.lp.now c.args.fitted.now.table.now c.in-Some.violation ≡ passes = search rules in
    record {
      line = c.inspect.ensures.line ∙ c.loop-violation.invariant.line;
      survey = survey_passes c.args.fitted.now.lp.now c.args.fitted.now.table.now c.args.violations.now _ (length c.args.violations.now) c.loop-violation._violation c.loop-violation.last c.in-Some.violation c.loop-violation-test.true c.in-Some.ensures.next g c.loop-violation.invariant.survey;
    }
