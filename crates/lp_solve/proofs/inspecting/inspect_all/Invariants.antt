use Rattle.std.proofs.Common.{◌≡◌, ◌-◌, length, None}
use Rattle.lp_solve.specs.Turns.{survey_from}
use Rattle.lp_solve.proofs.inspecting.inspect_all.Given as goal

abbrev pub invariant-loop-violation : goal.invariant-loop-violation
invariant-loop-violation l = record {
  line : length l.line ≡ length l.fn.line;
  survey : survey_from l.fitted.lp.now l.fitted.table.now l.violations (length l.violations) None ≡ survey_from l.fitted.lp.now l.fitted.table.now l.violations (length l.violations - l._violation) l.last;
}
