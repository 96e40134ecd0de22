-- The report of a verdict.
use Rattle.std.specs.Prelude.{ℕ, pos, List, ◌++◌, codes}
use Rattle.std.specs.List.{flat_map}
use Rattle.problem.specs.Validated.{Validated}
use Rattle.theory.specs.declared.cut.Cut.{Cut}
use Rattle.theory.specs.Bound.{bound}
use Rattle.theory.specs.View.{problem_of}
use Rattle.plan_draw.specs.declared.steps.PathStep.{PathStep}
use Rattle.policy_report.specs.Report.{bound_line, head_text, word}
use Rattle.policy_report.specs.Traces.{row_line}
use Rattle.policy_evaluate.specs.declared.walking.Verdict.{Verdict}
use Rattle.policy_evaluate.specs.declared.walking.Verdict.TheVariants.{Cost, Missed}

-- a node and its realization
abbrev pub branch_line : PathStep → List ℕ
branch_line s = codes "branch" ++ word (pos s.node) ++ word (pos s.realization) ++ codes "\n"

-- the cost of the policy from above; or the branches from the root to the one that misses a row, and that row's residual
abbrev pub verdict_lines : Verdict → List ℕ
verdict_lines (Cost upper) = codes "upper" ++ word upper ++ codes "\n"
verdict_lines (Missed branches row residual) = flat_map branch_line branches ++ row_line row residual

-- the report of a verdict: its lines, and the bound over the pools
unfoldable pub verdict_text : Validated → List (List Cut) → Verdict → List ℕ
verdict_text p pools verdict = head_text p.parts ++ verdict_lines verdict ++ bound_line (bound (problem_of p) pools)
