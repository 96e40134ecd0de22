use Rattle.std.proofs.Common.{◌≡◌, ℤ, drop, zip}
use Rattle.std.specs.List.{list_all}
use Rattle.problem.specs.declared.parts.Row.{Row}
use Rattle.cut_make.specs.Acceptance.{is_sign}
use Rattle.plan_answer.proofs.farkas.are_signs.Given as goal

abbrev pub invariant-loop-i : goal.invariant-loop-i
invariant-loop-i l = list_all (λ (q : Row × ℤ). is_sign q.0 q.1) (zip (drop l.i l.rows) (drop l.i l.multipliers)) ≡ list_all (λ (q : Row × ℤ). is_sign q.0 q.1) (zip l.rows l.multipliers)
