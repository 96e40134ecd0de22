use Rattle.std.proofs.Common.{◌≡◌, ◌++◌, drop}
use Rattle.lp_program.specs.Duals.{all_kept}
use Rattle.plan_answer.specs.SharedTargets.{kept_pairs, left_over}
use Rattle.plan_answer.proofs.settling.keep_stored.Given as goal

abbrev pub invariant-loop-i : goal.invariant-loop-i
invariant-loop-i l =
    (l.pairs ++ kept_pairs l.left (all_kept l.from l.count (drop l.i l.stored)) ≡ l.fn.pairs ++ kept_pairs l.target (all_kept l.from l.count l.stored))
    × (left_over l.left (all_kept l.from l.count (drop l.i l.stored)) ≡ left_over l.target (all_kept l.from l.count l.stored))
