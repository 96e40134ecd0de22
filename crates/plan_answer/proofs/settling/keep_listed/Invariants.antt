use Rattle.std.proofs.Common.{◌≡◌, ◌++◌, ◌-◌, length}
use Rattle.lp_program.specs.Duals.{dual_in, not_zero}
use Rattle.plan_answer.specs.SharedTargets.{kept_pairs, left_over}
use Rattle.plan_answer.proofs.settling.keep_listed.Given as goal

abbrev pub invariant-loop-k : goal.invariant-loop-k
invariant-loop-k l =
    (l.pairs ++ kept_pairs l.left (not_zero (dual_in l.duals) l.k (length l.duals - l.k)) ≡ l.fn.pairs ++ kept_pairs l.target (not_zero (dual_in l.duals) 0 (length l.duals)))
    × (left_over l.left (not_zero (dual_in l.duals) l.k (length l.duals - l.k)) ≡ left_over l.target (not_zero (dual_in l.duals) 0 (length l.duals)))
