use Rattle.std.proofs.Common.{ℕ, ◌≢◌, ◌<◌, get_or}
use Rattle.base_num.specs.Sums.{Term}
use Rattle.plan_mend.proofs.stage.has_term.Given as goal

abbrev pub invariant-loop-k : goal.invariant-loop-k
invariant-loop-k l = (j : ℕ) (d : Term) → j < l.k → (get_or l.terms j d).0 ≢ l.at
