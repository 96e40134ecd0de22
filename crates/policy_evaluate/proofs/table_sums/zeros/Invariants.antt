use Rattle.std.proofs.Common.{◌≡◌, length}
use Rattle.policy_evaluate.proofs.table_sums.zeros.Given as goal

abbrev pub invariant-loop : goal.invariant-loop
invariant-loop l = length l.table ≡ l.counter
