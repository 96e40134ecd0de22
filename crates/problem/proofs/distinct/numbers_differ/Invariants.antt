use Rattle.std.proofs.Common.{◌≡◌, ◌==◌, ℕ, drop}
use Rattle.problem.specs.Distinct.{are_distinct}
use Rattle.problem.proofs.distinct.numbers_differ.Given as goal

abbrev pub invariant-loop-at : goal.invariant-loop-at
invariant-loop-at l = are_distinct (λ (a b : ℕ). a == b) (drop l.at l.numbers) ≡ are_distinct (λ (a b : ℕ). a == b) l.numbers
