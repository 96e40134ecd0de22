use Rattle.std.proofs.Common.{ℕ, ◌+◌, ◌≤◌, length, Result, Ok, Err, IfOk, arith, rules}
use Rattle.plan_backward.specs.declared.certified.Certified.{Certified}
use Rattle.plan_answer.specs.declared.plan_fault.PlanFault.{PlanFault}
use Rattle.plan_backward.proofs.in_chains.beside_each_other.Goals as goal

few : (f g : Result Certified PlanFault) (m n : ℕ) → IfOk f (λ a. a.unanswered ≤ m) → IfOk g (λ b. b.unanswered ≤ n) → m + n ≤ 100 → IfOk f (λ a. IfOk g (λ b. a.unanswered + b.unanswered ≤ 100))
few (Ok a) (Ok b) m n h i s = omega (arith, h, i, s)
few (Ok a) (Err e) m n h i s = tt
few (Err d) g m n h i s = tt

pub both-requires : goal.both-requires
both-requires g c = few c.join-first.result.0 c.join-first.result.1 (length c.args.left.now) (length c.args.right.now) (search rules) (search rules) c.requires.few

pub returns-clause-value : goal.returns-clause-value
returns-clause-value g c = c.both.ensures.value _ _ (search rules) (search rules)
