use Rattle.std.proofs.Common.{◌≡◌, take}
use Rattle.theory.specs.Problem.{S}
use Rattle.theory.specs.Tree.{times_all}
use Rattle.plan_forward.proofs.forward_pass.scaled_all.Given as goal

abbrev pub invariant-loop-number : goal.invariant-loop-number
invariant-loop-number l = l.found ≡ times_all S (take l.number-index l.numbers)
