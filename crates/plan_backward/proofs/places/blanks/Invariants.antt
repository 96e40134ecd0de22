use Rattle.std.proofs.Common.{◌≡◌, replicate}
use Rattle.plan_backward.specs.Certifying.{blank}
use Rattle.plan_backward.proofs.places.blanks.Given as goal

abbrev pub invariant-loop : goal.invariant-loop
invariant-loop l = l.list.items ≡ replicate l.counter blank
