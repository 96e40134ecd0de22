use Rattle.std.proofs.Common.{◌≡◌, take}
use Rattle.cut_check.specs.Bases.{certificate_of}
use Rattle.cut_make.specs.Parts.{repeated}
use Rattle.policy_robust.proofs.base.certificates.Given as goal

abbrev pub invariant-loop : goal.invariant-loop
invariant-loop l = l.list ≡ repeated (certificate_of l.node l.sub) (take l.index l.weights)
