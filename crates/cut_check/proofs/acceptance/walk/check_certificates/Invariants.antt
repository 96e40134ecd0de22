use Rattle.std.proofs.Common.{◌≡◌, drop}
use Rattle.cut_make.specs.Acceptance.{certificates_fault}
use Rattle.cut_check.proofs.acceptance.walk.check_certificates.Given as goal

abbrev pub invariant-loop-r : goal.invariant-loop-r
invariant-loop-r g l = certificates_fault l.here.pools.now.lists g.n l.r (drop l.r l.list) ≡ certificates_fault l.here.pools.now.lists g.n 0 l.list
