use Rattle.std.proofs.Common.{◌≡◌, drop}
use Rattle.cut_make.specs.Acceptance.{first_unshaped}
use Rattle.cut_check.proofs.acceptance.walk.check_shapes.Given as goal

abbrev pub invariant-loop-r : goal.invariant-loop-r
invariant-loop-r g l = first_unshaped g.n l.r (drop l.r l.list) ≡ first_unshaped g.n 0 l.list
