use Rattle.std.proofs.Common.{◌≡◌, drop, zip}
use Rattle.cut_make.specs.Acceptance.{sign_fault}
use Rattle.cut_check.proofs.acceptance.walk.check_signs.Given as goal

abbrev pub invariant-loop-i : goal.invariant-loop-i
invariant-loop-i l = sign_fault l.r l.i (zip (drop l.i l.rows) (drop l.i l.multipliers)) ≡ sign_fault l.r 0 (zip l.rows l.multipliers)
