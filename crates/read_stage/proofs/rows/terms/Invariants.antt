use Rattle.std.proofs.Common.{◌≡◌, ◌++◌, drop}
use Rattle.read_stage.specs.Rows.{terms_from}
use Rattle.read_stage.proofs.rows.terms.Given as goal

abbrev pub invariant-loop-number : goal.invariant-loop-number
invariant-loop-number l = l.found ++ terms_from l.number (drop l.number l.coefficients) ≡ terms_from 0 l.coefficients
