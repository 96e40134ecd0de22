use Rattle.std.proofs.Common.{◌≡◌, take}
use Rattle.lp_program.proofs.row_writing.copy_terms.Given as goal

abbrev pub invariant-loop-term : goal.invariant-loop-term
invariant-loop-term l = l.over ≡ take l.term-index l.terms
