use Rattle.std.proofs.Common.{◌≡◌, drop}
use Rattle.lp_program.specs.Duals.{dual_among}
use Rattle.lp_program.proofs.duals.dual_among.Given as goal

abbrev pub invariant-loop-pair : goal.invariant-loop-pair
invariant-loop-pair l = dual_among (drop l.pair-index l.pairs) l.row ≡ dual_among l.pairs l.row
