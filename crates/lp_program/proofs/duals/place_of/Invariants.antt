use Rattle.std.proofs.Common.{◌≡◌, ◌+◌, drop}
use Rattle.lp_program.specs.Duals.{place_of}
use Rattle.lp_program.proofs.duals.place_of.Given as goal

abbrev pub invariant-loop-pair : goal.invariant-loop-pair
invariant-loop-pair l = record {
  place : l.place ≡ l.pair-index;
  value : place_of l.row l.pairs ≡ l.place + place_of l.row (drop l.pair-index l.pairs);
}
