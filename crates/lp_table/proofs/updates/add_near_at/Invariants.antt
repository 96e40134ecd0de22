use Rattle.std.proofs.Common.{◌≡◌, length, drop}
use Rattle.lp_table.specs.Sparse.{added_at}
use Rattle.lp_table.proofs.updates.add_near_at.Given as goal

abbrev pub invariant-loop-k : goal.invariant-loop-k
invariant-loop-k l = record {
  lengths : length l.row ≡ length l.fn.row;
  added : added_at l.fn.factor l.steps l.fn.row ≡ added_at l.fn.factor (drop l.k l.steps) l.row;
}
