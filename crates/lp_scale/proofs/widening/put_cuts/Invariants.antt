use Rattle.std.proofs.Common.{◌≡◌, ◌+◌, drop, length}
use Rattle.lp_table.specs.Shape.{IsTable}
use Rattle.lp_scale.specs.Walks.{run}
use Rattle.lp_scale.specs.Scaling.{AreSmall}
use Rattle.lp_scale.specs.Widening.{put_cut, put_cuts}
use Rattle.lp_scale.proofs.widening.put_cuts.Given as goal

abbrev pub invariant-loop-k : goal.invariant-loop-k
invariant-loop-k l = record {
  whole : IsTable l.table;
  small : AreSmall 1000 l.table.scales;
  count : length l.table.costs ≡ length l.fn.table.costs;
  waiting : l.table.cuts.waiting ≡ l.fn.table.cuts.waiting;
  value : put_cuts l.fn.table.cuts.waiting l.first l.cuts l.fn.table ≡ run (put_cut l.fn.table.cuts.waiting) (l.first + l.k) (drop l.k l.cuts) l.table;
}
