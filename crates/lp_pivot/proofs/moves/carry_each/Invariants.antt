use Rattle.std.proofs.Common.{◌≡◌, length, take, drop}
use Rattle.base_num.specs.Each.{each_from}
use Rattle.base_num.proofs.Each.{behind}
use Rattle.lp_pivot.specs.Move.{carried}
use Rattle.lp_pivot.proofs.moves.carry_each.Given as goal

abbrev pub invariant-loop-k : goal.invariant-loop-k
invariant-loop-k l = record {
  count : length l.values ≡ length l.fn.values;
  moved : each_from (carried l.places l.lines l.leaving l.steps) 0 l.fn.values ≡ behind (take l.k l.values) (each_from (carried l.places l.lines l.leaving l.steps) l.k (drop l.k l.values));
}
