use Rattle.std.proofs.Common.{◌≡◌, drop}
use Rattle.std.specs.Option.{is_some}
use Rattle.base_num.specs.Each.{each_from}
use Rattle.lp_wide.specs.Finish.{wide_cell_at}
use Rattle.lp_wide.proofs.finishing.are_cells.Given as goal

abbrev pub invariant-loop-v : goal.invariant-loop-v
invariant-loop-v l = is_some (each_from wide_cell_at 0 l.rests) ≡ is_some (each_from wide_cell_at l.v (drop l.v l.rests))
