-- The boxes of the states that leave a stage.
use Rattle.std.specs.Prelude.{ℕ, List, length, map}
use Rattle.std.specs.Int.{int_min, int_max}
use Rattle.std.specs.List.{range_with_len}
use Rattle.base_num.specs.Sums.{entry}
use Rattle.problem.specs.declared.parts.Subproblem.{Subproblem}
use Rattle.problem.specs.Validated.{out_lows, out_highs}
use Rattle.cut_pool.specs.declared.box_maxima.OutBox.{OutBox}

-- the ends of the box of the outgoing state k, the lesser and the greater
abbrev pub out_box : Subproblem → ℕ → OutBox
out_box s k = record { least = int_min (entry (out_lows s) k) (entry (out_highs s) k); greatest = int_max (entry (out_lows s) k) (entry (out_highs s) k) }

-- one for each state
abbrev pub out_boxes : Subproblem → List OutBox
out_boxes s = map (out_box s) (range_with_len 0 (length s.outs))
