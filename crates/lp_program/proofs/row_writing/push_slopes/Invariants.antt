use Rattle.std.proofs.Common.{◌≡◌, ◌++◌, take}
use Rattle.std.specs.List.{flat_map}
use Rattle.lp_program.specs.Packed.{slope_term}
use Rattle.lp_program.proofs.row_writing.push_slopes.Given as goal

abbrev pub invariant-loop-out : goal.invariant-loop-out
invariant-loop-out l = l.terms ≡ l.initial.terms ++ flat_map (slope_term l.slopes) (take l.out-index l.outs)
