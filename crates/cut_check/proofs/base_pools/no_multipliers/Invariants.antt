use Rattle.std.proofs.Common.{◌≡◌, pos, map, take}
use Rattle.problem.specs.declared.parts.Row.{Row}
use Rattle.cut_check.proofs.base_pools.no_multipliers.Given as goal

abbrev pub invariant-loop : goal.invariant-loop
invariant-loop l = l.found ≡ map (λ (row : Row). pos 0) (take l.index l.rows)
