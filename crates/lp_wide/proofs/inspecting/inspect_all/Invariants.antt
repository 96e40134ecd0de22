use Rattle.std.proofs.Common.{◌≡◌, ◌-◌, length, None}
use Rattle.lp_wide.specs.Turns.{inspection_from}
use Rattle.lp_wide.proofs.inspecting.inspect_all.Given as goal

abbrev pub invariant-loop-violation : goal.invariant-loop-violation
invariant-loop-violation l = inspection_from l.lp l.table l.violations (length l.violations) None ≡ inspection_from l.lp l.table l.violations (length l.violations - l._violation) l.last
