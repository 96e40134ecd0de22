use Rattle.std.proofs.Common.{◌≡◌, ◌++◌, ◌<◌, ◌^◌, take, nat_abs, All}
use Rattle.cut_pool.proofs.flat_cuts.push_short.Given as goal

abbrev pub invariant-loop-slope : goal.invariant-loop-slope
invariant-loop-slope l = record {
  slopes : l.found.items ≡ l.initial.found.items ++ take l.slope-index l.slopes;
  small : All (λ s. nat_abs s < 2 ^ 57) (take l.slope-index l.slopes);
}
