use Rattle.std.proofs.Common.{◌≡◌, replicate}
use Rattle.lp_scan.proofs.refilled.push_all.Given as goal

abbrev pub invariant-loop-k : goal.invariant-loop-k
invariant-loop-k g l = l.list ≡ replicate l._k l.item
