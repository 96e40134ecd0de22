use Rattle.std.proofs.Common.{◌≡◌, ◌≤◌, ◌+◌, ◌*◌, ◌^◌, drop}
use Rattle.theory.specs.Certificates.{multipliers}
use Rattle.cut_check.proofs.acceptance.walk.multipliers.Given as goal

abbrev pub invariant-loop-pair : goal.invariant-loop-pair
invariant-loop-pair l = (l.sum + multipliers (drop l.pair-index l.pairs) ≡ multipliers l.pairs) × (l.sum ≤ l.pair-index * 2 ^ 64)
