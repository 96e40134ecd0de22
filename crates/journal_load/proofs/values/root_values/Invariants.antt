use Rattle.std.proofs.Common.{◌≡◌, ℕ, map, take}
use Rattle.theory.specs.Bound.{value}
use Rattle.journal_load.proofs.values.root_values.Given as goal

abbrev pub invariant-loop-node : goal.invariant-loop-node
invariant-loop-node l = l.values ≡ map (λ (m : ℕ). value l.pools.lists m l.state) (take l.node-index l.node-items)
