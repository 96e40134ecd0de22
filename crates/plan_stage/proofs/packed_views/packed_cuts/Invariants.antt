use Rattle.std.proofs.Common.{◌≡◌, ℕ, map, take}
use Rattle.theory.specs.Pools.{pool}
use Rattle.cut_pool.specs.FlatCuts.{packed_cut}
use Rattle.plan_stage.proofs.packed_views.packed_cuts.Given as goal

abbrev pub invariant-loop-successor : goal.invariant-loop-successor
invariant-loop-successor l = l.found ≡ map (λ (m : ℕ). map packed_cut (pool l.pools.lists m)) (take l.successor-index l.successors)
