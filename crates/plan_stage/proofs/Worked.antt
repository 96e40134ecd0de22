-- A worked stage problem, computed: a reservoir that keeps 0 to 10, a turbine to 8, a plant to 20 at cost 5, a load of 9.
use Rattle.std.proofs.Common.{◌≡◌, ℕ, ◌*◌, ◌^◌, pos, negsuc, [], ◌∷◌, Some, None, refl}
use Rattle.problem.specs.declared.parts.Node.{Node}
use Rattle.problem.specs.declared.parts.Subproblem.{Subproblem}
use Rattle.lp_program.specs.declared.fixed.Fx.{Fx}
use Rattle.lp_program.specs.Numbers.{number, zero_fx}
use Rattle.theory.specs.declared.cut.Cut.{Cut}
use Rattle.plan_stage.specs.Stage.{stage_program}
use Rattle.plan_stage.specs.Nodes.{reference_of}

abbrev reservoir : Subproblem
reservoir =
    record {
      decisions = record { name = []; low = pos 0; high = pos 10; cost = pos 0 } ∷ record { name = []; low = pos 0; high = pos 8; cost = pos 0 } ∷ record { name = []; low = pos 0; high = pos 20; cost = pos 5 } ∷ [];
      outs = 0 ∷ [];
      randoms = [] ∷ [];
      rows = record { low = Some (pos 0); high = Some (pos 0); decisions = (0, pos 1) ∷ (1, pos 1) ∷ []; states = (0, negsuc 0) ∷ []; randoms = (0, negsuc 0) ∷ [] } ∷ record { low = Some (pos 9); high = Some (pos 9); decisions = (1, pos 1) ∷ (2, pos 1) ∷ []; states = []; randoms = [] } ∷ [];
      constant = pos 0;
      state_costs = pos 0 ∷ [];
      random_costs = pos 0 ∷ [];
      low = Some (pos 0) ∷ [];
      high = Some (pos 10) ∷ [];
    }

abbrev leaf : Node
leaf = record { name = []; sub = 0; weights = 1 ∷ []; values = (pos 1 ∷ []) ∷ []; successors = []; successor_weights = []; stop = 0 }

abbrev units : ℕ → Fx
units n = number (pos (n * 2 ^ 32))

-- at 4 in the reservoir, with an inflow of 1
leaf_stage : stage_program [] leaf reservoir (pos 1 ∷ []) (pos 67108864 ∷ []) ≡ record {
  columns = record { low = zero_fx; high = units 10; cost = zero_fx } ∷ record { low = zero_fx; high = units 8; cost = zero_fx } ∷ record { low = zero_fx; high = units 20; cost = units 5 } ∷ [];
  rows = record { low = Some (units 5); high = Some (units 5); terms = (0, units 1) ∷ (1, units 1) ∷ [] } ∷ record { low = Some (units 9); high = Some (units 9); terms = (1, units 1) ∷ (2, units 1) ∷ [] } ∷ [];
  decisions = 3;
  own = 2;
}
unfolding stage_program
leaf_stage = refl

-- this stage before a successor with the cuts 0 and 35 - 5v, whose weight is 3 beside a stop weight of 1
abbrev before : Node
before = record { name = []; sub = 0; weights = 1 ∷ []; values = (pos 1 ∷ []) ∷ []; successors = 0 ∷ []; successor_weights = 3 ∷ []; stop = 1 }

abbrev two_cuts : Cut × Cut
two_cuts = (record { alpha = pos 0; beta = pos 0 ∷ [] }, record { alpha = pos 587202560; beta = negsuc 83886079 ∷ [] })

before_stage : stage_program ((two_cuts.0 ∷ two_cuts.1 ∷ []) ∷ []) before reservoir (pos 1 ∷ []) (pos 67108864 ∷ []) ≡ record {
  columns = record { low = zero_fx; high = units 10; cost = zero_fx } ∷ record { low = zero_fx; high = units 8; cost = zero_fx } ∷ record { low = zero_fx; high = units 20; cost = units 20 } ∷ record { low = zero_fx; high = units 35; cost = units 3 } ∷ [];
  rows = record { low = Some (units 5); high = Some (units 5); terms = (0, units 1) ∷ (1, units 1) ∷ [] } ∷ record { low = Some (units 9); high = Some (units 9); terms = (1, units 1) ∷ (2, units 1) ∷ [] } ∷ record { low = Some zero_fx; high = None; terms = (3, units 1) ∷ [] } ∷ record { low = Some (units 35); high = None; terms = (0, units 5) ∷ (3, units 1) ∷ [] } ∷ [];
  decisions = 3;
  own = 2;
}
unfolding stage_program
before_stage = refl

-- the reference program of the node before that successor: at 2.5 in the reservoir, with an inflow of 1
before_reference : reference_of before reservoir (pos 0 ∷ []) (pos 10 ∷ []) ≡ record {
  columns = record { low = zero_fx; high = units 10; cost = zero_fx } ∷ record { low = zero_fx; high = units 8; cost = zero_fx } ∷ record { low = zero_fx; high = units 20; cost = units 20 } ∷ record { low = zero_fx; high = zero_fx; cost = zero_fx } ∷ [];
  rows = record { low = Some (number (pos (7 * 2 ^ 31))); high = Some (number (pos (7 * 2 ^ 31))); terms = (0, units 1) ∷ (1, units 1) ∷ [] } ∷ record { low = Some (units 9); high = Some (units 9); terms = (1, units 1) ∷ (2, units 1) ∷ [] } ∷ [];
  decisions = 3;
  own = 2;
}
unfolding reference_of
before_reference = refl
