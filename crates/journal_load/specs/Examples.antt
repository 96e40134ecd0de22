-- A small problem and its journals, worked out by hand.
use Rattle.std.specs.Prelude.{ℕ, ℤ, pos, List, [], ◌∷◌, Some, None, replicate}
use Rattle.problem.specs.declared.parts.Node.{Node}
use Rattle.problem.specs.declared.parts.Subproblem.{Subproblem}
use Rattle.problem.specs.Validated.{Validated}
use Rattle.theory.specs.declared.cut.Cut.{Cut}
use Rattle.cut_pool.specs.declared.entry.Entry.{Entry}
use Rattle.journal_file.specs.Layout.{Title, journal}

-- one decision u in [0, 10] of cost 2, and the row u ≥ 3
abbrev loaded_stage_example : Subproblem
loaded_stage_example = record {
  decisions = record { name = []; low = pos 0; high = pos 10; cost = pos 2 } ∷ [];
  outs = [];
  randoms = [];
  rows = record { low = Some (pos 3); high = None; decisions = (0, pos 1) ∷ []; states = []; randoms = [] } ∷ [];
  constant = pos 0;
  state_costs = [];
  random_costs = [];
  low = [];
  high = [];
}

abbrev leaf : Node
leaf = record { name = []; sub = 0; weights = 1 ∷ []; values = [] ∷ []; successors = []; successor_weights = []; stop = 0 }

-- one such stage
abbrev pub small : Validated
small = record {
  parts = record { states = []; root = 0 ∷ []; root_weights = 1 ∷ []; nodes = leaf ∷ []; subs = loaded_stage_example ∷ []; scenarios = [] };
  order = 0 ∷ [];
  longest = 1;
  lo = [] ∷ [];
  hi = [] ∷ [];
}

abbrev pub flat : ℤ → Cut
flat alpha = record { alpha = alpha; beta = [] }

-- its base cut
abbrev pub base_example : List (List Cut)
base_example = (flat (pos 0) ∷ []) ∷ []

abbrev pub digest : List ℕ
digest = replicate 32 7

-- of seed 9
abbrev pub title_example : Title
title_example = record { version = 1; digest = digest; seed = 9; batch = 1 }

-- the entry of an iteration: one unanswered solve, and the multiplier 2 on the row, at scale 2^24
abbrev pub entry_example : ℕ → Entry
entry_example k = record { iteration = k; unanswered = 1; steps = record { node = 0; list = record { rows = pos 33554432 ∷ []; cuts = [] } ∷ [] } ∷ [] }

-- its payload, with a last number of eight bytes
abbrev pub payload : ℕ → ℕ → List ℕ → List ℕ
payload k node multiplier = 0 ∷ 0 ∷ 0 ∷ k ∷ 0 ∷ 0 ∷ 0 ∷ 1 ∷ 0 ∷ 1 ∷ 0 ∷ node ∷ multiplier

abbrev pub two : List ℕ
two = 0 ∷ 0 ∷ 0 ∷ 0 ∷ 2 ∷ 0 ∷ 0 ∷ 0 ∷ []

-- a journal of two records with two bytes behind its last commit byte: commit bytes at 51, 76 and 101
abbrev pub bytes : List ℕ
bytes = journal title_example (payload 1 0 two ∷ payload 2 0 two ∷ []) 0 (5 ∷ 6 ∷ [])
