-- The backward pass of one path in an iteration of training: a cut for each of its nodes, the last first.
-- Source: Pereira and Pinto 1991.
use Rattle.std.specs.Prelude.{ℕ, ◌+◌, ◌-◌, ℤ, List, [], ◌∷◌, ◌++◌, length, take, set, zip, Option, Some, None, Result, Ok, Err}
use Rattle.base_num.specs.Steps.{◌>>=◌}
use Rattle.problem.specs.Validated.{Validated}
use Rattle.theory.specs.declared.cut.Cut.{Cut}
use Rattle.theory.specs.Problem.{Node, node_at}
use Rattle.theory.specs.Pools.{pool, push}
use Rattle.theory.specs.CutOf.{cut_of}
use Rattle.theory.specs.Range.{range_of}
use Rattle.theory.specs.View.{problem_of}
use Rattle.cut_pool.specs.declared.entry.Entry.{Entry}
use Rattle.cut_pool.specs.declared.entry.EntryStep.{EntryStep}
use Rattle.plan_answer.specs.declared.plan_fault.PlanFault.{PlanFault}
use Rattle.plan_answer.specs.declared.plan_fault.PlanFault.TheVariants.{Range}
use Rattle.lp_program.specs.Solving.{Solving}
use Rattle.plan_draw.specs.declared.steps.PathStep.{PathStep}
use Rattle.plan_backward.specs.declared.certified.Certified.{Certified}
use Rattle.plan_backward.specs.Certifying.{certified}

-- the state after some steps of a path: the pools, the entry's steps, and how many answers were of no use
pub record Swept : Type 0 where
  pub pools : List (List Cut)
  pub steps : List EntryStep
  pub unanswered : ℕ

-- the size of the certificates of the node m is in range, or passes it at a realization
abbrev pub within_range : {A : Type 0} → ℕ → ℕ → Option ℕ → A → Result A PlanFault
within_range k m None x = Ok x
within_range k m (Some realization) x = Err (Range k m realization)

-- the certificates of the node m at an incoming state, over these pools, and their cut
unfoldable pub made_at : {Start Chain : Type 0} → Solving Start Chain → Validated → List (List Cut) → ℕ → ℕ → List ℤ → Result (Certified × Cut) PlanFault
made_at v p pools k m state =
    let n : Node = node_at (problem_of p) m in
    certified v p pools k m state >>= λ found. within_range k m (range_of pools n found.list) (found, cut_of pools n found.list)

-- with the certificates and the cut of the node m
abbrev pub with_made : Swept → ℕ → Certified × Cut → Swept
with_made before m made = record {
  pools = push before.pools m made.1;
  steps = before.steps ++ record { node = m; list = made.0.list } ∷ [];
  unanswered = before.unanswered + made.0.unanswered;
}

-- a step back, at a node and its incoming state: the node's cut is made over the pools as they now are
unfoldable pub step_back : {Start Chain : Type 0} → Solving Start Chain → Validated → ℕ → Swept → PathStep × List ℤ → Result Swept PlanFault
step_back v p k before visit = made_at v p before.pools k visit.0.node visit.1 >>= λ made. Ok (with_made before visit.0.node made)

-- one after another, the last first
abbrev pub backwards : {A : Type 0} → (Swept → A → Result Swept PlanFault) → List A → Swept → Result Swept PlanFault
backwards step [] start = Ok start
backwards step (x ∷ xs) start = backwards step xs start >>= λ before. step before x

-- the path backwards in iteration k, from these pools, at the states and with the count of its trajectory
unfoldable pub swept : {Start Chain : Type 0} → Solving Start Chain → Validated → List (List Cut) → ℕ → List PathStep → List (List ℤ) → ℕ → Result Swept PlanFault
swept v p pools k path states unanswered = backwards (step_back v p k) (zip path states) (record { pools = pools; steps = []; unanswered = unanswered })

-- the visible part of pools and an entry
abbrev pub seen : List (List Cut) → Entry → Swept
seen pools entry = record { pools = pools; steps = entry.steps; unanswered = entry.unanswered }

-- the pools without the last cut of the node m
abbrev pub popped : List (List Cut) → ℕ → List (List Cut)
popped pools m = set pools m (take (length (pool pools m) - 1) (pool pools m))

-- the pools without the last cut of each step's node, that of the last step taken first
abbrev pub taken_back : List (List Cut) → List EntryStep → List (List Cut)
taken_back pools [] = pools
taken_back pools (s ∷ ss) = popped (taken_back pools ss) s.node
