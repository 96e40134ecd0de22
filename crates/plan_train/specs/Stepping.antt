-- One iteration of training: a batch of paths is drawn, each has its forward pass over the pools as they are, and then each
-- has its backward pass, one after another, over the cuts of those before it.
-- Source: Pereira and Pinto 1991.
use Rattle.std.specs.Prelude.{ℕ, List, [], ◌∷◌, ◌++◌, zip, Result, Ok}
use Rattle.base_num.specs.Steps.{◌>>=◌}
use Rattle.problem.specs.Validated.{Validated}
use Rattle.theory.specs.declared.cut.Cut.{Cut}
use Rattle.cut_pool.specs.declared.entry.Entry.{Entry}
use Rattle.plan_answer.specs.declared.plan_fault.PlanFault.{PlanFault}
use Rattle.plan_answer.specs.Faults.{or_infeasible}
use Rattle.lp_program.specs.Solving.{Solving}
use Rattle.plan_draw.specs.declared.steps.PathStep.{PathStep}
use Rattle.plan_draw.specs.declared.steps.Trajectory.{Trajectory}
use Rattle.plan_forward.specs.Walking.{walks_of}
use Rattle.plan_backward.specs.Sweeping.{Swept, swept, taken_back}
use Rattle.plan_train.specs.Drawing.{paths_from, first_stream}

-- the state after some paths of an iteration
pub record Stepped : Type 0 where
  pub pools : List (List Cut)
  pub entries : List Entry

abbrev pub entry_of : ℕ → Swept → Entry
entry_of k s = record { iteration = k; unanswered = s.unanswered; steps = s.steps }

-- with one path more, by its backward pass at the states of its trajectory
unfoldable pub with_path : {Start Chain : Type 0} → Solving Start Chain → Validated → ℕ → Stepped → List PathStep × Trajectory → Result Stepped PlanFault
with_path v p k before walked =
    swept v p before.pools k walked.0 walked.1.states walked.1.unanswered
    >>= λ s. Ok (record { pools = s.pools; entries = before.entries ++ entry_of k s ∷ [] })

-- one after another, the first one first
abbrev pub forwards : {A B E : Type 0} → (B → A → Result B E) → List A → B → Result B E
forwards step [] found = Ok found
forwards step (x ∷ xs) found = step found x >>= forwards step xs

abbrev pub before_paths : List (List Cut) → Stepped
before_paths pools = record { pools = pools; entries = [] }

-- the backward passes of the paths, one after another along their trajectories
unfoldable pub with_walks : {Start Chain : Type 0} → Solving Start Chain → Validated → List (List Cut) → ℕ → List (List PathStep) → List Trajectory → Result Stepped PlanFault
with_walks v p pools k paths walks = forwards (with_path v p k) (zip paths walks) (before_paths pools)

-- the forward passes of these paths over the pools as they are, and then their backward passes
unfoldable pub along : {Start Chain : Type 0} → Solving Start Chain → Validated → List (List Cut) → ℕ → List (List PathStep) → Result Stepped PlanFault
along v p pools k paths = or_infeasible (walks_of v p pools k paths) >>= with_walks v p pools k paths

-- PathStep: iteration k of training with so many paths, from these pools
unfoldable pub training_step : {Start Chain : Type 0} → Solving Start Chain → Validated → List (List Cut) → ℕ → ℕ → ℕ → Result Stepped PlanFault
training_step v p pools seed batch k = along v p pools k (paths_from p seed (first_stream batch k) batch)

-- the visible part of pools and entries
abbrev pub seen_stepped : List (List Cut) → List Entry → Stepped
seen_stepped pools entries = record { pools = pools; entries = entries }

-- the pools without the cuts of the entries' steps, those of the last entry taken first
abbrev pub all_taken_back : List (List Cut) → List Entry → List (List Cut)
all_taken_back pools [] = pools
all_taken_back pools (e ∷ es) = taken_back (all_taken_back pools es) e.steps
