-- Training for so many iterations, one after another: an entry for each path, the bound after each iteration, and where
-- it stops.
use Rattle.std.specs.Prelude.{ℕ, zero, suc, ◌+◌, ℤ, List, [], ◌∷◌, ◌++◌, Option, Some, None, Result, Ok, Err}
use Rattle.problem.specs.Validated.{Validated}
use Rattle.theory.specs.declared.cut.Cut.{Cut}
use Rattle.theory.specs.Bound.{bound}
use Rattle.theory.specs.View.{problem_of}
use Rattle.cut_pool.specs.declared.entry.Entry.{Entry}
use Rattle.lp_program.specs.Solving.{Solving}
use Rattle.plan_answer.specs.declared.plan_fault.PlanFault.{PlanFault}
use Rattle.plan_train.specs.Stepping.{Stepped, training_step}

-- the outcome of some iterations: the last pools, the entries of each, the bound after each, and the fault at which the next one stopped,
-- where one did
pub record Continued : Type 0 where
  pub pools : List (List Cut)
  pub lists : List (List Entry)
  pub bounds : List ℤ
  pub stop : Option PlanFault

abbrev pub before_any : List (List Cut) → Continued
before_any pools = record { pools = pools; lists = []; bounds = []; stop = None }

-- with the outcome of an iteration more
abbrev pub with_step : Validated → Continued → Result Stepped PlanFault → Continued
with_step p c (Ok s) = record { pools = s.pools; lists = c.lists ++ s.entries ∷ []; bounds = c.bounds ++ bound (problem_of p) s.pools ∷ []; stop = None }
with_step p c (Err fault) = record { pools = c.pools; lists = c.lists; bounds = c.bounds; stop = Some fault }

-- with iteration k, unless training has stopped
abbrev pub with_iteration : {Start Chain : Type 0} → Solving Start Chain → Validated → ℕ → ℕ → ℕ → Continued → Option PlanFault → Continued
with_iteration v p seed batch k c (Some fault) = c
with_iteration v p seed batch k c None = with_step p c (training_step v p c.pools seed batch k)

-- Continue: n iterations behind the first j, from these pools
unfoldable pub continued : {Start Chain : Type 0} → Solving Start Chain → Validated → List (List Cut) → ℕ → ℕ → ℕ → ℕ → Continued
continued v p pools seed batch j zero = before_any pools
continued v p pools seed batch j (suc n) =
    let before : Continued = continued v p pools seed batch j n in
    with_iteration v p seed batch (suc (j + n)) before before.stop
