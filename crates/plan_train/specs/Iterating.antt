-- One iteration on a journal, and the loaded outcome after it.
use Rattle.std.specs.Prelude.{◌≡◌, ◌<◌, ℕ, ◌+◌, List, [], ◌∷◌, ◌++◌, length, take, Result, Ok}
use Rattle.std.specs.List.{sum_by}
use Rattle.base_num.specs.Steps.{◌>>=◌}
use Rattle.problem.specs.Validated.{Validated}
use Rattle.theory.specs.declared.cut.Cut.{Cut}
use Rattle.theory.specs.Bound.{bound}
use Rattle.theory.specs.View.{problem_of}
use Rattle.cut_pool.specs.declared.entry.Entry.{Entry}
use Rattle.journal_record.specs.Spelling.{spell}
use Rattle.journal_file.specs.Layout.{body_of, records}
use Rattle.journal_load.specs.declared.loaded.Loaded.{Loaded}
use Rattle.journal_load.specs.Load.{Outcome}
use Rattle.lp_program.specs.Solving.{Solving}
use Rattle.plan_answer.specs.declared.plan_fault.PlanFault.{PlanFault}
use Rattle.plan_train.specs.Stepping.{Stepped, training_step}
use Rattle.plan_train.specs.Training.{payloads}

-- the loaded outcome with an iteration's, but for the journal's end
abbrev pub with_stepped : Validated → Loaded → Stepped → Outcome
with_stepped p l s = record {
  pools = s.pools;
  bounds = l.bounds ++ bound (problem_of p) s.pools ∷ [];
  unanswered = l.unanswered + sum_by (λ (e : Entry). e.unanswered) s.entries;
  committed = l.committed;
  end = l.end;
  tail = l.tail;
  version = l.version;
  batch = l.batch;
}

-- with iteration k, and the bytes behind the commit byte of its record
unfoldable pub iterated : {Start Chain : Type 0} → Solving Start Chain → Validated → Loaded → ℕ → ℕ → Result (Outcome × List ℕ) PlanFault
iterated v p l seed k = training_step v p l.pools.lists seed l.batch k >>= λ s. Ok (with_stepped p l s, body_of (spell s.entries))

-- the pools with iteration k, and the bytes behind the commit byte of its record
unfoldable pub iteration_recorded : {Start Chain : Type 0} → Solving Start Chain → Validated → List (List Cut) → ℕ → ℕ → ℕ → Result (List (List Cut) × List ℕ) PlanFault
iteration_recorded v p pools seed batch k = training_step v p pools seed batch k >>= λ s. Ok (s.pools, body_of (spell s.entries))

-- the records of these lists behind the commit byte at a place, and a commit byte of 0 behind them
abbrev pub behind : ℕ → List (List Entry) → List ℕ → List ℕ
behind at lists bytes = take at bytes ++ records (payloads lists) ++ 0 ∷ []

-- a commit byte of 0 is the last byte
abbrev pub EndsClear : ℕ → List ℕ → Type 0
EndsClear at bytes = (at < length bytes) × (bytes ≡ take at bytes ++ 0 ∷ [])
