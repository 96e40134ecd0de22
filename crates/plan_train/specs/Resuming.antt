-- Training that was stopped and is resumed, beside training that is not.
use Rattle.std.specs.Prelude.{◌≡◌, ℕ, ◌+◌, List, [], ◌++◌, take, Option, Some, Ok}
use Rattle.problem.specs.Validated.{Validated}
use Rattle.theory.specs.declared.cut.Cut.{Cut}
use Rattle.journal_file.specs.Layout.{Title, journal}
use Rattle.journal_load.specs.Load.{Outcome, load_of}
use Rattle.lp_program.specs.Solving.{Solving}
use Rattle.plan_train.specs.Continuing.{Continued, continued}
use Rattle.plan_train.specs.Training.{HoldsPrefix, grown_journal, iterations, payloads, title_of, unanswered_in}

-- the outcome of so many iterations from the base cuts
abbrev pub unstopped : {Start Chain : Type 0} → Solving Start Chain → Validated → List (List Cut) → Title → ℕ → Continued
unstopped v p base t count = continued v p base t.seed t.batch 0 count

-- Bytes that stand for the first j lists of these iterations are loaded with this outcome, and the iterations behind it
-- make up the whole.
pub record Resumes {Start Chain : Type 0} (v : Solving Start Chain) (p : Validated) (base : List (List Cut)) (t : Title) (asked : Option ℕ) (count j : ℕ) (bytes : List ℕ) (o : Outcome) : Type 0 where
  -- the entries that were written, and the pools, the bounds and the bytes after them
  pub loads : load_of p base t.digest (Some t.seed) asked bytes ≡ Ok (o, take j (unstopped v p base t count).lists)
  pub pools : o.pools ≡ (unstopped v p base t j).pools
  pub bounds : o.bounds ≡ (unstopped v p base t j).bounds
  pub unanswered : o.unanswered ≡ unanswered_in (take j (unstopped v p base t count).lists)
  pub title : title_of t.digest t.seed o ≡ t
  pub stands : HoldsPrefix t o (payloads (unstopped v p base t count).lists) j bytes
  -- with the iterations behind them: all lists, all bounds, the sum of what is unanswered, the last pools, the stop, and
  -- the journal's bytes
  pub all_lists : take j (unstopped v p base t count).lists ++ (iterations v p t.seed count o).lists ≡ (unstopped v p base t count).lists
  pub all_bounds : o.bounds ++ (iterations v p t.seed count o).bounds ≡ (unstopped v p base t count).bounds
  pub all_unanswered : o.unanswered + unanswered_in (iterations v p t.seed count o).lists ≡ unanswered_in (unstopped v p base t count).lists
  pub last_pools : (iterations v p t.seed count o).pools ≡ (unstopped v p base t count).pools
  pub stop : (iterations v p t.seed count o).stop ≡ (unstopped v p base t count).stop
  pub all_bytes : grown_journal t.digest t.seed o bytes (iterations v p t.seed count o).lists ≡ journal t (payloads (unstopped v p base t count).lists) 0 []
