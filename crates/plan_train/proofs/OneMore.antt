-- An iteration more of a loop, and the record that is appended after it.
use Rattle.std.proofs.Common.{◌≡◌, ℕ, suc, ◌+◌, ◌*◌, ◌≤◌, ◌^◌, List, [], ◌∷◌, ◌++◌, length, take, true, IfSome, Result, Ok, Err, All, sym, ap, subst, ◌∙◌, arith}
use Rattle.std.specs.Option.{option_map}
use Rattle.base_device.specs.Disks.{Store}
use Rattle.base_device.specs.Since.{Quiet, LeavesOnly}
use Rattle.problem.specs.Validated.{Validated}
use Rattle.theory.specs.Bound.{Under}
use Rattle.theory.specs.Pools.{pool, Sound}
use Rattle.theory.specs.View.{problem_of}
use Rattle.cut_pool.specs.AtNodes.{PoolsFit}
use Rattle.cut_pool.specs.declared.entry.Entry.{Entry}
use Rattle.journal_record.specs.Spelling.{spell}
use Rattle.journal_file.specs.Layout.{Title, IsBody, body_of, journal, records}
use Rattle.journal_file.specs.IsPrefix.{IsGrownPrefix}
use Rattle.journal_file.proofs.Growing.{body_short}
use Rattle.journal_load.specs.declared.loaded.Loaded.{Loaded}
use Rattle.journal_load.specs.Load.{Outcome, seen_outcome}
use Rattle.lp_program.specs.Solving.{Solving}
use Rattle.plan_answer.specs.declared.plan_fault.PlanFault.{PlanFault}
use Rattle.plan_train.specs.Continuing.{Continued, with_step}
use Rattle.plan_answer.specs.Faults.{Stops}
use Rattle.plan_train.specs.Iterating.{EndsClear, behind, iterated}
use Rattle.plan_train.specs.Training.{GoesOnWith, StopsAs, WhenWhole, payloads}
use Rattle.plan_train.proofs.Continuing.{goes_on}
use Rattle.plan_train.proofs.Grows.{HasIterated, HasRecorded, LeavesAppended, WasStepped, after, all_stopped, commit_byte_is, iterated_more, list_more, moment_on, moved, recorded_ends, recorded_on, stops_as, was_stepped, was_stopped, when_whole}

-- n iterations were done, and the next one has the number k
module _ {Start Chain : Type 0} {v : Solving Start Chain} {p : Validated} {seed n : ℕ} {old mid : Loaded} (has : HasIterated v p seed n old mid) (left k : ℕ) (below : suc n ≤ left) (number : k ≡ suc (length old.bounds + n)) where
  -- the records of those that were done, and of all
  abbrev done : List (List Entry)
  done = (after v p seed old n).lists

  abbrev final : List (List Entry)
  final = (after v p seed old left).lists

  all_ended : (f : PlanFault) → iterated v p mid seed k ≡ Err f → after v p seed old left ≡ with_step p (after v p seed old n) (Err f)
  all_ended f is = all_stopped v p seed n left old f below (was_stopped v p seed n k old mid f has number is)

  -- where it stops, all of them stop
  pub next_stops : (Y : Type 0) (fault : PlanFault) → Stops fault (iterated v p mid seed k) → (let y : Result Y PlanFault = Err fault in StopsAs y (after v p seed old left).stop)
  next_stops Y fault h = stops_as Y fault (iterated v p mid seed k) (after v p seed old left).stop h (λ f is. ap (λ (x : Continued). x.stop) (all_ended f is))

  -- and the journal has all records that come
  pub next_reads : (Y : Type 0) (fault : PlanFault) (before now : Store) → HasRecorded before now old.end done final → Stops fault (iterated v p mid seed k) → (let y : Result Y PlanFault = Err fault in WhenWhole y (now.reads ≡ option_map (behind old.end final) before.reads))
  next_reads Y fault before now recorded h = when_whole Y fault (iterated v p mid seed k) (now.reads ≡ option_map (behind old.end final) before.reads) h
      (λ f is. subst (λ (x : Continued). now.reads ≡ option_map (behind old.end x.lists) before.reads) (sym (all_ended f is)) recorded.reads)

  -- it gave a body for its record
  module _ (m : Loaded) (body : List ℕ) (is : iterated v p mid seed k ≡ Ok (seen_outcome m, body)) where
    w : WasStepped v p seed n old mid body (seen_outcome m)
    w = was_stepped v p seed n k old mid body (seen_outcome m) has number is

    counted : suc n ≡ n + 1
    counted = omega arith

    pub next_commit_byte : m.end ≡ mid.end
    next_commit_byte = ap (λ (o : Outcome). o.end) w.outcome

    place : old.committed ≡ true → m.end ≡ old.end + length (records (payloads done))
    place committed = next_commit_byte ∙ ap (λ (o : Outcome). o.end) has.value ∙ ap (λ (k : ℕ). k + length (records (payloads done))) (commit_byte_is old committed)

    pub next_near : m.end ≤ old.end + n * (2 ^ 26 + 5)
    next_near = omega (arith, next_commit_byte, has.end)

    module _ (before during : Store) (committed : old.committed ≡ true) (recorded : HasRecorded before during old.end done final) (ends : IfSome before.reads (EndsClear old.end)) where
      pub next_ends : IfSome during.reads (EndsClear m.end)
      next_ends = subst (λ (k : ℕ). IfSome during.reads (EndsClear k)) (sym (place committed)) (recorded_ends before during old.end done final recorded ends)

      -- its record is appended
      module _ (now : Store) (bytes : List ℕ) (same : bytes ≡ body) (leaves : LeavesAppended bytes during now) where
        more : (tail : List (List Entry)) × (final ≡ done ++ w.s.entries ∷ tail)
        more = list_more v p seed n left old mid body (seen_outcome m) below has w

        spells : bytes ≡ body_of (spell w.s.entries)
        spells = same ∙ w.spells

        pub next_moment : IfSome before.reads (λ bytes. (t : Title) (ps : List (List ℕ)) (j : ℕ) → bytes ≡ journal t (take j ps) 0 [] → GoesOnWith j ps final → LeavesOnly before now (IsGrownPrefix t ps j))
        next_moment = moment_on before during now old.end done final w.s.entries more.0 bytes recorded ends more.1 spells leaves

        pub next_recorded : Quiet now → now.reads ≡ option_map (λ b. take m.end b ++ 1 ∷ bytes) during.reads → HasRecorded before now old.end (after v p seed old (n + 1)).lists final
        next_recorded quiet reads =
            subst (λ (i : ℕ). HasRecorded before now old.end (after v p seed old i).lists final) counted
            (recorded_on before during now old.end done final w.s.entries more.0 bytes recorded ends more.1 spells leaves quiet m.end (place committed) reads (after v p seed old (suc n)).lists
            (ap (λ (x : Continued). x.lists) (goes_on v p old.pools.lists seed old.batch (length old.bounds) n (Ok w.s) has.running w.step)))

    -- the loaded journal ends behind its record
    pub next_iterated : (new : Loaded) (end : ℕ) (bytes : List ℕ) → bytes ≡ body → end ≡ m.end + length bytes → seen_outcome new ≡ moved v p seed (seen_outcome m) end
        → IsBody body
        → PoolsFit p m.pools.lists
        → ((i : ℕ) → length (pool m.pools.lists i) ≤ 1 + k * mid.batch)
        → (Sound (problem_of p) mid.pools.lists → Sound (problem_of p) m.pools.lists)
        → (Sound (problem_of p) mid.pools.lists → All (Under (problem_of p)) mid.bounds → All (Under (problem_of p)) m.bounds)
        → m.unanswered ≤ mid.unanswered + 2 ^ 38
        → HasIterated v p seed (n + 1) old new
    next_iterated new end bytes same next moves is_body fit cuts sound under unanswered =
        let behind_it : end ≡ mid.end + length body = next ∙ ap (λ (b : List ℕ). m.end + length b) same ∙ ap (λ (i : ℕ). i + length body) next_commit_byte in
        subst (λ (i : ℕ). HasIterated v p seed i old new) counted
        (iterated_more v p seed n old mid m new body has w (moves ∙ ap (λ (e : ℕ). moved v p seed (seen_outcome m) e) behind_it) (body_short body is_body) fit
        (λ i. subst (λ (j : ℕ). length (pool m.pools.lists i) ≤ 1 + j * mid.batch) number (cuts i)) sound under unanswered)
