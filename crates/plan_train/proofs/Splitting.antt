-- Iterations in two parts: the first so many, and those behind them, which go on from their pools.
use Rattle.std.proofs.Common.{◌≡◌, ◌∙◌, ℕ, zero, suc, ◌+◌, ◌<◌, ◌≤◌, ℤ, List, [], ◌∷◌, ◌++◌, length, take, Option, Some, None, Result, Ok, Err, refl, sym, ap, ap₂, subst, append_assoc, arith}
use Rattle.std.proofs.lemmas.List.{append-nil}
use Rattle.std.proofs.Math.Seq.{take-append_seam}
use Rattle.problem.specs.Validated.{Validated}
use Rattle.theory.specs.declared.cut.Cut.{Cut}
use Rattle.theory.specs.Bound.{bound}
use Rattle.theory.specs.View.{problem_of}
use Rattle.cut_pool.specs.declared.entry.Entry.{Entry}
use Rattle.lp_program.specs.Solving.{Solving}
use Rattle.plan_answer.specs.declared.plan_fault.PlanFault.{PlanFault}
use Rattle.plan_train.specs.Stepping.{Stepped, training_step}
use Rattle.plan_train.specs.Continuing.{Continued, before_any, with_step, with_iteration, continued}
use Rattle.plan_train.proofs.Continuing.{goes_on, stays, in_front, counted}
use Rattle.plan_train.proofs.Answered.{none_some}

-- the outcome of some iterations, and behind it the outcome of others
abbrev pub joined : Continued → Continued → Continued
joined b r = record { pools = r.pools; lists = b.lists ++ r.lists; bounds = b.bounds ++ r.bounds; stop = r.stop }

joined_none : (c : Continued) → c.stop ≡ None → c ≡ joined c (before_any c.pools)
joined_none c running =
    ap (λ (o : Option PlanFault). record { pools = c.pools; lists = c.lists; bounds = c.bounds; stop = o }) running
    ∙ ap₂ (λ (ls : List (List Entry)) (bs : List ℤ). record { pools = c.pools; lists = ls; bounds = bs; stop = None }) (sym (append-nil c.lists)) (sym (append-nil c.bounds))

module _ {Start Chain : Type 0} (v : Solving Start Chain) (p : Validated) (seed batch : ℕ) where
  joined_step : (b r : Continued) (s : Result Stepped PlanFault) → with_step p (joined b r) s ≡ joined b (with_step p r s)
  joined_step b r (Ok s) =
      ap₂ (λ (ls : List (List Entry)) (bs : List ℤ). record { pools = s.pools; lists = ls; bounds = bs; stop = None })
      (append_assoc b.lists r.lists (s.entries ∷ [])) (append_assoc b.bounds r.bounds (bound (problem_of p) s.pools ∷ []))
  joined_step b r (Err f) = refl

  joined_iteration : (k : ℕ) (b r : Continued) (o : Option PlanFault) → with_iteration v p seed batch k (joined b r) o ≡ joined b (with_iteration v p seed batch k r o)
  joined_iteration k b r None = joined_step b r (training_step v p r.pools seed batch k)
  joined_iteration k b r (Some f) = refl

  module _ (pools : List (List Cut)) where
    abbrev after : ℕ → Continued
    after n = continued v p pools seed batch 0 n

    one_more : (n : ℕ) → after (suc n) ≡ with_iteration v p seed batch (suc (0 + n)) (after n) (after n).stop
    unfolding continued
    one_more n = refl

    abbrev tail : ℕ → ℕ → Continued
    tail j n = continued v p (after j).pools seed batch j n

    more_rest : (j n : ℕ) → tail j (suc n) ≡ with_iteration v p seed batch (suc (j + n)) (tail j n) (tail j n).stop
    unfolding continued
    more_rest j n = refl

    no_rest : (j : ℕ) → tail j 0 ≡ before_any (after j).pools
    unfolding continued
    no_rest j = refl

    -- j iterations that did not stop, and then n
    pub split : (j n : ℕ) → (after j).stop ≡ None → after (j + n) ≡ joined (after j) (tail j n)
    split j zero running =
        let same : j + 0 ≡ j = omega arith in
        ap after same ∙ joined_none (after j) running ∙ ap (joined (after j)) (sym (no_rest j))
    split j (suc n) running =
        let same : j + suc n ≡ suc (j + n) = omega arith in
        let number : suc (0 + (j + n)) ≡ suc (j + n) = omega arith in
        ap after same ∙ one_more (j + n)
        ∙ ap (λ (k : ℕ). with_iteration v p seed batch k (after (j + n)) (after (j + n)).stop) number
        ∙ ap (λ (c : Continued). with_iteration v p seed batch (suc (j + n)) c c.stop) (split j n running)
        ∙ joined_iteration (suc (j + n)) (after j) (tail j n) (tail j n).stop
        ∙ ap (joined (after j)) (sym (more_rest j n))

    -- where an iteration has stopped, fewer lists are there
    fewer_step : (n : ℕ) (f : PlanFault) (r : Result Stepped PlanFault) → length (after n).lists ≡ n → (with_step p (after n) r).stop ≡ Some f → length (with_step p (after n) r).lists < suc n
    fewer_step n f (Ok s) count stopped = absurd (none_some f stopped)
    fewer_step n f (Err g) count stopped = omega (arith, count)

    fewer_more : (n : ℕ) (f : PlanFault) (o : Option PlanFault) → (after n).stop ≡ o → ((g : PlanFault) → (after n).stop ≡ Some g → length (after n).lists < n) → (after (suc n)).stop ≡ Some f → length (after (suc n)).lists < suc n
    fewer_more n f None running before stopped =
        let is = goes_on v p pools seed batch 0 n (training_step v p (after n).pools seed batch (suc (0 + n))) running refl in
        subst (λ (c : Continued). length c.lists < suc n) (sym is) (fewer_step n f (training_step v p (after n).pools seed batch (suc (0 + n))) (counted v p pools seed batch 0 n running).0 (ap (λ (c : Continued). c.stop) (sym is) ∙ stopped))
    fewer_more n f (Some g) is before stopped =
        let same = stays v p pools seed batch 0 (suc n) n g (omega arith) is in
        omega (arith, ap (λ (c : Continued). length c.lists) same, before g is)

    fewer : (n : ℕ) (f : PlanFault) → (after n).stop ≡ Some f → length (after n).lists < n
    unfolding continued
    fewer zero f stopped = absurd (none_some f stopped)
    fewer (suc n) f stopped = fewer_more n f (after n).stop refl (λ g is. fewer n g is) stopped

    -- no more lists than iterations
    pub few_lists : (n : ℕ) → length (after n).lists ≤ n
    few_lists n = by (after n).stop refl
      where
        by : (o : Option PlanFault) → (after n).stop ≡ o → length (after n).lists ≤ n
        by None running = omega (arith, (counted v p pools seed batch 0 n running).0)
        by (Some f) stopped = omega (arith, fewer n f stopped)

    -- up to the number of lists that are there, no iteration has stopped
    pub running_before : (m j : ℕ) → j ≤ length (after m).lists → (after j).stop ≡ None
    running_before m j there = by (after j).stop refl
      where
        by : (o : Option PlanFault) → (after j).stop ≡ o → (after j).stop ≡ None
        by None running = running
        by (Some f) stopped =
            let same = stays v p pools seed batch 0 m j f (omega (arith, there, few_lists m)) stopped in
            absurd (omega (arith, ap (λ (c : Continued). length c.lists) same, fewer j f stopped, there))

    -- and the first so many are those of as many iterations
    pub first_lists : (m j : ℕ) → j ≤ length (after m).lists → take j (after m).lists ≡ (after j).lists
    first_lists m j there =
        let front = in_front v p pools seed batch 0 m j (omega (arith, there, few_lists m)) in
        let count : length (after j).lists ≡ j = (counted v p pools seed batch 0 j (running_before m j there)).0 in
        ap (λ (k : ℕ). take k (after m).lists) (sym count) ∙ ap (λ (ls : List (List Entry)). take (length (after j).lists) ls) front.1 ∙ take-append_seam (after j).lists front.0
