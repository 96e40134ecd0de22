-- Iterations one after another: the outcome of one more, and the parts that stay once training has stopped.
use Rattle.std.proofs.Common.{◌≡◌, inl, inr, ℕ, zero, suc, ◌+◌, ◌≤◌, List, [], ◌∷◌, ◌++◌, length, Option, Some, None, Result, Ok, Err, refl, sym, ap, ◌∙◌, append_assoc, length-append, arith}
use Rattle.std.proofs.lemmas.List.{append-nil}
use Rattle.std.proofs.lemmas.Bool.{cases_eq}
use Rattle.problem.specs.Validated.{Validated}
use Rattle.theory.specs.declared.cut.Cut.{Cut}
use Rattle.theory.specs.Bound.{bound}
use Rattle.theory.specs.View.{problem_of}
use Rattle.cut_pool.specs.declared.entry.Entry.{Entry}
use Rattle.lp_program.specs.Solving.{Solving}
use Rattle.plan_answer.specs.declared.plan_fault.PlanFault.{PlanFault}
use Rattle.plan_train.specs.Stepping.{Stepped, training_step}
use Rattle.plan_train.specs.Continuing.{Continued, with_step, with_iteration, continued}

some_none : {A : Type 0} (x : A) → (let o : Option A = Some x in o ≡ None) → ⊥
some_none x h = cc

module _ {Start Chain : Type 0} (v : Solving Start Chain) (p : Validated) (pools : List (List Cut)) (seed batch j : ℕ) where
  abbrev after : ℕ → Continued
  after n = continued v p pools seed batch j n

  one_more : (n : ℕ) → after (suc n) ≡ with_iteration v p seed batch (suc (j + n)) (after n) (after n).stop
  unfolding continued
  one_more n = refl

  -- an iteration that gives something, or stops
  pub goes_on : (n : ℕ) (r : Result Stepped PlanFault) → (after n).stop ≡ None → training_step v p (after n).pools seed batch (suc (j + n)) ≡ r → after (suc n) ≡ with_step p (after n) r
  goes_on n r running is = one_more n ∙ ap (λ (o : Option PlanFault). with_iteration v p seed batch (suc (j + n)) (after n) o) running ∙ ap (λ (s : Result Stepped PlanFault). with_step p (after n) s) is

  -- once stopped it stays
  stays_one : (n : ℕ) (f : PlanFault) → (after n).stop ≡ Some f → after (suc n) ≡ after n
  stays_one n f stopped = one_more n ∙ ap (λ (o : Option PlanFault). with_iteration v p seed batch (suc (j + n)) (after n) o) stopped

  pub stays : (m n : ℕ) (f : PlanFault) → n ≤ m → (after n).stop ≡ Some f → after m ≡ after n
  stays zero n f below stopped = let e : n ≡ 0 = omega arith in ap after (sym e)
  stays (suc m) n f below stopped = elim (cases_eq n (suc m)) [
    | inl same ↦ ap after (sym same)
    | inr other ↦ let e = stays m n f (omega (arith, below, other)) stopped in stays_one m f (ap (λ (c : Continued). c.stop) e ∙ stopped) ∙ e
  ]

  -- the lists that are there stay in front
  more_step : (c : Continued) (r : Result Stepped PlanFault) → (tail : List (List Entry)) × ((with_step p c r).lists ≡ c.lists ++ tail)
  more_step c (Ok s) = (s.entries ∷ [], refl)
  more_step c (Err f) = ([], sym (append-nil c.lists))

  more : (k : ℕ) (c : Continued) (o : Option PlanFault) → (tail : List (List Entry)) × ((with_iteration v p seed batch k c o).lists ≡ c.lists ++ tail)
  more k c None = more_step c (training_step v p c.pools seed batch k)
  more k c (Some f) = ([], sym (append-nil c.lists))

  pub in_front : (m n : ℕ) → n ≤ m → (tail : List (List Entry)) × ((after m).lists ≡ (after n).lists ++ tail)
  in_front zero n below = let e : n ≡ 0 = omega arith in ([], ap (λ (k : ℕ). (after k).lists) (sym e) ∙ sym (append-nil (after n).lists))
  in_front (suc m) n below = elim (cases_eq n (suc m)) [
    | inl same ↦ ([], ap (λ (k : ℕ). (after k).lists) (sym same) ∙ sym (append-nil (after n).lists))
    | inr other ↦
        let before = in_front m n (omega (arith, below, other)) in
        let one = more (suc (j + m)) (after m) (after m).stop in
        (before.0 ++ one.0, ap (λ (c : Continued). c.lists) (one_more m) ∙ one.1 ∙ ap (λ (ls : List (List Entry)). ls ++ one.0) before.1 ∙ append_assoc (after n).lists before.0 one.0)
  ]

  -- an iteration more stands behind those before it
  pub next_list : (m n : ℕ) (s : Stepped) → suc n ≤ m → (after n).stop ≡ None → training_step v p (after n).pools seed batch (suc (j + n)) ≡ Ok s → (tail : List (List Entry)) × ((after m).lists ≡ (after n).lists ++ s.entries ∷ tail)
  next_list m n s below running is =
      let front = in_front m (suc n) below in
      let lists = ap (λ (c : Continued). c.lists) (goes_on n (Ok s) running is) in
      (front.0, front.1 ∙ ap (λ (ls : List (List Entry)). ls ++ front.0) lists ∙ append_assoc (after n).lists (s.entries ∷ []) front.0)

  -- while it runs, each iteration has its entries and its bound
  step_counted : (c : Continued) (r : Result Stepped PlanFault) (n : ℕ) → (with_step p c r).stop ≡ None → (length c.lists ≡ n) × (length c.bounds ≡ n) → (length (with_step p c r).lists ≡ suc n) × (length (with_step p c r).bounds ≡ suc n)
  step_counted c (Ok s) n running h = (omega (arith, length-append c.lists (s.entries ∷ []), h.0), omega (arith, length-append c.bounds (bound (problem_of p) s.pools ∷ []), h.1))
  step_counted c (Err f) n running h = absurd (some_none f running)

  iteration_counted : (k : ℕ) (c : Continued) (o : Option PlanFault) (n : ℕ) → c.stop ≡ o → (with_iteration v p seed batch k c o).stop ≡ None → (c.stop ≡ None → (length c.lists ≡ n) × (length c.bounds ≡ n)) → (length (with_iteration v p seed batch k c o).lists ≡ suc n) × (length (with_iteration v p seed batch k c o).bounds ≡ suc n)
  iteration_counted k c None n is running h = step_counted c (training_step v p c.pools seed batch k) n running (h is)
  iteration_counted k c (Some f) n is running h = absurd (some_none f (sym is ∙ running))

  pub counted : (n : ℕ) → (after n).stop ≡ None → (length (after n).lists ≡ n) × (length (after n).bounds ≡ n)
  unfolding continued
  counted zero running = (refl, refl)
  counted (suc n) running = iteration_counted (suc (j + n)) (after n) (after n).stop n refl running (counted n)
