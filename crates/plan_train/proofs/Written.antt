-- The entries of an iteration can be written, within the bytes that the formula for records allows, and are accepted when they are read
-- back.
use Rattle.std.proofs.Common.{◌≡◌, ◌∙◌, ℕ, zero, suc, ◌+◌, ◌<◌, ◌≤◌, ◌^◌, true, List, [], ◌∷◌, ◌++◌, length, map, zip, All, Result, Ok, Err, refl, sym, ap, subst, arith, append_assoc}
use Rattle.std.specs.List.{AllByRecursion}
use Rattle.std.proofs.lemmas.List.{append-nil}
use Rattle.std.proofs.lemmas.List.Elements.{All-head, All-tail, All-cons, All-nil}
use Rattle.std.proofs.lemmas.Slice.Zip.{length-zip}
use Rattle.base_num.specs.Steps.{◌>>=◌}
use Rattle.problem.specs.Validated.{Validated, is_validated}
use Rattle.theory.specs.declared.cut.Cut.{Cut}
use Rattle.theory.specs.Pools.{pool}
use Rattle.cut_pool.specs.AtNodes.{PoolsFit}
use Rattle.cut_pool.specs.declared.entry.Entry.{Entry}
use Rattle.cut_pool.specs.declared.entry.EntryStep.{EntryStep}
use Rattle.plan_answer.specs.declared.classifying.Infeasibility.{Infeasibility}
use Rattle.plan_answer.specs.Faults.{or_infeasible}
use Rattle.lp_program.specs.Solving.{Solving}
use Rattle.plan_draw.specs.declared.steps.PathStep.{PathStep}
use Rattle.plan_draw.specs.declared.steps.Trajectory.{Trajectory}
use Rattle.plan_draw.specs.Drawn.{path, IsPath, FollowsSuccessors, FollowsArcs, StartsAtRoot}
use Rattle.plan_draw.proofs.PathFacts.{drawn}
use Rattle.plan_forward.specs.Walking.{IsWalk, AreWalks, walks_of}
use Rattle.plan_forward.proofs.Arcs.{path_short}
use Rattle.plan_forward.proofs.Walks.{walks_are}
use Rattle.plan_answer.specs.declared.plan_fault.PlanFault.{PlanFault}
use Rattle.plan_backward.specs.Sweeping.{Swept, swept}
use Rattle.plan_backward.proofs.PathNodes.{distinct-path}
use Rattle.journal_record.specs.Backwards.{IsSuccessorChain, IsPathFromRoot, nodes_back}
use Rattle.journal_record.specs.Shape.{IsBatch, Writable, EntryFits, PairsWithin, StepWithin, StepSuits, StepFits}
use Rattle.journal_record.proofs.PathsBackwards.{backwards_from_path}
use Rattle.journal_record.proofs.Room.{all_weaker}
use Rattle.journal_load.specs.Cuts.{steps_added, entries_added}
use Rattle.journal_load.proofs.Binding.{bind_ok, bind_on}
use Rattle.journal_load.proofs.Adding.{entries_fit, entries_count, entry_count}
use Rattle.plan_train.specs.Drawing.{paths_from, first_stream}
use Rattle.plan_train.specs.Stepping.{Stepped, entry_of, with_path, forwards, with_walks, along, training_step, before_paths}
use Rattle.plan_train.proofs.NodeText.{StepText}
use Rattle.plan_train.proofs.SweptText.{SweptText, swept_text}
use Rattle.plan_train.proofs.Answered.{same_ok}

-- the nodes of a path are a path from the root
goes_on : (p : Validated) (m : ℕ) (ss : List PathStep) → FollowsSuccessors p.parts m ss → IsSuccessorChain p m (map (λ (s : PathStep). s.node) ss)
goes_on p m [] f = tt
goes_on p m (s ∷ ss) f = (f.0, goes_on p s.node ss f.1)

from_root : (p : Validated) (ss : List PathStep) → StartsAtRoot p.parts ss → FollowsArcs p.parts ss → IsPathFromRoot p (map (λ (s : PathStep). s.node) ss)
from_root p [] c f = absurd c
from_root p (s ∷ ss) c f = (c, goes_on p s.node ss f)

some_step : (p : Validated) (ss : List EntryStep) → IsPathFromRoot p (nodes_back ss) → 0 < length ss
some_step p [] h = absurd h
some_step p (s ∷ ss) h = omega arith

-- the paths that are drawn
pub paths_drawn : (p : Validated) → is_validated p ≡ true → (seed stream n : ℕ) → All (IsPath p) (paths_from p seed stream n)
paths_drawn p e seed stream zero = All-nil (IsPath p)
paths_drawn p e seed stream (suc n) =
    let d = drawn p e seed stream in
    All-cons (IsPath p) (path p seed stream) (paths_from p seed (suc stream) n) (record { starts = d.starts; follows = d.follows; in_range = d.in_range }) (paths_drawn p e seed (suc stream) n)

pub length-paths_from : (p : Validated) (seed stream n : ℕ) → length (paths_from p seed stream n) ≡ n
length-paths_from p seed stream zero = refl
length-paths_from p seed stream (suc n) = ap suc (length-paths_from p seed (suc stream) n)

-- the premises under which an entry can be written, with at most so many pairs to a list
pub record EntryText (p : Validated) (k most : ℕ) (e : Entry) : Type 0 where
  pub iteration : e.iteration ≡ k
  pub writable : Writable p e
  pub fits : EntryFits e
  pub within : PairsWithin most e

-- a path with its walk
abbrev IsWalked : Validated → List PathStep × Trajectory → Type 0
IsWalked p q = IsPath p q.0 × IsWalk p q.0 q.1

-- the outcome of paths that are swept one after another
record Added (p : Validated) (k most count : ℕ) (found after : Stepped) : Type 0 where
  new : List Entry
  is : after.entries ≡ found.entries ++ new
  counted : length new ≡ count
  texts : AllByRecursion (EntryText p k most) new
  added : entries_added p found.pools new ≡ Ok after.pools

own_iteration : (p : Validated) (k : ℕ) (pools new : List (List Cut)) (e : Entry) → e.iteration ≡ k → steps_added p k pools e.steps ≡ Ok new → steps_added p e.iteration pools e.steps ≡ Ok new
own_iteration p k pools new e is own = ap (λ i. steps_added p i pools e.steps) is ∙ own

-- an entry before others
entry_before : (p : Validated) (k : ℕ) (pools mid new : List (List Cut)) (e : Entry) (es : List Entry) → e.iteration ≡ k → steps_added p k pools e.steps ≡ Ok mid → entries_added p mid es ≡ Ok new → entries_added p pools (e ∷ es) ≡ Ok new
unfolding entries_added
entry_before p k pools mid new e es is own tail =
    bind_on (steps_added p e.iteration pools e.steps) mid (λ next. entries_added p next es) (own_iteration p k pools mid e is own) ∙ tail

regrouped : (before after new tail : List Entry) (e : Entry) → after ≡ new ++ tail → new ≡ before ++ e ∷ [] → after ≡ before ++ e ∷ tail
regrouped before after new tail e is made = is ∙ ap (λ (es : List Entry). es ++ tail) made ∙ append_assoc before (e ∷ []) tail

wider : (p : Validated) (k n most : ℕ) (e : Entry) → n ≤ most → EntryText p k n e → EntryText p k most e
wider p k n most e le t = record {
  iteration = t.iteration;
  writable = t.writable;
  fits = t.fits;
  within = all_weaker (StepWithin n) (StepWithin most) (λ s h. all_weaker _ _ (λ c g. all_weaker _ _ (λ qs f. omega (arith, f, le)) c.cuts g) s.list h) e.steps t.within;
}

module _ {Start Chain : Type 0} (v : Solving Start Chain) (p : Validated) (validated : is_validated p ≡ true) (k : ℕ) (number : k < 2 ^ 32) where
  entry_text : (most : ℕ) (pools : List (List Cut)) (walked : List PathStep × Trajectory) (after : Swept) → IsWalked p walked → SweptText v p validated k pools most walked.1.unanswered walked.0 after → EntryText p k most (entry_of k after)
  entry_text most pools walked after w t =
      let path : IsPathFromRoot p (nodes_back after.steps) = subst (IsPathFromRoot p) (sym t.nodes) (from_root p walked.0 w.0.starts w.0.follows) in
      let short = path_short p walked.0 validated w.0 in
      record {
        iteration = refl;
        writable = record { some_step = some_step p after.steps path; path = backwards_from_path p after.steps validated path; steps = all_weaker (StepText p most) (StepSuits p) (λ s h. h.suits) after.steps t.texts };
        fits = record { iteration = number; unanswered = omega (arith, t.few, w.1.unanswered, short); steps = all_weaker (StepText p most) StepFits (λ s h. h.fits) after.steps t.texts };
        within = all_weaker (StepText p most) (StepWithin most) (λ s h. h.within) after.steps t.texts;
      }

  -- one path more
  path_added : (n : ℕ) (found after : Stepped) (walked : List PathStep × Trajectory) → IsWalked p walked → PoolsFit p found.pools → n + 1 < 2 ^ 32 → ((m : ℕ) → length (pool found.pools m) ≤ n) → with_path v p k found walked ≡ Ok after
      → (e : Entry) × (after.entries ≡ found.entries ++ e ∷ []) × EntryText p k (n + 1) e × (steps_added p k found.pools e.steps ≡ Ok after.pools) × PoolsFit p after.pools
  unfolding with_path
  path_added n found after walked w fit small few e =
      let made : Swept → Stepped = λ s. record { pools = s.pools; entries = found.entries ++ entry_of k s ∷ [] } in
      let b = bind_ok (swept v p found.pools k walked.0 walked.1.states walked.1.unanswered) (λ s. Ok (made s)) after e in
      let t = swept_text v p validated k found.pools (n + 1) walked.1.unanswered fit small (λ j. omega (arith, few j)) walked.0 walked.1.states b.0 w.1.count w.0.in_range (distinct-path p validated walked.0 w.0.follows) b.1 in
      let is : made b.0 ≡ after = same_ok (made b.0) after b.2 in
      let pools : b.0.pools ≡ after.pools = ap (λ (s : Stepped). s.pools) is in (
        entry_of k b.0,
        sym (ap (λ (s : Stepped). s.entries) is),
        entry_text (n + 1) found.pools walked b.0 w t,
        t.added ∙ ap (λ (q : List (List Cut)). Ok q) pools,
        subst (λ (q : List (List Cut)). PoolsFit p q) pools t.fit,
      )

  paths_added : (zs : List (List PathStep × Trajectory)) (n most : ℕ) (found after : Stepped) → All (IsWalked p) zs → PoolsFit p found.pools → ((m : ℕ) → length (pool found.pools m) ≤ n) → n + length zs ≤ most → most < 2 ^ 32
      → forwards (with_path v p k) zs found ≡ Ok after → Added p k most (length zs) found after
  unfolding entries_added
  paths_added [] n most found after w fit few le small e =
      subst (Added p k most 0 found) (same_ok found after e) (record { new = []; is = sym (append-nil found.entries); counted = refl; texts = tt; added = refl })
  paths_added (z ∷ zs) n most found after w fit few le small e =
      let b = bind_ok (with_path v p k found z) (forwards (with_path v p k) zs) after e in
      let one = path_added n found b.0 z (All-head (IsWalked p) z zs w) fit (omega (arith, le, small)) few b.1 in
      let own = own_iteration p k found.pools b.0.pools one.0 one.2.iteration one.3 in
      let grown : (m : ℕ) → length (pool b.0.pools m) ≤ n + 1 = λ m. omega (arith, few m, entry_count p validated one.0.iteration found.pools b.0.pools one.0 m one.2.writable own) in
      let tail = paths_added zs (n + 1) most b.0 after (All-tail (IsWalked p) z zs w) one.4 grown (omega (arith, le)) small b.2 in
      record {
        new = one.0 ∷ tail.new;
        is = regrouped found.entries after.entries b.0.entries tail.new one.0 tail.is one.1;
        counted = omega (arith, tail.counted);
        texts = (wider p k (n + 1) most one.0 (omega (arith, le)) one.2, tail.texts);
        added = entry_before p k found.pools b.0.pools after.pools one.0 tail.new one.2.iteration one.3 tail.added;
      }

-- The outcome of an iteration: entries that can be written, with at most so many pairs to a list, and that are accepted over the pools
-- before it, which gives the pools behind it.
pub record IsIteration (p : Validated) (k batch most : ℕ) (pools : List (List Cut)) (s : Stepped) : Type 0 where
  pub written : IsBatch p k batch s.entries
  pub pairs : AllByRecursion (PairsWithin most) s.entries
  pub added : entries_added p pools s.entries ≡ Ok s.pools
  pub fit : PoolsFit p s.pools
  pub few : (m : ℕ) → length (pool s.pools m) ≤ most

iteration_from : (p : Validated) → is_validated p ≡ true → (k batch n most count : ℕ) (pools : List (List Cut)) (s : Stepped) → PoolsFit p pools → ((m : ℕ) → length (pool pools m) ≤ n) → n + batch ≤ most → count ≡ batch → Added p k most count (before_paths pools) s
    → IsIteration p k batch most pools s
iteration_from p validated k batch n most count pools s fit few le paths a =
    let texts : AllByRecursion (EntryText p k most) s.entries = subst (AllByRecursion (EntryText p k most)) (sym a.is) a.texts in
    let added : entries_added p pools s.entries ≡ Ok s.pools = subst (λ (es : List Entry). entries_added p pools es ≡ Ok s.pools) (sym a.is) a.added in
    let counted : length s.entries ≡ batch = ap (λ (es : List Entry). length es) a.is ∙ a.counted ∙ paths in
    let writable : AllByRecursion (Writable p) s.entries = all_weaker (EntryText p k most) (Writable p) (λ x t. t.writable) s.entries texts in
    record {
      written = record {
        counted = counted;
        same = all_weaker (EntryText p k most) (λ (x : Entry). x.iteration ≡ k) (λ x t. t.iteration) s.entries texts;
        each = writable;
        numbers = all_weaker (EntryText p k most) EntryFits (λ x t. t.fits) s.entries texts;
      };
      pairs = all_weaker (EntryText p k most) (PairsWithin most) (λ x t. t.within) s.entries texts;
      added = added;
      fit = entries_fit p validated pools s.pools s.entries writable fit added;
      few = λ m. omega (arith, few m, le, counted, entries_count p validated pools s.pools s.entries m writable added);
    }

walks_there : (walks : Result (List Trajectory) Infeasibility) (f : List Trajectory → Result Stepped PlanFault) (s : Stepped) → (or_infeasible walks >>= f) ≡ Ok s → (ws : List Trajectory) × (walks ≡ Ok ws) × (f ws ≡ Ok s)
walks_there (Ok ws) f s e = (ws, refl, e)
walks_there (Err infeasible) f s e = absurd cc

module _ {Start Chain : Type 0} (v : Solving Start Chain) (p : Validated) (validated : is_validated p ≡ true) where
  each_walked : (paths : List (List PathStep)) (walks : List Trajectory) → All (IsPath p) paths → All (λ (q : List PathStep × Trajectory). IsWalk p q.0 q.1) (zip paths walks) → All (IsWalked p) (zip paths walks)
  each_walked [] walks a w = All-nil (IsWalked p)
  each_walked (x ∷ paths) [] a w = All-nil (IsWalked p)
  each_walked (x ∷ paths) (y ∷ walks) a w =
      All-cons (IsWalked p) (x, y) (zip paths walks) (All-head (IsPath p) x paths a, All-head (λ (q : List PathStep × Trajectory). IsWalk p q.0 q.1) (x, y) (zip paths walks) w)
      (each_walked paths walks (All-tail (IsPath p) x paths a) (All-tail (λ (q : List PathStep × Trajectory). IsWalk p q.0 q.1) (x, y) (zip paths walks) w))

  -- An iteration of training over pools that fit, with at most n cuts at each node.
  pub is_iteration : (pools : List (List Cut)) (seed batch k n most : ℕ) (s : Stepped) → PoolsFit p pools → ((m : ℕ) → length (pool pools m) ≤ n) → n + batch ≤ most → most < 2 ^ 32 → k < 2 ^ 32
      → training_step v p pools seed batch k ≡ Ok s → IsIteration p k batch most pools s
  unfolding training_step along with_walks
  is_iteration pools seed batch k n most s fit few le small number e =
      let paths : List (List PathStep) = paths_from p seed (first_stream batch k) batch in
      let drawn = paths_drawn p validated seed (first_stream batch k) batch in
      let b = walks_there (walks_of v p pools k paths) (with_walks v p pools k paths) s e in
      let are : AreWalks p paths b.0 = walks_are v p pools k validated paths b.0 drawn b.1 in
      let zs : List (List PathStep × Trajectory) = zip paths b.0 in
      let count : length zs ≡ batch = omega (arith, length-zip paths b.0, are.count, length-paths_from p seed (first_stream batch k) batch) in
      iteration_from p validated k batch n most (length zs) pools s fit few le count (paths_added v p validated k number zs n most (before_paths pools) s (each_walked paths b.0 drawn are.each) fit few (omega (arith, le, count)) small b.2)
