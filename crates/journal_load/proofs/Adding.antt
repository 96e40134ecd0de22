-- Properties that stay when the cuts of steps and entries are added.
use Rattle.std.proofs.Common.{◌≡◌, ℕ, ◌+◌, ◌≤◌, ◌<◌, true, List, [], ◌∷◌, length, Option, Some, None, Ok, refl, ap, subst, arith}
use Rattle.std.specs.List.{AllByRecursion}
use Rattle.problem.specs.Validated.{Validated, is_validated}
use Rattle.theory.specs.declared.cut.Cut.{Cut}
use Rattle.theory.specs.Pools.{pool, push, Sound}
use Rattle.theory.specs.View.{problem_of}
use Rattle.cut_pool.specs.AtNodes.{PoolsFit}
use Rattle.cut_pool.specs.declared.entry.Entry.{Entry}
use Rattle.cut_pool.specs.declared.entry.EntryStep.{EntryStep}
use Rattle.journal_record.specs.Shape.{Writable}
use Rattle.journal_record.proofs.LongestPath.{graph}
use Rattle.cut_make.specs.declared.fault.CertFault.{CertFault}
use Rattle.journal_load.specs.Cuts.{cut_of_step, fault_of_step, unless_fault, step_added, steps_added, entries_added}
use Rattle.journal_load.proofs.Binding.{bind_ok, same_ok}
use Rattle.journal_load.proofs.Once.{here, times, once, known_steps}
use Rattle.journal_load.proofs.CutsKept.{push_count, fit_more, sound_more}

unless_ok : (k m : ℕ) (fault : Option CertFault) (pools new : List (List Cut)) → unless_fault k m fault pools ≡ Ok new → (fault ≡ None) × (pools ≡ new)
unless_ok k m None pools new e = (refl, same_ok pools new e)
unless_ok k m (Some f) pools new e = absurd cc

-- an accepted step
pub accepted_step : (p : Validated) (k : ℕ) (pools new : List (List Cut)) (s : EntryStep) → step_added p k pools s ≡ Ok new → (fault_of_step p pools s ≡ None) × (push pools s.node (cut_of_step p pools s) ≡ new)
unfolding step_added
accepted_step p k pools new s e = unless_ok k s.node (fault_of_step p pools s) (push pools s.node (cut_of_step p pools s)) new e

abbrev pub Known : Validated → EntryStep → Type 0
Known p s = s.node < length p.parts.nodes

-- a property that each accepted step keeps is kept by all
module _ (p : Validated) (P : List (List Cut) → Type 0) (more : (pools : List (List Cut)) (s : EntryStep) → Known p s → fault_of_step p pools s ≡ None → P pools → P (push pools s.node (cut_of_step p pools s))) where
  pub step_keeps : (k : ℕ) (pools new : List (List Cut)) (s : EntryStep) → Known p s → P pools → step_added p k pools s ≡ Ok new → P new
  step_keeps k pools new s known has e = let a = accepted_step p k pools new s e in subst P a.1 (more pools s known a.0 has)

  pub steps_keep : (k : ℕ) (pools new : List (List Cut)) (ss : List EntryStep) → AllByRecursion (Known p) ss → P pools → steps_added p k pools ss ≡ Ok new → P new
  unfolding steps_added
  steps_keep k pools new [] known has e = subst P (same_ok pools new e) has
  steps_keep k pools new (s ∷ ss) known has e =
      let b = bind_ok (step_added p k pools s) (λ next. steps_added p k next ss) new e in
      steps_keep k b.0 new ss known.1 (step_keeps k pools b.0 s known.0 has b.1) b.2

  pub entries_keep : (pools new : List (List Cut)) (es : List Entry) → AllByRecursion (Writable p) es → P pools → entries_added p pools es ≡ Ok new → P new
  unfolding entries_added
  entries_keep pools new [] writable has e = subst P (same_ok pools new e) has
  entries_keep pools new (x ∷ es) writable has e =
      let b = bind_ok (steps_added p x.iteration pools x.steps) (λ next. entries_added p next es) new e in
      entries_keep b.0 new es writable.1 (steps_keep x.iteration pools b.0 x.steps (known_steps p None x.steps writable.0.path) has b.1) b.2

module _ (p : Validated) (validated : is_validated p ≡ true) where
  abbrev IsFit : List (List Cut) → Type 0
  IsFit pools = PoolsFit p pools

  pub step_fit : (k : ℕ) (pools new : List (List Cut)) (s : EntryStep) → Known p s → IsFit pools → step_added p k pools s ≡ Ok new → IsFit new
  step_fit = step_keeps p IsFit (λ pools s known none fit. fit_more p validated pools s known none fit)

  pub entries_fit : (pools new : List (List Cut)) (es : List Entry) → AllByRecursion (Writable p) es → IsFit pools → entries_added p pools es ≡ Ok new → IsFit new
  entries_fit = entries_keep p IsFit (λ pools s known none fit. fit_more p validated pools s known none fit)

  pub steps_fit : (k : ℕ) (pools new : List (List Cut)) (ss : List EntryStep) → AllByRecursion (Known p) ss → IsFit pools → steps_added p k pools ss ≡ Ok new → IsFit new
  steps_fit = steps_keep p IsFit (λ pools s known none fit. fit_more p validated pools s known none fit)

  pub entries_sound : (pools new : List (List Cut)) (es : List Entry) → AllByRecursion (Writable p) es → Sound (problem_of p) pools → entries_added p pools es ≡ Ok new → Sound (problem_of p) new
  entries_sound = entries_keep p (Sound (problem_of p)) (λ pools s known none sound. sound_more p validated pools s known none sound)

  -- a step more
  pub step_count : (k : ℕ) (pools new : List (List Cut)) (s : EntryStep) (m : ℕ) → step_added p k pools s ≡ Ok new → length (pool new m) ≤ length (pool pools m) + here s.node m
  step_count k pools new s m e =
      let a = accepted_step p k pools new s e in
      subst (λ (q : List (List Cut)). length (pool q m) ≤ length (pool pools m) + here s.node m) a.1 (push_count pools s.node (cut_of_step p pools s) m)

  steps_count : (k : ℕ) (pools new : List (List Cut)) (ss : List EntryStep) (m : ℕ) → steps_added p k pools ss ≡ Ok new → length (pool new m) ≤ length (pool pools m) + times m ss
  unfolding steps_added
  steps_count k pools new [] m e = omega (arith, ap (λ (q : List (List Cut)). length (pool q m)) (same_ok pools new e))
  steps_count k pools new (s ∷ ss) m e =
      let b = bind_ok (step_added p k pools s) (λ next. steps_added p k next ss) new e in
      omega (arith, step_count k pools b.0 s m b.1, steps_count k b.0 new ss m b.2)

  -- an entry more
  pub entry_count : (k : ℕ) (pools new : List (List Cut)) (x : Entry) (m : ℕ) → Writable p x → steps_added p k pools x.steps ≡ Ok new → length (pool new m) ≤ length (pool pools m) + 1
  entry_count k pools new x m writable e = omega (arith, steps_count k pools new x.steps m e, once p (graph p validated) m None x.steps writable.path)

  pub entries_count : (pools new : List (List Cut)) (es : List Entry) (m : ℕ) → AllByRecursion (Writable p) es → entries_added p pools es ≡ Ok new → length (pool new m) ≤ length (pool pools m) + length es
  unfolding entries_added
  entries_count pools new [] m writable e = omega (arith, ap (λ (q : List (List Cut)). length (pool q m)) (same_ok pools new e))
  entries_count pools new (x ∷ es) m writable e =
      let b = bind_ok (steps_added p x.iteration pools x.steps) (λ next. entries_added p next es) new e in
      omega (arith, entry_count x.iteration pools b.0 x m writable.0 b.1, entries_count b.0 new es m writable.1 b.2)
