-- Adding cuts as the loops do: the part that is done, and the part that is left.
use Rattle.std.proofs.Common.{◌≡◌, ℕ, zero, suc, ◌+◌, ◌-◌, ◌≤◌, ◌<◌, ◌^◌, true, List, [], ◌∷◌, length, drop, get_or, All, None, Ok, sym, ap, ◌∙◌, arith}
use Rattle.std.specs.List.{AllByRecursion}
use Rattle.std.proofs.lemmas.Bool.Decides.{nat_tests}
use Rattle.std.proofs.lemmas.List.{drop_more, drop_all}
use Rattle.base_num.specs.Steps.{◌>>=◌}
use Rattle.problem.specs.Validated.{Validated, is_validated}
use Rattle.theory.specs.declared.cut.Cut.{Cut}
use Rattle.theory.specs.Pools.{pool}
use Rattle.cut_pool.specs.AtNodes.{PoolsFit}
use Rattle.cut_pool.specs.declared.entry.Entry.{Entry}
use Rattle.cut_pool.specs.declared.entry.EntryStep.{EntryStep}
use Rattle.journal_record.specs.Shape.{Writable}
use Rattle.journal_load.specs.declared.refusal.LoadFault.{LoadFault}
use Rattle.journal_load.specs.Refusals.{LoadFails}
use Rattle.journal_load.specs.Cuts.{step_added, steps_added, entries_added}
use Rattle.journal_load.proofs.Binding.{bind_on, fails_on, fails_as}
use Rattle.journal_load.proofs.Once.{here, known_steps}
use Rattle.journal_load.proofs.Adding.{Known, step_fit, step_count, steps_fit, entry_count}

here_few : (n m : ℕ) → here n m ≤ 1
here_few n m = grind (arith, nat_tests)

-- the steps from number i on are left
pub record StepsLeft (p : Validated) (k : ℕ) (old : List (List Cut)) (steps : List EntryStep) (i : ℕ) (pools : List (List Cut)) : Type 0 where
  pub so_far : steps_added p k pools (drop i steps) ≡ steps_added p k old steps
  pub fit : PoolsFit p pools
  pub few : (m : ℕ) → length (pool pools m) + (length steps - i) ≤ 2 ^ 24

module _ (p : Validated) (k : ℕ) (old : List (List Cut)) (steps : List EntryStep) (i : ℕ) (pools : List (List Cut)) (below : i < length steps) (this : EntryStep) (is : this ≡ get_or steps i this) (l : StepsLeft p k old steps i pools) where
  split_steps : steps_added p k pools (drop i steps) ≡ (step_added p k pools this >>= λ next. steps_added p k next (drop (i + 1) steps))
  unfolding steps_added
  split_steps = ap (λ (ss : List EntryStep). steps_added p k pools ss) (drop_more steps i this below ∙ ap (λ (s : EntryStep). s ∷ drop (i + 1) steps) (sym is))

  pub step_fails : (fault : LoadFault) → LoadFails fault (step_added p k pools this) → LoadFails fault (steps_added p k old steps)
  step_fails fault e = fails_as fault _ (steps_added p k old steps) (sym split_steps ∙ l.so_far) (fails_on fault (step_added p k pools this) (λ next. steps_added p k next (drop (i + 1) steps)) e)

  pub step_more : is_validated p ≡ true → Known p this → (new : List (List Cut)) → step_added p k pools this ≡ Ok new → StepsLeft p k old steps (i + 1) new
  step_more validated known new e = record {
    so_far = sym (split_steps ∙ bind_on (step_added p k pools this) new (λ next. steps_added p k next (drop (i + 1) steps)) e) ∙ l.so_far;
    fit = step_fit p validated k pools new this known l.fit e;
    few = λ m. omega (arith, step_count p validated k pools new this m e, here_few this.node m, l.few m, below);
  }

pub steps_done : (p : Validated) (k : ℕ) (old : List (List Cut)) (steps : List EntryStep) (i : ℕ) (pools : List (List Cut)) → length steps ≤ i → StepsLeft p k old steps i pools → steps_added p k old steps ≡ Ok pools
unfolding steps_added
steps_done p k old steps i pools all l = sym l.so_far ∙ ap (λ (ss : List EntryStep). steps_added p k pools ss) (drop_all i steps all)

-- the entries from number i on are left
pub record EntriesLeft (p : Validated) (old : List (List Cut)) (entries : List Entry) (i : ℕ) (pools : List (List Cut)) : Type 0 where
  pub so_far : entries_added p pools (drop i entries) ≡ entries_added p old entries
  pub fit : PoolsFit p pools
  pub few : (m : ℕ) → length (pool pools m) + (length entries - i) ≤ 2 ^ 23

module _ (p : Validated) (old : List (List Cut)) (entries : List Entry) (i : ℕ) (pools : List (List Cut)) (below : i < length entries) (one : Entry) (is : one ≡ get_or entries i one) (l : EntriesLeft p old entries i pools) where
  split_entries : entries_added p pools (drop i entries) ≡ (steps_added p one.iteration pools one.steps >>= λ next. entries_added p next (drop (i + 1) entries))
  unfolding entries_added
  split_entries = ap (λ (es : List Entry). entries_added p pools es) (drop_more entries i one below ∙ ap (λ (e : Entry). e ∷ drop (i + 1) entries) (sym is))

  pub entry_fails : (fault : LoadFault) → LoadFails fault (steps_added p one.iteration pools one.steps) → LoadFails fault (entries_added p old entries)
  entry_fails fault e = fails_as fault _ (entries_added p old entries) (sym split_entries ∙ l.so_far) (fails_on fault (steps_added p one.iteration pools one.steps) (λ next. entries_added p next (drop (i + 1) entries)) e)

  pub entry_more : is_validated p ≡ true → Writable p one → (new : List (List Cut)) → steps_added p one.iteration pools one.steps ≡ Ok new → EntriesLeft p old entries (i + 1) new
  entry_more validated writable new e = record {
    so_far = sym (split_entries ∙ bind_on (steps_added p one.iteration pools one.steps) new (λ next. entries_added p next (drop (i + 1) entries)) e) ∙ l.so_far;
    fit = steps_fit p validated one.iteration pools new one.steps (known_steps p None one.steps writable.path) l.fit e;
    few = λ m. omega (arith, entry_count p validated one.iteration pools new one m writable e, l.few m, below);
  }

pub entries_done : (p : Validated) (old : List (List Cut)) (entries : List Entry) (i : ℕ) (pools : List (List Cut)) → length entries ≤ i → EntriesLeft p old entries i pools → entries_added p old entries ≡ Ok pools
unfolding entries_added
entries_done p old entries i pools all l = sym l.so_far ∙ ap (λ (es : List Entry). entries_added p pools es) (drop_all i entries all)

-- one of those of which each has P
pub at_recursion : {A : Type 0} (P : A → Type 0) (xs : List A) (i : ℕ) (d : A) → AllByRecursion P xs → i < length xs → P (get_or xs i d)
at_recursion P [] i d all below = absurd (omega arith)
at_recursion P (x ∷ xs) zero d all below = all.0
at_recursion P (x ∷ xs) (suc i) d all below = at_recursion P xs i d all.1 (omega arith)

pub at_each : {A : Type 0} (P : A → Type 0) (xs : List A) → AllByRecursion P xs → All P xs
at_each P xs all = λ i d below. at_recursion P xs i d all below
