-- A payload is read exactly where it is a text.
use Rattle.std.proofs.Common.{◌≡◌, ℕ, true, List, length, Result, Ok, Err, ap, subst, ◌∙◌}
use Rattle.problem.specs.Validated.{Validated, is_validated}
use Rattle.cut_pool.specs.declared.entry.Entry.{Entry}
use Rattle.journal_record.specs.declared.fault.EntryFault.{EntryFault}
use Rattle.journal_record.specs.declared.fault.EntryFault.TheVariants as faults
use Rattle.journal_record.specs.Spelling.{spell}
use Rattle.journal_record.specs.Shape.{IsBatch}
use Rattle.journal_record.specs.Reading.{entries_at, placed_from_front, read_batch, Answers, IsNoText, OnBad}
use Rattle.journal_record.proofs.Fields.{IsBytes}
use Rattle.journal_record.proofs.Taken.{entries_take}
use Rattle.journal_record.proofs.Again.{entries_again}
use Rattle.journal_record.proofs.LongestPath.{path_length, is_small}
use Rattle.std.specs.Prelude.{IfOk}

unplaced : {A : Type 0} (n : ℕ) (r : Result A ℕ) (x : A) → placed_from_front n r ≡ Ok x → r ≡ Ok x
unplaced n (Ok y) x e = e
unplaced n (Err left) x e = absurd cc

pub batch_spelled : (p : Validated) (iteration count : ℕ) (bytes : List ℕ) (es : List Entry) → IsBytes bytes → read_batch p iteration count bytes ≡ Ok es → IsBatch p iteration count es × (bytes ≡ spell es)
unfolding read_batch
batch_spelled p iteration count bytes es fits e = entries_take p iteration count bytes es fits (unplaced (length bytes) (entries_at p iteration count bytes) es e)

pub batch_again : (p : Validated) (iteration count : ℕ) (es : List Entry) → is_validated p ≡ true → IsBatch p iteration count es → read_batch p iteration count (spell es) ≡ Ok es
unfolding read_batch
batch_again p iteration count es validated batch = ap (placed_from_front (length (spell es))) (entries_again p (is_small p validated) (λ e w. path_length p validated e.steps w.path) iteration count es batch)

-- ---- of what a function answers

pub is_spelled : (p : Validated) (iteration count : ℕ) (bytes : List ℕ) (r : Result (List Entry) EntryFault) → IsBytes bytes → Answers (λ x. x) r (read_batch p iteration count bytes) → IfOk r (λ es. IsBatch p iteration count es × (bytes ≡ spell es))
is_spelled p iteration count bytes (Ok es) fits given = batch_spelled p iteration count bytes es fits given
is_spelled p iteration count bytes (Err e) fits given = tt

pub is_read : (p : Validated) (iteration count : ℕ) (bytes : List ℕ) (r : Result (List Entry) EntryFault) → is_validated p ≡ true → Answers (λ x. x) r (read_batch p iteration count bytes) → (es : List Entry) → IsBatch p iteration count es → bytes ≡ spell es → Answers (λ x. x) r (Ok es)
is_read p iteration count bytes r validated given es batch e = subst (λ (f : Result (List Entry) ℕ). Answers (λ x. x) r f) (ap (read_batch p iteration count) e ∙ batch_again p iteration count es validated batch) given

pub is_bad : (p : Validated) (iteration count : ℕ) (bytes : List ℕ) (r : Result (List Entry) EntryFault) → is_validated p ≡ true → Answers (λ x. x) r (read_batch p iteration count bytes) → OnBad r (IsNoText p iteration count bytes)
is_bad p iteration count bytes (Ok es) validated given = tt
is_bad p iteration count bytes (Err (faults.Bad place)) validated given = λ es batch e. let h : Answers (λ (x : List Entry). x) (Err (faults.Bad place)) (Ok es) = is_read p iteration count bytes (Err (faults.Bad place)) validated given es batch e in absurd (cc)
is_bad p iteration count bytes (Err faults.Memory) validated given = tt

-- ---- of one entry

-- a fault is the same fault of another value
pub still_fails : {X Y V W : Type 0} (v : X → V) (w : Y → W) (e : EntryFault) (a : V) (b : W) → Answers {X = X} v (Err e) (Ok a) → Answers {X = Y} w (Err e) (Ok b)
still_fails v w (faults.Bad place) a b h = absurd cc
still_fails v w faults.Memory a b h = tt
