-- Reading values one after the other, as a loop does.
use Rattle.std.proofs.Common.{◌≡◌, ℕ, suc, ◌-◌, ◌+◌, ◌≤◌, ◌<◌, ◌==◌, Bool, List, [], ◌∷◌, ◌++◌, Option, Some, Result, Ok, Err, refl, sym, ap, ◌∙◌, append_assoc, arith}
use Rattle.std.proofs.lemmas.List.{append-nil}
use Rattle.std.proofs.lemmas.Bool.Decides.{nat_tests}
use Rattle.cut_pool.specs.declared.entry.EntryStep.{EntryStep}
use Rattle.problem.specs.Validated.{Validated}
use Rattle.journal_record.specs.declared.fault.ReadFault.{ReadFault}
use Rattle.journal_record.specs.declared.fault.ReadFault.TheVariants as reads
use Rattle.journal_record.specs.Reading.{◌>>=◌, ReadingFails, many, entry_step_at, entry_steps_at}

-- the values that were read before, and those that are still read
abbrev pub with_front : {A : Type 0} → List A → Result (List A × List ℕ) ℕ → Result (List A × List ℕ) ℕ
with_front front read = read >>= λ x. Ok (front ++ x.0, x.1)

regroup : {A : Type 0} (front : List A) (n : A) (read : Result (List A × List ℕ) ℕ) → with_front front (read >>= λ x. Ok (n ∷ x.0, x.1)) ≡ with_front (front ++ n ∷ []) read
regroup {A} front n (Ok x) = ap (λ (ns : List A). Ok (ns, x.1)) (simp append_assoc)
regroup front n (Err f) = refl

pub goes_on : {A : Type 0} (field : List ℕ → Result (A × List ℕ) ℕ) (front : List A) (count i : ℕ) (bytes : List ℕ) (n : A) (after : List ℕ) (total : Result (List A × List ℕ) ℕ) → i < count → field bytes ≡ Ok (n, after)
    → with_front front (many field (count - i) bytes) ≡ total → with_front (front ++ n ∷ []) (many field (count - (i + 1)) after) ≡ total
unfolding many
goes_on field front count i bytes n after total lt h so_far =
    let k : count - i ≡ suc (count - (i + 1)) = omega arith in
    let one : with_front front (many field (count - i) bytes) ≡ with_front (front ++ n ∷ []) (many field (count - (i + 1)) after) = rw (k, h) (regroup front n (many field (count - (i + 1)) after)) in
    sym one ∙ so_far

pub ends : {A : Type 0} (field : List ℕ → Result (A × List ℕ) ℕ) (e : ReadFault) (front : List A) (count i : ℕ) (bytes : List ℕ) (total : Result (List A × List ℕ) ℕ) → i < count → ReadingFails e (field bytes)
    → with_front front (many field (count - i) bytes) ≡ total → ReadingFails e total
unfolding many
ends field reads.Memory front count i bytes total lt h so_far = tt
ends field (reads.Bad f) front count i bytes total lt h so_far =
    let k : count - i ≡ suc (count - (i + 1)) = omega arith in
    let one : with_front front (many field (count - i) bytes) ≡ Err f = rw (k, h) refl in
    sym so_far ∙ one

pub is_done : {A : Type 0} (field : List ℕ → Result (A × List ℕ) ℕ) (front : List A) (count i : ℕ) (bytes : List ℕ) (total : Result (List A × List ℕ) ℕ) → count ≤ i → with_front front (many field (count - i) bytes) ≡ total → total ≡ Ok (front, bytes)
unfolding many
is_done {A} field front count i bytes total le so_far =
    let k : count - i ≡ 0 = omega arith in
    let one : with_front front (many field (count - i) bytes) ≡ Ok (front, bytes) = rw k (ap (λ (ns : List A). Ok (ns, bytes)) (append-nil front)) in
    sym so_far ∙ one

-- ---- the same for steps, each of which is read by the node before it

is_last : (count i : ℕ) → i < count → (i + 1 == count) ≡ (count - (i + 1) == 0)
is_last count i lt = grind (arith, nat_tests)

pub step_goes_on : (p : Validated) (before : Option ℕ) (front : List EntryStep) (count i : ℕ) (bytes : List ℕ) (s : EntryStep) (after : List ℕ) (total : Result (List EntryStep × List ℕ) ℕ) → i < count → entry_step_at p before (i + 1 == count) bytes ≡ Ok (s, after)
    → with_front front (entry_steps_at p before (count - i) bytes) ≡ total → with_front (front ++ s ∷ []) (entry_steps_at p (Some s.node) (count - (i + 1)) after) ≡ total
unfolding entry_steps_at
step_goes_on p before front count i bytes s after total lt h so_far =
    let k : count - i ≡ suc (count - (i + 1)) = omega arith in
    let read : entry_step_at p before (count - (i + 1) == 0) bytes ≡ Ok (s, after) = ap (λ (last : Bool). entry_step_at p before last bytes) (sym (is_last count i lt)) ∙ h in
    let one : with_front front (entry_steps_at p before (count - i) bytes) ≡ with_front (front ++ s ∷ []) (entry_steps_at p (Some s.node) (count - (i + 1)) after) = rw (k, read) (regroup front s (entry_steps_at p (Some s.node) (count - (i + 1)) after)) in
    sym one ∙ so_far

pub step_ends : (p : Validated) (before : Option ℕ) (e : ReadFault) (front : List EntryStep) (count i : ℕ) (bytes : List ℕ) (total : Result (List EntryStep × List ℕ) ℕ) → i < count → ReadingFails e (entry_step_at p before (i + 1 == count) bytes)
    → with_front front (entry_steps_at p before (count - i) bytes) ≡ total → ReadingFails e total
unfolding entry_steps_at
step_ends p before reads.Memory front count i bytes total lt h so_far = tt
step_ends p before (reads.Bad f) front count i bytes total lt h so_far =
    let k : count - i ≡ suc (count - (i + 1)) = omega arith in
    let read : entry_step_at p before (count - (i + 1) == 0) bytes ≡ Err f = ap (λ (last : Bool). entry_step_at p before last bytes) (sym (is_last count i lt)) ∙ h in
    let one : with_front front (entry_steps_at p before (count - i) bytes) ≡ Err f = rw (k, read) refl in
    sym so_far ∙ one

pub steps_done : (p : Validated) (before : Option ℕ) (front : List EntryStep) (count i : ℕ) (bytes : List ℕ) (total : Result (List EntryStep × List ℕ) ℕ) → count ≤ i → with_front front (entry_steps_at p before (count - i) bytes) ≡ total → total ≡ Ok (front, bytes)
unfolding entry_steps_at
steps_done p before front count i bytes total le so_far =
    let k : count - i ≡ 0 = omega arith in
    let one : with_front front (entry_steps_at p before (count - i) bytes) ≡ Ok (front, bytes) = rw k (ap (λ (ns : List EntryStep). Ok (ns, bytes)) (append-nil front)) in
    sym so_far ∙ one
