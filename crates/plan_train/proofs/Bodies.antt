-- The entries of an iteration can be written.
use Rattle.std.proofs.Common.{◌≡◌, ℕ, zero, suc, ◌+◌, ◌*◌, ◌-◌, ◌≤◌, ◌^◌, true, List, [], ◌∷◌, ◌++◌, length, Ok, ap, subst, None, arith}
use Rattle.std.specs.Int.{w32, to_be_bytes}
use Rattle.std.specs.List.{AllByRecursion}
use Rattle.problem.specs.Formulas.{too_much}
use Rattle.problem.specs.Validated.{Validated, is_validated}
use Rattle.theory.specs.declared.cut.Cut.{Cut}
use Rattle.theory.specs.Pools.{pool}
use Rattle.cut_pool.specs.AtNodes.{PoolsFit}
use Rattle.cut_pool.specs.declared.entry.Entry.{Entry}
use Rattle.journal_record.specs.Shape.{Writable}
use Rattle.journal_record.specs.Spelling.{spell}
use Rattle.journal_file.specs.Layout.{body_of}
use Rattle.lp_program.specs.Solving.{Solving}
use Rattle.plan_train.specs.Stepping.{Stepped, training_step}
use Rattle.plan_train.proofs.Formulas.{is_recorded}

-- the entries of an iteration can be written in a record
pub record IsWritten (p : Validated) (es : List Entry) : Type 0 where
  pub shape : AllByRecursion (Writable p) es
  pub short : length (spell es) ≤ 2 ^ 26
  pub few : length es ≤ 64

pub is_written : {Start Chain : Type 0} (v : Solving Start Chain) (p : Validated) (pools : List (List Cut)) (seed batch k : ℕ) (s : Stepped) → is_validated p ≡ true → PoolsFit p pools
    → batch ≤ 64 → 1 ≤ k → k ≤ 2000 → ((m : ℕ) → length (pool pools m) ≤ 1 + (k - 1) * batch) → too_much p k batch ≡ None
    → training_step v p pools seed batch k ≡ Ok s → IsWritten p s.entries
is_written v p pools seed batch zero s validated fit most first last cuts room step = absurd (omega (arith, first))
is_written v p pools seed batch (suc k) s validated fit most first last cuts room step =
    let few : (m : ℕ) → length (pool pools m) ≤ 1 + k * batch = λ m. subst (λ i. length (pool pools m) ≤ 1 + i * batch) (omega arith) (cuts m) in
    let r = is_recorded v p validated pools seed batch k (suc k) s fit few (omega arith) last most room step in
    record { shape = r.iteration.written.each; short = r.short; few = omega (arith, r.iteration.written.counted, most) }

-- the bytes of a body, one part after another
pub body_parts : (payload : List ℕ) (n : ℕ) → n ≡ length payload → ([] ++ to_be_bytes w32 n ++ payload) ++ 0 ∷ [] ≡ body_of payload
unfolding body_of
body_parts payload n is = ap (λ (k : ℕ). to_be_bytes w32 k ++ payload ++ 0 ∷ []) is
