-- The problem that the bytes give is of the parts that were read, and what holds of each problem holds of it.
use Rattle.std.proofs.Common.{◌≡◌, ℕ, ℤ, true, List, Result, Ok, Err, refl, ap, ◌∙◌}
use Rattle.problem.specs.declared.parts.ProblemParts.{ProblemParts}
use Rattle.problem.specs.declared.refusal.Refusal.{Refusal}
use Rattle.problem.specs.Validated.{Validated, is_validated}
use Rattle.problem.specs.Arranged.{ordered, boxed, with_boxes, with_order, arranged}
use Rattle.problem.proofs.Fitting.{arranged_validated}
use Rattle.read_json.specs.Steps.{◌>>=◌}
use Rattle.read_file.specs.Problem.{problem_at}
use Rattle.read_file.specs.Read.{problem_parts_of}
use Rattle.read_file.proofs.ReadFits.{parts_are_lawful-read}

same_Ok : (s t : Validated) → ◌≡◌ {A = Result Validated Refusal} (Ok s) (Ok t) → s ≡ t
same_Ok s t h = cc

parts : {A B E : Type 0} (part : Result A E) (f : A → Result B E) (y : B) → (part >>= f) ≡ Ok y → (x : A) × (part ≡ Ok x) × (f x ≡ Ok y)
parts (Err e) f y h = absurd cc
parts (Ok x) f y h = (x, refl, h)

parts_with_boxes : (parts : ProblemParts) (o : List ℕ × ℕ) (b : Result (List (List ℤ) × List (List ℤ)) Refusal) (s : Validated) → with_boxes parts o b ≡ Ok s → parts ≡ s.parts
parts_with_boxes parts o (Err e) s h = absurd cc
parts_with_boxes parts o (Ok b) s h = ap (λ (q : Validated). q.parts) (same_Ok (record { parts = parts; order = o.0; longest = o.1; lo = b.0; hi = b.1 }) s h)

parts_with_order : (parts : ProblemParts) (o : Result (List ℕ × ℕ) Refusal) (s : Validated) → with_order parts o ≡ Ok s → parts ≡ s.parts
parts_with_order parts (Err e) s h = absurd cc
parts_with_order parts (Ok o) s h = parts_with_boxes parts o (boxed parts) s h

-- arranging changes no part
parts_arranged : (parts : ProblemParts) (s : Validated) → arranged parts ≡ Ok s → parts ≡ s.parts
unfolding arranged
parts_arranged parts s h = parts_with_order parts (ordered parts) s h

pub read_validated : (bytes : List ℕ) (s : Validated) → problem_at bytes ≡ Ok s → is_validated s ≡ true
unfolding problem_at
read_validated bytes s h =
    let r = parts (problem_parts_of bytes) arranged s h in
    arranged_validated r.0 s (parts_are_lawful-read bytes r.0 r.1) r.2

pub read_problem_parts : (bytes : List ℕ) (s : Validated) → problem_at bytes ≡ Ok s → problem_parts_of bytes ≡ Ok s.parts
unfolding problem_at
read_problem_parts bytes s h =
    let r = parts (problem_parts_of bytes) arranged s h in
    r.1 ∙ ap Ok (parts_arranged r.0 s r.2)
