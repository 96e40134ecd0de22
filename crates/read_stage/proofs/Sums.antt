-- Sums of coefficients stay small.
use Rattle.std.proofs.Common.{◌≡◌, ◌≤◌, ◌+◌, ◌^◌, ℕ, suc, ℤ, pos, ◌+ℤ◌, List, get_or, slice_get, Option, Some, None, Result, Ok, unsigned_abs, position, codes, refl, subst, arith}
use Rattle.std.specs.List.{All}
use Rattle.std.specs.Str.{bytes_eq}
use Rattle.std.proofs.lemmas.Int.{ints}
use Rattle.std.proofs.lemmas.List.Elements.{All-set, All-get_or, All-replicate}
use Rattle.std.proofs.lemmas.Option.{slice_get_within, get_or_from_slice_get}
use Rattle.serde_json.specs.Data.{Data}
use Rattle.serde_json.specs.Find.{get}
use Rattle.problem.specs.declared.refusal.Refusal.{Refusal}
use Rattle.problem.specs.declared.refusal.Place.{Place}
use Rattle.read_json.specs.Steps.{◌>>=◌}
use Rattle.read_json.specs.Fields.{present_at, string_at, whole_at}
use Rattle.read_json.specs.Limits.{known_at}
use Rattle.read_json.proofs.Answered.{step-Ok, whole_at-Ok}
use Rattle.read_stage.specs.declared.function.Site.{Site}
use Rattle.read_stage.specs.Function.{site_place, zeros, raised, raised_by, term_at}

abbrev pub AllBelow : ℕ → List ℤ → Type 0
AllBelow b xs = All (λ z. unsigned_abs z ≤ b) xs

pub AllBelow-more : (b c : ℕ) (xs : List ℤ) → b ≤ c → AllBelow b xs → AllBelow c xs
AllBelow-more b c xs le h = λ k d lt. omega (arith, h k d lt)

pub AllBelow-zeros : (b n : ℕ) → AllBelow b (zeros n)
AllBelow-zeros b n = All-replicate (λ z. unsigned_abs z ≤ b) n (pos 0) (omega arith)

sum_below : (b : ℕ) (s c : ℤ) → unsigned_abs s ≤ b → unsigned_abs c ≤ 2 ^ 40 → unsigned_abs (s +ℤ c) ≤ b + 2 ^ 40
sum_below b s c h k = omega (arith, ints)

raised_by-below : (b : ℕ) (o : Option ℤ) (sums : List ℤ) (v : ℕ) (c : ℤ) → slice_get sums v ≡ o → unsigned_abs c ≤ 2 ^ 40 → AllBelow b sums → AllBelow (b + 2 ^ 40) (raised_by o sums v c)
raised_by-below b None sums v c is small h = AllBelow-more b (b + 2 ^ 40) sums (omega arith) h
raised_by-below b (Some s) sums v c is small h =
    let read : get_or sums v s ≡ s = get_or_from_slice_get sums v s s is in
    let there = All-get_or (λ z. unsigned_abs z ≤ b) sums v s (slice_get_within sums v s is) h in
    let before : unsigned_abs s ≤ b = subst (λ z. unsigned_abs z ≤ b) read there in
    All-set (λ z. unsigned_abs z ≤ b + 2 ^ 40) sums v (s +ℤ c) (sum_below b s c before small) (AllBelow-more b (b + 2 ^ 40) sums (omega arith) h)

raised-below : (b : ℕ) (sums : List ℤ) (v : ℕ) (c : ℤ) → unsigned_abs c ≤ 2 ^ 40 → AllBelow b sums → AllBelow (b + 2 ^ 40) (raised sums v c)
unfolding raised
raised-below b sums v c small h = raised_by-below b (slice_get sums v) sums v c refl small h

-- each term adds at most 2^40
pub term_at-below : (names : List (List ℕ)) (site : Site) (sums next : List ℤ) (t b : ℕ) (d : Data) → term_at names site sums t d ≡ Ok next → AllBelow b sums → AllBelow (b + 2 ^ 40) next
unfolding term_at
term_at-below names site sums next t b d is h =
    let p : Place = site_place site (suc t) in
    let last : ℤ → ℕ → Result (List ℤ) Refusal = λ c v. Ok (raised sums v c) in
    let fourth : ℤ → List ℕ → Result (List ℤ) Refusal = λ c name. known_at p (position (bytes_eq name) names) >>= last c in
    let third : ℤ → Data → Result (List ℤ) Refusal = λ c inner. string_at p inner >>= fourth c in
    let second : ℤ → Result (List ℤ) Refusal = λ c. present_at p (get (codes "variable") d) >>= third c in
    let first : Data → Result (List ℤ) Refusal = λ inner. whole_at p inner >>= second in
    let number = step-Ok (present_at p (get (codes "coefficient") d)) first next is in
    let coefficient = step-Ok (whole_at p number.0) second next number.2 in
    let inner = step-Ok (present_at p (get (codes "variable") d)) (third coefficient.0) next coefficient.2 in
    let name = step-Ok (string_at p inner.0) (fourth coefficient.0) next inner.2 in
    let v = step-Ok (known_at p (position (bytes_eq name.0) names)) (last coefficient.0) next name.2 in
    let so : raised sums v.0 coefficient.0 ≡ next = cc in
    subst (AllBelow (b + 2 ^ 40)) so (raised-below b sums v.0 coefficient.0 (whole_at-Ok p number.0 coefficient.0 coefficient.1) h)
