-- Terms within the limits of a validated problem.
use Rattle.std.proofs.Common.{◌≡◌, ℕ, zero, suc, ◌+◌, ◌-◌, ◌<◌, ◌≤◌, ◌^◌, true, List, [], ◌∷◌, length, get_or, nat_abs, arith}
use Rattle.std.proofs.lemmas.Bool.Decides.{nat_tests}
use Rattle.base_num.proofs.Tests.{and_first, and_second}
use Rattle.base_num.specs.Sums.{Term}
use Rattle.problem.specs.Limits.{term_fits, terms_fit}

-- a term's number is in order and below the count, and its factor is small
pub record TermFits (count least : ℕ) (t : Term) : Type 0 where
  pub above : least ≤ t.0
  pub below : t.0 < count
  pub small : nat_abs t.1 ≤ 2 ^ 40

pub term_facts : (count least : ℕ) (t : Term) → term_fits count least t ≡ true → TermFits count least t
term_facts count least t e = record { above = grind (arith, nat_tests, e); below = grind (arith, nat_tests, e); small = grind (arith, nat_tests, e) }

pub term_at : (count least : ℕ) (ts : List Term) (i : ℕ) (d : Term) → terms_fit count least ts ≡ true → i < length ts → TermFits count least (get_or ts i d)
term_at count least [] i d e h = absurd (omega arith)
term_at count least (t ∷ ts) zero d e h = term_facts count least t (and_first (term_fits count least t) (terms_fit count (t.0 + 1) ts) e)
term_at count least (t ∷ ts) (suc i) d e h =
    let first = term_facts count least t (and_first (term_fits count least t) (terms_fit count (t.0 + 1) ts) e) in
    let tail = term_at count (t.0 + 1) ts i d (and_second (term_fits count least t) (terms_fit count (t.0 + 1) ts) e) (omega arith) in
    record { above = omega (arith, first.above, tail.above); below = tail.below; small = tail.small }

few_from : (count least : ℕ) (ts : List Term) → terms_fit count least ts ≡ true → length ts ≤ count - least
few_from count least [] e = omega arith
few_from count least (t ∷ ts) e =
    let first = term_facts count least t (and_first (term_fits count least t) (terms_fit count (t.0 + 1) ts) e) in
    let tail = few_from count (t.0 + 1) ts (and_second (term_fits count least t) (terms_fit count (t.0 + 1) ts) e) in
    omega (arith, first.above, first.below, tail)

-- there are no more than the count
pub terms_few : (count : ℕ) (ts : List Term) → terms_fit count 0 ts ≡ true → length ts ≤ count
terms_few count ts e = omega (arith, few_from count 0 ts e)
