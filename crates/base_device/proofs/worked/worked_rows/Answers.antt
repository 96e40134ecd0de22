-- Bytes that a crash may not leave differ in a byte or in their length from all that it may.
use Rattle.std.proofs.Common.{inr, ⊎_elim, List, ℕ, [], ◌∷◌, take, length, get_or, refl, ap, arith, ◌∙◌}
use Rattle.base_device.proofs.worked.worked_rows.Goals as goal

pub returns-clause-inside : goal.returns-clause-inside
returns-clause-inside c = inr (97 ∷ 98 ∷ 99 ∷ [], refl, record { before = refl; after = refl; no_shorter = omega arith; no_longer = omega arith })

pub returns-clause-outside : goal.returns-clause-outside
returns-clause-outside c left =
    ⊎_elim
    (λ is. omega (arith, ap (λ (l : List ℕ). get_or l 0 0) is))
    (λ torn. omega (arith, ap (λ (l : List ℕ). get_or l 0 0) (torn.2.before ∙ ap (λ (l : List ℕ). take 1 l) torn.1)))
    left

pub returns-clause-shorter : goal.returns-clause-shorter
returns-clause-shorter c = inr (97 ∷ 98 ∷ 99 ∷ [], refl, record { no_shorter = omega arith; front = refl })

pub returns-clause-too_short : goal.returns-clause-too_short
returns-clause-too_short c left =
    ⊎_elim
    (λ is. omega (arith, ap (λ (l : List ℕ). length l) is))
    (λ cut. omega (arith, cut.2.no_shorter, ap (λ (l : List ℕ). length l) cut.1))
    left

pub returns-clause-settled : goal.returns-clause-settled
returns-clause-settled c left =
    ⊎_elim (λ is. omega (arith, ap (λ (l : List ℕ). get_or l 1 0) is)) (λ is. omega (arith, ap (λ (l : List ℕ). get_or l 1 0) is)) left
