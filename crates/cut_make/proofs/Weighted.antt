-- The realizations of a node with given weights, each beside its certificate.
use Rattle.std.proofs.Common.{◌≡◌, ℕ, zero, suc, ◌<◌, ◌≤◌, ℤ, List, [], ◌∷◌, length, get_or, zip, sum, ◌+◌, All, arith, refl, ap, sym, subst, ◌∙◌}
use Rattle.std.proofs.lemmas.Slice.Zip.{get_or-zip, length-zip}
use Rattle.theory.specs.declared.cut.Certificate.{Certificate}
use Rattle.theory.specs.Problem.{Realization, reweighted, weight_of_realizations}
use Rattle.theory.specs.View.{realizations_of}
use Rattle.std.proofs.lemmas.List.Sums.{sum_by-cons}

pub reweighted_at : (ws vs : List ℕ) (xs : List (List ℤ)) (r : ℕ) (d : Realization) → r < length ws → length ws ≡ length vs → length xs ≡ length vs
    → get_or (reweighted ws (realizations_of vs xs)) r d ≡ record { weight = get_or ws r 0; values = get_or xs r d.values }
reweighted_at [] vs xs r d h e f = absurd (omega arith)
reweighted_at (w ∷ ws) [] xs r d h e f = absurd (omega arith)
reweighted_at (w ∷ ws) (v ∷ vs) [] r d h e f = absurd (omega arith)
reweighted_at (w ∷ ws) (v ∷ vs) (x ∷ xs) zero d h e f = refl
reweighted_at (w ∷ ws) (v ∷ vs) (x ∷ xs) (suc r) d h e f = reweighted_at ws vs xs r d (omega arith) (omega arith) (omega arith)

length-reweighted : (ws vs : List ℕ) (xs : List (List ℤ)) → length ws ≡ length vs → length xs ≡ length vs → length (reweighted ws (realizations_of vs xs)) ≡ length ws
length-reweighted [] vs xs e f = refl
length-reweighted (w ∷ ws) [] xs e f = absurd (omega arith)
length-reweighted (w ∷ ws) (v ∷ vs) [] e f = absurd (omega arith)
length-reweighted (w ∷ ws) (v ∷ vs) (x ∷ xs) e f = ap suc (length-reweighted ws vs xs (omega arith) (omega arith))

module _ (ws vs : List ℕ) (xs : List (List ℤ)) (list : List Certificate) (e : length ws ≡ length vs) (f : length xs ≡ length vs) (g : length list ≡ length vs) where
  length-weighted : length (zip (reweighted ws (realizations_of vs xs)) list) ≡ length ws
  length-weighted = omega (arith, length-zip (reweighted ws (realizations_of vs xs)) list, length-reweighted ws vs xs e f)

  pub weighted_inside : (r : ℕ) → r < length ws → r < length (zip (reweighted ws (realizations_of vs xs)) list)
  weighted_inside r h = subst (λ (k : ℕ). r < k) (sym length-weighted) h

  pub weighted_all : (r : ℕ) → length ws ≤ r → length (zip (reweighted ws (realizations_of vs xs)) list) ≤ r
  weighted_all r h = subst (λ (k : ℕ). k ≤ r) (sym length-weighted) h

  pub weighted_at : (r : ℕ) (d : Realization × Certificate) → r < length ws
      → get_or (zip (reweighted ws (realizations_of vs xs)) list) r d ≡ (record { weight = get_or ws r 0; values = get_or xs r d.0.values }, get_or list r d.1)
  weighted_at r d h =
      get_or-zip (reweighted ws (realizations_of vs xs)) list r d (omega (arith, length-reweighted ws vs xs e f)) (omega arith)
      ∙ ap (λ (q : Realization). (q, get_or list r d.1)) (reweighted_at ws vs xs r d.0 h e f)

-- their total weight
pub weight-reweighted : (ws vs : List ℕ) (xs : List (List ℤ)) → length ws ≡ length vs → length xs ≡ length vs → weight_of_realizations (reweighted ws (realizations_of vs xs)) ≡ sum ws
weight-reweighted [] vs xs e f = refl
weight-reweighted (w ∷ ws) [] xs e f = absurd (omega arith)
weight-reweighted (w ∷ ws) (v ∷ vs) [] e f = absurd (omega arith)
weight-reweighted (w ∷ ws) (v ∷ vs) (x ∷ xs) e f = ap (λ (k : ℕ). w + k) (weight-reweighted ws vs xs (omega arith) (omega arith)) ∙ sym (sum_by-cons (λ k. k) w ws)

pub some_weight : (ws : List ℕ) → 0 < length ws → All (λ w. 1 ≤ w) ws → 0 < sum ws
some_weight [] h k = absurd (omega arith)
some_weight (w ∷ ws) h k = let one : 1 ≤ w = k 0 0 (omega arith) in let all : sum (w ∷ ws) ≡ w + sum ws = sum_by-cons (λ k. k) w ws in omega arith
