-- The sums of the slopes of a list of certificates, in a table with one entry per state.
use Rattle.std.proofs.Common.{◌≡◌, ℕ, ◌-◌, ◌^◌, ◌<◌, ◌≤◌, ℤ, pos, ◌+ℤ◌, ◌-ℤ◌, ◌*ℤ◌, ◌≤ℤ◌, true, List, [], ◌∷◌, length, get_or, zip, sum, All, SFits, arith, ap, sym, ◌∙◌}
use mir.Syntax.{w128}
use Rattle.std.specs.List.{list_all}
use Rattle.std.proofs.lemmas.Bool.Decides.{nat_tests}
use Rattle.std.proofs.lemmas.Int.{ints}
use Rattle.std.proofs.lemmas.List.Sums.{sum_by-cons}
use Rattle.base_num.specs.Sums.{total, entry}
use Rattle.base_num.proofs.Order.{le_trans}
use Rattle.base_num.proofs.Ring.{ring, var, ◌⊕◌, ◌⊗◌, ⊖}
use Rattle.base_num.proofs.Tests.{all_at}
use Rattle.problem.specs.Limits.{terms_fit, row_fits, subproblem_fits}
use Rattle.problem.specs.declared.parts.Node as nodes
use Rattle.problem.specs.declared.parts.Row.{Row}
use Rattle.problem.specs.declared.parts.Subproblem.{Subproblem}
use Rattle.theory.specs.declared.cut.Cut.{Cut}
use Rattle.theory.specs.declared.cut.Certificate.{Certificate}
use Rattle.theory.specs.Problem.{Realization, Node, reweighted}
use Rattle.theory.specs.View.{realizations_of}
use Rattle.theory.specs.CutOf.{beta_sum}
use Rattle.theory.specs.Size.{magnitude}
use Rattle.theory.proofs.ValidatedParts.{counted}
use Rattle.theory.proofs.SizeToFit.{beta_sum_size}
use Rattle.cut_make.specs.Parts.{repeated, slope_size}
use Rattle.cut_make.specs.Sized.{Sized}
use Rattle.cut_make.specs.Tabled.{Tabled}
use Rattle.cut_make.proofs.Congruence.{exact, in_range}
use Rattle.cut_make.proofs.SizeParts.{terms_inside}

-- the costs and terms of the states have their places in a table
row_states : (s : Subproblem) (states : ℕ) (row : Row) → row_fits states s row ≡ true → terms_fit states 0 row.states ≡ true
row_states s states row e = grind (arith, nat_tests)

pub rows_fit : (s : Subproblem) (states : ℕ) → subproblem_fits states s ≡ true → list_all (row_fits states s) s.rows ≡ true
rows_fit s states e = grind (arith, nat_tests)

module _ (pools : List (List Cut)) (n : nodes.Node) (s : Subproblem) (low : List ℤ) (ws : List ℕ) (z : Sized pools n s low ws) (size : ℕ) (h : 50 ≤ size) where
  pub costs_inside : length s.state_costs ≤ size
  costs_inside = let c = (counted s (length low) z.subproblem).0 in omega (arith, c, z.states, h)

  pub rows_inside : All (λ (row : Row). All (λ (t : ℕ × ℤ). t.0 < size) row.states) s.rows
  rows_inside = λ k row i j t l.
      let b = terms_inside (length low) 0 (get_or s.rows k row).states (row_states s (length low) (get_or s.rows k row) (all_at (row_fits (length low) s) s.rows k row (rows_fit s (length low) z.subproblem) i)) j t l in
      omega (arith, b, z.states, h)

-- an entry is the sum itself, where that is in range
pub read_slope : (n : Node) (list : List Certificate) (xs : List ℤ) (k : ℕ) → k < length xs → SFits w128 (entry xs k) → Tabled (beta_sum n list) xs → slope_size n list k ≤ℤ pos (2 ^ 127 - 1) → entry xs k ≡ beta_sum n list k
read_slope n list xs k h fits table size =
    exact (entry xs k) (beta_sum n list k) fits
    (in_range (beta_sum n list k) (le_trans (magnitude (beta_sum n list k)) (slope_size n list k) (pos (2 ^ 127 - 1)) (beta_sum_size n list k) size)) (table k h)

-- the part that all realizations have, less the parts of their certificates
pub split_sum : (a : ℤ) (g : Certificate → ℤ) (ws vs : List ℕ) (xs : List (List ℤ)) (list : List Certificate) → length ws ≡ length vs → length xs ≡ length vs → length list ≡ length vs
    → total (λ (q : Realization × Certificate). pos q.0.weight *ℤ (a -ℤ g q.1)) (zip (reweighted ws (realizations_of vs xs)) list) ≡ pos (sum ws) *ℤ a -ℤ total (λ (q : Realization × Certificate). pos q.0.weight *ℤ g q.1) (zip (reweighted ws (realizations_of vs xs)) list)
split_sum a g [] vs xs list e h k = omega (arith, ints)
split_sum a g (w ∷ ws) [] xs list e h k = absurd (omega arith)
split_sum a g (w ∷ ws) (v ∷ vs) [] list e h k = absurd (omega arith)
split_sum a g (w ∷ ws) (v ∷ vs) (x ∷ xs) [] e h k = absurd (omega arith)
split_sum a g (w ∷ ws) (v ∷ vs) (x ∷ xs) (c ∷ list) e h k =
    let tail : ℤ = total (λ (q : Realization × Certificate). pos q.0.weight *ℤ g q.1) (zip (reweighted ws (realizations_of vs xs)) list) in
    ap (λ (z : ℤ). pos w *ℤ (a -ℤ g c) +ℤ z) (split_sum a g ws vs xs list (omega arith) (omega arith) (omega arith))
    ∙ ring (pos w ∷ pos (sum ws) ∷ a ∷ g c ∷ tail ∷ []) (var 0 ⊗ (var 2 ⊕ ⊖ (var 3)) ⊕ (var 1 ⊗ var 2 ⊕ ⊖ (var 4))) ((var 0 ⊕ var 1) ⊗ var 2 ⊕ ⊖ (var 0 ⊗ var 3 ⊕ var 4)) tt
    ∙ ap (λ (z : ℕ). pos z *ℤ a -ℤ (pos w *ℤ g c +ℤ tail)) (sym (sum_by-cons (λ (z : ℕ). z) w ws))

-- one certificate at all realizations
pub repeated_sum : (f : Certificate → ℤ) (c : Certificate) (ws vs : List ℕ) (xs : List (List ℤ)) → length ws ≡ length vs → length xs ≡ length vs
    → total (λ (q : Realization × Certificate). pos q.0.weight *ℤ f q.1) (zip (reweighted ws (realizations_of vs xs)) (repeated c ws)) ≡ pos (sum ws) *ℤ f c
repeated_sum f c [] vs xs e g = omega (arith, ints)
repeated_sum f c (w ∷ ws) [] xs e g = absurd (omega arith)
repeated_sum f c (w ∷ ws) (v ∷ vs) [] e g = absurd (omega arith)
repeated_sum f c (w ∷ ws) (v ∷ vs) (x ∷ xs) e g =
    ap (λ (k : ℤ). pos w *ℤ f c +ℤ k) (repeated_sum f c ws vs xs (omega arith) (omega arith))
    ∙ ring (pos w ∷ pos (sum ws) ∷ f c ∷ []) (var 0 ⊗ var 2 ⊕ var 1 ⊗ var 2) ((var 0 ⊕ var 1) ⊗ var 2) tt
    ∙ ap (λ (k : ℕ). pos k *ℤ f c) (sym (sum_by-cons (λ (k : ℕ). k) w ws))
