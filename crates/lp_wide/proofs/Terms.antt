-- One product more in a running sum.
use Rattle.std.proofs.Common.{◌≡◌, ◌∙◌, ℕ, ◌+◌, ◌<◌, ℤ, pos, ◌*ℤ◌, List, length, get_or, drop, Option, Some, None, ap, ap₂}
use Rattle.std.specs.Option.{option_and_then}
use Rattle.std.proofs.lemmas.List.{drop_more, get_or_default}
use Rattle.base_num.specs.Sums.{entry}
use Rattle.lp_wide_table.specs.Numbers.{sum_of}
use Rattle.lp_wide.specs.Activity.{wide_terms_from}
use Rattle.lp_wide.specs.Refine.{shares_from}

module _ (whole : Option ℤ) (terms : List (ℕ × ℤ)) (x : List ℤ) (k : ℕ) (d : ℕ × ℤ) (s : ℤ) where
  term_next : (o : Option ℤ) → k < length terms → sum_of s ((get_or terms k d).1 *ℤ entry x (get_or terms k d).0) ≡ o → whole ≡ wide_terms_from s (drop k terms) x → whole ≡ option_and_then (λ r. wide_terms_from r (drop (k + 1) terms) x) o
  term_next o h e w =
      w ∙ ap (λ (ts : List (ℕ × ℤ)). wide_terms_from s ts x) (drop_more terms k d h)
      ∙ ap (option_and_then (λ r. wide_terms_from r (drop (k + 1) terms) x)) e

  pub term_added : (r : ℤ) → k < length terms → sum_of s ((get_or terms k d).1 *ℤ entry x (get_or terms k d).0) ≡ Some r → whole ≡ wide_terms_from s (drop k terms) x → whole ≡ wide_terms_from r (drop (k + 1) terms) x
  term_added r h e w = term_next (Some r) h e w

  pub term_stops : k < length terms → sum_of s ((get_or terms k d).1 *ℤ entry x (get_or terms k d).0) ≡ None → whole ≡ wide_terms_from s (drop k terms) x → whole ≡ None
  term_stops h e w = term_next None h e w

-- the product of two numbers that were read at a place
pub share_read : (line shifts : List ℤ) (j : ℕ) (a b : ℤ) → j < length line → j < length shifts → a ≡ get_or line j a → b ≡ get_or shifts j b → a *ℤ b ≡ entry line j *ℤ entry shifts j
share_read line shifts j a b h i e f = ap₂ (λ (y z : ℤ). y *ℤ z) (e ∙ get_or_default line j a (pos 0) h) (f ∙ get_or_default shifts j b (pos 0) i)

module _ (whole : Option ℤ) (line shifts : List ℤ) (j : ℕ) (s : ℤ) where
  share_next : (o : Option ℤ) → j < length line → j < length shifts → sum_of s (entry line j *ℤ entry shifts j) ≡ o → whole ≡ shares_from s (drop j line) (drop j shifts) → whole ≡ option_and_then (λ r. shares_from r (drop (j + 1) line) (drop (j + 1) shifts)) o
  share_next o h i e w =
      w ∙ ap₂ (shares_from s) (drop_more line j (pos 0) h) (drop_more shifts j (pos 0) i)
      ∙ ap (option_and_then (λ r. shares_from r (drop (j + 1) line) (drop (j + 1) shifts))) e

  pub share_added : (r : ℤ) → j < length line → j < length shifts → sum_of s (entry line j *ℤ entry shifts j) ≡ Some r → whole ≡ shares_from s (drop j line) (drop j shifts) → whole ≡ shares_from r (drop (j + 1) line) (drop (j + 1) shifts)
  share_added r h i e w = share_next (Some r) h i e w

  pub share_stops : j < length line → j < length shifts → sum_of s (entry line j *ℤ entry shifts j) ≡ None → whole ≡ shares_from s (drop j line) (drop j shifts) → whole ≡ None
  share_stops h i e w = share_next None h i e w
