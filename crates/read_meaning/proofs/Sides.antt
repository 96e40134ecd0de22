-- The bounds that a subproblem gives for its incoming states are sides of the boxes of its nodes.
use Rattle.std.proofs.Common.{◌≡◌, ℕ, zero, suc, ◌<◌, ℤ, Bool, true, List, [], ◌∷◌, length, get_or, slice_get, zip, Option, Some, None, ap, subst, arith}
use Rattle.std.specs.List.{list_all}
use Rattle.std.proofs.lemmas.Bool.Decides.{nat_tests, Decides-int_eq}
use Rattle.std.proofs.lemmas.Option.{slice_get-get_or}
use Rattle.base_num.specs.Sums.{entry}
use Rattle.base_num.proofs.Tests.{and_first, and_second}
use Rattle.problem.specs.declared.parts.Node as nodes
use Rattle.problem.specs.declared.parts.ProblemParts.{ProblemParts}
use Rattle.problem.specs.declared.parts.Subproblem.{Subproblem}
use Rattle.problem.specs.Parts.{own_subproblem}
use Rattle.problem.specs.Validated.{Validated, is_validated, boxes_fit, bounds_stand, are_given, is_given, given_lows, given_highs}
use Rattle.problem.proofs.ValidatedFacts.{boxes-is_validated}
use Rattle.theory.proofs.ValidatedParts.{PartsFit}

-- the bounds that are given are sides of the box
pub record Stands (given : List (Option ℤ)) (side : List ℤ) : Type 0 where
  pub is : (k : ℕ) → k < length side → (b : ℤ) → get_or given k None ≡ Some b → b ≡ entry side k

-- a test of pairs holds of what stands at one place
zipped : {A B : Type 0} (test : A × B → Bool) (xs : List A) (ys : List B) (i : ℕ) (x : A) (y : B) → list_all test (zip xs ys) ≡ true → slice_get xs i ≡ Some x → slice_get ys i ≡ Some y → test (x, y) ≡ true
zipped test [] ys i x y h e f = absurd cc
zipped test (a ∷ xs) [] i x y h e f = absurd cc
zipped test (a ∷ xs) (b ∷ ys) zero x y h e f =
    let one : a ≡ x = cc in
    let two : b ≡ y = cc in
    let first : test (a, b) ≡ true = and_first (test (a, b)) (list_all test (zip xs ys)) h in
    rw (one, two) at first
zipped test (a ∷ xs) (b ∷ ys) (suc i) x y h e f = zipped test xs ys i x y (and_second (test (a, b)) (list_all test (zip xs ys)) h) e f

there : (os : List (Option ℤ)) (k : ℕ) (b : ℤ) → get_or os k None ≡ Some b → slice_get os k ≡ Some (Some b)
there [] k b e = absurd cc
there (o ∷ os) zero b e = ap Some e
there (o ∷ os) (suc k) b e = there os k b e

stands_of : (given : List (Option ℤ)) (side : List ℤ) → are_given given side ≡ true → Stands given side
stands_of given side h = record {
  is = λ k l b e. (Decides-int_eq b (entry side k)).0 (zipped (λ (p : Option ℤ × ℤ). is_given p.0 p.1) given side k (Some b) (entry side k) h (there given k b e) (slice_get-get_or side k _ l));
}

bounds-validated : (s : Validated) → is_validated s ≡ true → bounds_stand s.parts s.lo s.hi ≡ true
unfolding boxes_fit
bounds-validated s e = let b : boxes_fit s.parts s.lo s.hi ≡ true = boxes-is_validated s e in grind (arith, nat_tests, b)

bounds_of : (parts : ProblemParts) (lo hi : List (List ℤ)) → bounds_stand parts lo hi ≡ true
    → (list_all (λ (p : nodes.Node × List ℤ). are_given (given_lows (own_subproblem parts p.0)) p.1) (zip parts.nodes lo) ≡ true) × (list_all (λ (p : nodes.Node × List ℤ). are_given (given_highs (own_subproblem parts p.0)) p.1) (zip parts.nodes hi) ≡ true)
unfolding bounds_stand
bounds_of parts lo hi e = (and_first _ _ e, and_second _ _ e)

module _ (s : Validated) (e : is_validated s ≡ true) (m : ℕ) (n : nodes.Node) (sub : Subproblem) (low high : List ℤ) (fit : PartsFit s m n sub low high) where
  pub lows_stand : Stands sub.low low
  lows_stand =
      let all = (bounds_of s.parts s.lo s.hi (bounds-validated s e)).0 in
      let at : are_given (given_lows (own_subproblem s.parts n)) low ≡ true = zipped _ s.parts.nodes s.lo m n low all fit.the_node fit.the_low in
      stands_of sub.low low (subst (λ (o : Option Subproblem). are_given (given_lows o) low ≡ true) fit.the_subproblem at)

  pub highs_stand : Stands sub.high high
  highs_stand =
      let all = (bounds_of s.parts s.lo s.hi (bounds-validated s e)).1 in
      let at : are_given (given_highs (own_subproblem s.parts n)) high ≡ true = zipped _ s.parts.nodes s.hi m n high all fit.the_node fit.the_high in
      stands_of sub.high high (subst (λ (o : Option Subproblem). are_given (given_highs o) high ≡ true) fit.the_subproblem at)
