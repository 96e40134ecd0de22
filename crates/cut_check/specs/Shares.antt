-- The shares of a list of certificates: the size and the constant of each realization, which no weight changes.
use Rattle.std.specs.Prelude.{◌≡◌, ℕ, ◌^◌, ◌<◌, ℤ, List, [], length, get_or, min, slice_get, zip, IsSome, Option, Some, None, Result, Ok, Err}
use Rattle.std.specs.List.{sum_by}
use Rattle.problem.specs.declared.parts.Node as nodes
use Rattle.problem.specs.declared.parts.Subproblem.{Subproblem}
use Rattle.problem.specs.Validated.{Validated, subproblem_of}
use Rattle.theory.specs.declared.cut.Cut.{Cut}
use Rattle.theory.specs.declared.cut.Certificate.{Certificate}
use Rattle.theory.specs.Problem.{Node, node_at}
use Rattle.theory.specs.CutOf.{scale, alpha_sum}
use Rattle.theory.specs.View.{node_of, problem_of}
use Rattle.cut_check.specs.declared.reweighting.shares.Share.{Share}
use Rattle.cut_check.specs.declared.reweighting.weighted.Sums.{Sums}
use Rattle.cut_make.specs.Acceptance.{right_fault}
use Rattle.cut_make.specs.Congruent.{Congruent}
use Rattle.cut_make.specs.Parts.{constant_at_scale}
use Rattle.cut_make.specs.SizeByTerms.{certificate_amount, weighted_amount}
use Rattle.cut_make.specs.Sized.{Passes, unboxed}

-- the size of a certificate at these values, none above 2^127, and A_r where it is below that
pub record IsShare (pools : List (List Cut)) (n : nodes.Node) (s : Subproblem) (low high values : List ℤ) (c : Certificate) (share : Share) : Type 0 where
  pub size : share.size ≡ min (certificate_amount n s low high pools (values, c)) (2 ^ 127)
  pub constant : share.size < 2 ^ 127 → Congruent share.constant (constant_at_scale (scale (node_of n s [] [])) pools n s values c)

-- a share for each realization
pub record Shares (pools : List (List Cut)) (n : nodes.Node) (s : Subproblem) (low high : List ℤ) (list : List Certificate) (shares : List Share) : Type 0 where
  pub count : length shares ≡ length list
  pub each : (r : ℕ) (x : Share) (v : List ℤ) (c : Certificate) → r < length shares → IsShare pools n s low high (get_or n.values r v) (get_or list r c) (get_or shares r x)

-- the shares of certificates that are right at the node k; none of others
abbrev pub SharesOf : List (List Cut) → nodes.Node → Subproblem → List ℤ → List ℤ → Node → List Certificate → Option (List Share) → Type 0
SharesOf pools n s low high k list None = IsSome (right_fault pools k list)
SharesOf pools n s low high k list (Some shares) = (right_fault pools k list ≡ None) × Shares pools n s low high list shares

-- the sums of the shares by these weights, or the first realization that brings the size above 2^127 - 1
abbrev pub SumsTo : List (List Cut) → nodes.Node → Subproblem → List ℤ → List ℤ → List ℕ → List Certificate → Result Sums ℕ → Type 0
SumsTo pools n s low high ws list (Ok sums) =
    (sums.size.total ≡ sum_by (weighted_amount n s low high pools) (zip ws (zip n.values list))) × Congruent sums.constant (alpha_sum pools (unboxed ws n s) list)
SumsTo pools n s low high ws list (Err r) = Passes (weighted_amount n s low high pools) (zip ws (zip n.values list)) r

-- shares by the parts of the node m
abbrev pub SharesAt : Validated → ℕ → List (List Cut) → List Certificate → Option (List Share) → Type 0
SharesAt p m pools list shares = (n : nodes.Node) (s : Subproblem) (low high : List ℤ) → slice_get p.parts.nodes m ≡ Some n → subproblem_of p m ≡ Some s → slice_get p.lo m ≡ Some low → slice_get p.hi m ≡ Some high
    → SharesOf pools n s low high (node_at (problem_of p) m) list shares
