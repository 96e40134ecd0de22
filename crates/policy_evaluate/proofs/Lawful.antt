-- The decisions at a branch are lawful: they lie in their boxes, meet the rows, and their outs leave the node.
use Rattle.std.proofs.Common.{◌≡◌, ℕ, suc, ℤ, pos, Bool, true, false, if◌then◌else◌, List, [], ◌∷◌, length, map, All, Option, Some, None, Result, Ok, Err, refl, subst}
use Rattle.std.specs.Ordering.{int_eq}
use Rattle.std.proofs.lemmas.Bool.Decides.{Decides-int_eq}
use Rattle.std.proofs.lemmas.List.Elements.{All-cons, All-nil}
use Rattle.base_num.specs.Steps.{◌>>=◌}
use Rattle.problem.specs.declared.parts.Row.{Row}
use Rattle.problem.specs.Validated.{Validated, is_validated}
use Rattle.theory.specs.declared.cut.Cut.{Cut}
use Rattle.theory.specs.Problem.{S, node_at}
use Rattle.theory.specs.Tree.{RowHolds}
use Rattle.theory.specs.View.{problem_of}
use Rattle.plan_answer.specs.declared.classifying.Infeasibility.{Infeasibility}
use Rattle.lp_program.specs.Solving.{Solving}
use Rattle.plan_draw.specs.declared.steps.PathStep.{PathStep}
use Rattle.plan_forward.specs.declared.deciding.Decided.{Decided}
use Rattle.plan_forward.specs.Costing.{residual_of, residuals_of}
use Rattle.plan_forward.proofs.MetRows.{residual_met}
use Rattle.plan_mend.specs.Deciding.{decide_mended_of}
use Rattle.plan_mend.proofs.MendedDecisions.{inside_mended, next_mended}
use Rattle.policy_evaluate.specs.PolicyTree.{Stop, infeasible, missed, or_infeasible_stop, unless_missed, first_missed, decide_branch}
use Rattle.policy_evaluate.proofs.Following.{Lawful}

-- no row is missed where no residual is found
row_found : (i : ℕ) (z : ℤ) (rs : List ℤ) (b : Bool) → b ≡ false → (if b then first_missed (suc i) rs else Some (i, z)) ≡ None → ⊥
row_found i z rs true e f = cc
row_found i z rs false e f = cc

rows_left : (i : ℕ) (z : ℤ) (rs : List ℤ) (b : Bool) → b ≡ true → (if b then first_missed (suc i) rs else Some (i, z)) ≡ None → first_missed (suc i) rs ≡ None
rows_left i z rs true e f = f
rows_left i z rs false e f = cc

pub all_met : (i : ℕ) (rows : List Row) (u x values : List ℤ) → first_missed i (map (λ (row : Row). residual_of row u x values) rows) ≡ None → All (RowHolds S values x u) rows
all_met i [] u x values e = All-nil (RowHolds S values x u)
all_met i (row ∷ rows) u x values e = by (all_met (suc i) rows u x values) (int_eq (residual_of row u x values) (pos 0)) refl
  where
    left : List ℤ
    left = map (λ (row : Row). residual_of row u x values) rows

    by : (first_missed (suc i) left ≡ None → All (RowHolds S values x u) rows) → (b : Bool) → int_eq (residual_of row u x values) (pos 0) ≡ b → All (RowHolds S values x u) (row ∷ rows)
    by tail true is =
        All-cons (RowHolds S values x u) row rows ((residual_met row u x values).0 ((Decides-int_eq (residual_of row u x values) (pos 0)).0 is))
        (tail (rows_left i (residual_of row u x values) left (int_eq (residual_of row u x values) (pos 0)) is e))
    by tail false is = absurd (row_found i (residual_of row u x values) left (int_eq (residual_of row u x values) (pos 0)) is e)

-- a decision at a branch is that of its node, and misses no row
record IsDecided (first : Result Decided Infeasibility) (rs : Decided → List ℤ) (d : Decided) : Type 0 where
  pub here : first ≡ Ok d
  pub rows : first_missed 0 (rs d) ≡ None

one_stop : (x : Stop) (d : Decided) (r : Result Decided Stop) → r ≡ Err x → r ≡ Ok d → ⊥
one_stop x d r e f = cc

one_same : (x y : Decided) (r : Result Decided Stop) → r ≡ Ok x → r ≡ Ok y → x ≡ y
one_same x y r e f = cc

taken : (s : PathStep) (first : Result Decided Infeasibility) (rs : Decided → List ℤ) (d : Decided) → (or_infeasible_stop first >>= λ d. unless_missed s (first_missed 0 (rs d)) d) ≡ Ok d → IsDecided first rs d
taken s (Err x) rs d e = absurd (one_stop (infeasible x) d (Err (infeasible x)) refl e)
taken s (Ok y) rs d e = by (first_missed 0 (rs y)) refl e
  where
    by : (o : Option (ℕ × ℤ)) → first_missed 0 (rs y) ≡ o → unless_missed s o y ≡ Ok d → IsDecided (Ok y) rs d
    by None is f =
        let same : y ≡ d = one_same y d (Ok y) refl f in
        subst (λ (z : Decided). IsDecided (Ok y) rs z) same (record { here = refl; rows = is })
    by (Some q) is f = absurd (one_stop (missed (record { branches = s ∷ []; row = q.0; residual = q.1 })) d (unless_missed s (Some q) y) refl f)

module _ {Start Chain : Type 0} (v : Solving Start Chain) (p : Validated) (pools : List (List Cut)) where
  branch_decided : (k : ℕ) (s : PathStep) (values x : List ℤ) (d : Decided) → decide_branch v p pools k s values x ≡ Ok d → IsDecided (decide_mended_of v p pools k s.node values x) (λ d. residuals_of (node_at (problem_of p) s.node) d.decisions x values) d
  unfolding decide_branch
  branch_decided k s values x d e = taken s (decide_mended_of v p pools k s.node values x) (λ d. residuals_of (node_at (problem_of p) s.node) d.decisions x values) d e

  pub lawful : is_validated p ≡ true → Lawful (problem_of p) (length p.parts.nodes) (decide_branch v p pools)
  lawful validated = record {
    decides = λ k s values x d known e.
        let own = branch_decided k s values x d e in
        record {
          box = inside_mended v p pools k s.node values x validated known d own.here;
          rows = all_met 0 (node_at (problem_of p) s.node).rows d.decisions x values own.rows;
        };
    leaves = λ k s values x d e. next_mended v p pools k s.node values x d (branch_decided k s values x d e).here;
  }
