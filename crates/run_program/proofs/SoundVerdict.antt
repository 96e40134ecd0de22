-- The report of a verdict is sound line by line.
use Rattle.std.proofs.Common.{ℕ, ◌<◌, ℤ, pos, List, [], ◌∷◌, ◌++◌, codes, refl, subst, arith}
use Rattle.std.specs.Prelude.{⊤}
use Rattle.std.specs.List.{flat_map}
use Rattle.std.proofs.lemmas.List.{append-nil}
use Rattle.std.proofs.lemmas.List.Elements.{All-nil}
use Rattle.problem.specs.Validated.{Validated}
use Rattle.theory.specs.declared.cut.Cut.{Cut}
use Rattle.theory.specs.Bound.{bound, Under}
use Rattle.theory.specs.Problem.{S, Problem}
use Rattle.theory.specs.View.{problem_of}
use Rattle.plan_draw.specs.declared.steps.PathStep.{PathStep}
use Rattle.policy_report.specs.Report.{bound_line, head_text, word}
use Rattle.policy_report.specs.SoundLines.{Claims, Line, claims_of, SoundLines}
use Rattle.policy_report.specs.Traces.{row_line}
use Rattle.policy_report.proofs.SoundLines.{Good, good_append, good_bound, good_head, good_line, good_upper, printable-append, word_printable}
use Rattle.policy_report.proofs.SoundTraces.{differ, good_row, other_line}
use Rattle.policy_evaluate.specs.declared.walking.Verdict.{Verdict}
use Rattle.policy_evaluate.specs.declared.walking.Verdict.TheVariants.{Cost, Missed}
use Rattle.policy_evaluate.specs.Report.{branch_line, verdict_lines, verdict_text}
use Rattle.run_program.specs.SoundText.{IsTwoSided}

module _ (p : Claims) where
  good_branch : (s : PathStep) → Good p (branch_line s)
  good_branch s =
      let front : List ℕ = codes "branch" ++ word (pos s.node) in
      let line : List ℕ = front ++ word (pos s.realization) in
      good_line p line (printable-append front (word (pos s.realization)) (printable-append (codes "branch") (word (pos s.node)) refl (word_printable (pos s.node))) (word_printable (pos s.realization)))
      (other_line p line (codes "branch") refl (differ 0 98 99 (codes "branch") (codes "cut") refl refl (omega arith)) (differ 1 114 111 (codes "branch") (codes "bound") refl refl (omega arith)) (differ 0 98 105 (codes "branch") (codes "iteration") refl refl (omega arith)) (differ 0 98 117 (codes "branch") (codes "upper") refl refl (omega arith)) (differ 0 98 112 (codes "branch") (codes "plane") refl refl (omega arith)) (differ 0 98 119 (codes "branch") (codes "worst") refl refl (omega arith)))

  good_branches : (ss : List PathStep) → Good p (flat_map branch_line ss)
  good_branches [] = λ tail r. r
  good_branches (s ∷ ss) = good_append p (branch_line s) (flat_map branch_line ss) (good_branch s) (good_branches ss)

  -- what a verdict has from above
  abbrev AboveIn : Verdict → Type 0
  AboveIn (Cost upper) = p.uppers upper
  AboveIn (Missed branches row residual) = ⊤

  good_verdict : (verdict : Verdict) → AboveIn verdict → Good p (verdict_lines verdict)
  good_verdict (Cost upper) h = good_upper p upper h
  good_verdict (Missed branches row residual) h = good_append p (flat_map branch_line branches) (row_line row residual) (good_branches branches) (good_row p row residual)

some_units : 0 < S
unfolding S
some_units = omega arith

above_in : (p : Problem) (risk_cuts : ℕ → Cut → Type 0) (worsts : ℤ → Type 0) (pools : List (List Cut)) (verdict : Verdict) → IsTwoSided p pools verdict → AboveIn (claims_of p risk_cuts worsts) verdict
above_in p risk_cuts worsts pools (Cost upper) h = (S, h.forest, some_units, h.policy, h.cost.above)
above_in p risk_cuts worsts pools (Missed branches row residual) h = tt

-- the report of a verdict is sound line by line where the bound of its pools is under the cost of each policy, and some policy costs what it says
pub sound_verdict : (p : Validated) (pools : List (List Cut)) (verdict : Verdict) → Under (problem_of p) (bound (problem_of p) pools) → IsTwoSided (problem_of p) pools verdict → SoundLines (problem_of p) (verdict_text p pools verdict)
unfolding verdict_text
sound_verdict p pools verdict u two =
    let q : Problem = problem_of p in
    let c : Claims = claims_of q (λ m k. ⊥) (λ b. ⊥) in
    let front : List ℕ = head_text p.parts ++ verdict_lines verdict in
    let good = good_append c front (bound_line (bound q pools)) (good_append c (head_text p.parts) (verdict_lines verdict) (good_head c p.parts) (good_verdict c verdict (above_in q (λ m k. ⊥) (λ b. ⊥) pools verdict two))) (good_bound c (bound q pools) u) in
    subst (SoundLines q) (append-nil (front ++ bound_line (bound q pools))) (good [] (All-nil (Line c)))
