-- The report of traces over sound pools is sound line by line.
use Rattle.std.proofs.Common.{◌≡◌, ◌≢◌, ℕ, ℤ, pos, List, [], ◌∷◌, ◌++◌, codes, true, Option, Some, None, get_or, refl, sym, ap, subst, ◌∙◌, arith}
use Rattle.std.proofs.lemmas.List.{append-nil}
use Rattle.std.proofs.lemmas.List.Elements.{All-nil}
use Rattle.problem.specs.declared.parts.Decision.{Decision}
use Rattle.problem.specs.declared.parts.State.{State}
use Rattle.problem.specs.declared.parts.Subproblem.{Subproblem}
use Rattle.problem.specs.Validated.{Validated, subproblem_of}
use Rattle.base_num.specs.Texts.{json_string}
use Rattle.theory.specs.declared.cut.Cut.{Cut}
use Rattle.theory.specs.Bound.{bound, Under}
use Rattle.theory.specs.Problem.{Problem}
use Rattle.theory.specs.View.{problem_of}
use Rattle.lp_program.specs.declared.programs.Kind.{Kind}
use Rattle.lp_program.specs.declared.programs.Kind.TheVariants.{Found, Ray, Stuck}
use Rattle.plan_forward.specs.declared.traces.Trace.{Trace}
use Rattle.plan_forward.specs.declared.traces.TraceStep.{TraceStep}
use Rattle.policy_report.specs.Lines.{numbered}
use Rattle.policy_report.specs.Report.{bound_line, head_text, word}
use Rattle.policy_report.specs.SoundLines.{first_word, Claims, Line, claims_of, SoundLines}
use Rattle.policy_report.specs.Traces.{cost_line, end_line, in_lines, kind_word, named_line, named_lines, own_lines, random_lines, row_line, scenario_line, scenario_text, stage_line, trace_step_text, trace_text, value_lines}
use Rattle.policy_report.proofs.SoundLines.{Good, good_append, good_bound, good_head, good_line, good_numbered, name_printable, plain_line, printable, printable-append, word_printable}

kind_printable : (k : Kind) → printable (kind_word k) ≡ true
kind_printable Found = refl
kind_printable Ray = refl
kind_printable Stuck = refl

named_printable : (what name : List ℕ) (z : ℤ) → printable what ≡ true → printable (what ++ json_string name ++ word z) ≡ true
named_printable what name z h = printable-append (what ++ json_string name) (word z) (printable-append what (json_string name) h (name_printable name)) (word_printable z)

-- two texts that differ at a place
pub differ : (k a b : ℕ) (v w : List ℕ) → get_or v k 0 ≡ a → get_or w k 0 ≡ b → a ≢ b → v ≢ w
differ k a b v w e f n h = n (sym e ∙ ap (λ u. get_or u k 0) h ∙ f)

module _ (p : Claims) where
  -- a line whose first word claims nothing
  pub other_line : (line first : List ℕ) → first_word line ≡ first → first ≢ codes "cut" → first ≢ codes "bound" → first ≢ codes "iteration" → first ≢ codes "upper" → first ≢ codes "plane" → first ≢ codes "worst" → Line p line
  other_line line first e c b i u x w = record {
    cut = λ h. absurd (c (sym e ∙ h));
    bound = λ h. absurd (b (sym e ∙ h));
    iteration = λ h. absurd (i (sym e ∙ h));
    upper = λ h. absurd (u (sym e ∙ h));
    risk_cut = λ h. absurd (x (sym e ∙ h));
    worst = λ h. absurd (w (sym e ∙ h));
  }

  good_none : Good p []
  good_none = λ tail r. r

  good_named : {A : Type 0} (what : List ℕ) (name : A → List ℕ) → ((x : A) (z : ℤ) → Good p (named_line what (name x) z)) → (xs : List A) (zs : List ℤ) → Good p (named_lines what name xs zs)
  good_named what name f [] zs = good_none
  good_named what name f (x ∷ xs) [] = good_none
  good_named what name f (x ∷ xs) (z ∷ zs) = good_append p (named_line what (name x) z) (named_lines what name xs zs) (f x z) (good_named what name f xs zs)

  good_in : (name : List ℕ) (z : ℤ) → Good p (named_line (codes "in ") name z)
  good_in name z =
      let line : List ℕ = codes "in " ++ json_string name ++ word z in
      good_line p line (named_printable (codes "in ") name z refl)
      (other_line line (codes "in") refl (differ 0 105 99 (codes "in") (codes "cut") refl refl (omega arith)) (differ 0 105 98 (codes "in") (codes "bound") refl refl (omega arith)) (differ 1 110 116 (codes "in") (codes "iteration") refl refl (omega arith)) (differ 0 105 117 (codes "in") (codes "upper") refl refl (omega arith)) (differ 0 105 112 (codes "in") (codes "plane") refl refl (omega arith)) (differ 0 105 119 (codes "in") (codes "worst") refl refl (omega arith)))

  good_random : (name : List ℕ) (z : ℤ) → Good p (named_line (codes "random ") name z)
  good_random name z =
      let line : List ℕ = codes "random " ++ json_string name ++ word z in
      good_line p line (named_printable (codes "random ") name z refl) (plain_line p line 114 refl (omega arith) (omega arith) (omega arith) (omega arith) (omega arith) (omega arith))

  good_value : (name : List ℕ) (z : ℤ) → Good p (named_line (codes "value ") name z)
  good_value name z =
      let line : List ℕ = codes "value " ++ json_string name ++ word z in
      good_line p line (named_printable (codes "value ") name z refl) (plain_line p line 118 refl (omega arith) (omega arith) (omega arith) (omega arith) (omega arith) (omega arith))

  pub good_row : (i : ℕ) (r : ℤ) → Good p (row_line i r)
  good_row i r =
      let front : List ℕ = codes "row" ++ word (pos i) in
      let line : List ℕ = front ++ codes " residual" ++ word r in
      good_line p line (printable-append (front ++ codes " residual") (word r) (printable-append front (codes " residual") (printable-append (codes "row") (word (pos i)) refl (word_printable (pos i))) refl) (word_printable r))
      (plain_line p line 114 refl (omega arith) (omega arith) (omega arith) (omega arith) (omega arith) (omega arith))

  good_stage : (t : ℕ) (s : TraceStep) → Good p (stage_line t s)
  good_stage t s =
      let front : List ℕ = codes "stage" ++ word (pos t) in
      let node : List ℕ = front ++ codes " node" ++ word (pos s.node) in
      let line : List ℕ = node ++ kind_word s.kind in
      good_line p line
      (printable-append node (kind_word s.kind) (printable-append (front ++ codes " node") (word (pos s.node)) (printable-append front (codes " node") (printable-append (codes "stage") (word (pos t)) refl (word_printable (pos t))) refl) (word_printable (pos s.node))) (kind_printable s.kind))
      (plain_line p line 115 refl (omega arith) (omega arith) (omega arith) (omega arith) (omega arith) (omega arith))

  good_cost : (z : ℤ) → Good p (cost_line z)
  good_cost z =
      let line : List ℕ = codes "cost" ++ word z in
      good_line p line (printable-append (codes "cost") (word z) refl (word_printable z))
      (other_line line (codes "cost") refl (differ 1 111 117 (codes "cost") (codes "cut") refl refl (omega arith)) (differ 0 99 98 (codes "cost") (codes "bound") refl refl (omega arith)) (differ 0 99 105 (codes "cost") (codes "iteration") refl refl (omega arith)) (differ 0 99 117 (codes "cost") (codes "upper") refl refl (omega arith)) (differ 0 99 112 (codes "cost") (codes "plane") refl refl (omega arith)) (differ 0 99 119 (codes "cost") (codes "worst") refl refl (omega arith)))

  good_own : (o : Option Subproblem) (s : TraceStep) → Good p (own_lines o s)
  good_own None s = good_none
  good_own (Some sub) s =
      good_append p (random_lines sub.randoms s.values) (value_lines sub.decisions s.decisions)
      (good_named (codes "random ") (λ name. name) (λ name z. good_random name z) sub.randoms s.values)
      (good_named (codes "value ") (λ (d : Decision). d.name) (λ d z. good_value d.name z) sub.decisions s.decisions)

  good_step : (validated : Validated) (t : ℕ) (s : TraceStep) → Good p (trace_step_text validated t s)
  unfolding trace_step_text
  good_step validated t s =
      let states : List ℕ = stage_line t s ++ in_lines validated.parts.states s.state in
      let own : List ℕ = states ++ own_lines (subproblem_of validated s.node) s in
      let rows : List ℕ = own ++ numbered row_line 0 s.residuals in
      good_append p rows (cost_line s.cost) (good_append p own (numbered row_line 0 s.residuals) (good_append p states (own_lines (subproblem_of validated s.node) s)
      (good_append p (stage_line t s) (in_lines validated.parts.states s.state) (good_stage t s) (good_named (codes "in ") (λ (x : State). x.name) (λ x z. good_in x.name z) validated.parts.states s.state))
      (good_own (subproblem_of validated s.node) s)) (good_numbered p row_line good_row 0 s.residuals)) (good_cost s.cost)

  good_title : (i : ℕ) → Good p (scenario_line i)
  good_title i =
      let line : List ℕ = codes "scenario" ++ word (pos i) in
      good_line p line (printable-append (codes "scenario") (word (pos i)) refl (word_printable (pos i))) (plain_line p line 115 refl (omega arith) (omega arith) (omega arith) (omega arith) (omega arith) (omega arith))

  good_end : (z : ℤ) → Good p (end_line z)
  good_end z =
      let line : List ℕ = codes "end" ++ word z in
      good_line p line (printable-append (codes "end") (word z) refl (word_printable z)) (plain_line p line 101 refl (omega arith) (omega arith) (omega arith) (omega arith) (omega arith) (omega arith))

  good_scenario : (validated : Validated) (i : ℕ) (trace : Trace) → Good p (scenario_text validated i trace)
  unfolding scenario_text
  good_scenario validated i trace =
      let steps : List ℕ = numbered (trace_step_text validated) 0 trace.steps in
      good_append p (scenario_line i ++ steps) (end_line trace.cost) (good_append p (scenario_line i) steps (good_title i) (good_numbered p (trace_step_text validated) (good_step validated) 0 trace.steps)) (good_end trace.cost)

-- the report of traces is sound line by line where the bound of its pools is under the cost of each policy
pub sound_traces : (p : Validated) (pools : List (List Cut)) (traces : List Trace) → Under (problem_of p) (bound (problem_of p) pools) → SoundLines (problem_of p) (trace_text p pools traces)
unfolding trace_text
sound_traces p pools traces u =
    let q : Problem = problem_of p in
    let c : Claims = claims_of q (λ m k. ⊥) (λ b. ⊥) in
    let scenarios : List ℕ = head_text p.parts ++ numbered (scenario_text p) 0 traces in
    let good = good_append c scenarios (bound_line (bound q pools)) (good_append c (head_text p.parts) (numbered (scenario_text p) 0 traces) (good_head c p.parts) (good_numbered c (scenario_text p) (good_scenario c p) 0 traces)) (good_bound c (bound q pools) u) in
    subst (SoundLines q) (append-nil (scenarios ++ bound_line (bound q pools))) (good [] (All-nil (Line c)))
