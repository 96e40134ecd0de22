-- The base certificates of a node: the certificate of its parts, and the cut that they make.
use Rattle.std.proofs.Common.{◌≡◌, ℕ, ◌*◌, ◌<◌, ℤ, pos, List, [], ◌∷◌, length, map, None, refl, sym, ap, ◌∙◌, arith}
use Rattle.problem.specs.declared.parts.Row.{Row}
use Rattle.problem.specs.declared.parts.Node as nodes
use Rattle.problem.specs.declared.parts.Subproblem.{Subproblem}
use Rattle.problem.specs.Validated.{Validated}
use Rattle.theory.specs.declared.cut.Cut.{Cut}
use Rattle.theory.specs.declared.cut.Certificate.{Certificate}
use Rattle.theory.specs.Problem.{S, Realization, Successor, node_at, with_weights}
use Rattle.theory.specs.View.{node_of, successors_of, realizations_of, problem_of}
use Rattle.theory.specs.Certificates.{Right}
use Rattle.theory.specs.CutOf.{cut_of}
use Rattle.theory.specs.Range.{range_of}
use Rattle.theory.specs.Base.{base_list}
use Rattle.theory.specs.Fit.{FitFor}
use Rattle.theory.proofs.ValidatedPremises.{leads-validated}
use Rattle.theory.proofs.SoundBase.{base_right}
use Rattle.cut_check.specs.Bases.{certificate_of}
use Rattle.cut_make.specs.Parts.{Cuttable, repeated}
use Rattle.cut_make.proofs.GivenNode.{length-realizations}
use Rattle.cut_make.specs.NodeParts.{NodeParts}
use Rattle.cut_check.proofs.AcceptedCuts.{cuttable_in_range}
use Rattle.cut_make.proofs.OwnWeights.{OwnWeights}
use Rattle.cut_make.proofs.PartsOfNode.{own_weighted}

-- the certificates that are made
abbrev FirstCut : ℕ → List (ℕ × ℕ)
FirstCut w = (0, S * w) ∷ []

first_cuts : (ms ws : List ℕ) → length ws ≡ length ms → map FirstCut ws ≡ map (λ (l : Successor). FirstCut l.weight) (successors_of ms ws)
first_cuts [] [] e = refl
first_cuts [] (w ∷ ws) e = absurd (omega arith)
first_cuts (m ∷ ms) [] e = absurd (omega arith)
first_cuts (m ∷ ms) (w ∷ ws) e = ap (λ (ss : List (List (ℕ × ℕ))). FirstCut w ∷ ss) (first_cuts ms ws (omega arith))

each : (c : Certificate) (ws : List ℕ) (rs : List Realization) → length ws ≡ length rs → repeated c ws ≡ map (λ (r : Realization). c) rs
each c [] [] e = refl
each c [] (r ∷ rs) e = absurd (omega arith)
each c (w ∷ ws) [] e = absurd (omega arith)
each c (w ∷ ws) (r ∷ rs) e = ap (λ (cs : List Certificate). c ∷ cs) (each c ws rs (omega arith))

pub made_list : (n : nodes.Node) (s : Subproblem) (low high : List ℤ) (ws : List ℕ) → length n.successor_weights ≡ length n.successors → length ws ≡ length (node_of n s low high).realizations → repeated (certificate_of n s) ws ≡ base_list (node_of n s low high)
unfolding node_of
made_list n s low high ws e h =
    each (certificate_of n s) ws (realizations_of n.weights n.values) h
    ∙ ap (λ (c : Certificate). map (λ (r : Realization). c) (realizations_of n.weights n.values)) (ap (λ (cuts : List (List (ℕ × ℕ))). record { rows = map (λ (row : Row). pos 0) s.rows; cuts = cuts }) (first_cuts n.successors n.successor_weights e))

-- the certificates that are made for a node of a validated problem, with its own weights
module _ (p : Validated) (m : ℕ) (pools qs : List (List Cut)) (ws vs : List ℕ) (n : nodes.Node) (s : Subproblem) (low high : List ℤ) (c : Certificate) (parts : NodeParts p m qs vs n s low high) (h : m < length p.parts.nodes) (own : OwnWeights ws (node_at (problem_of p) m))
    (weights : vs ≡ ws) (same : qs ≡ pools) (is : c ≡ certificate_of n s) (f : FitFor (problem_of p) (length p.parts.nodes) pools m) where
  node_based : with_weights vs (node_of n s low high) ≡ node_at (problem_of p) m
  node_based = own_weighted p m qs ws vs n s low high parts weights own.own

  list_based : repeated c vs ≡ base_list (node_at (problem_of p) m)
  list_based =
      let count = parts.sized.count ∙ sym (length-realizations n s low high parts.sized.values) in
      ap (λ (x : Certificate). repeated x vs) is ∙ made_list n s low high vs parts.sized.successor_weights count ∙ ap base_list (sym parts.is)

  pub range_same : range_of qs (with_weights vs (node_of n s low high)) (repeated c vs) ≡ range_of pools (node_at (problem_of p) m) (base_list (node_at (problem_of p) m))
  range_same = λ i. range_of (same i) (node_based i) (list_based i)

  pub cut_same : cut_of qs (with_weights vs (node_of n s low high)) (repeated c vs) ≡ cut_of pools (node_at (problem_of p) m) (base_list (node_at (problem_of p) m))
  cut_same = λ i. cut_of (same i) (node_based i) (list_based i)

  right_based : Right pools (node_at (problem_of p) m) (base_list (node_at (problem_of p) m))
  right_based = base_right pools (node_at (problem_of p) m) (λ k d i. ((leads-validated p m parts.validated h k d i).0, f.some k d i))

  -- where their size is in range they make a cut
  pub cuttable_same : range_of qs (with_weights vs (node_of n s low high)) (repeated c vs) ≡ None → Cuttable qs n s low vs (repeated c vs)
  cuttable_same none =
      let right : Right qs (with_weights vs (node_of n s low high)) (repeated c vs) = rw (same, node_based, list_based) right_based in
      cuttable_in_range n s low high vs qs (repeated c vs) (with_weights vs (node_of n s low high)) refl parts.limits parts.sized parts.costs right none
