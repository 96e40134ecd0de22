-- A stage of the file means what the node of its subproblem means.
use Rattle.std.proofs.Common.{◌≡◌, ◌↔◌, ℕ, ℤ, List, length, map, All, true, Some, sym, ap, ◌∙◌}
use Rattle.std.specs.List.{IsDistinct}
use Rattle.std.specs.Str.{bytes_eq}
use Rattle.std.proofs.lemmas.List.{length-map}
use Rattle.std.proofs.lemmas.List.Elements.{All-from_recursion, recursion_from_All}
use Rattle.problem.specs.declared.parts.Decision.{Decision}
use Rattle.problem.specs.declared.parts.Subproblem.{Subproblem}
use Rattle.problem.specs.declared.parts.Node as nodes
use Rattle.theory.specs.Fraction.{Fraction}
use Rattle.theory.specs.Problem as theory
use Rattle.theory.specs.Tree.{InBox, Decides, next_state}
use Rattle.theory.specs.Cost.{stage}
use Rattle.theory.specs.View.{node_of}
use Rattle.read_profile.specs.File.{Name, Numbers, Constraint, State, Stage, FileRealization}
use Rattle.read_meaning.specs.Meaning.{Volumes, in_units, Satisfies, leaving, stage_cost}
use Rattle.read_stage.specs.Said.{decision_names, StageSaid}
use Rattle.read_file.specs.Said.{RealizationSaid}
use Rattle.read_meaning.proofs.Sides.{Stands}
use Rattle.read_meaning.proofs.Stages.{boxed, unboxed, before_is, chances_is, leaves_as, rows_hold, rows_kept, given_kept, objective_is, numbers_for}

-- SameStage of a node by itself; and where the state and the decisions are given, there are such numbers
pub record StageAt (names own : List Name) (n : theory.Node) (st : Stage) (r : FileRealization) (q : theory.Realization) : Type 0 where
  pub weight : r.weight ≡ q.weight
  pub kept : (units : ℕ) (x : Volumes) (xi : List ℤ) (y : Numbers) → map x names ≡ map Some xi → InBox units n.low n.high xi
      → All (λ (t : State). x t.name ≡ Some (y t.before)) st.states → All (λ (v : Name). in_units units (r.support v) ≡ Some (y v)) st.randoms
      → All (λ (c : Constraint). c units y ≡ true) st.constraints ↔ Decides units n q.values xi (map y own)
  pub next : (units : ℕ) (x : Volumes) (xi : List ℤ) (y : Numbers) → map x names ≡ map Some xi → Satisfies units st r x y → map (leaving st.states y) names ≡ map Some (next_state n (map y own))
  pub cost : (units : ℕ) (x : Volumes) (xi : List ℤ) (y : Numbers) → map x names ≡ map Some xi → Satisfies units st r x y → stage_cost units st y ≡ stage units n q.values xi (map y own)
  pub numbers : (units : ℕ) (x : Volumes) (xi u : List ℤ) → map x names ≡ map Some xi → length u ≡ length n.decision_low
      → (y : Numbers) × (map y own ≡ u) × All (λ (t : State). x t.name ≡ Some (y t.before)) st.states × All (λ (v : Name). in_units units (r.support v) ≡ Some (y v)) st.randoms

module _ (names : List Name) (st : Stage) (sub : Subproblem) (is : StageSaid names st sub) (differ : IsDistinct bytes_eq names)
    (n : nodes.Node) (low high : List ℤ) (lows : length low ≡ length names) (highs : length high ≡ length names) (ld : Stands sub.low low) (hd : Stands sub.high high)
    (r : FileRealization) (w : ℕ) (values : List ℤ) (rd : RealizationSaid st.randoms r w values) where
  states_counted : length st.states ≡ length names
  states_counted = sym (length-map st.states (λ (t : State). t.name)) ∙ ap (λ (ks : List Name). length ks) is.states

  module _ (units : ℕ) (x : Volumes) (xi : List ℤ) (y : Numbers) (e : map x names ≡ map Some xi)
      (sa : All (λ (t : State). x t.name ≡ Some (y t.before)) st.states) (ra : All (λ (v : Name). in_units units (r.support v) ≡ Some (y v)) st.randoms) where
    decides : All (λ (c : Constraint). c units y ≡ true) st.constraints → Decides units (node_of n sub low high) values xi (map y (decision_names sub))
    unfolding node_of
    decides h =
        let k = (is.kept units y).0 (recursion_from_All (λ (c : Constraint). c units y ≡ true) st.constraints h) in
        record {
          box = boxed units y sub.decisions k.0;
          rows = rows_hold names st sub is differ units xi values y (before_is names st sub is differ x xi y e sa) (chances_is names st sub is differ units r values y rd.values ra) k.1;
        }

    keeps : InBox units low high xi → Decides units (node_of n sub low high) values xi (map y (decision_names sub)) → All (λ (c : Constraint). c units y ≡ true) st.constraints
    unfolding node_of
    keeps box h =
        let b = before_is names st sub is differ x xi y e sa in
        let c = chances_is names st sub is differ units r values y rd.values ra in
        All-from_recursion (λ (c : Constraint). c units y ≡ true) st.constraints ((is.kept units y).1 (
          unboxed units y sub.decisions h.box,
          rows_kept names st sub is differ units xi values y b c h.rows,
          given_kept names st sub is differ units xi values y b c low high (lows ∙ sym states_counted) (highs ∙ sym states_counted) ld hd box,
        ))

    costs : stage_cost units st y ≡ stage units (node_of n sub low high) values xi (map y (decision_names sub))
    unfolding node_of
    costs = ap (λ (z : ℤ). let g : Fraction = record { up = z; under = units } in g) (objective_is names st sub is differ units xi values y (before_is names st sub is differ x xi y e sa) (chances_is names st sub is differ units r values y rd.values ra))

  pub stage_at : StageAt names (decision_names sub) (node_of n sub low high) st r (record { weight = w; values = values })
  unfolding node_of
  stage_at = record {
    weight = rd.weight;
    kept = λ units x xi y e box sa ra. (decides units x xi y e sa ra, keeps units x xi y e sa ra box);
    next = λ units x xi y e h. leaves_as names st sub is differ x y;
    cost = λ units x xi y e h. costs units x xi y e h.states h.randoms;
    numbers = λ units x xi u e l. numbers_for names st sub is differ units x r xi values u e rd.values (l ∙ length-map sub.decisions (λ (d : Decision). d.low));
  }
