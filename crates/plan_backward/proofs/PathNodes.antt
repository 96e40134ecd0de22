-- The nodes of a path of the problem's graph: each once, and at most 1000.
use Rattle.std.proofs.Common.{◌≡◌, ℕ, zero, suc, ◌<◌, ◌≤◌, ◌^◌, true, List, [], ◌∷◌, length, take, get_or, All, Contains, ap, sym, subst, ◌∙◌, arith}
use Rattle.std.proofs.lemmas.List.{length-map, length-take, length-take-le, get_or-take, get_or_default}
use Rattle.std.proofs.lemmas.List.Elements.{All-nil, All-cons, All-head, All-weaker}
use Rattle.base_graph.specs.Ranks.{rank}
use Rattle.base_graph.proofs.Falling.{rank_below, rank_falls}
use Rattle.problem.specs.declared.parts.Node.{Node}
use Rattle.problem.specs.Parts.{successors_at, graph_of}
use Rattle.problem.specs.Validated.{Validated, is_validated}
use Rattle.problem.proofs.ValidatedFacts.{parts-is_validated, known_graph, few_nodes}
use Rattle.theory.specs.declared.cut.Cut.{Cut}
use Rattle.theory.specs.Pools.{pool}
use Rattle.theory.proofs.ValidatedOrder.{no_cycle-validated}
use Rattle.plan_draw.specs.declared.steps.PathStep.{PathStep}
use Rattle.plan_draw.specs.Drawn.{FollowsSuccessors, FollowsArcs, IsInRange}
use Rattle.plan_backward.specs.Given.{AreDistinct}

module _ (p : Validated) (e : is_validated p ≡ true) where
  abbrev level : ℕ → ℕ
  level m = rank (graph_of p.parts) m

  falls : (m k : ℕ) → Contains (successors_at p.parts m) k → level k < level m
  falls m k c = rank_falls (graph_of p.parts) m k (known_graph p.parts (parts-is_validated p e)) (no_cycle-validated p e) c

  lower : (m : ℕ) (ss : List PathStep) → FollowsSuccessors p.parts m ss → All (λ (t : PathStep). level t.node < level m) ss
  lower m [] f = All-nil (λ (t : PathStep). level t.node < level m)
  lower m (s ∷ ss) f =
      let fall = falls m s.node f.0 in
      All-cons (λ (t : PathStep). level t.node < level m) s ss fall (All-weaker (λ (t : PathStep). level t.node < level s.node) (λ (t : PathStep). level t.node < level m) (λ t h. omega (arith, h, fall)) ss (lower s.node ss f.1))

  other : (m : ℕ) (t : PathStep) → level t.node < level m → t.node ≡ m → ⊥
  other m t h is = let same : level t.node ≡ level m = ap level is in absurd (omega (arith, h, same))

  distinct_after : (m : ℕ) (ss : List PathStep) → FollowsSuccessors p.parts m ss → AreDistinct ss
  distinct_after m [] f = tt
  distinct_after m (s ∷ ss) f = (All-weaker (λ (t : PathStep). level t.node < level s.node) (λ (t : PathStep). t.node ≡ s.node → ⊥) (λ t h is. other s.node t h is) ss (lower s.node ss f.1), distinct_after s.node ss f.1)

  short_after : (m : ℕ) (ss : List PathStep) → FollowsSuccessors p.parts m ss → length ss ≤ level m
  short_after m [] f = omega arith
  short_after m (s ∷ ss) f = omega (arith, short_after s.node ss f.1, falls m s.node f.0)

  pub distinct-path : (ss : List PathStep) → FollowsArcs p.parts ss → AreDistinct ss
  distinct-path [] f = tt
  distinct-path (s ∷ ss) f = (All-weaker (λ (t : PathStep). level t.node < level s.node) (λ (t : PathStep). t.node ≡ s.node → ⊥) (λ t h is. other s.node t h is) ss (lower s.node ss f), distinct_after s.node ss f)

  pub short-path : (ss : List PathStep) → FollowsArcs p.parts ss → All (IsInRange p.parts) ss → length ss ≤ 1000
  short-path [] f r = omega arith
  short-path (s ∷ ss) f r =
      let here = All-head (IsInRange p.parts) s ss r in
      let count : length (graph_of p.parts) ≡ length p.parts.nodes = length-map p.parts.nodes (λ (n : Node). n.successors) in
      let below : level s.node < length (graph_of p.parts) = rank_below (graph_of p.parts) s.node (known_graph p.parts (parts-is_validated p e)) (no_cycle-validated p e) (omega (arith, count, here.0)) in
      omega (arith, short_after s.node ss f, below, count, few_nodes p.parts (parts-is_validated p e))

-- the steps before one are at other nodes
pub before_others : (ss : List PathStep) (i j : ℕ) (d : PathStep) → AreDistinct ss → i < j → j < length ss → (get_or ss i d).node ≡ (get_or ss j d).node → ⊥
before_others [] i j d a h l is = absurd (omega arith)
before_others (s ∷ ss) zero zero d a h l is = absurd (omega arith)
before_others (s ∷ ss) zero (suc j) d a h l is = a.0 j d (omega arith) (sym is)
before_others (s ∷ ss) (suc i) zero d a h l is = absurd (omega arith)
before_others (s ∷ ss) (suc i) (suc j) d a h l is = before_others ss i j d a.1 (omega arith) (omega arith) is

-- pools in which the steps before number i have few cuts, after a change at the step's node
pub few_before : (old new : List (List Cut)) (ss : List PathStep) (i left : ℕ) (s : PathStep) → left ≡ suc i → i < length ss → s ≡ get_or ss i s → AreDistinct ss → ((k : ℕ) → (k ≡ s.node → ⊥) → pool new k ≡ pool old k)
    → All (λ (t : PathStep). length (pool old t.node) < 2 ^ 24) (take left ss) → All (λ (t : PathStep). length (pool new t.node) < 2 ^ 24) (take i ss)
few_before old new ss i left s e h is a others few = λ j d l.
    let below : j < i = omega (arith, l, length-take i ss) in
    let at : get_or (take i ss) j d ≡ get_or ss j d = get_or-take i ss j d below in
    let before : get_or (take left ss) j d ≡ get_or ss j d = get_or-take left ss j d (omega (arith, below, e)) in
    let there : length (pool old (get_or ss j d).node) < 2 ^ 24 = subst (λ (t : PathStep). length (pool old t.node) < 2 ^ 24) before (few j d (omega (arith, length-take-le left ss (omega (arith, e, h)), below, e))) in
    let apart : (get_or ss j d).node ≡ s.node → ⊥ = λ same. before_others ss j i d a below h (same ∙ ap (λ (t : PathStep). t.node) (is ∙ get_or_default ss i s d h)) in
    subst (λ (t : PathStep). length (pool new t.node) < 2 ^ 24) (sym at) (subst (λ (cs : List Cut). length cs < 2 ^ 24) (sym (others (get_or ss j d).node apart)) there)
