-- Properties of walks, from the properties of each step.
use Rattle.std.proofs.Common.{◌≡◌, ◌∙◌, ℕ, suc, ◌+◌, ◌<◌, ◌≤◌, ℤ, Bool, true, false, List, [], ◌∷◌, ◌++◌, length, get_or, drop, drop_of_length-le, zip, All, Contains, Result, Ok, Err, IfOk, refl, sym, ap, subst, arith}
use Rattle.std.proofs.lemmas.List.{append_assoc, append-nil, drop_more}
use Rattle.std.proofs.lemmas.List.Elements.{All-nil, All-cons}
use Rattle.base_num.proofs.Sums.{All_head, All_tail}
use Rattle.problem.specs.Parts.{successors_at}
use Rattle.problem.specs.Validated.{Validated, is_validated}
use Rattle.theory.specs.declared.cut.Cut.{Cut}
use Rattle.theory.specs.Problem.{S, node_at}
use Rattle.theory.specs.Tree.{times_all}
use Rattle.theory.specs.View.{problem_of}
use Rattle.plan_answer.specs.declared.classifying.Infeasibility.{Infeasibility}
use Rattle.plan_answer.specs.Classifying.{classify_of}
use Rattle.lp_program.specs.Solving.{Solving}
use Rattle.plan_stage.specs.Chained.{stage_answer}
use Rattle.plan_draw.specs.declared.steps.PathStep.{PathStep}
use Rattle.plan_draw.specs.declared.steps.Trajectory.{Trajectory}
use Rattle.plan_draw.specs.Drawn.{FollowsSuccessors, IsInRange, IsPath}
use Rattle.plan_draw.proofs.Draws.{root_counted}
use Rattle.plan_forward.specs.declared.deciding.Decided.{Decided}
use Rattle.plan_forward.specs.Deciding.{decide_of}
use Rattle.cut_pool.specs.AtNodes.{IsStateAt}
use Rattle.plan_answer.specs.declared.plan_fault.PlanFault.{PlanFault}
use Rattle.plan_answer.specs.Faults.{GivesOrRefutes, OnNoStage, Refutes}
use Rattle.plan_forward.specs.Walking.{AreStatesInside, AreWalks, IsWalk, decide_step, no_walk, one_if, values_of, trajectory_of, walks_of, step_on, walk_on, walked}
use Rattle.plan_forward.proofs.Arcs.{start-validated}
use Rattle.plan_forward.proofs.ByAnswers.{if_given, next_by, on_no_stage, refutes_classified}
use Rattle.plan_forward.proofs.EachOf.{each_holds, each_refuses}

-- a state that has come to the first of these steps
pub record Comes (p : Validated) (s : PathStep) (ss : List PathStep) (state : List ℤ) : Type 0 where
  pub here : IsStateAt p s.node state
  pub follows : FollowsSuccessors p.parts s.node ss
  pub range : IsInRange p.parts s
  pub tail : All (IsInRange p.parts) ss

abbrev pub ComesTo : Validated → List PathStep → List ℤ → Type 0
ComesTo p [] state = Unit {0}
ComesTo p (s ∷ ss) state = Comes p s ss state

-- the state that leaves a node comes to the next step
pub comes_next : (p : Validated) (s : PathStep) (ss : List PathStep) (state next : List ℤ) → Comes p s ss state → ((k : ℕ) → Contains (successors_at p.parts s.node) k → IsStateAt p k next) → ComesTo p ss next
comes_next p s [] state next c h = tt
comes_next p s (t ∷ ts) state next c h = record { here = h t.node c.follows.0; follows = c.follows.1; range = All_head (IsInRange p.parts) t ts c.tail; tail = All_tail (IsInRange p.parts) t ts c.tail }

-- a path begins with the initial state
pub comes_first : (p : Validated) (path : List PathStep) → is_validated p ≡ true → IsPath p path → ComesTo p path (times_all S (problem_of p).initial)
comes_first p [] e h = tt
comes_first p (s ∷ ss) e h = record { here = start-validated p s.node e (root_counted p e) h.starts; follows = h.follows; range = All_head (IsInRange p.parts) s ss h.in_range; tail = All_tail (IsInRange p.parts) s ss h.in_range }

-- the premises on deciding at each step
pub record Decides (p : Validated) (decide : PathStep → List ℤ → Result Decided Infeasibility) : Type 0 where
  pub next : (s : PathStep) (state : List ℤ) (d : Decided) → s.node < length p.parts.nodes → decide s state ≡ Ok d → (k : ℕ) → Contains (successors_at p.parts s.node) k → IsStateAt p k d.next
  pub infeasible : (s : PathStep) (state : List ℤ) (d : Infeasibility) → s.node < length p.parts.nodes → decide s state ≡ Err d → Refutes p d

-- the part of a walk along these steps
pub record Goes (p : Validated) (before : Trajectory) (ss : List PathStep) (after : Trajectory) : Type 0 where
  pub states : List (List ℤ)
  pub is : after.states ≡ before.states ++ states
  pub count : length states ≡ length ss
  pub inside : AreStatesInside p ss states
  pub few : after.unanswered ≤ before.unanswered + length ss

at_most_one : (b : Bool) → one_if b ≤ 1
at_most_one true = omega arith
at_most_one false = omega arith

walk_same : (x y : Trajectory) (r : Result Trajectory Infeasibility) → r ≡ Ok x → r ≡ Ok y → x ≡ y
walk_same x y r e f = cc

no_walk_there : (x : Trajectory) (d : Infeasibility) (r : Result Trajectory Infeasibility) → r ≡ Err d → r ≡ Ok x → ⊥
no_walk_there x d r e f = cc

infeasible_same : (x y : Infeasibility) (r : Result Trajectory Infeasibility) → r ≡ Err x → r ≡ Err y → x ≡ y
infeasible_same x y r e f = cc

-- one step of a walk on what is decided there
pub decided_on : (decide : PathStep → List ℤ → Result Decided Infeasibility) (walk : Trajectory) (state : List ℤ) (s : PathStep) (ss : List PathStep) (d : Decided) → decide s state ≡ Ok d → walk_on decide walk state (s ∷ ss) ≡ walk_on decide (walked walk state d) d.next ss
decided_on decide walk state s ss d e = rw e refl

pub infeasible_on : (decide : PathStep → List ℤ → Result Decided Infeasibility) (walk : Trajectory) (state : List ℤ) (s : PathStep) (ss : List PathStep) (d : Infeasibility) → decide s state ≡ Err d → walk_on decide walk state (s ∷ ss) ≡ Err d
infeasible_on decide walk state s ss d e = rw e refl

module _ (p : Validated) (decide : PathStep → List ℤ → Result Decided Infeasibility) (h : Decides p decide) where
  pub goes : (walk : Trajectory) (state : List ℤ) (ss : List PathStep) (after : Trajectory) → ComesTo p ss state → walk_on decide walk state ss ≡ Ok after → Goes p walk ss after
  goes walk state [] after c e =
      let same : walk ≡ after = walk_same walk after (walk_on decide walk state []) refl e in
      subst (λ (w : Trajectory). Goes p walk [] w) same (record { states = []; is = sym (append-nil walk.states); count = refl; inside = All-nil (λ (q : PathStep × List ℤ). IsStateAt p q.0.node q.1); few = omega arith })
  goes walk state (s ∷ ss) after c e = by (λ d. goes (walked walk state d) d.next ss after) (decide s state) refl
    where
      by : ((d : Decided) → ComesTo p ss d.next → walk_on decide (walked walk state d) d.next ss ≡ Ok after → Goes p (walked walk state d) ss after) → (r : Result Decided Infeasibility) → decide s state ≡ r → Goes p walk (s ∷ ss) after
      by after_step (Ok d) is =
          let tail : Goes p (walked walk state d) ss after = after_step d (comes_next p s ss state d.next c (h.next s state d c.range.0 is)) (sym (decided_on decide walk state s ss d is) ∙ e) in
          record {
            states = state ∷ tail.states;
            is = tail.is ∙ append_assoc walk.states (state ∷ []) tail.states;
            count = ap suc tail.count;
            inside = All-cons (λ (q : PathStep × List ℤ). IsStateAt p q.0.node q.1) (s, state) (zip ss tail.states) c.here tail.inside;
            few = omega (arith, tail.few, at_most_one d.unanswered);
          }
      by after_step (Err d) is = absurd (no_walk_there after d (walk_on decide walk state (s ∷ ss)) (infeasible_on decide walk state s ss d is) e)

  pub dies : (walk : Trajectory) (state : List ℤ) (ss : List PathStep) (infeasible : Infeasibility) → ComesTo p ss state → walk_on decide walk state ss ≡ Err infeasible → Refutes p infeasible
  dies walk state [] infeasible c e = absurd (no_walk_there walk infeasible (walk_on decide walk state []) e refl)
  dies walk state (s ∷ ss) infeasible c e = by (λ d. dies (walked walk state d) d.next ss infeasible) (decide s state) refl
    where
      by : ((d : Decided) → ComesTo p ss d.next → walk_on decide (walked walk state d) d.next ss ≡ Err infeasible → Refutes p infeasible) → (r : Result Decided Infeasibility) → decide s state ≡ r → Refutes p infeasible
      by after_step (Ok d) is = after_step d (comes_next p s ss state d.next c (h.next s state d c.range.0 is)) (sym (decided_on decide walk state s ss d is) ∙ e)
      by after_step (Err d) is = subst (λ (x : Infeasibility). Refutes p x) (infeasible_same d infeasible (walk_on decide walk state (s ∷ ss)) (infeasible_on decide walk state s ss d is) e) (h.infeasible s state d c.range.0 is)

-- a walk as a loop makes it
module _ (decide : PathStep → List ℤ → Result Decided Infeasibility) (path : List PathStep) (i : ℕ) (d : PathStep) (walk : Trajectory) (state : List ℤ) (whole : Result Trajectory Infeasibility) (inside : i < length path) (so_far : walk_on decide walk state (drop i path) ≡ whole) where
  left : drop i path ≡ get_or path i d ∷ drop (i + 1) path
  left = drop_more path i d inside

  pub goes_on : (after : Trajectory) (next : List ℤ) → step_on decide walk state (get_or path i d) ≡ Ok (after, next) → walk_on decide after next (drop (i + 1) path) ≡ whole
  goes_on after next e = go after next e ∙ ap (λ (ss : List PathStep). walk_on decide walk state ss) (sym left) ∙ so_far
    where
      go : (after : Trajectory) (next : List ℤ) → step_on decide walk state (get_or path i d) ≡ Ok (after, next) → walk_on decide after next (drop (i + 1) path) ≡ walk_on decide walk state (get_or path i d ∷ drop (i + 1) path)
      go after next e = rw e refl

  pub stops : (infeasible : Infeasibility) → step_on decide walk state (get_or path i d) ≡ Err infeasible → whole ≡ Err infeasible
  stops infeasible e = sym so_far ∙ ap (λ (ss : List PathStep). walk_on decide walk state ss) left ∙ go infeasible e
    where
      go : (infeasible : Infeasibility) → step_on decide walk state (get_or path i d) ≡ Err infeasible → walk_on decide walk state (get_or path i d ∷ drop (i + 1) path) ≡ Err infeasible
      go infeasible e = rw e refl

pub ends : (decide : PathStep → List ℤ → Result Decided Infeasibility) (path : List PathStep) (i : ℕ) (walk : Trajectory) (state : List ℤ) (whole : Result Trajectory Infeasibility) → length path ≤ i → walk_on decide walk state (drop i path) ≡ whole → whole ≡ Ok walk
ends decide path i walk state whole past so_far = sym so_far ∙ ap (λ (ss : List PathStep). walk_on decide walk state ss) (drop_of_length-le path past)

pub comes_here : (p : Validated) (path : List PathStep) (i : ℕ) (d : PathStep) (state : List ℤ) → i < length path → ComesTo p (drop i path) state → Comes p (get_or path i d) (drop (i + 1) path) state
comes_here p path i d state inside c = subst (λ (ss : List PathStep). ComesTo p ss state) (drop_more path i d inside) c

abbrev walk_in : Trajectory → Result (Trajectory × List ℤ) Infeasibility → Trajectory
walk_in x (Ok q) = q.0
walk_in x (Err d) = x

step_same : (x y : Trajectory) (a b : List ℤ) (r : Result (Trajectory × List ℤ) Infeasibility) → r ≡ Ok (x, a) → r ≡ Ok (y, b) → x ≡ y
step_same x y a b r e f = ap (walk_in x) (sym e ∙ f)

no_step : (x : Trajectory) (a : List ℤ) (d : Infeasibility) (r : Result (Trajectory × List ℤ) Infeasibility) → r ≡ Err d → r ≡ Ok (x, a) → ⊥
no_step x a d r e f = cc

-- a step counts once at most
pub one_more : (decide : PathStep → List ℤ → Result Decided Infeasibility) (walk : Trajectory) (state : List ℤ) (s : PathStep) (after : Trajectory) (next : List ℤ) (n : ℕ) → step_on decide walk state s ≡ Ok (after, next) → walk.unanswered ≤ n → after.unanswered ≤ n + 1
one_more decide walk state s after next n e h = by (decide s state) refl
  where
    decided : (d : Decided) → decide s state ≡ Ok d → step_on decide walk state s ≡ Ok (walked walk state d, d.next)
    decided d is = rw is refl

    refuted : (d : Infeasibility) → decide s state ≡ Err d → step_on decide walk state s ≡ Err d
    refuted d is = rw is refl

    by : (r : Result Decided Infeasibility) → decide s state ≡ r → after.unanswered ≤ n + 1
    by (Ok d) is =
        let same = ap (λ (w : Trajectory). w.unanswered) (step_same (walked walk state d) after d.next next (step_on decide walk state s) (decided d is) e) in
        omega (arith, same, at_most_one d.unanswered, h)
    by (Err d) is = absurd (no_step after next d (step_on decide walk state s) (refuted d is) e)

-- deciding by a solver's answers
module _ {Start Chain : Type 0} (v : Solving Start Chain) (p : Validated) (pools : List (List Cut)) (run : ℕ) (e : is_validated p ≡ true) where
  pub decides : Decides p (decide_step v p pools run)
  unfolding decide_of
  decides = record {
    next = λ s state d h is. next_by p e run s.node h (values_of p.parts s) state (stage_answer v p pools s.node (values_of p.parts s) state) (classify_of (node_at (problem_of p) s.node) (values_of p.parts s) state (stage_answer v p pools s.node (values_of p.parts s) state)) d is;
    infeasible = λ s state d h is. refutes_classified p e run s.node h (values_of p.parts s) state (stage_answer v p pools s.node (values_of p.parts s) state) d is;
  }

  -- a walk that is defined is one along its path
  pub walk_is : (path : List PathStep) (walk : Trajectory) → IsPath p path → trajectory_of v p pools run path ≡ Ok walk → IsWalk p path walk
  unfolding trajectory_of
  walk_is path walk h is =
      let g : Goes p no_walk path walk = goes p (decide_step v p pools run) decides no_walk (times_all S (problem_of p).initial) path walk (comes_first p path e h) is in
      record { count = ap (λ (xs : List (List ℤ)). length xs) g.is ∙ g.count; inside = subst (λ (xs : List (List ℤ)). AreStatesInside p path xs) (sym g.is) g.inside; unanswered = omega (arith, g.few) }

  -- and an infeasibility has no decisions
  pub walk_dies : (path : List PathStep) (infeasible : Infeasibility) → IsPath p path → trajectory_of v p pools run path ≡ Err infeasible → Refutes p infeasible
  unfolding trajectory_of
  walk_dies path infeasible h is = dies p (decide_step v p pools run) decides no_walk (times_all S (problem_of p).initial) path infeasible (comes_first p path e h) is

  -- walks along several paths
  pub walks_are : (paths : List (List PathStep)) (walks : List Trajectory) → All (IsPath p) paths → walks_of v p pools run paths ≡ Ok walks → AreWalks p paths walks
  walks_are paths walks h is =
      let each = each_holds (trajectory_of v p pools run) (IsPath p) (IsWalk p) (λ path walk i e. walk_is path walk i e) paths walks h is in
      record { count = each.count; each = each.each }

  pub walks_die : (paths : List (List PathStep)) (infeasible : Infeasibility) → All (IsPath p) paths → walks_of v p pools run paths ≡ Err infeasible → Refutes p infeasible
  walks_die paths infeasible h is = each_refuses (trajectory_of v p pools run) (IsPath p) (Refutes p) (λ path d i e. walk_dies path d i e) paths infeasible h is

  -- and of what is given in their place
  pub given_walks : (paths : List (List PathStep)) (r : Result (List Trajectory) PlanFault) → All (IsPath p) paths → GivesOrRefutes r (walks_of v p pools run paths) → IfOk r (AreWalks p paths)
  given_walks paths r h given = if_given r (walks_of v p pools run paths) (AreWalks p paths) (λ walks is. walks_are paths walks h is) given

  pub given_infeasible : (paths : List (List PathStep)) (r : Result (List Trajectory) PlanFault) → All (IsPath p) paths → GivesOrRefutes r (walks_of v p pools run paths) → OnNoStage r (Refutes p)
  given_infeasible paths r h given = on_no_stage r (walks_of v p pools run paths) (Refutes p) (λ infeasible is. walks_die paths infeasible h is) given
