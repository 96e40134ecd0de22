-- The steps of the loops through successors and through branches.
use Rattle.std.proofs.Common.{◌≡◌, ◌∙◌, ℕ, suc, ◌+◌, ◌*◌, ◌<◌, ◌≤◌, ℤ, pos, ◌+ℤ◌, ◌*ℤ◌, FitsSigned, true, nat_lt, List, [], ◌∷◌, length, get_or, drop, drop_of_length-le, sum, All, Result, Ok, Err, sym, ap, subst, arith}
use Rattle.std.specs.Int.{w128}
use Rattle.std.specs.List.{list_all}
use Rattle.std.proofs.lemmas.Bool.Decides.{nat_tests}
use Rattle.std.proofs.lemmas.List.{get_or_default}
use Rattle.std.proofs.lemmas.List.Elements.{All-drop}
use Rattle.base_num.proofs.Tests.{all_at}
use Rattle.problem.specs.declared.parts.Node as nodes
use Rattle.problem.specs.Validated.{Validated, is_validated}
use Rattle.theory.specs.Problem.{Realization, Successor, Node, node_at, successor_weights, realization_weight, weight_of_realizations}
use Rattle.theory.specs.View.{successors_of, problem_of}
use Rattle.theory.proofs.Views.{All-successors_of, length-successors_of}
use Rattle.policy_evaluate.specs.declared.costs.Walked.{Walked}
use Rattle.policy_evaluate.specs.declared.walking.Fault.{Fault}
use Rattle.policy_evaluate.specs.PolicyTree.{Deciding, Stop}
use Rattle.policy_evaluate.specs.Costs.{add_branch, add_cost, branch_cost, branch_costs, successor_costs, no_cost}
use Rattle.policy_evaluate.specs.Small.{AddsUp, IsCost, IsSmall, successor_branches, successor_denominator}
use Rattle.policy_evaluate.specs.TooBig.{branches, denominator}
use Rattle.policy_evaluate.specs.Verdicts.{VerdictStops}
use Rattle.policy_evaluate.proofs.Adding.{SuccessorsGo, successor_adds, successor_next, successor_small, successor_stops, successors_last}
use Rattle.policy_evaluate.proofs.Branching.{BranchesGo, branch_next, branch_small_here, branch_stops, branch_weighted, branch_whole, branches_last}
use Rattle.policy_evaluate.proofs.Faults.{stops_on}
use Rattle.policy_evaluate.proofs.Positive.{dens, dens_some}
use Rattle.policy_evaluate.proofs.Seen.{Read, Seen, length-realizations_of, successor_here, realization_here}

less : (m n : ℕ) → nat_lt m n ≡ true → m < n
less m n e = grind (arith, nat_tests)

successors_known : (count : ℕ) (ms ws : List ℕ) → length ws ≡ length ms → list_all (λ m. nat_lt m count) ms ≡ true → All (λ (l : Successor). l.node < count) (successors_of ms ws)
successors_known count ms ws e h = All-successors_of (λ (l : Successor). l.node < count) ms ws e (λ i inside. less (get_or ms i 0) count (all_at (λ m. nat_lt m count) ms i 0 h inside))

-- a step of the loop through successors
module _ (p : Validated) (e : is_validated p ≡ true) (n k : ℕ) (go : ℕ → ℕ → Result Walked Stop) (ms ws : List ℕ) (known : list_all (λ m. nat_lt m (length p.parts.nodes)) ms ≡ true) (counted : length ws ≡ length ms)
    (small : IsSmall p n (successor_denominator p n (successors_of ms ws)) (sum (successor_weights (successors_of ms ws))) k (successor_branches p n (successors_of ms ws))) (i : ℕ) (inside : i < length ms) (total : Walked)
    (h : SuccessorsGo p n k go (successors_of ms ws) (drop i (successors_of ms ws)) total) where
  abbrev m : ℕ
  m = get_or ms i 0

  abbrev w : ℕ
  w = get_or ws i 0

  abbrev tail : List Successor
  tail = drop (i + 1) (successors_of ms ws)

  abbrev successor : Successor
  successor = record { node = m; weight = w }

  split : drop i (successors_of ms ws) ≡ successor ∷ tail
  split = successor_here ms ws i m w counted inside (get_or_default ms i 0 m inside) (get_or_default ws i 0 w (omega (arith, inside, counted)))

  here : SuccessorsGo p n k go (successors_of ms ws) (successor ∷ tail) total
  here = subst (λ (ls : List Successor). SuccessorsGo p n k go (successors_of ms ws) ls total) split h

  some : All (λ b. 0 < b) (dens p n (successor ∷ tail))
  some =
      dens_some p e n (successor ∷ tail)
      (subst (λ (ls : List Successor). All (λ (l : Successor). l.node < length p.parts.nodes) ls) split (All-drop (λ (l : Successor). l.node < length p.parts.nodes) i (successors_of ms ws) (successors_known (length p.parts.nodes) ms ws counted known)))

  pub step_small : IsSmall p n (denominator (problem_of p) n m) 1 total.decided (branches (problem_of p) n m)
  step_small = successor_small p n k go (successors_of ms ws) successor tail total total here some small

  pub step_known : m < length p.parts.nodes
  step_known = less m (length p.parts.nodes) (all_at (λ m. nat_lt m (length p.parts.nodes)) ms i 0 known inside)

  pub step_adds : (c : Walked) → IsCost p n (denominator (problem_of p) n m) 1 (total.decided + branches (problem_of p) n m) c → AddsUp total w c
  step_adds c is = successor_adds p n k go (successors_of ms ws) successor tail total c here some small is

  pub step_next : (c next : Walked) → IsCost p n (denominator (problem_of p) n m) 1 (total.decided + branches (problem_of p) n m) c → go total.decided m ≡ Ok c → next ≡ add_cost total w c → SuccessorsGo p n k go (successors_of ms ws) (drop (i + 1) (successors_of ms ws)) next
  step_next c next is e same = subst (λ (s : Walked). SuccessorsGo p n k go (successors_of ms ws) tail s) (sym same) (successor_next p n k go (successors_of ms ws) successor tail total c here some small is e)

  pub step_stops : (s : Stop) → go total.decided m ≡ Err s → successor_costs go (no_cost k) (successors_of ms ws) ≡ Err s
  step_stops s e = successor_stops p n k go (successors_of ms ws) successor tail total total here some small s e

  pub step_fault : (f : Fault) → VerdictStops f (go total.decided m) → VerdictStops f (successor_costs go (no_cost k) (successors_of ms ws))
  step_fault f e = stops_on f (go total.decided m) (successor_costs go (no_cost k) (successors_of ms ws)) step_stops e

pub steps_last : (p : Validated) (n k : ℕ) (go : ℕ → ℕ → Result Walked Stop) (ms ws : List ℕ) (i : ℕ) (total : Walked) → length ws ≡ length ms → length ms ≤ i → SuccessorsGo p n k go (successors_of ms ws) (drop i (successors_of ms ws)) total
    → (successor_costs go (no_cost k) (successors_of ms ws) ≡ Ok total) × IsCost p n (successor_denominator p n (successors_of ms ws)) (sum (successor_weights (successors_of ms ws))) (k + successor_branches p n (successors_of ms ws)) total
steps_last p n k go ms ws i total counted past h =
    let all : SuccessorsGo p n k go (successors_of ms ws) [] total = subst (λ (ls : List Successor). SuccessorsGo p n k go (successors_of ms ws) ls total) (drop_of_length-le (successors_of ms ws) (omega (arith, past, length-successors_of ms ws counted))) h in
    (sym all.value, successors_last p n k go (successors_of ms ws) total all)

-- a step of the loop through branches
module _ (p : Validated) (n U j k : ℕ) (decide : Deciding) (go : List ℤ → ℕ → ℕ → Result Walked Stop) (m : ℕ) (x : List ℤ) (read : nodes.Node) (q : Seen p m read)
    (small : IsSmall p n U (realization_weight (node_at (problem_of p) m)) k (length (node_at (problem_of p) m).realizations * j)) (i w : ℕ) (v : List ℤ) (r : Read read i w v) (total : Walked)
    (h : BranchesGo p n U j k decide go (node_at (problem_of p) m) m x (node_at (problem_of p) m).realizations (drop i (node_at (problem_of p) m).realizations) i total) where
  abbrev node : Node
  node = node_at (problem_of p) m

  abbrev left : List Realization
  left = drop (i + 1) node.realizations

  abbrev own : Realization
  own = record { weight = w; values = v }

  parted : drop i node.realizations ≡ own ∷ left
  parted = ap (λ (rs : List Realization). drop i rs) q.realizations ∙ realization_here read.weights read.values i w v q.valued r.inside r.weight r.values ∙ ap (λ (rs : List Realization). own ∷ drop (i + 1) rs) (sym q.realizations)

  now : BranchesGo p n U j k decide go node m x node.realizations (own ∷ left) i total
  now = subst (λ (rs : List Realization). BranchesGo p n U j k decide go node m x node.realizations rs i total) parted h

  pub branch_small : IsSmall p n U 1 total.decided j
  branch_small = branch_small_here p n U j k decide go node m x node.realizations own left i total total now small

  module _ (c : Walked) (cost : IsCost p n U 1 (total.decided + j) c) where
    pub adds_weighted : FitsSigned w128 (pos w *ℤ c.up)
    adds_weighted = branch_weighted p n U j k decide go node m x node.realizations own left i total c now small cost

    pub adds_whole : FitsSigned w128 (total.up +ℤ pos w *ℤ c.up)
    adds_whole = branch_whole p n U j k decide go node m x node.realizations own left i total c now small cost

    pub adds_next : (next : Walked) → branch_cost decide go node total.decided (record { node = m; realization = i }) v x ≡ Ok c → next ≡ add_branch total w c → BranchesGo p n U j k decide go node m x node.realizations (drop (i + 1) node.realizations) (i + 1) next
    adds_next next e same =
        subst (λ (s : Walked). BranchesGo p n U j k decide go node m x node.realizations left (i + 1) s) (sym same)
        (subst (λ (q : ℕ). BranchesGo p n U j k decide go node m x node.realizations left q (add_branch total w c)) one_more (branch_next p n U j k decide go node m x node.realizations own left i total c now small cost e))
      where
        one_more : suc i ≡ i + 1
        one_more = omega arith

  pub adds_stops : (s : Stop) → branch_cost decide go node total.decided (record { node = m; realization = i }) v x ≡ Err s → branch_costs decide go node m (no_cost k) 0 node.realizations x ≡ Err s
  adds_stops s e = branch_stops p n U j k decide go node m x node.realizations own left i total total now small s e

  pub adds_fault : (f : Fault) → VerdictStops f (branch_cost decide go node total.decided (record { node = m; realization = i }) v x) → VerdictStops f (branch_costs decide go node m (no_cost k) 0 node.realizations x)
  adds_fault f e = stops_on f (branch_cost decide go node total.decided (record { node = m; realization = i }) v x) (branch_costs decide go node m (no_cost k) 0 node.realizations x) adds_stops e

branches_end : (p : Validated) (n U j k : ℕ) (decide : Deciding) (go : List ℤ → ℕ → ℕ → Result Walked Stop) (node : Node) (m : ℕ) (x : List ℤ) (i : ℕ) (total : Walked) → 0 < i → length node.realizations ≤ i → BranchesGo p n U j k decide go node m x node.realizations (drop i node.realizations) i total
    → (branch_costs decide go node m (no_cost k) 0 node.realizations x ≡ Ok total) × IsCost p n U (weight_of_realizations node.realizations) (k + length node.realizations * j) total
branches_end p n U j k decide go node m x i total some past h =
    let all : BranchesGo p n U j k decide go node m x node.realizations [] i total = subst (λ (rs : List Realization). BranchesGo p n U j k decide go node m x node.realizations rs i total) (drop_of_length-le node.realizations past) h in
    (sym all.value, branches_last p n U j k decide go node m x node.realizations i total some all)

-- the end of the loop through branches, by the weights that code reads
pub branches_ended : (p : Validated) (n U j k : ℕ) (decide : Deciding) (go : List ℤ → ℕ → ℕ → Result Walked Stop) (m : ℕ) (x : List ℤ) (own : nodes.Node) (ws : List ℕ) (i : ℕ) (total : Walked) → Seen p m own → ws ≡ own.weights → length ws ≤ i
    → BranchesGo p n U j k decide go (node_at (problem_of p) m) m x (node_at (problem_of p) m).realizations (drop i (node_at (problem_of p) m).realizations) i total
    → (branch_costs decide go (node_at (problem_of p) m) m (no_cost k) 0 (node_at (problem_of p) m).realizations x ≡ Ok total) × IsCost p n U (realization_weight (node_at (problem_of p) m)) (k + length (node_at (problem_of p) m).realizations * j) total
branches_ended p n U j k decide go m x own ws i total q weights past h =
    let long : length (node_at (problem_of p) m).realizations ≡ length own.weights = ap (λ (rs : List Realization). length rs) q.realizations ∙ length-realizations_of own.weights own.values q.valued in
    let read : length ws ≡ length own.weights = ap (λ (ks : List ℕ). length ks) weights in
    branches_end p n U j k decide go (node_at (problem_of p) m) m x i total (omega (arith, past, read, q.some)) (omega (arith, past, read, long)) h
