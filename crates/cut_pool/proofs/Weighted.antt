-- The weighted values of the root's successors, summed in range.
use Rattle.std.proofs.Common.{◌≡◌, ℕ, ◌+◌, ◌<◌, ◌≤◌, ◌^◌, ◌*◌, ℤ, pos, ◌+ℤ◌, ◌*ℤ◌, ◌≤ℤ◌, ◌<ℤ◌, true, List, length, get_or, drop, SFits, to_z, of_z, sum, nat_lt, sym, ap, ◌∙◌, subst, arith}
use Rattle.std.specs.List.{list_all}
use mir.Syntax.{w128}
use Rattle.std.proofs.lemmas.Int.{ints, to_z-of_z}
use Rattle.std.proofs.lemmas.Bool.Decides.{nat_tests}
use Rattle.base_num.specs.Sums.{total}
use Rattle.base_num.proofs.Tests.{all_at}
use Rattle.problem.specs.declared.parts.ProblemParts.{ProblemParts}
use Rattle.problem.specs.Limits.{root_fits}
use Rattle.problem.specs.Validated.{Validated, is_validated, initial_values}
use Rattle.problem.proofs.ValidatedFacts.{parts-is_validated, root-parts_are_lawful, few_nodes}
use Rattle.theory.specs.declared.cut.Cut.{Cut}
use Rattle.theory.specs.Problem.{Successor, node_at, successor_weights}
use Rattle.theory.specs.Tree.{InBox}
use Rattle.theory.specs.Size.{magnitude}
use Rattle.theory.specs.Bound.{value}
use Rattle.theory.specs.Premises.{StartsIn, HaveCuts}
use Rattle.theory.specs.View.{problem_of, successors_of}
use Rattle.theory.proofs.Views.{root-problem_of, initial-problem_of, successor_weights-successors_of, successor_at, length-successors_of}
use Rattle.theory.proofs.ValidatedPremises.{root_shaped-validated, have_cuts-root}
use Rattle.theory.proofs.SizeToFit.{size_times}
use Rattle.theory.proofs.OneMore.{Added, total_step}
use Rattle.cut_pool.specs.AtNodes.{PoolsFit}
use Rattle.base_num.proofs.Order.{le_refl}
use Rattle.cut_pool.proofs.Reach.{start_box, total-weights}

-- a successor's weight times its value at the state x, and the most that it can be
abbrev pub part : List (List Cut) → List ℤ → Successor → ℤ
part pools x l = pos l.weight *ℤ value pools l.node x

abbrev pub most : Successor → ℤ
most l = pos l.weight *ℤ pos (2 ^ 104)

root_facts : (parts : ProblemParts) → root_fits parts ≡ true → (length parts.root_weights ≡ length parts.root) × (sum parts.root_weights ≤ 65535) × (0 < length parts.root) × (length parts.root ≤ length parts.nodes)
root_facts parts e = grind (arith, nat_tests)

root_known : (parts : ProblemParts) → root_fits parts ≡ true → list_all (λ m. nat_lt m (length parts.nodes)) parts.root ≡ true
root_known parts e = grind (arith, nat_tests)

pub record Root (p : Validated) : Type 0 where
  pub lengths : length p.parts.root_weights ≡ length p.parts.root
  pub weight : sum p.parts.root_weights ≤ 65535
  pub some : 0 < length p.parts.root
  pub few : length p.parts.root_weights ≤ 2 ^ 16

pub root : (p : Validated) → is_validated p ≡ true → Root p
root p e =
    let f = root_facts p.parts (root-parts_are_lawful p.parts (parts-is_validated p e)) in
    let n = few_nodes p.parts (parts-is_validated p e) in
    record { lengths = f.0; weight = f.1; some = f.2; few = omega (arith, f.3) }

below : (m n : ℕ) → nat_lt m n ≡ true → m < n
below m n e = grind (arith, nat_tests)

-- each successor of the root is there
pub known : (p : Validated) (i : ℕ) (d : ℕ) → is_validated p ≡ true → i < length p.parts.root → get_or p.parts.root i d < length p.parts.nodes
known p i d e h = below (get_or p.parts.root i d) (length p.parts.nodes) (all_at (λ m. nat_lt m (length p.parts.nodes)) p.parts.root i d (root_known p.parts (root-parts_are_lawful p.parts (parts-is_validated p e))) h)

-- the initial state is in its box
pub starts : (p : Validated) (i : ℕ) → is_validated p ≡ true → i < length p.parts.root → InBox 1 (node_at (problem_of p) (get_or p.parts.root i 0)).low (node_at (problem_of p) (get_or p.parts.root i 0)).high (initial_values p.parts)
starts p i e h =
    let lengths = (root p e).lengths in
    let no_successor : Successor = record { node = 0; weight = 0 } in
    let same = successor_at p.parts.root p.parts.root_weights i no_successor lengths h in
    let here : i < length (problem_of p).root = subst (λ (ls : List Successor). i < length ls) (sym (root-problem_of p)) (omega (arith, length-successors_of p.parts.root p.parts.root_weights lengths)) in
    let at : StartsIn (problem_of p) (node_at (problem_of p) (get_or (problem_of p).root i no_successor).node) = (root_shaped-validated p e).boxes i no_successor here in
    let in_successors : StartsIn (problem_of p) (node_at (problem_of p) (get_or (successors_of p.parts.root p.parts.root_weights) i no_successor).node) = subst (λ (ls : List Successor). StartsIn (problem_of p) (node_at (problem_of p) (get_or ls i no_successor).node)) (root-problem_of p) at in
    let of_root : StartsIn (problem_of p) (node_at (problem_of p) (get_or p.parts.root i 0)) = subst (λ (l : Successor). StartsIn (problem_of p) (node_at (problem_of p) l.node)) same in_successors in
    subst (λ (x : List ℤ). InBox 1 (node_at (problem_of p) (get_or p.parts.root i 0)).low (node_at (problem_of p) (get_or p.parts.root i 0)).high x) (initial-problem_of p) (start_box (problem_of p) (node_at (problem_of p) (get_or p.parts.root i 0)) of_root)

most_some : (l : Successor) → pos 0 ≤ℤ most l
most_some l = omega (arith, ints)

-- the sum of what they can be is in range
most_fits : (p : Validated) → is_validated p ≡ true → total most (successors_of p.parts.root p.parts.root_weights) <ℤ pos (2 ^ 127)
most_fits p e =
    let r = root p e in
    let all : total most (successors_of p.parts.root p.parts.root_weights) ≡ pos (sum p.parts.root_weights) *ℤ pos (2 ^ 104) = total-weights (2 ^ 104) (successors_of p.parts.root p.parts.root_weights) ∙ ap (λ (ws : List ℕ). pos (sum ws) *ℤ pos (2 ^ 104)) (successor_weights-successors_of p.parts.root p.parts.root_weights (sym r.lengths)) in
    let bound : sum p.parts.root_weights * 2 ^ 104 ≤ 65535 * 2 ^ 104 = omega (arith, r.weight) in
    omega (arith, ints, all, bound)

-- one successor more
pub next : (p : Validated) (pools : List (List Cut)) (i : ℕ) (s v : ℤ) → is_validated p ≡ true → i < length p.parts.root → v ≡ value pools (get_or p.parts.root i 0) (initial_values p.parts) → magnitude v ≤ℤ pos (2 ^ 104)
    → total (part pools (initial_values p.parts)) (successors_of p.parts.root p.parts.root_weights) ≡ s +ℤ total (part pools (initial_values p.parts)) (drop i (successors_of p.parts.root p.parts.root_weights))
    → (magnitude s +ℤ total most (drop i (successors_of p.parts.root p.parts.root_weights))) ≤ℤ total most (successors_of p.parts.root p.parts.root_weights)
    → Added (total (part pools (initial_values p.parts)) (successors_of p.parts.root p.parts.root_weights)) s (pos (get_or p.parts.root_weights i 0) *ℤ v) (total (part pools (initial_values p.parts)) (drop (i + 1) (successors_of p.parts.root p.parts.root_weights))) (total most (drop (i + 1) (successors_of p.parts.root p.parts.root_weights))) (total most (successors_of p.parts.root p.parts.root_weights))
next p pools i s v e h is small value room =
    let lengths = (root p e).lengths in
    let no_successor : Successor = record { node = 0; weight = 0 } in
    let x : List ℤ = initial_values p.parts in
    let ls : List Successor = successors_of p.parts.root p.parts.root_weights in
    let here : i < length (successors_of p.parts.root p.parts.root_weights) = omega (arith, length-successors_of p.parts.root p.parts.root_weights lengths) in
    let same = successor_at p.parts.root p.parts.root_weights i no_successor lengths h in
    let term : part pools (initial_values p.parts) (get_or (successors_of p.parts.root p.parts.root_weights) i no_successor) ≡ pos (get_or p.parts.root_weights i 0) *ℤ v = ap (part pools (initial_values p.parts)) same ∙ ap (λ (k : ℤ). pos (get_or p.parts.root_weights i 0) *ℤ k) (sym is) in
    let bound : magnitude (pos (get_or p.parts.root_weights i 0) *ℤ v) ≤ℤ most (get_or (successors_of p.parts.root p.parts.root_weights) i no_successor) = subst (λ (l : Successor). magnitude (pos (get_or p.parts.root_weights i 0) *ℤ v) ≤ℤ most l) (sym same) (size_times (pos (get_or p.parts.root_weights i 0)) v (pos (get_or p.parts.root_weights i 0)) (pos (2 ^ 104)) (le_refl (pos (get_or p.parts.root_weights i 0))) small) in
    subst (λ (z : ℤ). Added (total (part pools x) ls) s z (total (part pools x) (drop (i + 1) ls)) (total most (drop (i + 1) ls)) (total most ls)) term
    (total_step (part pools x) most ls i no_successor s here (subst (λ (z : ℤ). magnitude z ≤ℤ most (get_or ls i no_successor)) (sym term) bound) most_some value room (most_fits p e))

-- the sum with a part that is read on the way
pub next_read : (p : Validated) (pools : List (List Cut)) (parts : ProblemParts) (ms ws : List ℕ) (x : List ℤ) (i : ℕ) (s w v : ℤ) → is_validated p ≡ true → parts ≡ p.parts → ms ≡ parts.root → ws ≡ parts.root_weights → x ≡ initial_values p.parts → i < length ms
    → SFits w128 w → SFits w128 v → w ≡ pos (get_or ws i 0) → v ≡ value pools (get_or ms i 0) x → magnitude v ≤ℤ pos (2 ^ 104)
    → total (part pools (initial_values p.parts)) (successors_of p.parts.root p.parts.root_weights) ≡ s +ℤ total (part pools (initial_values p.parts)) (drop i (successors_of p.parts.root p.parts.root_weights))
    → (magnitude s +ℤ total most (drop i (successors_of p.parts.root p.parts.root_weights))) ≤ℤ total most (successors_of p.parts.root p.parts.root_weights)
    → Added (total (part pools (initial_values p.parts)) (successors_of p.parts.root p.parts.root_weights)) s (to_z w128 (of_z w128 w) *ℤ to_z w128 (of_z w128 v)) (total (part pools (initial_values p.parts)) (drop (i + 1) (successors_of p.parts.root p.parts.root_weights))) (total most (drop (i + 1) (successors_of p.parts.root p.parts.root_weights))) (total most (successors_of p.parts.root p.parts.root_weights))
next_read p pools parts ms ws x i s w v e is list weights start h fw fv we ve small value room =
    let nodes : ms ≡ p.parts.root = list ∙ ap (λ (r : ProblemParts). r.root) is in
    let weight : to_z w128 (of_z w128 w) ≡ pos (get_or p.parts.root_weights i 0) = to_z-of_z w128 w fw ∙ we ∙ ap (λ (ks : List ℕ). pos (get_or ks i 0)) (weights ∙ ap (λ (r : ProblemParts). r.root_weights) is) in
    rw (weight, to_z-of_z w128 v fv) (next p pools i s v e (rw nodes at h) (rw (nodes, start) at ve) small value room)

-- the root's weights, as the definitions see them
pub root_weights : (p : Validated) → is_validated p ≡ true → sum (successor_weights (problem_of p).root) ≡ sum p.parts.root_weights
root_weights p e = ap (λ (ls : List Successor). sum (successor_weights ls)) (root-problem_of p) ∙ ap (λ (ws : List ℕ). sum ws) (successor_weights-successors_of p.parts.root p.parts.root_weights (sym (root p e).lengths))

pub root_some : (p : Validated) → is_validated p ≡ true → 0 < sum p.parts.root_weights
root_some p e = subst (λ (k : ℕ). 0 < k) (root_weights p e) (root_shaped-validated p e).some

-- pools that fit have a cut for each successor of the root
pub have_cuts-fit : (p : Validated) (pools : List (List Cut)) → is_validated p ≡ true → PoolsFit p pools → HaveCuts pools (problem_of p).root
have_cuts-fit p pools e f = have_cuts-root p pools e f.some
