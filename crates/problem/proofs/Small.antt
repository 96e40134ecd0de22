-- The sides of the boxes are small, as the numbers that they come from are.
use Rattle.std.proofs.Common.{◌≡◌, ℕ, ℤ, pos, Bool, true, false, ◌==◌, List, length, map, Option, Some, None, unwrap_or, slice_get, refl, arith}
use Rattle.std.specs.Prelude.{option_and_then, if◌then◌else◌}
use Rattle.std.specs.List.{list_all, list_any, cons_option}
use Rattle.std.proofs.lemmas.Bool.Decides.{nat_tests}
use Rattle.std.proofs.lemmas.Grind.{common_steps}
use Rattle.std.proofs.lemmas.List.FromFn.{length-map-range_with_len}
use Rattle.base_num.specs.Sums.{entry}
use Rattle.base_num.proofs.Tests.{both, all_at, all_get, all_map}
use Rattle.base_graph.specs.Paths.{numbers}
use Rattle.base_graph.specs.Ranks.{predecessors}
use Rattle.problem.specs.declared.parts.ProblemParts.{ProblemParts}
use Rattle.problem.specs.declared.parts.State.{State}
use Rattle.problem.specs.declared.parts.Decision.{Decision}
use Rattle.problem.specs.declared.parts.Node.{Node}
use Rattle.problem.specs.declared.parts.Subproblem.{Subproblem}
use Rattle.problem.specs.Limits.{is_small, are_small, are_numbers, is_bound, state_fits, decision_fits, subproblem_fits, parts_are_lawful}
use Rattle.problem.specs.Validated.{graph_of, initial_values, out_lows, out_highs}
use Rattle.problem.proofs.ValidatedFacts.{subproblems_fit, states_fit}
use Rattle.problem.proofs.SubproblemFacts.{decisions-subproblem_fits, lows-subproblem_fits, highs-subproblem_fits}
use Rattle.problem.specs.declared.side.Side.{Side}
use Rattle.problem.specs.declared.side.Side.TheVariants.{Low, High}
use Rattle.problem.specs.Hull.{hull_ends, end_at, incoming, outermost, hull, bounds, given_in, given, box_side, sides}
use Rattle.problem.proofs.Outside.{outermost_keeps}
use Rattle.problem.proofs.Listed.{all_made, all_or}

Small : ℤ → Type 0
Small z = is_small z ≡ true

low_small : (d : Decision) → decision_fits d ≡ true → is_small d.low ≡ true
low_small d e = grind (arith, nat_tests, common_steps, e)

high_small : (d : Decision) → decision_fits d ≡ true → is_small d.high ≡ true
high_small d e = grind (arith, nat_tests, common_steps, e)

-- a number that is read from a list of small numbers is small
read_small : (zs : List ℤ) (os : List ℕ) → list_all is_small zs ≡ true → are_small (map (entry zs) os) ≡ true
read_small zs os e = all_made (entry zs) is_small os (λ o. all_or is_small zs o (pos 0) e refl)

ends_of_small : (side : Side) (parts : ProblemParts) → parts_are_lawful parts ≡ true → list_all are_small (hull_ends side parts) ≡ true
ends_of_small Low parts e = all_map out_lows (subproblem_fits (length parts.states)) are_small (λ s f. read_small (map (λ (d : Decision). d.low) s.decisions) s.outs (all_map (λ (d : Decision). d.low) decision_fits is_small low_small s.decisions (decisions-subproblem_fits (length parts.states) s f))) parts.subs (subproblems_fit parts e)
ends_of_small High parts e = all_map out_highs (subproblem_fits (length parts.states)) are_small (λ s f. read_small (map (λ (d : Decision). d.high) s.decisions) s.outs (all_map (λ (d : Decision). d.high) decision_fits is_small high_small s.decisions (decisions-subproblem_fits (length parts.states) s f))) parts.subs (subproblems_fit parts e)

end_small : (nodes : List Node) (all : List (List ℤ)) (s p : ℕ) → list_all are_small all ≡ true → is_small (end_at nodes all s p) ≡ true
end_small nodes all s p e = at_node (slice_get nodes p)
  where
    at_state : (es : List ℤ) (o : Option ℤ) → are_small es ≡ true → slice_get es s ≡ o → is_small (unwrap_or o (pos 0)) ≡ true
    at_state es None f g = refl
    at_state es (Some z) f g = all_get is_small es s z f g

    at_subproblem : (k : ℕ) (o : Option (List ℤ)) → slice_get all k ≡ o → is_small (unwrap_or (option_and_then (λ (es : List ℤ). slice_get es s) o) (pos 0)) ≡ true
    at_subproblem k None g = refl
    at_subproblem k (Some es) g = at_state es (slice_get es s) (all_get are_small all k es e g) refl

    at_node : (o : Option Node) → is_small (unwrap_or (option_and_then (λ (n : Node). option_and_then (λ (es : List ℤ). slice_get es s) (slice_get all n.sub)) o) (pos 0)) ≡ true
    at_node None = refl
    at_node (Some n) = at_subproblem n.sub (slice_get all n.sub) refl

state_small : (s : State) → state_fits s ≡ true → is_small s.initial ≡ true
state_small s e = grind (arith, nat_tests, common_steps, e)

incoming_small : (side : Side) (parts : ProblemParts) (n s : ℕ) → parts_are_lawful parts ≡ true → list_all is_small (incoming side parts n s) ≡ true
incoming_small side parts n s e = with_start (list_any (λ m. m == n) parts.root) (slice_get (initial_values parts) s) refl
  where
    let_out : List ℤ
    let_out = map (end_at parts.nodes (hull_ends side parts) s) (predecessors (graph_of parts) n)

    outs_small : list_all is_small let_out ≡ true
    outs_small = all_made (end_at parts.nodes (hull_ends side parts) s) is_small (predecessors (graph_of parts) n) (λ p. end_small parts.nodes (hull_ends side parts) s p (ends_of_small side parts e))

    with_start : (b : Bool) (o : Option ℤ) → slice_get (initial_values parts) s ≡ o → list_all is_small (cons_option (if b then o else None) let_out) ≡ true
    with_start false o g = outs_small
    with_start true None g = outs_small
    with_start true (Some z) g = both (is_small z) (list_all is_small let_out) (all_get is_small (initial_values parts) s z (all_map (λ (x : State). x.initial) state_fits is_small state_small parts.states (states_fit parts e)) g) outs_small

hull_small : (side : Side) (parts : ProblemParts) (n : ℕ) → parts_are_lawful parts ≡ true → list_all is_small (hull side parts n) ≡ true
unfolding hull
hull_small side parts n e = all_made (λ s. outermost side (incoming side parts n s)) is_small (numbers (length parts.states)) (λ s. outermost_keeps (λ z. is_small z ≡ true) side (incoming side parts n s) refl (λ k d l. all_at is_small (incoming side parts n s) k d (incoming_small side parts n s e) l))

given_bounds : (side : Side) (states : ℕ) (sub : Subproblem) → subproblem_fits states sub ≡ true → list_all is_bound (bounds side sub) ≡ true
given_bounds Low states sub e = lows-subproblem_fits states sub e
given_bounds High states sub e = highs-subproblem_fits states sub e

given_fits : (side : Side) (parts : ProblemParts) (n s : ℕ) → parts_are_lawful parts ≡ true → is_bound (given side parts n s) ≡ true
given_fits side parts n s e = at_node (slice_get parts.nodes n)
  where
    at_subproblem : (k : ℕ) (o : Option Subproblem) → slice_get parts.subs k ≡ o → is_bound (given_in side o s) ≡ true
    at_subproblem k None g = refl
    at_subproblem k (Some sub) g = all_or is_bound (bounds side sub) s None (given_bounds side (length parts.states) sub (all_get (subproblem_fits (length parts.states)) parts.subs k sub (subproblems_fit parts e) g)) refl

    at_node : (o : Option Node) → is_bound (given_in side (option_and_then (λ (node : Node). slice_get parts.subs node.sub) o) s) ≡ true
    at_node None = refl
    at_node (Some node) = at_subproblem node.sub (slice_get parts.subs node.sub) refl

bound_small : (o : Option ℤ) (h : ℤ) → is_bound o ≡ true → is_small h ≡ true → is_small (unwrap_or o h) ≡ true
bound_small None h e f = f
bound_small (Some b) h e f = e

counted : (xs : List ℤ) (n : ℕ) → length xs ≡ n → (length xs == n) ≡ true
counted xs n e = grind (arith, nat_tests)

side_numbers : (side : Side) (parts : ProblemParts) (n : ℕ) → parts_are_lawful parts ≡ true → are_numbers (length parts.states) (box_side side parts n) ≡ true
side_numbers side parts n e =
    let side_entry : ℕ → ℤ = λ s. unwrap_or (given side parts n s) (entry (hull side parts n) s) in
    both (length (box_side side parts n) == length parts.states) (are_small (box_side side parts n)) (counted (box_side side parts n) (length parts.states) (length-map-range_with_len side_entry 0 (length parts.states)))
    (all_made side_entry is_small (numbers (length parts.states)) (λ s. bound_small (given side parts n s) (entry (hull side parts n) s) (given_fits side parts n s e) (all_or is_small (hull side parts n) s (pos 0) (hull_small side parts n e) refl)))

-- one entry per state, each small
pub sides_numbers : (side : Side) (parts : ProblemParts) → parts_are_lawful parts ≡ true → list_all (are_numbers (length parts.states)) (sides side parts) ≡ true
sides_numbers side parts e = all_made (box_side side parts) (are_numbers (length parts.states)) (numbers (length parts.nodes)) (λ n. side_numbers side parts n e)
