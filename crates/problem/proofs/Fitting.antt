-- A problem that is arranged can be validated.
use Rattle.std.proofs.Common.{◌≡◌, ◌∙◌, ℕ, ◌<◌, ◌≤◌, ℤ, pos, true, ◌&&◌, ◌==◌, List, [], length, get_or, slice_get, nat_lt, unwrap_or, Contains, Option, Some, None, Result, Ok, Err, refl, ap, subst, sym, arith}
use Rattle.std.specs.List.{list_all, list_any}
use Rattle.std.specs.Prelude.{option_and_then}
use Rattle.std.proofs.lemmas.List.FromFn.{length-map-range_with_len, get_or-map-range_with_len}
use Rattle.base_num.specs.Sums.{entry}
use lib.Pointwise.{pointwise}
use Rattle.std.specs.Bool.{nat_eq}
use Rattle.std.specs.Prelude.{is_none}
use Rattle.std.proofs.lemmas.Slice.Eq.{bytes_eq-Decides}
use Rattle.problem.proofs.Listed.{any_member, place_of}
use Rattle.problem.proofs.Enclosing.{at_most_each, holds_incoming, end_comes_in, start_comes_in}
use Rattle.problem.proofs.Small.{sides_numbers}
use Rattle.problem.proofs.Given.{bounds_stand-sides}
use Rattle.problem.proofs.ValidatedFacts.{known_graph, known_root, few_nodes, few_states}
use Rattle.base_graph.proofs.Paths.{leads_to}
use Rattle.base_graph.specs.Paths.{arcs_from}
use Rattle.base_num.proofs.Tests.{all_at, all_members, both}
use Rattle.std.specs.Option.{option_map}
use Rattle.std.proofs.lemmas.Option.{unwrap_or-slice_get, get_or_from_slice_get, slice_get-map, slice_get-get_or}
use Rattle.std.proofs.lemmas.List.{length-map}
use Rattle.std.proofs.lemmas.Bool.Decides.{nat_tests}
use Rattle.base_graph.specs.Paths.{numbers, first_in_cycle, first_unreached}
use Rattle.base_graph.specs.Ranks.{ranks, by_rank, longest_from}
use Rattle.problem.specs.declared.parts.ProblemParts.{ProblemParts}
use Rattle.problem.specs.declared.parts.Node.{Node}
use Rattle.problem.specs.declared.refusal.Refusal.{Refusal}
use Rattle.problem.specs.Limits.{are_numbers, parts_are_lawful}
use Rattle.problem.specs.Validated.{Validated, is_validated, graph_of, graph_fits, boxes_fit, holds_box, lows_from, highs_from, leaves_inside, initial_values, at_most, bounds_stand}
use Rattle.problem.specs.declared.side.Side.{Side}
use Rattle.problem.specs.declared.side.Side.TheVariants.{Low, High}
use Rattle.problem.specs.Hull.{hull_ends, end_at, incoming, given, hull, first_gap, box_side, sides}
use Rattle.problem.specs.Arranged.{ordered, unless_cycle, unless_unreached, boxed, unless_gap, arranged, with_order, with_boxes}

-- the parts make the problem
pub arranged_is : (parts : ProblemParts) (order : List ℕ) (longest : ℕ) (lo hi : List (List ℤ)) → ordered parts ≡ Ok (order, longest) → boxed parts ≡ Ok (lo, hi) → arranged parts ≡ Ok (record { parts = parts; order = order; longest = longest; lo = lo; hi = hi })
unfolding arranged
arranged_is parts order longest lo hi o b = ap (with_order parts) o ∙ ap (with_boxes parts (order, longest)) b

pub few : (parts : ProblemParts) → parts_are_lawful parts ≡ true → (length parts.nodes ≤ 1000) × (length parts.states ≤ 50)
few parts e = (few_nodes parts e, few_states parts e)

ok_is : {A : Type 0} (a b : A) → ◌≡◌ {A = Result A Refusal} (Ok a) (Ok b) → a ≡ b
ok_is a b e = cc

-- the facts that an Ok of the order states
record Ordered (parts : ProblemParts) (order : List ℕ) (longest : ℕ) : Type 0 where
  no_cycle : first_in_cycle (graph_of parts) ≡ None
  all_reached : first_unreached (graph_of parts) parts.root ≡ None
  the_order : by_rank (ranks (graph_of parts)) ≡ order
  the_longest : longest_from (ranks (graph_of parts)) parts.root ≡ longest

ordered_is : (parts : ProblemParts) (order : List ℕ) (longest : ℕ) (c u : Option ℕ) → first_in_cycle (graph_of parts) ≡ c → first_unreached (graph_of parts) parts.root ≡ u → ordered parts ≡ Ok (order, longest) → Ordered parts order longest
unfolding ordered
ordered_is parts order longest (Some m) u a b e = let h : unless_cycle parts (Some m) ≡ Ok (order, longest) = ap (unless_cycle parts) (sym a) ∙ e in cc
ordered_is parts order longest None (Some m) a b e = let h : unless_unreached parts (Some m) ≡ Ok (order, longest) = ap (unless_unreached parts) (sym b) ∙ ap (unless_cycle parts) (sym a) ∙ e in cc
ordered_is parts order longest None None a b e =
    let h : unless_unreached parts None ≡ Ok (order, longest) = ap (unless_unreached parts) (sym b) ∙ ap (unless_cycle parts) (sym a) ∙ e in
    let same = ok_is (by_rank (ranks (graph_of parts)), longest_from (ranks (graph_of parts)) parts.root) (order, longest) h in
    record { no_cycle = a; all_reached = b; the_order = ap (λ q. q.0) same; the_longest = ap (λ q. q.1) same }

boxed_is : (parts : ProblemParts) (lo hi : List (List ℤ)) (g : Option (ℕ × ℕ)) → first_gap parts (numbers (length parts.nodes)) ≡ g → boxed parts ≡ Ok (lo, hi) → (first_gap parts (numbers (length parts.nodes)) ≡ None) × (sides Low parts ≡ lo) × (sides High parts ≡ hi)
unfolding boxed
boxed_is parts lo hi (Some at) a e = let h : unless_gap parts (Some at) ≡ Ok (lo, hi) = ap (unless_gap parts) (sym a) ∙ e in cc
boxed_is parts lo hi None a e =
    let h : unless_gap parts None ≡ Ok (lo, hi) = ap (unless_gap parts) (sym a) ∙ e in
    let same = ok_is (sides Low parts, sides High parts) (lo, hi) h in
    (a, ap (λ q. q.0) same, ap (λ q. q.1) same)

pointwise_same : (xs ys : List ℕ) → xs ≡ ys → pointwise nat_eq xs ys ≡ true
pointwise_same xs ys e = (bytes_eq-Decides xs ys).1 e

same_number : (a b : ℕ) → a ≡ b → (a == b) ≡ true
same_number a b e = grind (arith, nat_tests)

graph_fits-ordered : (parts : ProblemParts) (order : List ℕ) (longest : ℕ) → ordered parts ≡ Ok (order, longest) → graph_fits parts order longest ≡ true
unfolding graph_fits
graph_fits-ordered parts order longest e =
    let o = ordered_is parts order longest _ _ refl refl e in
    let no_cycle : is_none (first_in_cycle (graph_of parts)) ≡ true = ap is_none o.no_cycle in
    let all_reached : is_none (first_unreached (graph_of parts) parts.root) ≡ true = ap is_none o.all_reached in
    both _ (longest == longest_from (ranks (graph_of parts)) parts.root)
    (both _ (pointwise nat_eq order (by_rank (ranks (graph_of parts)))) (both (is_none (first_in_cycle (graph_of parts))) (is_none (first_unreached (graph_of parts) parts.root)) no_cycle all_reached) (pointwise_same order (by_rank (ranks (graph_of parts))) (sym o.the_order)))
    (same_number longest (longest_from (ranks (graph_of parts)) parts.root) (sym o.the_longest))

-- the ends of what a node lets out
end_is : (nodes : List Node) (all : List (List ℤ)) (k p : ℕ) (n : Node) → slice_get nodes p ≡ Some n → entry (get_or all n.sub []) k ≡ end_at nodes all k p
end_is nodes all k p n e =
    ap (λ es. entry es k) (sym (unwrap_or-slice_get all n.sub [])) ∙ by_list (slice_get all n.sub)
    ∙ ap (λ o. unwrap_or (option_and_then (λ (m : Node). option_and_then (λ (es : List ℤ). slice_get es k) (slice_get all m.sub)) o) (pos 0)) (sym e)
  where
    by_list : (o : Option (List ℤ)) → entry (unwrap_or o []) k ≡ unwrap_or (option_and_then (λ (es : List ℤ). slice_get es k) o) (pos 0)
    by_list None = refl
    by_list (Some es) = sym (unwrap_or-slice_get es k (pos 0))

side_list : (side : Side) (parts : ProblemParts) (m : ℕ) → m < length parts.nodes → get_or (sides side parts) m [] ≡ box_side side parts m
side_list side parts m l = get_or-map-range_with_len (box_side side parts) 0 (length parts.nodes) m m [] l (omega arith)

within_states : (side : Side) (parts : ProblemParts) (m k : ℕ) → k < length (box_side side parts m) → k < length parts.states
within_states side parts m k l = subst (λ c. k < c) (length-map-range_with_len (λ s. unwrap_or (given side parts m s) (entry (hull side parts m) s)) 0 (length parts.states)) l

-- the box of the node m holds what comes in at each state
box_holds : (parts : ProblemParts) (m : ℕ) (lows highs : List ℤ) → first_gap parts (numbers (length parts.nodes)) ≡ None → m < length parts.nodes
    → ((k : ℕ) → k < length lows → Contains (incoming Low parts m k) (entry lows k)) → ((k : ℕ) → k < length highs → Contains (incoming High parts m k) (entry highs k))
    → holds_box (sides Low parts) (sides High parts) lows highs m ≡ true
box_holds parts m lows highs none l ins outs =
    both (at_most (get_or (sides Low parts) m []) lows) (at_most highs (get_or (sides High parts) m []))
    (subst (λ xs. at_most xs lows ≡ true) (sym (side_list Low parts m l))
    (at_most_each (box_side Low parts m) lows (λ k i j. holds_incoming Low parts m k (entry lows k) none l (within_states Low parts m k i) (ins k j))))
    (subst (λ xs. at_most highs xs ≡ true) (sym (side_list High parts m l))
    (at_most_each highs (box_side High parts m) (λ k i j. holds_incoming High parts m k (entry highs k) none l (within_states High parts m k j) (outs k i))))

successors_of_node : (parts : ProblemParts) (p : ℕ) (n : Node) → slice_get parts.nodes p ≡ Some n → arcs_from (graph_of parts) p ≡ n.successors
successors_of_node parts p n e = get_or_from_slice_get (graph_of parts) p n.successors [] (slice_get-map (λ (k : Node). k.successors) parts.nodes p ∙ ap (option_map (λ (k : Node). k.successors)) e)

-- the state that leaves the node p lies in the box of its successor m
successor_inside : (parts : ProblemParts) (p m : ℕ) (n : Node) → first_gap parts (numbers (length parts.nodes)) ≡ None → slice_get parts.nodes p ≡ Some n → Contains n.successors m → m < length parts.nodes
    → holds_box (sides Low parts) (sides High parts) (lows_from parts n) (highs_from parts n) m ≡ true
successor_inside parts p m n none e c l =
    let successor : Contains (arcs_from (graph_of parts) p) m = subst (λ ls. Contains ls m) (sym (successors_of_node parts p n e)) c in
    box_holds parts m (lows_from parts n) (highs_from parts n) none l
    (λ k i. subst (λ z. Contains (incoming Low parts m k) z) (sym (end_is parts.nodes (hull_ends Low parts) k p n e)) (end_comes_in Low parts p m k successor))
    (λ k i. subst (λ z. Contains (incoming High parts m k) z) (sym (end_is parts.nodes (hull_ends High parts) k p n e)) (end_comes_in High parts p m k successor))

-- the initial values lie in the box of the root's successor m
root_inside : (parts : ProblemParts) (m : ℕ) → first_gap parts (numbers (length parts.nodes)) ≡ None → Contains parts.root m → m < length parts.nodes
    → holds_box (sides Low parts) (sides High parts) (initial_values parts) (initial_values parts) m ≡ true
root_inside parts m none c l =
    let led : list_any (λ k. k == m) parts.root ≡ true = any_member (λ k. k == m) parts.root m c (same_number m m refl) in
    let at : (side : Side) (k : ℕ) → k < length (initial_values parts) → Contains (incoming side parts m k) (entry (initial_values parts) k) =
    (λ side k i. start_comes_in side parts m k (entry (initial_values parts) k) led (slice_get-get_or (initial_values parts) k (pos 0) i)) in
    box_holds parts m (initial_values parts) (initial_values parts) none l (at Low) (at High)

successor_known : (parts : ProblemParts) (p m : ℕ) (n : Node) → parts_are_lawful parts ≡ true → slice_get parts.nodes p ≡ Some n → Contains n.successors m → m < length parts.nodes
successor_known parts p m n f e c =
    subst (λ k. m < k) (length-map parts.nodes (λ (k : Node). k.successors)) (leads_to (graph_of parts) p m (known_graph parts f) (subst (λ ls. Contains ls m) (sym (successors_of_node parts p n e)) c))

root_known : (parts : ProblemParts) (m : ℕ) → parts_are_lawful parts ≡ true → Contains parts.root m → m < length parts.nodes
root_known parts m f c =
    let known : nat_lt (get_or parts.root c.0 m) (length (graph_of parts)) ≡ true = all_at (λ k. nat_lt k (length (graph_of parts))) parts.root c.0 m (known_root parts f) c.1 in
    let below : get_or parts.root c.0 m < length (graph_of parts) = grind (arith, nat_tests) in
    subst (λ k. m < k) (length-map parts.nodes (λ (k : Node). k.successors)) (subst (λ k. k < length (graph_of parts)) c.2 below)

boxes_fit-sides : (parts : ProblemParts) → parts_are_lawful parts ≡ true → first_gap parts (numbers (length parts.nodes)) ≡ None → boxes_fit parts (sides Low parts) (sides High parts) ≡ true
unfolding boxes_fit
boxes_fit-sides parts f none =
    both _ (list_all (holds_box (sides Low parts) (sides High parts) (initial_values parts) (initial_values parts)) parts.root)
    (both _ (list_all (leaves_inside parts (sides Low parts) (sides High parts)) parts.nodes)
    (both _ (list_all (are_numbers (length parts.states)) (sides High parts))
    (both _ (list_all (are_numbers (length parts.states)) (sides Low parts))
    (both _ (length (sides High parts) == length parts.nodes)
    (both (bounds_stand parts (sides Low parts) (sides High parts)) (length (sides Low parts) == length parts.nodes) (bounds_stand-sides parts)
    (same_number (length (sides Low parts)) (length parts.nodes) (length-map-range_with_len (box_side Low parts) 0 (length parts.nodes))))
    (same_number (length (sides High parts)) (length parts.nodes) (length-map-range_with_len (box_side High parts) 0 (length parts.nodes))))
    (sides_numbers Low parts f)) (sides_numbers High parts f))
    (all_members (leaves_inside parts (sides Low parts) (sides High parts)) parts.nodes (λ n c. all_members (holds_box (sides Low parts) (sides High parts) (lows_from parts n) (highs_from parts n)) n.successors (λ m d. successor_inside parts c.0 m n none (place_of parts.nodes n c) d (successor_known parts c.0 m n f (place_of parts.nodes n c) d)))))
    (all_members (holds_box (sides Low parts) (sides High parts) (initial_values parts) (initial_values parts)) parts.root (λ m c. root_inside parts m none c (root_known parts m f c)))

pub fits : (parts : ProblemParts) (order : List ℕ) (longest : ℕ) (lo hi : List (List ℤ)) → parts_are_lawful parts ≡ true → ordered parts ≡ Ok (order, longest) → boxed parts ≡ Ok (lo, hi) → is_validated (record { parts = parts; order = order; longest = longest; lo = lo; hi = hi }) ≡ true
unfolding is_validated
fits parts order longest lo hi f o b =
    let boxes = boxed_is parts lo hi _ refl b in
    let inside : boxes_fit parts lo hi ≡ true = subst (λ h. boxes_fit parts lo h ≡ true) boxes.2 (subst (λ l. boxes_fit parts l (sides High parts) ≡ true) boxes.1 (boxes_fit-sides parts f boxes.0)) in
    both (parts_are_lawful parts && graph_fits parts order longest) (boxes_fit parts lo hi) (both (parts_are_lawful parts) (graph_fits parts order longest) f (graph_fits-ordered parts order longest o)) inside

-- an Ok of the whole is one of its parts
validated_parts : (parts : ProblemParts) (p : Validated) (o : Result (List ℕ × ℕ) Refusal) (b : Result (List (List ℤ) × List (List ℤ)) Refusal) → parts_are_lawful parts ≡ true → ordered parts ≡ o → boxed parts ≡ b → with_order parts o ≡ Ok p → is_validated p ≡ true
validated_parts parts p (Err e) b f i j h = cc
validated_parts parts p (Ok o) (Err e) f i j h = let g : with_boxes parts o (Err e) ≡ Ok p = ap (with_boxes parts o) (sym j) ∙ h in cc
validated_parts parts p (Ok (order, longest)) (Ok (lo, hi)) f i j h =
    let same = ok_is (record { parts = parts; order = order; longest = longest; lo = lo; hi = hi }) p (ap (with_boxes parts (order, longest)) (sym j) ∙ h) in
    subst (λ q. is_validated q ≡ true) same (fits parts order longest lo hi f i j)

-- an arranged problem is validated
pub arranged_validated : (parts : ProblemParts) (p : Validated) → parts_are_lawful parts ≡ true → arranged parts ≡ Ok p → is_validated p ≡ true
unfolding arranged
arranged_validated parts p f h = validated_parts parts p (ordered parts) (boxed parts) f refl refl (h)
