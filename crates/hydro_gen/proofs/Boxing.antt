-- The boxes of a generated problem hold the states that come in: all of them are from 0 to 100.
use Rattle.std.proofs.Common.{◌≡◌, ℕ, zero, suc, ◌≤◌, ◌==◌, ◌&&◌, not, ℤ, pos, ◌≤ℤ◌, List, [], ◌∷◌, length, map, get_or, slice_get, replicate, Bool, true, false, cond, Option, Some, None, option_and_then, unwrap_or, Ok, refl, sym, ap, subst, ◌∙◌, arith}
use Rattle.std.specs.List.{list_any, fold, cons_option}
use Rattle.std.proofs.lemmas.Int.{ints, clamps}
use Rattle.base_num.specs.Sums.{entry}
use Rattle.base_graph.specs.Paths.{numbers}
use Rattle.base_graph.specs.Ranks.{predecessors}
use Rattle.problem.specs.declared.parts.State.{State}
use Rattle.problem.specs.declared.parts.Node.{Node}
use Rattle.problem.specs.declared.parts.ProblemParts.{ProblemParts}
use Rattle.problem.specs.Validated.{Validated, graph_of, out_lows, out_highs, initial_values}
use Rattle.problem.specs.declared.side.Side.{Side}
use Rattle.problem.specs.declared.side.Side.TheVariants.{Low, High}
use Rattle.problem.specs.Hull.{outer, outermost, hull_ends, end_at, start_at, incoming, hull, given, given_in, encloses, has_gap, first_gap, gap_in, sides}
use Rattle.problem.specs.Arranged.{unless_gap, with_order, with_boxes, boxed, arranged}
use Rattle.theory.proofs.Ranges.{int_le-true}
use Rattle.hydro_gen.specs.Stage.{reservoir_state_name}
use Rattle.hydro_gen.proofs.Subproblems.{form, each}
use Rattle.hydro_gen.proofs.Reading.{parts_form}
use Rattle.hydro_gen.proofs.Arranging.{none_found, order_form, ordered_form}

pub record Inside (z : ℤ) : Type 0 where
  pub low : pos 0 ≤ℤ z
  pub high : z ≤ℤ pos 100

abbrev InsideOption : Option ℤ → Type 0
InsideOption None = Unit {0}
InsideOption (Some z) = Inside z

abbrev AllInside : List ℤ → Type 0
AllInside [] = Unit {0}
AllInside (z ∷ zs) = Inside z × AllInside zs

zero_in : Inside (pos 0)
zero_in = record { low = omega (arith, ints); high = omega (arith, ints) }

fifty_in : Inside (pos 50)
fifty_in = record { low = omega (arith, ints); high = omega (arith, ints) }

hundred_in : Inside (pos 100)
hundred_in = record { low = omega (arith, ints); high = omega (arith, ints) }

-- ---- what leaves

abbrev LowsOut : ℕ → Type 0
LowsOut count = out_lows (form count) ≡ replicate count (pos 0)

abbrev HighsOut : ℕ → Type 0
HighsOut count = out_highs (form count) ≡ replicate count (pos 100)

lows_out : (count : ℕ) → 1 ≤ count → count ≤ 10 → out_lows (form count) ≡ replicate count (pos 0)
lows_out = each LowsOut refl refl refl refl refl refl refl refl refl refl

highs_out : (count : ℕ) → 1 ≤ count → count ≤ 10 → out_highs (form count) ≡ replicate count (pos 100)
highs_out = each HighsOut refl refl refl refl refl refl refl refl refl refl

repeated_in : (z : ℤ) → Inside z → (n s : ℕ) → InsideOption (slice_get (replicate n z) s)
repeated_in z p zero s = tt
repeated_in z p (suc n) zero = p
repeated_in z p (suc n) (suc s) = repeated_in z p n s

unwrapped : (o : Option ℤ) → InsideOption o → Inside (unwrap_or o (pos 0))
unwrapped None p = zero_in
unwrapped (Some z) p = p

module _ (zs : List ℤ) (p : (s : ℕ) → InsideOption (slice_get zs s)) where
  looked_up : (s k : ℕ) → Inside (unwrap_or (option_and_then (λ (xs : List ℤ). slice_get xs s) (slice_get (zs ∷ []) k)) (pos 0))
  looked_up s zero = unwrapped (slice_get zs s) (p s)
  looked_up s (suc k) = zero_in

  of_node : (s : ℕ) (o : Option Node) → Inside (unwrap_or (option_and_then (λ (n : Node). option_and_then (λ (xs : List ℤ). slice_get xs s) (slice_get (zs ∷ []) n.sub)) o) (pos 0))
  of_node s None = zero_in
  of_node s (Some n) = looked_up s n.sub

  end_in : (nodes : List Node) (s m : ℕ) → Inside (end_at nodes (zs ∷ []) s m)
  end_in nodes s m = of_node s (slice_get nodes m)

-- ---- what comes in

outer_in : (side : Side) (x y : ℤ) → Inside x → Inside y → Inside (outer side x y)
outer_in Low x y p q = record { low = omega (arith, ints, clamps); high = omega (arith, ints, clamps) }
outer_in High x y p q = record { low = omega (arith, ints, clamps); high = omega (arith, ints, clamps) }

fold_in : (side : Side) (x : ℤ) (xs : List ℤ) → Inside x → AllInside xs → Inside (fold (outer side) x xs)
fold_in side x [] p q = p
fold_in side x (y ∷ ys) p q = fold_in side (outer side x y) ys (outer_in side x y p q.0) q.1

outermost_in : (side : Side) (xs : List ℤ) → AllInside xs → Inside (outermost side xs)
outermost_in side [] p = zero_in
outermost_in side (x ∷ xs) p = fold_in side x xs p.0 p.1

map_in : (f : ℕ → ℤ) → ((m : ℕ) → Inside (f m)) → (ms : List ℕ) → AllInside (map f ms)
map_in f p [] = tt
map_in f p (m ∷ ms) = (p m, map_in f p ms)

cons_in : (o : Option ℤ) (xs : List ℤ) → InsideOption o → AllInside xs → AllInside (cons_option o xs)
cons_in None xs p q = q
cons_in (Some z) xs p q = (p, q)

entry_in : (f : ℕ → ℤ) → ((m : ℕ) → Inside (f m)) → (ms : List ℕ) (s : ℕ) → Inside (entry (map f ms) s)
entry_in f p [] s = zero_in
entry_in f p (m ∷ ms) zero = p m
entry_in f p (m ∷ ms) (suc s) = entry_in f p ms s

initial_in : (name : ℕ → List ℕ) (js : List ℕ) (s : ℕ) → InsideOption (slice_get (map (λ (t : State). t.initial) (map (λ j. record { name = name j; initial = pos 50 }) js)) s)
initial_in name [] s = tt
initial_in name (j ∷ js) zero = fifty_in
initial_in name (j ∷ js) (suc s) = initial_in name js s

if_in : (b : Bool) (o : Option ℤ) → InsideOption o → InsideOption (cond b o None)
if_in true o p = p
if_in false o p = tt

module _ (word : ℕ → ℕ) (stages count : ℕ) (some : 1 ≤ count) (few : count ≤ 10) where
  abbrev parts : ProblemParts
  parts = parts_form word stages count

  side_end : (side : Side) (s m : ℕ) → Inside (end_at parts.nodes (hull_ends side parts) s m)
  side_end Low s m = subst (λ (es : List ℤ). Inside (end_at parts.nodes (es ∷ []) s m)) (sym (lows_out count some few)) (end_in (replicate count (pos 0)) (repeated_in (pos 0) zero_in count) parts.nodes s m)
  side_end High s m = subst (λ (es : List ℤ). Inside (end_at parts.nodes (es ∷ []) s m)) (sym (highs_out count some few)) (end_in (replicate count (pos 100)) (repeated_in (pos 100) hundred_in count) parts.nodes s m)

  incoming_in : (side : Side) (n s : ℕ) → AllInside (incoming side parts n s)
  incoming_in side n s =
      cons_in (start_at parts n s) (map (end_at parts.nodes (hull_ends side parts) s) (predecessors (graph_of parts) n))
      (if_in (list_any (λ m. m == n) parts.root) (slice_get (initial_values parts) s) (initial_in reservoir_state_name (numbers count) s))
      (map_in (end_at parts.nodes (hull_ends side parts) s) (side_end side s) (predecessors (graph_of parts) n))

  hull_in : (side : Side) (n s : ℕ) → Inside (entry (hull side parts n) s)
  unfolding hull
  hull_in side n s = entry_in (λ k. outermost side (incoming side parts n k)) (λ k. outermost_in side (incoming side parts n k) (incoming_in side n k)) (numbers (length parts.states)) s

  -- ---- the given bounds enclose it

  low_repeated : (n s : ℕ) (h : ℤ) → Inside h → encloses Low (get_or (replicate n (Some (pos 0))) s None) h ≡ true
  low_repeated zero s h p = refl
  low_repeated (suc n) zero h p = int_le-true (pos 0) h p.low
  low_repeated (suc n) (suc s) h p = low_repeated n s h p

  high_repeated : (n s : ℕ) (h : ℤ) → Inside h → encloses High (get_or (replicate n (Some (pos 100))) s None) h ≡ true
  high_repeated zero s h p = refl
  high_repeated (suc n) zero h p = int_le-true h (pos 100) p.high
  high_repeated (suc n) (suc s) h p = high_repeated n s h p

  low_by : (k s : ℕ) (h : ℤ) → Inside h → encloses Low (given_in Low (slice_get (form count ∷ []) k) s) h ≡ true
  low_by zero s h p = low_repeated count s h p
  low_by (suc k) s h p = refl

  high_by : (k s : ℕ) (h : ℤ) → Inside h → encloses High (given_in High (slice_get (form count ∷ []) k) s) h ≡ true
  high_by zero s h p = high_repeated count s h p
  high_by (suc k) s h p = refl

  low_at : (o : Option Node) (s : ℕ) (h : ℤ) → Inside h → encloses Low (given_in Low (option_and_then (λ (node : Node). slice_get (form count ∷ []) node.sub) o) s) h ≡ true
  low_at None s h p = refl
  low_at (Some n) s h p = low_by n.sub s h p

  high_at : (o : Option Node) (s : ℕ) (h : ℤ) → Inside h → encloses High (given_in High (option_and_then (λ (node : Node). slice_get (form count ∷ []) node.sub) o) s) h ≡ true
  high_at None s h p = refl
  high_at (Some n) s h p = high_by n.sub s h p

  both_enclose : (a b : Bool) → a ≡ true → b ≡ true → not (a && b) ≡ false
  both_enclose a b p q = rw (p, q) refl

  no_gap : (n s : ℕ) → has_gap parts n s ≡ false
  no_gap n s =
      both_enclose (encloses Low (given Low parts n s) (entry (hull Low parts n) s)) (encloses High (given High parts n s) (entry (hull High parts n) s))
      (low_at (slice_get parts.nodes n) s (entry (hull Low parts n) s) (hull_in Low n s)) (high_at (slice_get parts.nodes n) s (entry (hull High parts n) s) (hull_in High n s))

  no_first_gap : (ns : List ℕ) → first_gap parts ns ≡ None
  no_first_gap [] = refl
  no_first_gap (n ∷ ns) = ap (λ (o : Option ℕ). gap_in n o (first_gap parts ns)) (none_found (has_gap parts n) (numbers (length parts.states)) (no_gap n)) ∙ no_first_gap ns

  boxed_form : boxed parts ≡ Ok (sides Low parts, sides High parts)
  unfolding boxed
  boxed_form = ap (unless_gap parts) (no_first_gap (numbers (length parts.nodes)))

  -- the problem of the parts
  abbrev pub validated_form : Validated
  validated_form = record { parts = parts; order = (order_form parts).0; longest = (order_form parts).1; lo = sides Low parts; hi = sides High parts }

  pub arranged_form : arranged parts ≡ Ok validated_form
  unfolding arranged
  arranged_form = ap (with_order parts) (ordered_form word stages count) ∙ ap (with_boxes parts (order_form parts)) boxed_form
