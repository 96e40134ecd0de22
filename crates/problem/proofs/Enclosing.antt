-- The boxes hold the states that come in.
use Rattle.std.proofs.Common.{◌≡◌, ◌∙◌, ℕ, zero, suc, ◌<◌, ◌==◌, ℤ, pos, ◌≤ℤ◌, Bool, true, false, ◌&&◌, not, List, [], ◌∷◌, length, map, Contains, Option, Some, None, unwrap_or, slice_get, refl, sym, ap, subst, arith}
use Rattle.std.specs.Prelude.{int_le, if◌then◌else◌}
use Rattle.std.specs.List.{list_any, find, cons_option}
use Rattle.std.proofs.lemmas.Int.{ints}
use Rattle.std.proofs.lemmas.List.FromFn.{get_or-map-range_with_len}
use Rattle.base_num.specs.Sums.{entry}
use Rattle.base_num.proofs.Tests.{and_first, and_second, both}
use Rattle.base_graph.specs.Paths.{numbers, arcs_from}
use Rattle.base_graph.specs.Ranks.{predecessors}
use Rattle.base_graph.proofs.Falling.{numbered}
use Rattle.base_graph.proofs.Leading.{leading}
use Rattle.problem.specs.declared.parts.ProblemParts.{ProblemParts}
use Rattle.problem.specs.Validated.{graph_of, initial_values, at_most}
use Rattle.problem.specs.declared.side.Side.{Side}
use Rattle.problem.specs.declared.side.Side.TheVariants.{Low, High}
use Rattle.problem.specs.Hull.{hull_ends, end_at, start_at, incoming, outermost, hull, given, encloses, has_gap, first_gap, gap_in, box_side}
use Rattle.problem.proofs.Outside.{Outside, outside-is_outside, further, outermost_of}
use Rattle.problem.proofs.Listed.{none_found}

hull_at : (side : Side) (parts : ProblemParts) (n s : ℕ) → s < length parts.states → entry (hull side parts n) s ≡ outermost side (incoming side parts n s)
unfolding hull
hull_at side parts n s l = get_or-map-range_with_len (λ k. outermost side (incoming side parts n k)) 0 (length parts.states) s s (pos 0) l (omega arith)

side_at : (side : Side) (parts : ProblemParts) (n s : ℕ) → s < length parts.states → entry (box_side side parts n) s ≡ unwrap_or (given side parts n s) (entry (hull side parts n) s)
side_at side parts n s l = get_or-map-range_with_len (λ k. unwrap_or (given side parts n k) (entry (hull side parts n) k)) 0 (length parts.states) s s (pos 0) l (omega arith)

-- no node with a gap
gap_free : (parts : ProblemParts) (ns : List ℕ) (n : ℕ) → first_gap parts ns ≡ None → Contains ns n → find (has_gap parts n) (numbers (length parts.states)) ≡ None
gap_free parts [] n e c = absurd (omega (arith, c.1))
gap_free parts (m ∷ ns) n e c = by (find (has_gap parts m) (numbers (length parts.states))) refl e c (λ f d. gap_free parts ns n f d)
  where
    by : (o : Option ℕ) → find (has_gap parts m) (numbers (length parts.states)) ≡ o → gap_in m o (first_gap parts ns) ≡ None → Contains (m ∷ ns) n → (first_gap parts ns ≡ None → Contains ns n → find (has_gap parts n) (numbers (length parts.states)) ≡ None)
        → find (has_gap parts n) (numbers (length parts.states)) ≡ None
    by (Some s) f g d go = absurd (no g)
      where
        no : ◌≡◌ {A = Option (ℕ × ℕ)} (Some (m, s)) None → ⊥
        no h = cc
    by None f g (zero, l, s) go = subst (λ k. find (has_gap parts k) (numbers (length parts.states)) ≡ None) s f
    by None f g (suc k, l, s) go = go g (k, omega arith, s)

-- where no node has a gap, each given bound encloses the hull
enclosed : (side : Side) (parts : ProblemParts) (n s : ℕ) → first_gap parts (numbers (length parts.nodes)) ≡ None → n < length parts.nodes → s < length parts.states → encloses side (given side parts n s) (entry (hull side parts n) s) ≡ true
enclosed side parts n s e h l = by side
  where
    low : Bool
    low = encloses Low (given Low parts n s) (entry (hull Low parts n) s)

    high : Bool
    high = encloses High (given High parts n s) (entry (hull High parts n) s)

    free : (a : Bool) → not a ≡ false → a ≡ true
    free true f = refl
    free false f = cc

    all : (low && high) ≡ true
    all = free (low && high) (none_found (has_gap parts n) (numbers (length parts.states)) s (gap_free parts (numbers (length parts.nodes)) n e (numbered (length parts.nodes) n h)) (numbered (length parts.states) s l))

    by : (x : Side) → encloses x (given x parts n s) (entry (hull x parts n) s) ≡ true
    by Low = and_first low high all
    by High = and_second low high all

bound_outside : (side : Side) (bound : Option ℤ) (h : ℤ) → encloses side bound h ≡ true → Outside side (unwrap_or bound h) h
bound_outside Low None h e = omega (arith, ints)
bound_outside High None h e = omega (arith, ints)
bound_outside side (Some b) h e = outside-is_outside side b h e

-- the side of the box lies at whatever comes in or further out
pub holds_incoming : (side : Side) (parts : ProblemParts) (n s : ℕ) (y : ℤ) → first_gap parts (numbers (length parts.nodes)) ≡ None → n < length parts.nodes → s < length parts.states → Contains (incoming side parts n s) y → Outside side (entry (box_side side parts n) s) y
holds_incoming side parts n s y e h l c =
    subst (λ z. Outside side z y) (sym (side_at side parts n s l))
    (further side (unwrap_or (given side parts n s) (entry (hull side parts n) s)) (entry (hull side parts n) s) y
    (bound_outside side (given side parts n s) (entry (hull side parts n) s) (enclosed side parts n s e h l))
    (subst (λ z. Outside side z y) (sym (hull_at side parts n s l)) (outermost_of side (incoming side parts n s) y c)))

map_member : {A : Type 0} (f : ℕ → A) (xs : List ℕ) (x : ℕ) → Contains xs x → Contains (map f xs) (f x)
map_member f [] x c = absurd (omega (arith, c.1))
map_member f (y ∷ xs) x (zero, l, e) = (zero, omega arith, ap f e)
map_member f (y ∷ xs) x (suc k, l, e) = let c = map_member f xs x (k, omega arith, e) in (suc c.0, omega (arith, c.1), c.2)

-- the state that a predecessor lets out comes in
pub end_comes_in : (side : Side) (parts : ProblemParts) (p n s : ℕ) → Contains (arcs_from (graph_of parts) p) n → Contains (incoming side parts n s) (end_at parts.nodes (hull_ends side parts) s p)
end_comes_in side parts p n s c = behind (start_at parts n s) (map_member (end_at parts.nodes (hull_ends side parts) s) (predecessors (graph_of parts) n) p (leading (graph_of parts) p n c))
  where
    behind : (o : Option ℤ) → Contains (map (end_at parts.nodes (hull_ends side parts) s) (predecessors (graph_of parts) n)) (end_at parts.nodes (hull_ends side parts) s p)
        → Contains (cons_option o (map (end_at parts.nodes (hull_ends side parts) s) (predecessors (graph_of parts) n))) (end_at parts.nodes (hull_ends side parts) s p)
    behind None d = d
    behind (Some x) d = (suc d.0, omega (arith, d.1), d.2)

-- the initial value comes in where the root leads
pub start_comes_in : (side : Side) (parts : ProblemParts) (n s : ℕ) (x : ℤ) → list_any (λ m. m == n) parts.root ≡ true → slice_get (initial_values parts) s ≡ Some x → Contains (incoming side parts n s) x
start_comes_in side parts n s x c e =
    let start : start_at parts n s ≡ Some x = ap (λ b. if b then slice_get (initial_values parts) s else None) c ∙ e in
    subst (λ o. Contains (cons_option o (map (end_at parts.nodes (hull_ends side parts) s) (predecessors (graph_of parts) n))) x) (sym start) (0, omega arith, refl)

-- lists whose numbers do not pass those beside them
pub at_most_each : (xs ys : List ℤ) → ((k : ℕ) → k < length xs → k < length ys → entry xs k ≤ℤ entry ys k) → at_most xs ys ≡ true
at_most_each [] ys h = refl
at_most_each (x ∷ xs) [] h = refl
at_most_each (x ∷ xs) (y ∷ ys) h = both (int_le x y) (at_most xs ys) (first (h 0 (omega arith) (omega arith))) (at_most_each xs ys (λ k i j. h (suc k) (omega arith) (omega arith)))
  where
    first : x ≤ℤ y → int_le x y ≡ true
    first l = grind (arith, ints, l)
