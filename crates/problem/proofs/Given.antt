-- The bounds that are given are sides of the boxes.
use Rattle.std.proofs.Common.{◌≡◌, ◌∙◌, ℕ, suc, ◌<◌, ℤ, Bool, true, List, [], ◌∷◌, length, map, Option, Some, None, unwrap_or, slice_get, refl, sym, ap, subst, arith}
use Rattle.std.specs.Prelude.{option_and_then}
use Rattle.std.specs.List.{list_all, zip}
use Rattle.std.proofs.lemmas.Bool.Decides.{Decides-int_eq}
use Rattle.std.proofs.lemmas.List.FromFn.{length-map-range_with_len, get_or-map-range_with_len}
use Rattle.std.proofs.lemmas.Option.{slice_get_within, get_or_from_slice_get}
use Rattle.base_num.specs.Sums.{entry}
use Rattle.base_num.proofs.Tests.{both}
use Rattle.base_graph.specs.Paths.{numbers}
use Rattle.problem.specs.declared.parts.ProblemParts.{ProblemParts}
use Rattle.problem.specs.declared.parts.Node.{Node}
use Rattle.problem.specs.declared.parts.Subproblem.{Subproblem}
use Rattle.problem.specs.Parts.{own_subproblem}
use Rattle.problem.specs.Validated.{is_given, are_given, given_lows, given_highs, bounds_stand}
use Rattle.problem.specs.declared.side.Side.{Side}
use Rattle.problem.specs.declared.side.Side.TheVariants.{Low, High}
use Rattle.problem.specs.Hull.{given, given_in, hull, box_side, sides}

-- a test of pairs that each two entries at one place pass
zip_each : {A B : Type 0} (test : A × B → Bool) (xs : List A) (ys : List B) → ((i : ℕ) (x : A) (y : B) → slice_get xs i ≡ Some x → slice_get ys i ≡ Some y → test (x, y) ≡ true) → list_all test (zip xs ys) ≡ true
zip_each test [] ys h = refl
zip_each test (x ∷ xs) [] h = refl
zip_each test (x ∷ xs) (y ∷ ys) h = both (test (x, y)) (list_all test (zip xs ys)) (h 0 x y refl refl) (zip_each test xs ys (λ i a b e f. h (suc i) a b e f))

-- an entry of a list that has one for each number below a count
made_at : {A : Type 0} (f : ℕ → A) (count i : ℕ) (x : A) → slice_get (map f (numbers count)) i ≡ Some x → (i < count) × (x ≡ f i)
made_at f count i x e =
    let within : i < count = subst (λ n. i < n) (length-map-range_with_len f 0 count) (slice_get_within (map f (numbers count)) i x e) in
    (within, sym (get_or_from_slice_get (map f (numbers count)) i x x e) ∙ get_or-map-range_with_len f 0 count i i x within (omega arith))

given_or : (o : Option ℤ) (h : ℤ) → is_given o (unwrap_or o h) ≡ true
given_or None h = refl
given_or (Some b) h = (Decides-int_eq b b).1 refl

-- the bounds of a subproblem, none where it is absent
abbrev bounds_in : Side → Option Subproblem → List (Option ℤ)
bounds_in Low o = given_lows o
bounds_in High o = given_highs o

given_bound : (side : Side) (o : Option Subproblem) (s : ℕ) (b : Option ℤ) → slice_get (bounds_in side o) s ≡ Some b → given_in side o s ≡ b
given_bound Low None s b e = get_or_from_slice_get [] s b None e
given_bound High None s b e = get_or_from_slice_get [] s b None e
given_bound Low (Some t) s b e = get_or_from_slice_get t.low s b None e
given_bound High (Some t) s b e = get_or_from_slice_get t.high s b None e

given_at : (side : Side) (parts : ProblemParts) (m s : ℕ) (n : Node) (b : Option ℤ) → slice_get parts.nodes m ≡ Some n → slice_get (bounds_in side (own_subproblem parts n)) s ≡ Some b → given side parts m s ≡ b
given_at side parts m s n b is e = ap (λ (o : Option Node). given_in side (option_and_then (λ (k : Node). slice_get parts.subs k.sub) o) s) is ∙ given_bound side (own_subproblem parts n) s b e

-- the bounds of the node m are the side of its box
side_given : (side : Side) (parts : ProblemParts) (m : ℕ) (n : Node) → slice_get parts.nodes m ≡ Some n → are_given (bounds_in side (own_subproblem parts n)) (box_side side parts m) ≡ true
side_given side parts m n is =
    zip_each (λ (p : Option ℤ × ℤ). is_given p.0 p.1) (bounds_in side (own_subproblem parts n)) (box_side side parts m)
    (λ s b z e f.
    let made = made_at (λ k. unwrap_or (given side parts m k) (entry (hull side parts m) k)) (length parts.states) s z f in
    subst (λ x. is_given b x ≡ true) (sym made.1)
    (subst (λ o. is_given o (unwrap_or (given side parts m s) (entry (hull side parts m) s)) ≡ true) (given_at side parts m s n b is e) (given_or (given side parts m s) (entry (hull side parts m) s))))

sides_given : (side : Side) (parts : ProblemParts) → list_all (λ (p : Node × List ℤ). are_given (bounds_in side (own_subproblem parts p.0)) p.1) (zip parts.nodes (sides side parts)) ≡ true
sides_given side parts =
    zip_each (λ (p : Node × List ℤ). are_given (bounds_in side (own_subproblem parts p.0)) p.1) parts.nodes (sides side parts)
    (λ m n zs e f. subst (λ xs. are_given (bounds_in side (own_subproblem parts n)) xs ≡ true) (sym (made_at (box_side side parts) (length parts.nodes) m zs f).1) (side_given side parts m n e))

pub bounds_stand-sides : (parts : ProblemParts) → bounds_stand parts (sides Low parts) (sides High parts) ≡ true
unfolding bounds_stand
bounds_stand-sides parts = both _ (list_all (λ (p : Node × List ℤ). are_given (given_highs (own_subproblem parts p.0)) p.1) (zip parts.nodes (sides High parts))) (sides_given Low parts) (sides_given High parts)
