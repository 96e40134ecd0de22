-- Which numbers lie further out on a side, and that the outermost does.
use Rattle.std.proofs.Common.{◌≡◌, zero, suc, ℤ, pos, ◌≤ℤ◌, true, List, [], ◌∷◌, All, Contains, ◌⊎◌, inl, inr, refl, arith, subst, sym}
use Rattle.std.specs.List.{fold}
use Rattle.std.proofs.Math.Logic.{⊎_elim}
use Rattle.std.proofs.lemmas.Int.{ints, fold-int_min_bounds, fold-int_max_bounds, fold-int_min_reached, fold-int_max_reached}
use Rattle.std.proofs.lemmas.List.Elements.{All-contains}
use Rattle.problem.specs.declared.side.Side.{Side}
use Rattle.problem.specs.declared.side.Side.TheVariants.{Low, High}
use Rattle.problem.specs.Hull.{outer, is_outside, outermost}

abbrev pub Outside : Side → ℤ → ℤ → Type 0
Outside Low a b = a ≤ℤ b
Outside High a b = b ≤ℤ a

pub outside-is_outside : (side : Side) (a b : ℤ) → is_outside side a b ≡ true → Outside side a b
outside-is_outside Low a b e = grind (arith, ints)
outside-is_outside High a b e = grind (arith, ints)

pub further : (side : Side) (a b c : ℤ) → Outside side a b → Outside side b c → Outside side a c
further Low a b c p q = omega (arith, ints, p, q)
further High a b c p q = omega (arith, ints, p, q)

first_or : (x : ℤ) (xs : List ℤ) (y : ℤ) → Contains (x ∷ xs) y → (x ≡ y) ⊎ Contains xs y
first_or x xs y (zero, l, e) = inl e
first_or x xs y (suc k, l, e) = inr (k, omega arith, e)

bounds : (side : Side) (a : ℤ) (xs : List ℤ) → Outside side (fold (outer side) a xs) a × All (λ x. Outside side (fold (outer side) a xs) x) xs
bounds Low a xs = fold-int_min_bounds a xs (fold (outer Low) a xs) refl
bounds High a xs = fold-int_max_bounds a xs (fold (outer High) a xs) refl

-- the outermost lies at each of the numbers or further out
pub outermost_of : (side : Side) (xs : List ℤ) (y : ℤ) → Contains xs y → Outside side (outermost side xs) y
outermost_of side [] y c = absurd (omega (arith, c.1))
outermost_of side (x ∷ xs) y c =
    let b = bounds side x xs in
    ⊎_elim (λ same. subst (λ z. Outside side (fold (outer side) x xs) z) same b.0) (λ later. All-contains (λ z. Outside side (fold (outer side) x xs) z) xs y b.1 later) (first_or x xs y c)

reached : (side : Side) (a : ℤ) (xs : List ℤ) → (fold (outer side) a xs ≡ a) ⊎ Contains xs (fold (outer side) a xs)
reached Low a xs = fold-int_min_reached a xs (fold (outer Low) a xs) refl
reached High a xs = fold-int_max_reached a xs (fold (outer High) a xs) refl

-- a property of 0 and of each of the numbers holds of the outermost
pub outermost_keeps : (P : ℤ → Type 0) (side : Side) (xs : List ℤ) → P (pos 0) → All P xs → P (outermost side xs)
outermost_keeps P side [] z h = z
outermost_keeps P side (x ∷ xs) z h = ⊎_elim (λ same. subst P (sym same) (h 0 x (omega arith))) (λ later. All-contains P (x ∷ xs) (fold (outer side) x xs) h (suc later.0, omega (arith, later.1), later.2)) (reached side x xs)
