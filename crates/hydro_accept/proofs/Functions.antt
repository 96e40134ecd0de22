-- The reader's answers on sums of variables.
use Rattle.std.proofs.Common.{◌≡◌, ℕ, suc, ◌≤◌, ◌^◌, ℤ, pos, negsuc, ◌+ℤ◌, List, [], ◌∷◌, length, map, slice_set, Bool, true, false, cond, None, Some, Result, Ok, unsigned_abs, refl, sym, ap, ◌∙◌}
use Rattle.std.specs.List.{AllByRecursion}
use Rattle.std.proofs.lemmas.Bool.{le-leb}
use lib.IntN.{+ℤ_idl, +ℤ_idr, +ℤ_assoc}
use Rattle.serde_json.specs.Data.{Data}
use Rattle.serde_json.specs.View.{items_of}
use Rattle.problem.specs.declared.refusal.Refusal.{Refusal}
use Rattle.problem.specs.declared.refusal.Place.{Place}
use Rattle.read_json.specs.Steps.{◌>>=◌, walk_items, walk_list}
use Rattle.read_json.specs.Fields as fields
use Rattle.read_json.specs.Limits as limits
use Rattle.read_stage.specs.Function as function
use Rattle.hydro_form.specs.Listed.{integer}
use Rattle.hydro_form.specs.Stage as forms
use Rattle.hydro_accept.proofs.Types.{Takes}
use Rattle.hydro_accept.proofs.Named.{same, Distinct, Stands, place, known, found_at, changed_at, map_ext}
use Rattle.hydro_accept.proofs.Walks.{list_grow}

abbrev pub Site : Type 0
Site = Takes function.site_place

-- at most 2^40 in absolute value
abbrev pub IsSmall : ℤ → Type 0
IsSmall z = unsigned_abs z ≤ 2 ^ 40

pub integer_read : (p : Place) (z : ℤ) → IsSmall z → fields.whole_at p (integer z) ≡ Ok z
unfolding fields.whole_at
integer_read p (pos n) h = rw (le-leb n (2 ^ 40) h) refl
integer_read p (negsuc n) h = rw (le-leb (unsigned_abs (negsuc n)) (2 ^ 40) h) refl

limited_read : (p : Place) (z : ℤ) → IsSmall z → limits.limited_at p z ≡ Ok z
unfolding limits.limited_at
limited_read p z h = rw (le-leb (unsigned_abs z) (2 ^ 40) h) refl

map_nothing : {A : Type 0} (xs : List A) → map (λ x. x) xs ≡ xs
map_nothing [] = refl
map_nothing (x ∷ xs) = ap (λ ys. x ∷ ys) (map_nothing xs)

coefficients_read : (p : Place) (zs : List ℤ) → AllByRecursion IsSmall zs → function.coefficients_at p zs ≡ Ok zs
unfolding function.coefficients_at function.coefficient_at
coefficients_read p zs all =
    ap (walk_list (λ (found : List ℤ) (i : ℕ) (sum : ℤ). function.coefficient_at p found sum) [] 0) (sym (map_nothing zs))
    ∙ list_grow IsSmall (λ z. z) (λ (found : List ℤ) (i : ℕ) (sum : ℤ). function.coefficient_at p found sum) (λ z. z) (λ found i z h. rw (limited_read p z h) refl) zs all [] 0
    ∙ ap Ok (map_nothing zs)

module _ {A : Type 0} (name : A → List ℕ) where
  -- the factor of y in a sum
  abbrev pub factor : List (ℤ × A) → A → ℤ
  factor [] y = pos 0
  factor (t ∷ ts) y = cond (same name t.1 y) t.0 (pos 0) +ℤ factor ts y

  abbrev pub term_of : ℤ × A → Data
  term_of t = forms.term t.0 (name t.1)

  abbrev pub IsTerm : List A → ℤ × A → Type 0
  IsTerm xs t = IsSmall t.0 × Stands name xs t.1

  raised_read : (f : A → ℤ) (x : A) (xs : List A) (z : ℤ) → Distinct name xs → Stands name xs x
      → function.raised (map f xs) (place name xs x) z ≡ map (λ y. f y +ℤ cond (same name x y) z (pos 0)) xs
  unfolding function.raised
  raised_read f x xs z d at =
      rw (found_at name f x xs (place name xs x) at)
      (changed_at name f (λ y. f y +ℤ z) x xs (place name xs x) d at ∙ map_ext (λ y. cond (same name x y) (f y +ℤ z) (f y)) (λ y. f y +ℤ cond (same name x y) z (pos 0)) xs (λ y. either (same name x y) (f y)))
    where
      either : (b : Bool) (a : ℤ) → cond b (a +ℤ z) a ≡ a +ℤ cond b z (pos 0)
      either true a = refl
      either false a = sym (+ℤ_idr a)

  term_read : (site : Site) (f : A → ℤ) (xs : List A) (i : ℕ) (t : ℤ × A) → Distinct name xs → IsTerm xs t
      → function.term_at (map name xs) site (map f xs) i (term_of t) ≡ Ok (map (λ y. f y +ℤ cond (same name t.1 y) t.0 (pos 0)) xs)
  unfolding function.term_at fields.present_at fields.string_at limits.known_at forms.term
  term_read site f xs i t d h = rw (integer_read (function.site_place site (suc i)) t.0 h.0, known name t.1 xs h.1, raised_read f t.1 xs t.0 d h.1) refl

  terms_walk : (site : Site) (xs : List A) → Distinct name xs → (ts : List (ℤ × A)) → AllByRecursion (IsTerm xs) ts → (f : A → ℤ) (i : ℕ)
      → walk_items (function.term_at (map name xs) site) (map f xs) i (items_of (map term_of ts)) ≡ Ok (map (λ y. f y +ℤ factor ts y) xs)
  unfolding walk_items
  terms_walk site xs d [] all f i = ap Ok (map_ext f (λ y. f y +ℤ pos 0) xs (λ y. sym (+ℤ_idr (f y))))
  terms_walk site xs d (t ∷ ts) all f i =
      let next : A → ℤ = λ y. f y +ℤ cond (same name t.1 y) t.0 (pos 0) in
      ap (λ (r : Result (List ℤ) Refusal). r >>= λ sums. walk_items (function.term_at (map name xs) site) sums (suc i) (items_of (map term_of ts))) (term_read site f xs i t d all.0)
      ∙ terms_walk site xs d ts all.1 next (suc i) ∙ ap Ok (map_ext (λ y. next y +ℤ factor ts y) (λ y. f y +ℤ (cond (same name t.1 y) t.0 (pos 0) +ℤ factor ts y)) xs (λ y. +ℤ_assoc (f y) (cond (same name t.1 y) t.0 (pos 0)) (factor ts y)))

  zeros_are : (xs : List A) → function.zeros (length (map name xs)) ≡ map (λ y. pos 0) xs
  zeros_are [] = refl
  zeros_are (x ∷ xs) = ap (λ zs. pos 0 ∷ zs) (zeros_are xs)

  pub terms_read : (site : Site) (xs : List A) (ts : List (ℤ × A)) → Distinct name xs → AllByRecursion (IsTerm xs) ts
      → function.terms_at (map name xs) site (items_of (map term_of ts)) ≡ Ok (map (factor ts) xs)
  unfolding function.terms_at
  terms_read site xs ts d all =
      ap (λ (sums : List ℤ). walk_items (function.term_at (map name xs) site) sums 0 (items_of (map term_of ts))) (zeros_are xs)
      ∙ terms_walk site xs d ts all (λ y. pos 0) 0 ∙ ap Ok (map_ext (λ y. pos 0 +ℤ factor ts y) (factor ts) xs (λ y. +ℤ_idl (factor ts y)))

  each_small : (g : A → ℤ) (xs : List A) → AllByRecursion (λ y. IsSmall (g y)) xs → AllByRecursion IsSmall (map g xs)
  each_small g [] all = tt
  each_small g (x ∷ xs) all = (all.0, each_small g xs all.1)

  -- the function that is the sum
  pub sum_read : (site : Site) (xs : List A) (ts : List (ℤ × A)) → Distinct name xs → AllByRecursion (IsTerm xs) ts → AllByRecursion (λ y. IsSmall (factor ts y)) xs
      → function.function_at (map name xs) site (forms.affine (map term_of ts)) ≡ Ok (record { single = None; coefficients = map (factor ts) xs; constant = pos 0 })
  unfolding function.function_at function.affine_function_at function.constant_at fields.present_at fields.string_at fields.array_at fields.whole_at forms.affine
  sum_read site xs ts d all small =
      rw (terms_read site xs ts d all, coefficients_read (function.site_place site 0) (map (factor ts) xs) (each_small (factor ts) xs small)) refl

  -- the function that is one variable
  pub single_read : (site : Site) (xs : List A) (x : A) → Stands name xs x
      → function.function_at (map name xs) site (forms.single (name x)) ≡ Ok (record { single = Some (place name xs x); coefficients = slice_set (function.zeros (length (map name xs))) (place name xs x) (pos 1); constant = pos 0 })
  unfolding function.function_at function.variable_function_at fields.present_at fields.string_at limits.known_at forms.single
  single_read site xs x at = rw (known name x xs at) refl
