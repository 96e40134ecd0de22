-- One step more.
use Rattle.std.proofs.Common.{◌≡◌, ℕ, suc, ◌+◌, List, [], ◌∷◌, ◌++◌, map, refl, sym, ap, ap₂, ◌∙◌, append_assoc, append-nil}
use Rattle.std.specs.List.{flat_map}
use Rattle.std.proofs.lemmas.List.{map-append}
use Rattle.std.proofs.lemmas.Grind.{flat_map-append}
use Rattle.base_graph.specs.Paths.{numbers}
use Rattle.base_graph.proofs.Numbers.{numbers_more}
use Rattle.hydro_make.specs.Layout.{steps}

steps_more : (n : ℕ) → steps (n + 1) ≡ steps n ++ suc n ∷ []
steps_more n = ap (map suc) (numbers_more n) ∙ map-append suc (numbers n) (n ∷ [])

pub map_stepped : {B : Type 0} (f : ℕ → B) (n : ℕ) (front old new : List B) → new ≡ old ++ f (suc n) ∷ [] → old ≡ front ++ map f (steps n) → new ≡ front ++ map f (steps (n + 1))
map_stepped {B} f n front old new is before =
    is ∙ ap (λ (l : List B). l ++ f (suc n) ∷ []) before ∙ append_assoc front (map f (steps n)) (f (suc n) ∷ [])
    ∙ ap (λ (l : List B). front ++ l) (sym (map-append f (steps n) (suc n ∷ [])) ∙ ap (map f) (sym (steps_more n)))

pub flat_stepped : {B : Type 0} (f : ℕ → List B) (n : ℕ) (front old new : List B) → new ≡ old ++ f (suc n) → old ≡ front ++ flat_map f (steps n) → new ≡ front ++ flat_map f (steps (n + 1))
flat_stepped {B} f n front old new is before =
    let more : flat_map f (steps (n + 1)) ≡ flat_map f (steps n) ++ f (suc n) =
    ap (flat_map f) (steps_more n) ∙ flat_map-append f (steps n) (suc n ∷ []) ∙ ap (λ (l : List B). flat_map f (steps n) ++ l) (append-nil (f (suc n))) in
    is ∙ ap (λ (l : List B). l ++ f (suc n)) before ∙ append_assoc front (flat_map f (steps n)) (f (suc n)) ∙ ap (λ (l : List B). front ++ l) (sym more)

-- the items of two lists, seen one after the other
pub map_parts : {A B C D : Type 0} (seen : C → D) (f : A → C) (g : B → C) (xs : List A) (ys : List B) → map seen (map f xs ++ map g ys) ≡ map (λ x. seen (f x)) xs ++ map (λ y. seen (g y)) ys
map_parts seen f g [] [] = refl
map_parts seen f g [] (y ∷ ys) = ap (λ l. seen (g y) ∷ l) (map_parts seen f g [] ys)
map_parts seen f g (x ∷ xs) ys = ap (λ l. seen (f x) ∷ l) (map_parts seen f g xs ys)

one_each : {A B : Type 0} (f : A → B) (xs : List A) → flat_map (λ x. f x ∷ []) xs ≡ map f xs
one_each f [] = refl
one_each f (x ∷ xs) = ap (λ l. f x ∷ l) (one_each f xs)

-- like map_parts, where each gives a list of one
single_parts : {A B C D : Type 0} (seen : C → D) (f : A → C) (g : B → C) (xs : List A) (ys : List B) → map seen (map f xs ++ map g ys) ≡ map seen (flat_map (λ x. f x ∷ []) xs) ++ map seen (flat_map (λ y. g y ∷ []) ys)
single_parts {A} {B} {C} seen f g xs ys =
    map-append seen (map f xs) (map g ys) ∙ ap₂ (λ (a b : List C). map seen a ++ map seen b) (sym (one_each f xs)) (sym (one_each g ys))

-- and behind them a list for each item of a third
pub three_parts : {A B C D E : Type 0} (seen : D → E) (f : A → D) (g : B → D) (k : C → List D) (xs : List A) (ys : List B) (zs : List C)
    → map seen (map f xs ++ map g ys ++ flat_map k zs) ≡ map seen (flat_map (λ x. f x ∷ []) xs) ++ map seen (flat_map (λ y. g y ∷ []) ys) ++ map seen (flat_map k zs)
three_parts {A} {B} {C} {D} {E} seen f g k xs ys zs =
    map-append seen (map f xs ++ map g ys) (flat_map k zs) ∙ ap (λ (l : List E). l ++ map seen (flat_map k zs)) (single_parts seen f g xs ys)
