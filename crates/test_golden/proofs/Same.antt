-- Two lists that are the same in front by what is made of each item, and one item further.
use Rattle.std.proofs.Common.{◌≡◌, ℕ, ◌+◌, ◌<◌, List, [], ◌∷◌, ◌++◌, length, map, take, get_or, ap, ap₂, sym, ◌∙◌}
use Rattle.std.proofs.lemmas.List.{take_more, map-append}

pub mapped_more : {X Y : Type 0} (f : X → Y) (a b : List X) (i : ℕ) (d e : X) → i < length a → i < length b → map f (take i a) ≡ map f (take i b) → f (get_or a i d) ≡ f (get_or b i e) → map f (take (i + 1) a) ≡ map f (take (i + 1) b)
mapped_more {X} {Y} f a b i d e p q front here = ap (map f) (take_more a i d p) ∙ map-append f (take i a) (get_or a i d ∷ []) ∙ ap₂ (λ (ys : List Y) (y : Y). ys ++ y ∷ []) front here ∙ sym (ap (map f) (take_more b i e q) ∙ map-append f (take i b) (get_or b i e ∷ []))
