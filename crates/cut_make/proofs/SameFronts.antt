-- Two lists that are the same in front, and one item further.
use Rattle.std.proofs.Common.{◌≡◌, ℕ, ◌+◌, ◌<◌, List, [], ◌∷◌, ◌++◌, length, take, get_or, ap₂, sym, ◌∙◌}
use Rattle.std.proofs.lemmas.List.{take_more}

pub same_more : {X : Type 0} (a b : List X) (i : ℕ) (d e : X) → i < length a → i < length b → take i a ≡ take i b → get_or a i d ≡ get_or b i e → take (i + 1) a ≡ take (i + 1) b
same_more {X} a b i d e p q front here = take_more a i d p ∙ ap₂ (λ (xs : List X) (y : X). xs ++ y ∷ []) front here ∙ sym (take_more b i e q)
