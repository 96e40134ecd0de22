-- Lists with an entry for each number below a count.
use Rattle.std.proofs.Common.{◌≡◌, ◌∙◌, ◌<◌, ℕ, List, length, map, get_or, ap, sym, subst, arith}
use Rattle.std.proofs.lemmas.List.FromFn.{length-map-range_with_len, get_or-map-range_with_len}
use Rattle.base_graph.specs.Paths.{numbers}

-- there is an entry for i
pub below : {X : Type 0} (f : ℕ → X) (xs : List X) (i end count : ℕ) → xs ≡ map f (numbers count) → i < end → end ≡ count → i < length xs
below f xs i end count e l c = subst (λ n. i < n) (c ∙ sym (ap length e ∙ length-map-range_with_len f 0 count)) l

-- and this is it
pub entry_for : {X : Type 0} (f : ℕ → X) (xs : List X) (i end count : ℕ) (d : X) → xs ≡ map f (numbers count) → i < end → end ≡ count → get_or xs i d ≡ f i
entry_for f xs i end count d e l c = ap (λ ys. get_or ys i d) e ∙ get_or-map-range_with_len f 0 count i i d (subst (λ n. i < n) c l) (omega arith)
