-- A node that leads to another is among its predecessors.
use Rattle.std.proofs.Common.{◌≡◌, ℕ, ◌==◌, Bool, true, false, List, [], ◌∷◌, length, map, cond, filter, Contains, refl, subst, sym, arith, ◌⊎◌}
use Rattle.std.specs.List.{flat_map}
use Rattle.std.proofs.lemmas.Bool.Decides.{nat_tests}
use Rattle.std.proofs.lemmas.List.Elements.{Contains-append_left, Contains-append_right}
use Rattle.std.proofs.Math.Logic.{⊎_elim}
use Rattle.base_graph.specs.Paths.{numbers, arcs_from}
use Rattle.base_graph.specs.Ranks.{predecessors}
use Rattle.base_graph.proofs.Paths.{one_of, leads_from}
use Rattle.base_graph.proofs.Falling.{numbered}

within_flat_map : (f : ℕ → List ℕ) (xs : List ℕ) (x y : ℕ) → Contains xs x → Contains (f x) y → Contains (flat_map f xs) y
within_flat_map f [] x y c d = absurd (omega (arith, c.1))
within_flat_map f (a ∷ xs) x y c d = ⊎_elim (λ same. Contains-append_left (f a) (flat_map f xs) y (subst (λ k. Contains (f k) y) (sym same) d)) (λ later. Contains-append_right (f a) (flat_map f xs) y (within_flat_map f xs x y later d)) (one_of a xs x c)

-- the node p once for each of these that is n
marked : (p n : ℕ) (ks : List ℕ) → Contains ks n → Contains (map (λ k. p) (filter (λ k. k == n) ks)) p
marked p n [] c = absurd (omega (arith, c.1))
marked p n (k ∷ ks) c = by (k == n) refl (λ later. marked p n ks later)
  where
    by : (b : Bool) → (k == n) ≡ b → (Contains ks n → Contains (map (λ k. p) (filter (λ k. k == n) ks)) p) → Contains (map (λ k. p) (cond b (k ∷ filter (λ k. k == n) ks) (filter (λ k. k == n) ks))) p
    by true e go = (0, omega arith, refl)
    by false e go = go (⊎_elim (λ same. let other : k ≡ n → ⊥ = grind (arith, nat_tests) in absurd (other same)) (λ later. later) (one_of k ks n c))

pub leading : (g : List (List ℕ)) (p n : ℕ) → Contains (arcs_from g p) n → Contains (predecessors g n) p
leading g p n c = within_flat_map (λ q. map (λ k. q) (filter (λ k. k == n) (arcs_from g q))) (numbers (length g)) p p (numbered (length g) p (leads_from g p n c)) (marked p n (arcs_from g p) c)
