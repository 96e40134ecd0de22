-- In a graph without cycles ranks fall along each arc and stay below the number of nodes, and the order by rank has each node once, after its successors.
use Rattle.std.proofs.Common.{◌≡◌, ℕ, zero, suc, ◌+◌, ◌<◌, ◌≤◌, max, Bool, true, false, List, [], ◌∷◌, ◌++◌, length, map, Contains, None, ◌⊎◌, inl, inr, cond, refl, sym, ap, subst, ◌∙◌, arith}
use Rattle.std.specs.Set.{is_member, unique_keys, distinct_count}
use Rattle.std.specs.Cmp.{unsigned_Decides}
use Rattle.std.proofs.Math.Dec.{eqb}
use Rattle.std.proofs.Math.Logic.{⊎_elim}
use Rattle.std.proofs.lemmas.Bool.{cases_lt}
use Rattle.std.proofs.lemmas.List.FromFn.{length-range_with_len, get_or-range_with_len}
use Rattle.std.proofs.lemmas.Map.Made.{is_member-Decides}
use Rattle.base_graph.specs.Paths.{numbers, arcs_from, Reaches, first_in_cycle, is_graph}
use Rattle.base_graph.proofs.Paths.{few, one_of, leads_to, path_more}
use Rattle.base_graph.proofs.Reached.{cycle_found}
use Rattle.base_graph.specs.Ranks.{greatest, longest_within, rank}

-- the greatest of some numbers
above : (f : ℕ → ℕ) (ks : List ℕ) (k : ℕ) → Contains ks k → f k ≤ greatest (map f ks)
above f [] k (i, l, e) = absurd (omega arith)
above f (j ∷ ks) k (zero, l, e) = subst (λ i. f i ≤ greatest (map f (j ∷ ks))) e (omega arith)
above f (j ∷ ks) k (suc i, l, e) = let tail : f k ≤ greatest (map f ks) = above f ks k (i, omega arith, e) in omega arith

attained : (f : ℕ → ℕ) (ks : List ℕ) → (greatest (map f ks) ≡ 0) ⊎ ((k : ℕ) × Contains ks k × (greatest (map f ks) ≡ f k))
attained f [] = inl refl
attained f (j ∷ ks) = from (attained f ks)
  where
    most : ℕ
    most = greatest (map f ks)

    first : most ≤ f j → (k : ℕ) × Contains (j ∷ ks) k × (max (f j) most ≡ f k)
    first h = (j, (0, omega arith, refl), omega arith)

    either : (k : ℕ) → Contains ks k → most ≡ f k → (f j < most) ⊎ (most ≤ f j) → (k : ℕ) × Contains (j ∷ ks) k × (max (f j) most ≡ f k)
    either k c e (inl h) = (k, (suc c.0, omega (arith, c.1), c.2), omega (arith, e))
    either k c e (inr h) = first h

    from : (most ≡ 0) ⊎ ((k : ℕ) × Contains ks k × (most ≡ f k)) → (max (f j) most ≡ 0) ⊎ ((k : ℕ) × Contains (j ∷ ks) k × (max (f j) most ≡ f k))
    from (inl z) = inr (first (omega arith))
    from (inr (k, c, e)) = inr (either k c e (cases_lt (f j) most))

-- a walk of so many steps from m
abbrev Walk : List (List ℕ) → ℕ → ℕ → Type 0
Walk g zero m = Unit {0}
Walk g (suc n) m = (k : ℕ) × Contains (arcs_from g m) k × Walk g n k

longest_walk : (g : List (List ℕ)) (n m : ℕ) → Walk g (longest_within g n m) m
longest_walk g zero m = tt
longest_walk g (suc n) m = from (λ k. longest_walk g n k) (attained (λ k. suc (longest_within g n k)) (arcs_from g m))
  where
    from : ((k : ℕ) → Walk g (longest_within g n k) k) → (longest_within g (suc n) m ≡ 0) ⊎ ((k : ℕ) × Contains (arcs_from g m) k × (longest_within g (suc n) m ≡ suc (longest_within g n k))) → Walk g (longest_within g (suc n) m) m
    from walk (inl z) = subst (λ r. Walk g r m) (sym z) tt
    from walk (inr (k, c, e)) = subst (λ r. Walk g r m) (sym e) (k, c, walk k)

at_least : (g : List (List ℕ)) (n r m : ℕ) → r ≤ n → Walk g r m → r ≤ longest_within g n m
at_least g n zero m h w = omega arith
at_least g zero (suc r) m h w = absurd (omega arith)
at_least g (suc n) (suc r) m h (k, c, w) =
    let tail : r ≤ longest_within g n k = at_least g n r k (omega arith) w in
    let most : suc (longest_within g n k) ≤ greatest (map (λ k. suc (longest_within g n k)) (arcs_from g m)) = above (λ k. suc (longest_within g n k)) (arcs_from g m) k c in
    omega arith

shorter : (g : List (List ℕ)) (n r m : ℕ) → n ≤ r → Walk g r m → Walk g n m
shorter g zero r m h w = tt
shorter g (suc n) zero m h w = absurd (omega arith)
shorter g (suc n) (suc r) m h (k, c, w) = (k, c, shorter g n r k (omega arith) w)

-- a number below a count is among those numbers
pub numbered : (count m : ℕ) → m < count → Contains (numbers count) m
numbered count m h = (m, subst (λ n. m < n) (sym (length-range_with_len 0 count)) h, omega (arith, get_or-range_with_len 0 count m m h))

-- without cycles no walk has as many steps as there are nodes: the nodes vs were passed on the way to m, which is another one
too_long : (g : List (List ℕ)) (fuel : ℕ) (vs : List ℕ) (m : ℕ) → is_graph g ≡ true → first_in_cycle g ≡ None → length vs + fuel ≡ length g → distinct_count eqb (m ∷ vs) ≡ suc (length vs)
    → ((v : ℕ) → Contains (m ∷ vs) v → v < length g) → ((v : ℕ) → Contains vs v → Reaches g (arcs_from g v) m) → Walk g fuel m → ⊥
too_long g zero vs m e none f d low past w = omega (arith, few (m ∷ vs) (length g) d low)
too_long g (suc fuel) vs m e none f d low past (k, successor, w) = by (is_member eqb (m ∷ vs) k) refl (λ new. too_long g fuel (m ∷ vs) k e none (omega arith) (distinct new) lower since w)
  where
    there : k < length g
    there = leads_to g m k e successor

    lower : (v : ℕ) → Contains (k ∷ (m ∷ vs)) v → v < length g
    lower v c = ⊎_elim (λ same. subst (λ i. i < length g) same there) (low v) (one_of k (m ∷ vs) v c)

    since : (v : ℕ) → Contains (m ∷ vs) v → Reaches g (arcs_from g v) k
    since v c = ⊎_elim (λ same. (k, [], subst (λ i. Contains (arcs_from g i) k) same successor, refl)) (λ a. let r = past v a in (r.0, r.1 ++ k ∷ [], r.2, path_more g r.0 r.1 m k r.3 successor)) (one_of m vs v c)

    distinct : is_member eqb (m ∷ vs) k ≡ false → distinct_count eqb (k ∷ (m ∷ vs)) ≡ suc (suc (length vs))
    distinct new = ap (λ b. length (cond b (unique_keys eqb (m ∷ vs)) (k ∷ unique_keys eqb (m ∷ vs)))) new ∙ ap suc d

    by : (b : Bool) → is_member eqb (m ∷ vs) k ≡ b → (is_member eqb (m ∷ vs) k ≡ false → ⊥) → ⊥
    by true is go = cycle_found g k e there (since k ((is_member-Decides unsigned_Decides (m ∷ vs) k).0 is)) none
    by false is go = go is

-- ranks stay below the number of nodes
pub rank_below : (g : List (List ℕ)) (m : ℕ) → is_graph g ≡ true → first_in_cycle g ≡ None → m < length g → rank g m < length g
unfolding rank
rank_below g m e none h = ⊎_elim (λ l. l) (λ l. absurd (too_long g (length g) [] m e none (omega arith) refl first (λ v c. absurd (omega (arith, c.1))) (shorter g (length g) (rank g m) m l (longest_walk g (length g) m)))) (cases_lt (rank g m) (length g))
  where
    first : (v : ℕ) → Contains (m ∷ []) v → v < length g
    first v c = ⊎_elim (λ same. subst (λ i. i < length g) same h) (λ a. absurd (omega (arith, a.1))) (one_of m [] v c)

-- and fall along each arc
pub rank_falls : (g : List (List ℕ)) (m k : ℕ) → is_graph g ≡ true → first_in_cycle g ≡ None → Contains (arcs_from g m) k → rank g k < rank g m
unfolding rank
rank_falls g m k e none c = at_least g (length g) (suc (rank g k)) m (rank_below g k e none (leads_to g m k e c)) (k, c, longest_walk g (length g) k)
