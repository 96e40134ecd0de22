-- Where each node has a rank by those one step on, the ranks are the steps of the longest paths, and no node reaches itself.
use Rattle.std.proofs.Common.{◌≡◌, ℕ, zero, suc, ◌<◌, ◌≤◌, Bool, true, false, List, [], ◌∷◌, length, map, get_or, Contains, Some, None, cond, nat_lt, inl, inr, refl, sym, ap, subst, ◌∙◌, zero-add, arith}
use Rattle.std.proofs.lemmas.Bool.{cases_lt, lt-ltb}
use Rattle.std.proofs.lemmas.List.{length-map, get_or-map, get_or_past, ext_get_or}
use Rattle.std.proofs.lemmas.List.Sums.{list_all-from_AllPass}
use Rattle.std.proofs.lemmas.List.FromFn.{length-map-range_with_len, get_or-map-range_with_len}
use Rattle.std.specs.List.{find, list_all}
use Rattle.base_graph.specs.Paths.{numbers, arcs_from, in_cycle, first_in_cycle, Path, Reaches}
use Rattle.base_graph.specs.Ranks.{greatest, longest_within, rank, ranks}
use Rattle.base_graph.specs.DepthFirst.{mark_at, rank_of, AllRanked}
use Rattle.base_graph.specs.declared.depth_first.Mark.{Mark}
use Rattle.base_graph.specs.declared.depth_first.Mark.TheVariants.{Unseen}
use Rattle.base_graph.proofs.RankTable.{map_same, ranks_below}
use Rattle.base_graph.proofs.Reached.{Reaches-reached}

pub greatest_over : (f : ℕ → ℕ) (ks : List ℕ) (k : ℕ) → Contains ks k → f k ≤ greatest (map f ks)
greatest_over f [] k c = absurd (omega (arith, c.1))
greatest_over f (i ∷ ks) k (zero, l, e) = omega (arith, ap f e)
greatest_over f (i ∷ ks) k (suc n, l, e) = omega (arith, greatest_over f ks k (n, omega arith, e))

-- one more than the greatest of those one step on
abbrev Solves : List (List ℕ) → (ℕ → ℕ) → Type 0
Solves g v = (m : ℕ) → v m ≡ greatest (map (λ k. suc (v k)) (arcs_from g m))

falls : (g : List (List ℕ)) (v : ℕ → ℕ) → Solves g v → (m k : ℕ) → Contains (arcs_from g m) k → v k < v m
falls g v s m k c = omega (arith, s m, greatest_over (λ i. suc (v i)) (arcs_from g m) k c)

longest : (g : List (List ℕ)) (v : ℕ → ℕ) → Solves g v → (n m : ℕ) → v m ≤ n → longest_within g n m ≡ v m
longest g v s zero m l = omega arith
longest g v s (suc n) m l = ap greatest (map_same (λ k. suc (longest_within g n k)) (λ k. suc (v k)) (arcs_from g m) (λ k c. ap suc (longest g v s n k (omega (arith, falls g v s m k c))))) ∙ sym (s m)

-- a number that each step lowers is lower at the end
lower : (g : List (List ℕ)) (v : ℕ → ℕ) → Solves g v → (m : ℕ) (ks : List ℕ) (j : ℕ) → Path g m ks j → v j ≤ v m
lower g v s m [] j w = subst (λ i. v i ≤ v m) w (omega arith)
lower g v s m (k ∷ ks) j w = omega (arith, falls g v s m k w.0, lower g v s k ks j w.1)

none_found : (test : ℕ → Bool) (ks : List ℕ) → ((k : ℕ) → test k ≡ true → ⊥) → find test ks ≡ None
none_found test [] h = refl
none_found test (k ∷ ks) h = by (test k) refl (none_found test ks h)
  where
    by : (b : Bool) → test k ≡ b → find test ks ≡ None → cond b (Some k) (find test ks) ≡ None
    by true e tail = absurd (h k e)
    by false e tail = tail

no_cycle : (g : List (List ℕ)) (v : ℕ → ℕ) → Solves g v → first_in_cycle g ≡ None
unfolding first_in_cycle
no_cycle g v s = none_found (in_cycle g) (numbers (length g)) (λ m e. impossible m (Reaches-reached g (arcs_from g m) m e))
  where
    impossible : (m : ℕ) → Reaches g (arcs_from g m) m → ⊥
    impossible m r = omega (arith, falls g v s m r.0 r.2, lower g v s r.0 r.1 m r.3)

solved : (g : List (List ℕ)) (ms : List Mark) → AllRanked g ms → Solves g (λ m. rank_of (mark_at ms m))
solved g ms all m = elim (cases_lt m (length g)) [ inl h ↦ (all.right.above m (all.each m h)).value | inr h ↦ past h ]
  where
    v : ℕ → ℕ
    v k = rank_of (mark_at ms k)

    past : length g ≤ m → v m ≡ greatest (map (λ k. suc (v k)) (arcs_from g m))
    past h = let p : length ms ≤ m = omega arith in
        ap rank_of (get_or_past ms m Unseen p) ∙ sym (ap (λ ks. greatest (map (λ k. suc (v k)) ks)) (get_or_past g m [] h))

rank_is : (g : List (List ℕ)) (ms : List Mark) → AllRanked g ms → (m : ℕ) → m < length g → rank_of (mark_at ms m) ≡ rank g m
unfolding rank
rank_is g ms all m h = sym (longest g (λ k. rank_of (mark_at ms k)) (solved g ms all) (length g) m (omega (arith, ranks_below g ms m all.right (all.each m h))))

pub ranks_are : (g : List (List ℕ)) (ms : List Mark) → AllRanked g ms → (map rank_of ms ≡ ranks g) × (first_in_cycle g ≡ None)
ranks_are g ms all = (ext_get_or 0 (map rank_of ms) (ranks g) (length-map ms rank_of ∙ all.whole ∙ sym (length-map-range_with_len (rank g) 0 (length g))) each, no_cycle g (λ m. rank_of (mark_at ms m)) (solved g ms all))
  where
    each : (i : ℕ) → i < length (map rank_of ms) → get_or (map rank_of ms) i 0 ≡ get_or (ranks g) i 0
    each i h =
        let low : i < length ms = omega (arith, length-map ms rank_of) in
        let inside : i < length g = omega arith in
        get_or-map rank_of ms i Unseen 0 low ∙ rank_is g ms all i inside ∙ sym (get_or-map-range_with_len (rank g) 0 (length g) i i 0 inside (zero-add i))

pub ranks_are_below : (g : List (List ℕ)) (ms : List Mark) → AllRanked g ms → list_all (λ r. nat_lt r (length g)) (map rank_of ms) ≡ true
ranks_are_below g ms all = list_all-from_AllPass (λ r. nat_lt r (length g)) (map rank_of ms) each
  where
    each : (i d : ℕ) → i < length (map rank_of ms) → nat_lt (get_or (map rank_of ms) i d) (length g) ≡ true
    each i d h =
        let low : i < length ms = omega (arith, length-map ms rank_of) in
        let below = ranks_below g ms i all.right (all.each i (omega arith)) in
        lt-ltb (get_or (map rank_of ms) i d) (length g) (omega (arith, below, get_or-map rank_of ms i Unseen d low))
