-- How the marks of a depth-first search change.
use Rattle.std.proofs.Common.{◌≡◌, ℕ, zero, suc, ◌+◌, ◌-◌, ◌<◌, ◌≤◌, ◌≢◌, ◌⊎◌, inl, inr, true, false, List, [], ◌∷◌, ◌++◌, length, set, take, map, max, get_or, Contains, refl, sym, ap, subst, ◌∙◌, arith}
use Rattle.std.proofs.Math.Dec.{eqb}
use Rattle.std.specs.List.{list_any}
use Rattle.std.proofs.lemmas.List.{length-map, get_or-map, get_or-set_same, get_or-set_other, get_or_past, get_or_default, take_more}
use Rattle.std.proofs.lemmas.List.Sums.{sum_by-cons, sum_by-set}
use Rattle.std.proofs.lemmas.List.Elements.{Contains-append_cases}
use Rattle.std.proofs.lemmas.List.Folds.{list_any_at}
use Rattle.std.proofs.lemmas.Map.Steps.{le-length_from_below}
use Rattle.std.proofs.lemmas.Bool.{cases_eq, cases_lt}
use Rattle.std.proofs.lemmas.Bool.Decides.{Decides-eqb}
use Rattle.base_graph.specs.Paths.{arcs_from, is_graph, Reaches}
use Rattle.base_graph.specs.Ranks.{greatest}
use Rattle.base_graph.specs.DepthFirst.{mark_at, is_ranked, rank_of, weight, unseen, RankAbove, AreRanks, LeadTo, Goes, Later, GoesOn, HasCycle}
use Rattle.base_graph.specs.declared.depth_first.Mark.{Mark}
use Rattle.base_graph.specs.declared.depth_first.Mark.TheVariants.{Unseen, Open, Ranked}
use Rattle.base_graph.proofs.Paths.{path_more}
use Rattle.base_graph.proofs.Reached.{cycle_found}

not_both : false ≡ true → ⊥
not_both h = cc

-- a list of one
only : (m k : ℕ) → Contains (m ∷ []) k → m ≡ k
only m k (zero, l, e) = e
only m k (suc i, l, e) = absurd (omega arith)

-- the mark of the node j once x was written at i
abbrev Written : List Mark → ℕ → Mark → ℕ → Type 0
Written ms i x j = ((j ≡ i) × (mark_at (set ms i x) j ≡ x)) ⊎ ((j ≢ i) × (mark_at (set ms i x) j ≡ mark_at ms j))

mark_set : (ms : List Mark) (i : ℕ) (x : Mark) (j : ℕ) → i < length ms → Written ms i x j
mark_set ms i x j l = by (cases_eq j i)
  where
    by : (j ≡ i) ⊎ (j ≢ i) → Written ms i x j
    by (inl e) = inl (e, subst (λ k. mark_at (set ms i x) k ≡ x) (sym e) (get_or-set_same ms i x Unseen l))
    by (inr n) = inr (n, get_or-set_other ms i j x Unseen n)

-- the number of nodes not seen
pub unseen_opened : (ms : List Mark) (i : ℕ) → i < length ms → mark_at ms i ≡ Unseen → unseen (set ms i Open) + 1 ≡ unseen ms
unseen_opened ms i l e = omega (arith, sum_by-set weight ms i Open Unseen l, ap weight e)

ranked_weight : (x : Mark) → is_ranked x ≡ true → weight x ≡ 0
ranked_weight Unseen e = absurd (not_both e)
ranked_weight Open e = refl
ranked_weight (Ranked r) e = refl

lighter : (old new : List Mark) → length new ≡ length old → ((m : ℕ) → weight (mark_at new m) ≤ weight (mark_at old m)) → unseen new ≤ unseen old
lighter [] [] l h = omega arith
lighter [] (y ∷ ys) l h = absurd (omega arith)
lighter (x ∷ xs) [] l h = absurd (omega arith)
lighter (x ∷ xs) (y ∷ ys) l h = omega (arith, sum_by-cons weight x xs, sum_by-cons weight y ys, h 0, lighter xs ys (omega arith) (λ m. h (suc m)))

pub unseen_falls : (old new : List Mark) → length new ≡ length old → Later old new → unseen new ≤ unseen old
unseen_falls old new l p = lighter old new l (λ m. by m (p.each m))
  where
    by : (m : ℕ) → Goes (mark_at old m) (mark_at new m) → weight (mark_at new m) ≤ weight (mark_at old m)
    by m (inl e) = omega (arith, ap weight e)
    by m (inr (u, r)) = omega (arith, ranked_weight (mark_at new m) r)

-- the marks that a later table keeps
pub later_trans : (a b c : List Mark) → Later a b → Later b c → Later a c
later_trans a b c p q = record { each = λ m. by m (p.each m) (q.each m) }
  where
    by : (m : ℕ) → Goes (mark_at a m) (mark_at b m) → Goes (mark_at b m) (mark_at c m) → Goes (mark_at a m) (mark_at c m)
    by m (inl e) (inl f) = inl (f ∙ e)
    by m (inl e) (inr (u, r)) = inr (sym e ∙ u, r)
    by m (inr (u, r)) (inl f) = inr (u, ap is_ranked f ∙ r)
    by m (inr (u, r)) (inr (v, s)) = inr (u, s)

ranked_stays : (old new : List Mark) → Later old new → (m : ℕ) → is_ranked (mark_at old m) ≡ true → mark_at new m ≡ mark_at old m
ranked_stays old new p m r = by (p.each m)
  where
    by : Goes (mark_at old m) (mark_at new m) → mark_at new m ≡ mark_at old m
    by (inl e) = e
    by (inr (u, s)) = absurd (not_both (sym (ap is_ranked u) ∙ r))

open_stays : (old new : List Mark) → Later old new → (m : ℕ) → mark_at old m ≡ Open → mark_at new m ≡ Open
open_stays old new p m o = by (p.each m)
  where
    by : Goes (mark_at old m) (mark_at new m) → mark_at new m ≡ Open
    by (inl e) = e ∙ o
    by (inr (u, s)) = absurd (omega (arith, ap weight (sym u ∙ o)))

open_before : (old new : List Mark) → Later old new → (m : ℕ) → mark_at new m ≡ Open → mark_at old m ≡ Open
open_before old new p m o = by (p.each m)
  where
    by : Goes (mark_at old m) (mark_at new m) → mark_at old m ≡ Open
    by (inl e) = sym e ∙ o
    by (inr (u, s)) = absurd (not_both (sym (ap is_ranked o) ∙ s))

-- ranks one step on, where more is known
pub map_same : (f h : ℕ → ℕ) (ks : List ℕ) → ((k : ℕ) → Contains ks k → f k ≡ h k) → map f ks ≡ map h ks
map_same f h [] e = refl
map_same f h (k ∷ ks) e = ap (λ n. n ∷ map f ks) (e k (0, omega arith, refl)) ∙ ap (λ ns. h k ∷ ns) (map_same f h ks (λ i c. e i (suc c.0, omega (arith, c.1), c.2)))

above_kept : (old new : List Mark) → ((k : ℕ) → is_ranked (mark_at old k) ≡ true → mark_at new k ≡ mark_at old k) → (ks : List ℕ) (r : ℕ) → RankAbove old ks r → RankAbove new ks r
above_kept old new same ks r a = record {
  ranked = λ k c. ap is_ranked (same k (a.ranked k c)) ∙ a.ranked k c;
  value = a.value ∙ ap greatest (map_same (λ k. suc (rank_of (mark_at old k))) (λ k. suc (rank_of (mark_at new k))) ks (λ k c. ap (λ x. suc (rank_of x)) (sym (same k (a.ranked k c)))));
}

-- one more mark, at a node without a rank
ranks_set : (g : List (List ℕ)) (ms : List Mark) (i : ℕ) (x : Mark) → i < length ms → is_ranked (mark_at ms i) ≡ false → AreRanks g ms → (is_ranked x ≡ true → RankAbove ms (arcs_from g i) (rank_of x)) → AreRanks g (set ms i x)
ranks_set g ms i x l none right new = record { above = λ m r. by m r (mark_set ms i x m l) }
  where
    ns : List Mark
    ns = set ms i x

    same : (k : ℕ) → is_ranked (mark_at ms k) ≡ true → mark_at ns k ≡ mark_at ms k
    same k r = get_or-set_other ms i k x Unseen (λ e. not_both (sym none ∙ subst (λ j. is_ranked (mark_at ms j) ≡ true) e r))

    by : (m : ℕ) → is_ranked (mark_at ns m) ≡ true → Written ms i x m → RankAbove ns (arcs_from g m) (rank_of (mark_at ns m))
    by m r (inl (e, s)) = subst (λ j. RankAbove ns (arcs_from g j) (rank_of (mark_at ns m))) (sym e) (subst (λ y. RankAbove ns (arcs_from g i) (rank_of y)) (sym s) (above_kept ms ns same (arcs_from g i) (rank_of x) (new (sym (ap is_ranked s) ∙ r))))
    by m r (inr (n, s)) = subst (λ y. RankAbove ns (arcs_from g m) (rank_of y)) (sym s) (above_kept ms ns same (arcs_from g m) (rank_of (mark_at ms m)) (right.above m (sym (ap is_ranked s) ∙ r)))

pub opened : (g : List (List ℕ)) (ms : List Mark) (i : ℕ) → i < length ms → mark_at ms i ≡ Unseen → AreRanks g ms → AreRanks g (set ms i Open)
opened g ms i l u right = ranks_set g ms i Open l (ap is_ranked u) right (λ e. absurd (not_both e))

-- the nodes that the search is below
pub lead_on : (g : List (List ℕ)) (ms : List Mark) (i : ℕ) → i < length ms → LeadTo g ms (i ∷ []) → LeadTo g (set ms i Open) (arcs_from g i)
lead_on g ms i l lead = record { path = λ j k o c. by j k o c (mark_set ms i Open j l) }
  where
    more : (j k : ℕ) → Reaches g (arcs_from g j) i → Contains (arcs_from g i) k → Reaches g (arcs_from g j) k
    more j k (first, ks, c, p) d = (first, ks ++ k ∷ [], c, path_more g first ks i k p d)

    by : (j k : ℕ) → mark_at (set ms i Open) j ≡ Open → Contains (arcs_from g i) k → Written ms i Open j → Reaches g (arcs_from g j) k
    by j k o c (inl (e, s)) = (k, [], subst (λ n. Contains (arcs_from g n) k) (sym e) c, refl)
    by j k o c (inr (n, s)) = more j k (lead.path j i (sym s ∙ o) (0, omega arith, refl)) c

pub lead_kept : (g : List (List ℕ)) (old new : List Mark) (ks : List ℕ) (i : ℕ) → i < length ks → Later old new → LeadTo g old ks → LeadTo g new (get_or ks i 0 ∷ [])
lead_kept g old new ks i l p lead = record { path = λ j k o c. lead.path j k (open_before old new p j o) (subst (Contains ks) (only (get_or ks i 0) k c) (i, l, get_or_default ks i (get_or ks i 0) 0 l)) }

pub cycle_met : (g : List (List ℕ)) (ms : List Mark) (i : ℕ) → is_graph g ≡ true → i < length g → LeadTo g ms (i ∷ []) → mark_at ms i ≡ Open → HasCycle g
cycle_met g ms i k l lead o = cycle_found g i k l (lead.path i i o (0, omega arith, refl))

-- a node gets its rank
pub ranked_now : (g : List (List ℕ)) (old mid : List Mark) (i r : ℕ) → i < length old → length mid ≡ length old → mark_at old i ≡ Unseen → GoesOn g (set old i Open) mid → RankAbove mid (arcs_from g i) r → GoesOn g old (set mid i (Ranked r)) × (mark_at (set mid i (Ranked r)) i ≡ Ranked r)
ranked_now g old mid i r l same u went above = (record { right = ranks_set g mid i (Ranked r) low (ap is_ranked entered) went.right (λ e. above); later = record { each = λ m. by m (mark_set mid i (Ranked r) m low) } }, get_or-set_same mid i (Ranked r) Unseen low)
  where
    low : i < length mid
    low = omega (arith, same, l)

    entered : mark_at mid i ≡ Open
    entered = open_stays (set old i Open) mid went.later i (get_or-set_same old i Open Unseen l)

    new : List Mark
    new = set mid i (Ranked r)

    other : (m : ℕ) → m ≢ i → mark_at new m ≡ mark_at mid m → Goes (mark_at (set old i Open) m) (mark_at mid m) → Goes (mark_at old m) (mark_at new m)
    other m n s (inl f) = inl (s ∙ f ∙ get_or-set_other old i m Open Unseen n)
    other m n s (inr (v, k)) = inr (sym (get_or-set_other old i m Open Unseen n) ∙ v, ap is_ranked s ∙ k)

    by : (m : ℕ) → Written mid i (Ranked r) m → Goes (mark_at old m) (mark_at new m)
    by m (inl (e, s)) = inr (subst (λ j. mark_at old j ≡ Unseen) (sym e) u, ap is_ranked s)
    by m (inr (n, s)) = other m n s (went.later.each m)

-- one more node in front of a rank
greatest_push : (f : ℕ → ℕ) (ks : List ℕ) (k : ℕ) → greatest (map f (ks ++ k ∷ [])) ≡ max (greatest (map f ks)) (f k)
greatest_push f [] k = omega arith
greatest_push f (i ∷ ks) k = omega (arith, greatest_push f ks k)

above_push : (ms : List Mark) (ks : List ℕ) (r k v : ℕ) → RankAbove ms ks r → mark_at ms k ≡ Ranked v → RankAbove ms (ks ++ k ∷ []) (max r (v + 1))
above_push ms ks r k v a e = record { ranked = λ i c. by i (Contains-append_cases ks (k ∷ []) i c); value = omega (arith, a.value, greatest_push (λ i. suc (rank_of (mark_at ms i))) ks k, ap rank_of e) }
  where
    by : (i : ℕ) → Contains ks i ⊎ Contains (k ∷ []) i → is_ranked (mark_at ms i) ≡ true
    by i (inl c) = a.ranked i c
    by i (inr c) = subst (λ j. is_ranked (mark_at ms j) ≡ true) (only k i c) (ap is_ranked e)

pub above_more : (g : List (List ℕ)) (old new : List Mark) (ks : List ℕ) (i r v : ℕ) → i < length ks → GoesOn g old new → RankAbove old (take i ks) r → mark_at new (get_or ks i 0) ≡ Ranked v → RankAbove new (take (i + 1) ks) (max r (v + 1))
above_more g old new ks i r v l went a e = rw (take_more ks i 0 l) (above_push new (take i ks) r (get_or ks i 0) v (above_kept old new (ranked_stays old new went.later) (take i ks) r a) e)

-- a rank is below the number of nodes, since each lesser rank is that of some node
one_below : (f : ℕ → ℕ) (ks : List ℕ) (v : ℕ) → greatest (map (λ k. suc (f k)) ks) ≡ suc v → (k : ℕ) × Contains ks k × (f k ≡ v)
one_below f [] v e = absurd (omega arith)
one_below f (k ∷ ks) v e = by (cases_eq (f k) v) (one_below f ks v)
  where
    behind : (i : ℕ) × Contains ks i × (f i ≡ v) → (i : ℕ) × Contains (k ∷ ks) i × (f i ≡ v)
    behind (i, c, h) = (i, (suc c.0, omega (arith, c.1), c.2), h)

    by : (f k ≡ v) ⊎ (f k ≢ v) → (greatest (map (λ k. suc (f k)) ks) ≡ suc v → (i : ℕ) × Contains ks i × (f i ≡ v)) → (i : ℕ) × Contains (k ∷ ks) i × (f i ≡ v)
    by (inl h) tail = (k, (0, omega arith, refl), h)
    by (inr n) tail = behind (tail (omega (arith, e)))

ranked_inside : (ms : List Mark) (m : ℕ) → is_ranked (mark_at ms m) ≡ true → m < length ms
ranked_inside ms m r = elim (cases_lt m (length ms)) [ inl l ↦ l | inr l ↦ absurd (not_both (sym (ap is_ranked (get_or_past ms m Unseen l)) ∙ r)) ]

lesser : (g : List (List ℕ)) (ms : List Mark) (q d m : ℕ) → AreRanks g ms → is_ranked (mark_at ms m) ≡ true → rank_of (mark_at ms m) ≡ d + q → list_any (eqb q) (map rank_of ms) ≡ true
lesser g ms q zero m right r e = list_any_at (eqb q) (map rank_of ms) m 0 inside ((Decides-eqb q (get_or (map rank_of ms) m 0)).1 (omega (arith, get_or-map rank_of ms m Unseen 0 (ranked_inside ms m r), e)))
  where
    inside : m < length (map rank_of ms)
    inside = omega (arith, ranked_inside ms m r, length-map ms rank_of)
lesser g ms q (suc d) m right r e =
    let a = right.above m r in
    let next = one_below (λ k. rank_of (mark_at ms k)) (arcs_from g m) (d + q) (omega (arith, a.value, e)) in
    lesser g ms q d next.0 right (a.ranked next.0 next.1) next.2

pub ranks_below : (g : List (List ℕ)) (ms : List Mark) (m : ℕ) → AreRanks g ms → is_ranked (mark_at ms m) ≡ true → rank_of (mark_at ms m) < length ms
ranks_below g ms m right r = omega (arith, length-map ms rank_of, le-length_from_below (map rank_of ms) (suc (rank_of (mark_at ms m))) (λ q l. lesser g ms q (rank_of (mark_at ms m) - q) m right r (omega arith)))
