-- Paths: a set closed under successors holds each node that is reached; a path goes on by one step; each can be shortened to visit no node
-- twice.
use Rattle.std.proofs.Common.{◌≡◌, ℕ, zero, suc, ◌<◌, ◌≤◌, Bool, true, false, List, [], ◌∷◌, ◌++◌, length, get_or, Contains, ◌⊎◌, inl, inr, nat_lt, cond, refl, sym, ap, subst, ◌∙◌, arith}
use Rattle.std.proofs.lemmas.Bool.{ltb-true, cases_lt}
use Rattle.std.proofs.lemmas.List.{get_or_past}
use Rattle.std.proofs.lemmas.List.FromFn.{length-range_with_len, get_or-range_with_len}
use Rattle.std.proofs.lemmas.Map.Made.{length-le_from_is_member, distinct_count-le, IsDistinct-from_count, is_member-Decides}
use Rattle.std.proofs.lemmas.Cmp.{nat_eq_equiv}
use Rattle.std.specs.List.{range_with_len}
use Rattle.std.specs.Set.{is_member, unique_keys, distinct_count}
use Rattle.std.specs.Cmp.{unsigned_Decides}
use Rattle.std.proofs.Math.Dec.{eqb}
use Rattle.base_num.proofs.Tests.{all_at}
use Rattle.base_graph.specs.Paths.{arcs_from, is_graph, are_known, Path}

-- a property of m, and of the successors of whatever has it, holds at the end of each path from m
pub closed : (g : List (List ℕ)) (P : ℕ → Type 0) → ((m k : ℕ) → P m → Contains (arcs_from g m) k → P k) → (m : ℕ) (ks : List ℕ) (j : ℕ) → P m → Path g m ks j → P j
closed g P step m [] j p w = subst P w p
closed g P step m (k ∷ ks) j p w = closed g P step k ks j (step m k p w.0) w.1

-- one step more
pub path_more : (g : List (List ℕ)) (m : ℕ) (ks : List ℕ) (j k : ℕ) → Path g m ks j → Contains (arcs_from g j) k → Path g m (ks ++ k ∷ []) k
path_more g m [] j k w c = (subst (λ i. Contains (arcs_from g i) k) (sym w) c, refl)
path_more g m (i ∷ ks) j k w c = (w.0, path_more g i ks j k w.1 c)

-- numbers below a count that are all different are at most so many
pub few : (vs : List ℕ) (count : ℕ) → distinct_count eqb vs ≡ length vs → ((v : ℕ) → Contains vs v → v < count) → length vs ≤ count
few vs count d h = subst (λ n. length vs ≤ n) (length-range_with_len 0 count)
    (length-le_from_is_member nat_eq_equiv vs (range_with_len 0 count) (IsDistinct-from_count nat_eq_equiv vs d)
    (λ q e. (is_member-Decides unsigned_Decides (range_with_len 0 count) q).1 (below q (h q ((is_member-Decides unsigned_Decides vs q).0 e)))))
  where
    below : (q : ℕ) → q < count → Contains (range_with_len 0 count) q
    below q l = (q, subst (λ n. q < n) (sym (length-range_with_len 0 count)) l, omega (arith, get_or-range_with_len 0 count q q l))

-- the members of a list with one more in front
pub one_of : (m : ℕ) (vs : List ℕ) (v : ℕ) → Contains (m ∷ vs) v → (m ≡ v) ⊎ Contains vs v
one_of m vs v (zero, l, e) = inl e
one_of m vs v (suc i, l, e) = inr (i, omega arith, e)

pub known_at : (count : ℕ) (ms : List ℕ) (i : ℕ) → are_known count ms ≡ true → i < length ms → get_or ms i 0 < count
known_at count ms i known l = ltb-true (get_or ms i 0) count (all_at (λ m. nat_lt m count) ms i 0 known l)

-- a node that leads somewhere is one of the graph, and so is where it leads
pub leads_from : (g : List (List ℕ)) (m k : ℕ) → Contains (arcs_from g m) k → m < length g
leads_from g m k (i, l, e) = elim (cases_lt m (length g)) [ inl h ↦ h | inr h ↦ absurd (none h) ]
  where
    none : length g ≤ m → ⊥
    none h = let empty : length (arcs_from g m) ≡ 0 = ap length (get_or_past g m [] h) in omega arith

pub leads_to : (g : List (List ℕ)) (m k : ℕ) → is_graph g ≡ true → Contains (arcs_from g m) k → k < length g
leads_to g m k known c = ltb-true k (length g)
    (subst (λ j. nat_lt j (length g) ≡ true) c.2 (all_at (λ j. nat_lt j (length g)) (arcs_from g m) c.0 k
    (all_at (are_known (length g)) g m [] known (leads_from g m k c)) c.1))

-- the nodes of a path behind its first
pub passes : (g : List (List ℕ)) (m : ℕ) (ks : List ℕ) (j v : ℕ) → is_graph g ≡ true → Path g m ks j → Contains ks v → v < length g
passes g m [] j v known w c = absurd (omega (arith, c.1))
passes g m (k ∷ ks) j v known w c = elim (one_of k ks v c) [ inl e ↦ subst (λ i. i < length g) e (leads_to g m k known w.0) | inr d ↦ passes g k ks j v known w.1 d ]

-- the list with m in front has no number twice
abbrev Once : ℕ → List ℕ → Type 0
Once m ks = distinct_count eqb (m ∷ ks) ≡ suc (length ks)

once-tail : (m : ℕ) (k : ℕ) (ks : List ℕ) → Once m (k ∷ ks) → Once k ks
once-tail m k ks d = by (is_member eqb (k ∷ ks) m) d
  where
    by : (b : Bool) → length (cond b (unique_keys eqb (k ∷ ks)) (m ∷ unique_keys eqb (k ∷ ks))) ≡ suc (suc (length ks)) → Once k ks
    by true e = absurd (omega (arith, distinct_count-le eqb (k ∷ ks)))
    by false e = omega arith

once-more : (m : ℕ) (k : ℕ) (ks : List ℕ) → is_member eqb (k ∷ ks) m ≡ false → Once k ks → Once m (k ∷ ks)
once-more m k ks e d = ap (λ b. length (cond b (unique_keys eqb (k ∷ ks)) (m ∷ unique_keys eqb (k ∷ ks)))) e ∙ ap suc d

-- a path that visits no node twice
abbrev Short : List (List ℕ) → ℕ → ℕ → Type 0
Short g m j = (ks : List ℕ) × Path g m ks j × Once m ks

-- the part of such a path from the place of m on
part : (g : List (List ℕ)) (k : ℕ) (ks : List ℕ) (m j i : ℕ) → Path g k ks j → Once k ks → i < suc (length ks) → get_or (k ∷ ks) i m ≡ m → Short g m j
part g k ks m j zero w d l e = subst (λ v. Short g v j) e (ks, w, d)
part g k [] m j (suc i) w d l e = absurd (omega arith)
part g k (n ∷ ks) m j (suc i) w d l e = part g n ks m j i w.1 (once-tail k n ks d) (omega arith) e

longer : (g : List (List ℕ)) (m k j : ℕ) → Contains (arcs_from g m) k → Short g k j → Short g m j
longer g m k j c tail = by (is_member eqb (k ∷ tail.0) m) refl
  where
    again : Contains (k ∷ tail.0) m → Short g m j
    again c = part g k tail.0 m j c.0 tail.1 tail.2 c.1 c.2

    by : (b : Bool) → is_member eqb (k ∷ tail.0) m ≡ b → Short g m j
    by true e = again ((is_member-Decides unsigned_Decides (k ∷ tail.0) m).0 e)
    by false e = (k ∷ tail.0, (c, tail.1), once-more m k tail.0 e tail.2)

shortened : (g : List (List ℕ)) (m : ℕ) (ks : List ℕ) (j : ℕ) → Path g m ks j → Short g m j
shortened g m [] j w = ([], w, refl)
shortened g m (k ∷ ks) j w = longer g m k j w.0 (shortened g k ks j w.1)

-- such a path has no more steps than there are nodes
few_steps : (g : List (List ℕ)) (m : ℕ) (ks : List ℕ) (j : ℕ) → is_graph g ≡ true → Path g m ks j → Once m ks → length ks ≤ length g
few_steps g m [] j known w d = omega arith
few_steps g m (k ∷ ks) j known w d = omega (arith, few (m ∷ k ∷ ks) (length g) d each)
  where
    each : (v : ℕ) → Contains (m ∷ k ∷ ks) v → v < length g
    each v c = elim (one_of m (k ∷ ks) v c) [ inl e ↦ subst (λ i. i < length g) e (leads_from g m k w.0) | inr d ↦ passes g m (k ∷ ks) j v known w d ]

-- where a path leads, one of no more steps than there are nodes does
pub short_path : (g : List (List ℕ)) (m : ℕ) (ks : List ℕ) (j : ℕ) → is_graph g ≡ true → Path g m ks j → (short : List ℕ) × Path g m short j × (length short ≤ length g)
short_path g m ks j known w = let s = shortened g m ks j w in (s.0, s.1, few_steps g m s.0 j known s.1 s.2)
