-- A search: what it has come to is all different and reached, and once each one's successors are found, it is whatever is reached.
use Rattle.std.proofs.Common.{◌≡◌, ◌≢◌, ℕ, suc, ◌+◌, ◌<◌, ◌≤◌, Bool, true, false, nat_eq, cond, List, [], ◌∷◌, ◌++◌, length, get_or, map, Contains, ◌⊎◌, inl, inr, refl, sym, ap, subst, ◌∙◌, arith, zero-add}
use Rattle.std.specs.List.{AllPairs}
use Rattle.std.specs.Set.{is_member}
use Rattle.std.specs.Cmp.{unsigned_Decides}
use Rattle.std.proofs.lemmas.Bool.{cases_lt}
use Rattle.std.proofs.lemmas.List.{get_or_append_left, get_or_push, length_push, get_or_default}
use Rattle.std.proofs.lemmas.List.Elements.{Contains-push, Contains-push_cases, Contains-get_or}
use Rattle.std.proofs.lemmas.List.FromFn.{length-map-range_with_len, get_or-map-range_with_len}
use Rattle.std.proofs.lemmas.Map.Made.{IsDistinct-from_AllPairs, distinct_count-from_IsDistinct, is_member-Decides}
use Rattle.std.proofs.lemmas.Cmp.{nat_eq_equiv}
use Rattle.base_graph.specs.Paths.{numbers, arcs_from, is_graph, are_known, reached, Reaches}
use Rattle.base_graph.specs.Search.{come, come_all, marks_of}
use Rattle.base_graph.proofs.Marks.{marks_from}
use Rattle.base_graph.proofs.Paths.{closed, few, path_more, one_of, known_at, leads_to}
use Rattle.base_graph.proofs.Reached.{Reaches-reached, reached-Reaches}

-- no number twice
abbrev AllDiffer : List ℕ → Type 0
AllDiffer ms = AllPairs (λ m k. m ≢ k) ms

differ_push : (found : List ℕ) (m : ℕ) → (Contains found m → ⊥) → AllDiffer found → AllDiffer (found ++ m ∷ [])
differ_push found m new differ i j d low high = elim (cases_lt j (length found)) [ inl l ↦ inside l | inr h ↦ last h ]
  where
    low_of : j ≤ length found → i < length found
    low_of h = omega arith

    inside : j < length found → get_or (found ++ m ∷ []) i d ≢ get_or (found ++ m ∷ []) j d
    inside l e = differ i j d low l (sym (get_or_append_left found (m ∷ []) d i (low_of (omega arith))) ∙ e ∙ get_or_append_left found (m ∷ []) d j l)

    last : length found ≤ j → get_or (found ++ m ∷ []) i d ≢ get_or (found ++ m ∷ []) j d
    last h e =
        let end : length found ≡ j = omega (arith, length_push found m) in
        let place : i < length found = low_of (omega arith) in
        new (i, place, get_or_default found i m d place ∙ sym (get_or_append_left found (m ∷ []) d i place) ∙ e ∙ get_or_push found m d j end)

-- the findings of a search after it came to each of some nodes
record More (found ms after : List ℕ) : Type 0 where
  longer : length found ≤ length after
  stay : (i d : ℕ) → i < length found → get_or after i d ≡ get_or found i d
  has : (m : ℕ) → Contains ms m → Contains after m
  from : (m : ℕ) → Contains after m → Contains found m ⊎ Contains ms m
  differ : AllDiffer found → AllDiffer after

kept : {found ms after : List ℕ} → More found ms after → (m : ℕ) → Contains found m → Contains after m
kept more m c = (c.0, omega (arith, c.1, more.longer), more.stay c.0 m c.1 ∙ c.2)

only : (m : ℕ) (P : ℕ → Type 0) → P m → (k : ℕ) → Contains (m ∷ []) k → P k
only m P p k c = elim (one_of m [] k c) [ inl e ↦ subst P e p | inr d ↦ absurd (omega (arith, d.1)) ]

first_of_all : (m : ℕ) (ms : List ℕ) → Contains (m ∷ ms) m
first_of_all m ms = (0, omega arith, refl)

behind : (m : ℕ) (ms : List ℕ) (k : ℕ) → Contains ms k → Contains (m ∷ ms) k
behind m ms k c = (suc c.0, omega (arith, c.1), c.2)

more_one : (found : List ℕ) (m : ℕ) → More found (m ∷ []) (come found m)
more_one found m = by (is_member nat_eq found m) refl
  where
    new : is_member nat_eq found m ≡ false → Contains found m → ⊥
    new e c = no (sym ((is_member-Decides unsigned_Decides found m).1 c) ∙ e)
      where
        no : true ≡ false → ⊥
        no h = cc

    by : (b : Bool) → is_member nat_eq found m ≡ b → More found (m ∷ []) (cond b found (found ++ m ∷ []))
    by true e = record {
      longer = omega arith;
      stay = λ i d l. refl;
      has = only m (λ k. Contains found k) ((is_member-Decides unsigned_Decides found m).0 e);
      from = λ k c. inl c;
      differ = λ h. h;
    }
    by false e = record {
      longer = omega (arith, length_push found m);
      stay = λ i d l. get_or_append_left found (m ∷ []) d i l;
      has = only m (λ k. Contains (found ++ m ∷ []) k) (Contains-push found m);
      from = λ k c. elim (Contains-push_cases found m k c) [ inl d ↦ inl d | inr p ↦ inr (subst (λ v. Contains (m ∷ []) v) p (first_of_all m [])) ];
      differ = λ h. differ_push found m (new e) h;
    }

more_then : {found mid after : List ℕ} (m : ℕ) (ms : List ℕ) → More found (m ∷ []) mid → More mid ms after → More found (m ∷ ms) after
more_then {found} {mid} {after} m ms one tail = record {
  longer = omega (arith, one.longer, tail.longer);
  stay = λ i d l. let low : i < length mid = omega (arith, one.longer) in tail.stay i d low ∙ one.stay i d l;
  has = λ k c. elim (one_of m ms k c) [ inl e ↦ kept tail k (one.has k (subst (λ v. Contains (m ∷ []) v) e (first_of_all m []))) | inr d ↦ tail.has k d ];
  from = λ k c. elim (tail.from k c) [ inl d ↦ before k (one.from k d) | inr d ↦ inr (behind m ms k d) ];
  differ = λ h. tail.differ (one.differ h);
}
  where
    before : (k : ℕ) → Contains found k ⊎ Contains (m ∷ []) k → Contains found k ⊎ Contains (m ∷ ms) k
    before k (inl c) = inl c
    before k (inr c) = inr (only m (λ v. Contains (m ∷ ms) v) (first_of_all m ms) k c)

more : (found ms : List ℕ) → More found ms (come_all found ms)
more found [] = record { longer = omega arith; stay = λ i d l. refl; has = λ m c. absurd (omega (arith, c.1)); from = λ m c. inl c; differ = λ h. h }
more found (m ∷ ms) = more_then m ms (more_one found m) (more (come found m) ms)

-- a search from some starts that has gone over the successors of the first few nodes that it came to
pub record Searched (g : List (List ℕ)) (starts found : List ℕ) (at : ℕ) : Type 0 where
  pub place : at ≤ length found
  pub differ : AllDiffer found
  pub below : (m : ℕ) → Contains found m → m < length g
  pub from : (m : ℕ) → Contains found m → Reaches g starts m
  pub begun : (m : ℕ) → Contains starts m → Contains found m
  pub done : (i : ℕ) → i < at → (k : ℕ) → Contains (arcs_from g (get_or found i 0)) k → Contains found k

known_of : (count : ℕ) (ms : List ℕ) (m : ℕ) → are_known count ms ≡ true → Contains ms m → m < count
known_of count ms m known c = subst (λ k. k < count) (get_or_default ms c.0 0 m c.1 ∙ c.2) (known_at count ms c.0 known c.1)

pub search_begun : (g : List (List ℕ)) (starts : List ℕ) → are_known (length g) starts ≡ true → Searched g starts (come_all [] starts) 0
search_begun g starts known = record {
  place = omega arith;
  differ = (more [] starts).differ (λ i j d l h. absurd (omega arith));
  below = λ m c. known_of (length g) starts m known (start m ((more [] starts).from m c));
  from = λ m c. (m, [], start m ((more [] starts).from m c), refl);
  begun = (more [] starts).has;
  done = λ i l k c. absurd (omega arith);
}
  where
    start : (m : ℕ) → Contains [] m ⊎ Contains starts m → Contains starts m
    start m (inl c) = absurd (omega (arith, c.1))
    start m (inr c) = c

pub search_goes_on : (g : List (List ℕ)) (starts found : List ℕ) (at : ℕ) → is_graph g ≡ true → at < length found → Searched g starts found at → Searched g starts (come_all found (arcs_from g (get_or found at 0))) (at + 1)
search_goes_on g starts found at known l s = record {
  place = omega (arith, next.longer);
  differ = next.differ s.differ;
  below = λ m c. below m (next.from m c);
  from = λ m c. from m (next.from m c);
  begun = λ m c. kept next m (s.begun m c);
  done = λ i low k c. done i low k c (cases_lt i at);
}
  where
    node : ℕ
    node = get_or found at 0

    next : More found (arcs_from g node) (come_all found (arcs_from g node))
    next = more found (arcs_from g node)

    below : (m : ℕ) → Contains found m ⊎ Contains (arcs_from g node) m → m < length g
    below m (inl c) = s.below m c
    below m (inr c) = leads_to g node m known c

    from : (m : ℕ) → Contains found m ⊎ Contains (arcs_from g node) m → Reaches g starts m
    from m (inl c) = s.from m c
    from m (inr c) = let r = s.from node (Contains-get_or found at 0 l) in (r.0, r.1 ++ m ∷ [], r.2, path_more g r.0 r.1 node m r.3 c)

    after : List ℕ
    after = come_all found (arcs_from g node)

    done : (i : ℕ) → i < at + 1 → (k : ℕ) → Contains (arcs_from g (get_or after i 0)) k → (i < at) ⊎ (at ≤ i) → Contains after k
    done i low k c (inl d) =
        let inside : i < length found = omega arith in
        kept next k (s.done i d k (subst (λ m. Contains (arcs_from g m) k) (next.stay i 0 inside) c))
    done i low k c (inr d) =
        let same : i ≡ at = omega arith in
        next.has k (subst (λ m. Contains (arcs_from g m) k) (ap (λ n. get_or after n 0) same ∙ next.stay at 0 l) c)

-- a search comes to no more nodes than there are
pub search_ends : (g : List (List ℕ)) (starts found : List ℕ) (at : ℕ) → Searched g starts found at → length found ≤ length g
search_ends g starts found at s = few found (length g) (distinct_count-from_IsDistinct nat_eq_equiv found (IsDistinct-from_AllPairs unsigned_Decides found s.differ)) s.below

same_tests : (a b : Bool) → (a ≡ true → b ≡ true) → (b ≡ true → a ≡ true) → a ≡ b
same_tests true b f h = sym (f refl)
same_tests false true f h = h refl
same_tests false false f h = refl

-- a search that has gone over the successors of each node that it came to has found what is reached
pub found_reached : (g : List (List ℕ)) (starts found : List ℕ) (m : ℕ) → is_graph g ≡ true → Searched g starts found (length found) → is_member nat_eq found m ≡ reached g starts m
found_reached g starts found m known s = same_tests (is_member nat_eq found m) (reached g starts m)
    (λ e. reached-Reaches g starts m known (s.from m ((is_member-Decides unsigned_Decides found m).0 e)))
    (λ e. (is_member-Decides unsigned_Decides found m).1 (all (Reaches-reached g starts m e)))
  where
    step : (n k : ℕ) → Contains found n → Contains (arcs_from g n) k → Contains found k
    step n k c successor = s.done c.0 c.1 k (subst (λ v. Contains (arcs_from g v) k) (sym (get_or_default found c.0 0 n c.1 ∙ c.2)) successor)

    all : Reaches g starts m → Contains found m
    all r = closed g (Contains found) step r.0 r.1 m (s.begun r.0 r.2) r.3

pub marks_reached : (g : List (List ℕ)) (starts found : List ℕ) → is_graph g ≡ true → Searched g starts found (length found) → map (reached g starts) (numbers (length g)) ≡ marks_of (length g) found
marks_reached g starts found known s = marks_from (length g) found (map (reached g starts) (numbers (length g))) (length-map-range_with_len (reached g starts) 0 (length g))
    (λ k l. get_or-map-range_with_len (reached g starts) 0 (length g) k k false l (zero-add k) ∙ sym (found_reached g starts found k known s))
