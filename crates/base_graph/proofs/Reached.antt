-- A node counts as reached exactly where a path of any length leads there.
use Rattle.std.proofs.Common.{◌≡◌, ℕ, zero, suc, ◌<◌, ◌≤◌, Bool, true, false, ◌==◌, List, [], ◌∷◌, length, get_or, Contains, Some, None, inl, inr, cond, refl, sym, subst, ◌∙◌, zero-add, arith, eq-eqb}
use Rattle.std.proofs.lemmas.Bool.{eqb-true, or_left, or_right, or_cases}
use Rattle.std.proofs.lemmas.List.Folds.{list_any_at, Any-from_list_any}
use Rattle.std.proofs.lemmas.List.FromFn.{length-range_with_len, get_or-range_with_len}
use Rattle.std.specs.List.{list_any, find}
use Rattle.base_graph.specs.Paths.{numbers, arcs_from, is_graph, within, reached, in_cycle, first_in_cycle, Path, Reaches}
use Rattle.base_graph.proofs.Paths.{short_path}

-- a test of some element, and an element that passes it
some_passes : (test : ℕ → Bool) (ks : List ℕ) → list_any test ks ≡ true → (k : ℕ) × Contains ks k × (test k ≡ true)
some_passes test ks e = let a = Any-from_list_any test ks e in (a.1, (a.0, a.2, a.3), a.4)

passes_some : (test : ℕ → Bool) (ks : List ℕ) (k : ℕ) → Contains ks k → test k ≡ true → list_any test ks ≡ true
passes_some test ks k c e = list_any_at test ks c.0 k c.1 (subst (λ j. test j ≡ true) (sym c.2) e)

path_within : (g : List (List ℕ)) (n m j : ℕ) → within g n m j ≡ true → (ks : List ℕ) × Path g m ks j
path_within g zero m j e = ([], eqb-true m j e)
path_within g (suc n) m j e = elim (or_cases (m == j) (list_any (λ k. within g n k j) (arcs_from g m)) e) [ inl h ↦ ([], eqb-true m j h) | inr h ↦ step (λ k. path_within g n k j) (some_passes (λ k. within g n k j) (arcs_from g m) h) ]
  where
    step : ((k : ℕ) → within g n k j ≡ true → (ks : List ℕ) × Path g k ks j) → (k : ℕ) × Contains (arcs_from g m) k × (within g n k j ≡ true) → (ks : List ℕ) × Path g m ks j
    step more s = let tail = more s.0 s.2 in (s.0 ∷ tail.0, (s.1, tail.1))

within_path : (g : List (List ℕ)) (n m : ℕ) (ks : List ℕ) (j : ℕ) → Path g m ks j → length ks ≤ n → within g n m j ≡ true
within_path g zero m [] j w l = eq-eqb m j w
within_path g zero m (k ∷ ks) j w l = absurd (omega arith)
within_path g (suc n) m [] j w l = or_left (m == j) (list_any (λ k. within g n k j) (arcs_from g m)) (eq-eqb m j w)
within_path g (suc n) m (k ∷ ks) j w l = or_right (m == j) (list_any (λ k. within g n k j) (arcs_from g m))
    (passes_some (λ k. within g n k j) (arcs_from g m) k w.0 (within_path g n k ks j w.1 (omega arith)))

pub Reaches-reached : (g : List (List ℕ)) (starts : List ℕ) (j : ℕ) → reached g starts j ≡ true → Reaches g starts j
unfolding reached
Reaches-reached g starts j e =
    let s = some_passes (λ k. within g (length g) k j) starts e in
    let path = path_within g (length g) s.0 j s.2 in
    (s.0, path.0, s.1, path.1)

pub reached-Reaches : (g : List (List ℕ)) (starts : List ℕ) (j : ℕ) → is_graph g ≡ true → Reaches g starts j → reached g starts j ≡ true
unfolding reached
reached-Reaches g starts j known r =
    let short = short_path g r.0 r.1 j known r.3 in
    passes_some (λ k. within g (length g) k j) starts r.0 r.2 (within_path g (length g) r.0 short.0 j short.1 short.2)

-- where no element passes a test, each fails
none_passes : (test : ℕ → Bool) (xs : List ℕ) (i d : ℕ) → find test xs ≡ None → i < length xs → test (get_or xs i d) ≡ false
none_passes test [] i d e l = absurd (omega arith)
none_passes test (x ∷ xs) i d e l = by (test x) refl e (none_passes test xs) i l
  where
    by : (b : Bool) → test x ≡ b → cond b (Some x) (find test xs) ≡ None → ((i d : ℕ) → find test xs ≡ None → i < length xs → test (get_or xs i d) ≡ false) → (i : ℕ) → i < length (x ∷ xs) → test (get_or (x ∷ xs) i d) ≡ false
    by true p h tail i l = cc
    by false p h tail zero l = p
    by false p h tail (suc i) l = tail i d h (omega arith)

pub no_cycle_at : (g : List (List ℕ)) (m : ℕ) → first_in_cycle g ≡ None → m < length g → in_cycle g m ≡ false
unfolding first_in_cycle
no_cycle_at g m e l = subst (λ k. in_cycle g k ≡ false) (get_or-range_with_len 0 (length g) m 0 l ∙ zero-add m)
    (none_passes (in_cycle g) (numbers (length g)) m 0 e (subst (λ n. m < n) (sym (length-range_with_len 0 (length g))) l))

pub cycle_found : (g : List (List ℕ)) (m : ℕ) → is_graph g ≡ true → m < length g → Reaches g (arcs_from g m) m → first_in_cycle g ≡ None → ⊥
cycle_found g m known l r e = no (sym (reached-Reaches g (arcs_from g m) m known r) ∙ no_cycle_at g m e l)
  where
    no : true ≡ false → ⊥
    no h = cc
