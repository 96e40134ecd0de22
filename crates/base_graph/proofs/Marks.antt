-- The marks of the nodes that a search has come to.
use Rattle.std.proofs.Common.{◌≡◌, ◌≢◌, ℕ, ◌<◌, Bool, true, false, nat_eq, cond, List, [], ◌∷◌, ◌++◌, length, get_or, replicate, ◌||◌, ◌⊎◌, inl, inr, sym, ap, subst, ◌∙◌, arith, set, length-set, zero-add}
use Rattle.std.proofs.lemmas.Bool.Decides.{eqb_tells}
use Rattle.std.proofs.lemmas.List.{ext_get_or, length-replicate, get_or-replicate, get_or-set_same, get_or-set_other}
use Rattle.std.proofs.lemmas.List.FromFn.{length-map-range_with_len, get_or-map-range_with_len}
use Rattle.std.proofs.lemmas.List.Folds.{list_any-append}
use Rattle.std.proofs.Math.Bool.{or-true, or-false}
use Rattle.std.proofs.Math.Dec.{eqb}
use Rattle.std.specs.Set.{is_member}
use Rattle.base_graph.specs.Search.{come, marks_of}

length-marks_of : (count : ℕ) (found : List ℕ) → length (marks_of count found) ≡ count
unfolding marks_of
length-marks_of count found = length-map-range_with_len (is_member nat_eq found) 0 count

marks_at : (count : ℕ) (found : List ℕ) (m : ℕ) (d : Bool) → m < count → get_or (marks_of count found) m d ≡ is_member nat_eq found m
unfolding marks_of
marks_at count found m d l = get_or-map-range_with_len (is_member nat_eq found) 0 count m m d l (zero-add m)

-- the list, by what stands at each place
pub marks_from : (count : ℕ) (found : List ℕ) (marks : List Bool) → length marks ≡ count → ((k : ℕ) → k < count → get_or marks k false ≡ is_member nat_eq found k) → marks ≡ marks_of count found
marks_from count found marks l h = ext_get_or false marks (marks_of count found) (l ∙ sym (length-marks_of count found))
    (λ k lt. let low : k < count = omega (arith, l) in h k low ∙ sym (marks_at count found k false low))

none_marked : (count : ℕ) → replicate count false ≡ marks_of count []
none_marked count = marks_from count [] (replicate count false) (length-replicate count false) (λ k l. get_or-replicate count k false false l)

pub marks_none : (marks : List Bool) (count : ℕ) → marks ≡ replicate count false → marks ≡ marks_of (length marks) []
marks_none marks count e = e ∙ none_marked count ∙ ap (λ n. marks_of n []) (sym (ap length e ∙ length-replicate count false))

-- the node that a search comes to next is marked
marks_come : (count : ℕ) (found : List ℕ) (m : ℕ) → m < count → set (marks_of count found) m true ≡ marks_of count (found ++ m ∷ [])
marks_come count found m l = marks_from count (found ++ m ∷ []) (set (marks_of count found) m true) (length-set (marks_of count found) m true ∙ length-marks_of count found) each
  where
    each : (k : ℕ) → k < count → get_or (set (marks_of count found) m true) k false ≡ is_member nat_eq (found ++ m ∷ []) k
    each k lt = by (eqb_tells k m) ∙ sym (list_any-append (nat_eq k) found (m ∷ []))
      where
        long : m < length (marks_of count found)
        long = omega (arith, length-marks_of count found)

        by : ((eqb k m ≡ true) × (k ≡ m)) ⊎ ((eqb k m ≡ false) × (k ≢ m)) → get_or (set (marks_of count found) m true) k false ≡ (is_member nat_eq found k || (nat_eq k m || false))
        by (inl e) = subst (λ j. get_or (set (marks_of count found) m true) j false ≡ true) (sym e.1) (get_or-set_same (marks_of count found) m true false long) ∙ sym (ap (λ b. is_member nat_eq found k || (b || false)) e.0 ∙ or-true (is_member nat_eq found k))
        by (inr e) = get_or-set_other (marks_of count found) m k true false e.1 ∙ marks_at count found k false lt ∙ sym (ap (λ b. is_member nat_eq found k || (b || false)) e.0 ∙ or-false (is_member nat_eq found k))

-- the findings of a search after it comes to a node
pub marked_stays : (marks : List Bool) (found : List ℕ) (m : ℕ) → marks ≡ marks_of (length marks) found → m < length marks → get_or marks m false ≡ true → come found m ≡ found
marked_stays marks found m e l h = ap (λ b. cond b found (found ++ m ∷ [])) (sym (marks_at (length marks) found m false l) ∙ subst (λ bs. get_or bs m false ≡ true) e h)

pub unmarked_comes : (marks : List Bool) (found : List ℕ) (m : ℕ) → marks ≡ marks_of (length marks) found → m < length marks → get_or marks m false ≡ false → come found m ≡ found ++ m ∷ []
unmarked_comes marks found m e l h = ap (λ b. cond b found (found ++ m ∷ [])) (sym (marks_at (length marks) found m false l) ∙ subst (λ bs. get_or bs m false ≡ false) e h)

pub marks_after : (marks : List Bool) (found : List ℕ) (m : ℕ) → marks ≡ marks_of (length marks) found → m < length marks → set marks m true ≡ marks_of (length (set marks m true)) (found ++ m ∷ [])
marks_after marks found m e l = ap (λ bs. set bs m true) e ∙ marks_come (length marks) found m l ∙ ap (λ n. marks_of n (found ++ m ∷ [])) (sym (length-set marks m true))

pub ruleset coming = (marked_stays, unmarked_comes, marks_after)
