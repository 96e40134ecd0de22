-- The sums that the reader makes of terms have the value that the terms say.
use Rattle.std.proofs.Common.{◌≡◌, ℕ, zero, suc, ◌<◌, ℤ, pos, ◌+ℤ◌, ◌*ℤ◌, List, [], ◌∷◌, ◌++◌, length, map, get_or, slice_get, Option, Some, None, Ok, position, bytes_eq, refl, sym, ap, ap₂, subst, ◌∙◌, arith}
use Rattle.std.proofs.lemmas.List.{length-replicate, length-map}
use Rattle.serde_json.specs.Data.{Data, Items}
use Rattle.base_num.specs.Sums.{total, dot, entry}
use Rattle.base_num.proofs.Ring.{ring, var, num, ◌⊕◌, ◌⊗◌}
use Rattle.read_json.specs.Fields.{present_at, whole_at, string_at}
use Rattle.read_json.specs.Limits.{known_at}
use Rattle.read_json.proofs.Accepted.{then-Ok, Ok-is, known_at-Ok}
use Rattle.read_json.proofs.Distinct.{name_of, found-name}
use Rattle.read_profile.specs.File.{Name, Numbers, each, term_of}
use Rattle.read_stage.specs.declared.function.Site.{Site}
use Rattle.read_stage.specs.Function.{zeros, raised_by, raised, term_at, terms_at}
use Rattle.read_stage.proofs.FileSays.{present-says, whole_number-says, string-says}
use Rattle.read_stage.proofs.FileEach.{walk_items-says}

pub dot_zeros : (n : ℕ) (ys : List ℤ) → dot (zeros n) ys ≡ pos 0
dot_zeros zero ys = refl
dot_zeros (suc n) [] = refl
dot_zeros (suc n) (y ∷ ys) = ap (λ k. pos 0 *ℤ y +ℤ k) (dot_zeros n ys) ∙ ring (y ∷ []) (num (pos 0) ⊗ var 0 ⊕ num (pos 0)) (num (pos 0)) tt

raised_later : (o : Option ℤ) (s : ℤ) (ss : List ℤ) (v : ℕ) (c : ℤ) → raised_by o (s ∷ ss) (suc v) c ≡ s ∷ raised_by o ss v c
raised_later None s ss v c = refl
raised_later (Some t) s ss v c = refl

-- one sum more
dot_raised : (ss ys : List ℤ) (v : ℕ) (c : ℤ) → v < length ss → length ys ≡ length ss → (dot (raised ss v c) ys ≡ dot ss ys +ℤ c *ℤ entry ys v) × (length (raised ss v c) ≡ length ss)
unfolding raised
dot_raised [] ys v c lt e = absurd (omega arith)
dot_raised (s ∷ ss) [] v c lt e = absurd (omega arith)
dot_raised (s ∷ ss) (y ∷ ys) zero c lt e = (ring (s ∷ c ∷ y ∷ dot ss ys ∷ []) ((var 0 ⊕ var 1) ⊗ var 2 ⊕ var 3) (var 0 ⊗ var 2 ⊕ var 3 ⊕ var 1 ⊗ var 2) tt, refl)
dot_raised (s ∷ ss) (y ∷ ys) (suc v) c lt e =
    let tail = dot_raised ss ys v c (omega arith) (omega arith) in
    let step = raised_later (slice_get ss v) s ss v c in (
      ap (λ zs. dot zs (y ∷ ys)) step ∙ ap (λ k. s *ℤ y +ℤ k) tail.0 ∙ ring ((s *ℤ y) ∷ dot ss ys ∷ (c *ℤ entry ys v) ∷ []) (var 0 ⊕ (var 1 ⊕ var 2)) (var 0 ⊕ var 1 ⊕ var 2) tt,
      ap (λ (zs : List ℤ). length zs) step ∙ ap suc tail.1,
    )

-- the number of a variable, by its place
pub entry_map : (y : Numbers) (names : List Name) (v : ℕ) → v < length names → entry (map y names) v ≡ y (get_or names v [])
entry_map y [] v lt = absurd (omega arith)
entry_map y (n ∷ ns) zero lt = refl
entry_map y (n ∷ ns) (suc v) lt = entry_map y ns v (omega arith)

total_push : (ts : List (Numbers → ℤ)) (t : Numbers → ℤ) (y : Numbers) → total (λ (f : Numbers → ℤ). f y) (ts ++ t ∷ []) ≡ total (λ (f : Numbers → ℤ). f y) ts +ℤ t y
total_push [] t y = ring (t y ∷ []) (var 0 ⊕ num (pos 0)) (num (pos 0) ⊕ var 0) tt
total_push (u ∷ us) t y = ap (λ k. u y +ℤ k) (total_push us t y) ∙ ring (u y ∷ total (λ (f : Numbers → ℤ). f y) us ∷ t y ∷ []) (var 0 ⊕ (var 1 ⊕ var 2)) (var 0 ⊕ var 1 ⊕ var 2) tt

-- so far the sums have the value of the terms
record Valued (names : List Name) (sums : List ℤ) (ts : List (Numbers → ℤ)) : Type 0 where
  long : length sums ≡ length names
  same : (y : Numbers) → dot sums (map y names) ≡ total (λ (t : Numbers → ℤ). t y) ts

term-says : (names : List Name) (site : Site) (sums next : List ℤ) (i : ℕ) (d : Data) (done : List (Numbers → ℤ)) → term_at names site sums i d ≡ Ok next → Valued names sums done
    → (t : Numbers → ℤ) × (term_of d ≡ Some t) × Valued names next (done ++ t ∷ [])
unfolding term_at name_of
term-says names site sums next i d done e so_far =
    then-Ok (present_at _ _) _ next e (λ number is_number e.
    then-Ok (whole_at _ _) _ next e (λ c is_c e.
    then-Ok (present_at _ _) _ next e (λ inner is_inner e.
    then-Ok (string_at _ _) _ next e (λ name is_name e.
    then-Ok (known_at _ _) _ next e (λ v is_v e.
    let there = found-name names name v (known_at-Ok _ (position (bytes_eq name) names) v is_v) in
    let one = λ (y : Numbers). dot_raised sums (map y names) v c (omega (arith, there.0, so_far.long)) (length-map names y ∙ sym so_far.long) in
    let t : Numbers → ℤ = λ y. c *ℤ y name in (
      t,
      rw (present-says _ _ number is_number, whole_number-says _ number c is_c, present-says _ _ inner is_inner, string-says _ inner name is_name) refl,
      subst (λ zs. Valued names zs (done ++ t ∷ [])) (Ok-is _ next e) (record {
        long = (one (λ n. pos 0)).1 ∙ so_far.long;
        same = λ y. (one y).0 ∙ ap₂ ◌+ℤ◌ (so_far.same y) (ap (λ z. c *ℤ z) (entry_map y names v there.0 ∙ ap y there.1)) ∙ sym (total_push done t y);
      }),
    ))))))

pub terms-say : (names : List Name) (site : Site) (ds : Items) (sums : List ℤ) → terms_at names site ds ≡ Ok sums
    → (ts : List (Numbers → ℤ)) × (each term_of ds ≡ Some ts) × (length sums ≡ length names) × ((y : Numbers) → dot sums (map y names) ≡ total (λ (t : Numbers → ℤ). t y) ts)
unfolding terms_at
terms-say names site ds sums e =
    let all = walk_items-says (Valued names) (term_at names site) term_of (λ found next i d done e p. term-says names site found next i d done e p) ds (zeros (length names)) sums 0 [] e
    (record { long = length-replicate (length names) (pos 0); same = λ y. dot_zeros (length names) (map y names) }) in
    (all.0, all.1, all.2.long, all.2.same)
