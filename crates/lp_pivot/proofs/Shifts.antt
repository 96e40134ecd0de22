-- Shifts without those that are 0: they come to the same sums.
use Rattle.std.proofs.Common.{◌≡◌, ◌∙◌, ⊎_elim, ℕ, zero, suc, ◌+◌, ◌<◌, ◌≤◌, ℤ, pos, ◌+ℤ◌, ◌*ℤ◌, Bool, true, false, cond, is_none, List, [], ◌∷◌, ◌++◌, length, drop, get_or, Option, Some, None, All, arith, add-one, refl, ap, ap₂, sym, subst}
use Rattle.std.specs.Option.{option_map, option_and_then}
use Rattle.std.specs.Ordering.{int_eq}
use Rattle.std.proofs.lemmas.Bool.{cases_lt}
use Rattle.std.proofs.lemmas.Bool.Decides.{Decides-int_eq}
use Rattle.std.proofs.lemmas.List.{drop_more, append-nil}
use Rattle.std.proofs.Math.ListN.{drop_of_length-le}
use lib.IntN.{*ℤ_comm, *ℤ-zero, zero-*ℤ, +ℤ_idl}
use Rattle.base_num.specs.Sums.{entry, dot, at_terms}
use Rattle.base_num.specs.Each.{each_from}
use Rattle.lp_table.specs.Numbers.{down_of, quantity_of}
use Rattle.lp_table.specs.declared.table.WarmTable.{WarmTable}
use Rattle.lp_table.specs.Shape.{IsTable}
use Rattle.lp_table.specs.Updates.{GivesNew}
use Rattle.base_num.proofs.Each.{each_length, map_some}
use Rattle.lp_pivot.specs.Refine.{shift_at, shifts_of, moved_value, moved_values, stood_table, refined}
use Rattle.lp_table.specs.Sparse.{sparse}
use Rattle.lp_table.proofs.Stepping.{sparse_inside, one_kept}
use Rattle.lp_pivot.specs.Sparse.{moved_by}

-- the sum over all of a shift's and the others' shares
first_share : (j : ℕ) (q : ℤ) (qs : List ℤ) (x : ℕ → ℤ) → at_terms (sparse j (q ∷ qs)) x ≡ q *ℤ x j +ℤ at_terms (sparse (suc j) qs) x
first_share j q qs x = by (int_eq q (pos 0)) refl
  where
    tail : List (ℕ × ℤ)
    tail = sparse (suc j) qs

    by : (b : Bool) → int_eq q (pos 0) ≡ b → at_terms (cond b tail ((j, q) ∷ tail)) x ≡ q *ℤ x j +ℤ at_terms tail x
    by true e = sym (ap (λ (z : ℤ). z *ℤ x j +ℤ at_terms tail x) ((Decides-int_eq q (pos 0)).0 e) ∙ ap (λ (z : ℤ). z +ℤ at_terms tail x) (zero-*ℤ (x j)) ∙ +ℤ_idl (at_terms tail x))
    by false e = refl

past_zero : (line : List ℤ) (j : ℕ) → length line ≤ j → entry line j ≡ pos 0
past_zero [] j h = refl
past_zero (x ∷ xs) zero h = absurd (omega arith)
past_zero (x ∷ xs) (suc j) h = past_zero xs j (omega arith)

-- places past the end add nothing
past_end : (line : List ℤ) (j : ℕ) (qs : List ℤ) → length line ≤ j → at_terms (sparse j qs) (entry line) ≡ pos 0
past_end line j [] h = refl
past_end line j (q ∷ qs) h =
    first_share j q qs (entry line)
    ∙ ap₂ (λ (y z : ℤ). q *ℤ y +ℤ z) (past_zero line j h) (past_end line (suc j) qs (omega (arith, h)))
    ∙ ap (λ (z : ℤ). z +ℤ pos 0) (*ℤ-zero q)

dot_none : (xs : List ℤ) → dot xs [] ≡ pos 0
dot_none [] = refl
dot_none (x ∷ xs) = refl

first_of_line : (line : List ℤ) (j : ℕ) (q : ℤ) (qs : List ℤ) → at_terms (sparse (suc j) qs) (entry line) ≡ dot (drop (suc j) line) qs → j < length line → at_terms (sparse j (q ∷ qs)) (entry line) ≡ dot (drop j line) (q ∷ qs)
first_of_line line j q qs tail h =
    first_share j q qs (entry line)
    ∙ ap₂ (λ (y z : ℤ). y +ℤ z) (*ℤ_comm q (entry line j)) (tail ∙ ap (λ (i : ℕ). dot (drop i line) qs) (sym (add-one j)))
    ∙ sym (ap (λ (xs : List ℤ). dot xs (q ∷ qs)) (drop_more line j (pos 0) h))

after_line : (line : List ℤ) (j : ℕ) (q : ℤ) (qs : List ℤ) → length line ≤ j → at_terms (sparse j (q ∷ qs)) (entry line) ≡ dot (drop j line) (q ∷ qs)
after_line line j q qs h = past_end line j (q ∷ qs) h ∙ sym (ap (λ (xs : List ℤ). dot xs (q ∷ qs)) (drop_of_length-le line h))

-- the shares of all places
pub all_shares : (line : List ℤ) (j : ℕ) (qs : List ℤ) → at_terms (sparse j qs) (entry line) ≡ dot (drop j line) qs
all_shares line j [] = sym (dot_none (drop j line))
all_shares line j (q ∷ qs) = ⊎_elim (first_of_line line j q qs (all_shares line (suc j) qs)) (after_line line j q qs) (cases_lt j (length line))

pub moved_same : (places : List (Option ℕ)) (lines : List (List ℤ)) (qs : List ℤ) (v : ℕ) (x : ℤ) → moved_value places lines qs v x ≡ moved_by places lines (sparse 0 qs) v x
unfolding moved_value moved_by
moved_same places lines qs v x = ap (λ (s : ℤ). cond (is_none (get_or places v None)) (quantity_of (x +ℤ down_of s)) (Some x)) (sym (all_shares (get_or lines v []) 0 qs))

each_same : {A B : Type 0} (f g : ℕ → A → Option B) (j : ℕ) (xs : List A) → ((k : ℕ) (x : A) → f k x ≡ g k x) → each_from f j xs ≡ each_from g j xs
each_same f g j [] h = refl
each_same {A} {B} f g j (x ∷ xs) h = ap₂ (λ (o : Option B) (tail : Option (List B)). option_and_then (λ y. option_map (λ ys. y ∷ ys) tail) o) (h j x) (each_same f g (suc j) xs h)

pub all_moved : (places : List (Option ℕ)) (lines : List (List ℤ)) (qs values : List ℤ) → each_from (moved_value places lines qs) 0 values ≡ each_from (moved_by places lines (sparse 0 qs)) 0 values
all_moved places lines qs values = each_same (moved_value places lines qs) (moved_by places lines (sparse 0 qs)) 0 values (moved_same places lines qs)

-- some shifts that are not 0, and those of the rest behind them
abbrev pub kept : List (ℕ × ℤ) → ℕ → Option (List ℤ) → Option (List (ℕ × ℤ))
kept done j tail = option_map (λ qs. done ++ sparse j qs) tail

some_kept : (done : List (ℕ × ℤ)) (j : ℕ) (q : ℤ) (tail : Option (List ℤ)) → kept done j (option_map (λ qs. q ∷ qs) tail) ≡ kept (done ++ sparse j (q ∷ [])) (suc j) tail
some_kept done j q None = refl
some_kept done j q (Some qs) = ap Some (one_kept done j q qs)

-- the shift at place j takes its place
pub kept_step : {A : Type 0} (f : ℕ → A → Option ℤ) (whole : Option (List (ℕ × ℤ))) (xs : List A) (j : ℕ) (d : A) (done more : List (ℕ × ℤ)) (q : ℤ) → j < length xs → f j (get_or xs j d) ≡ Some q → more ≡ done ++ sparse j (q ∷ []) → whole ≡ kept done j (each_from f j (drop j xs)) → whole ≡ kept more (j + 1) (each_from f (j + 1) (drop (j + 1) xs))
kept_step {A} f whole xs j d done more q h e m w =
    w ∙ ap (λ (r : List A). kept done j (each_from f j r)) (drop_more xs j d h) ∙ ap (λ (o : Option ℤ). kept done j (option_and_then (λ z. option_map (λ zs. z ∷ zs) (each_from f (suc j) (drop (j + 1) xs))) o)) e
    ∙ some_kept done j q (each_from f (suc j) (drop (j + 1) xs))
    ∙ ap₂ (λ (ds : List (ℕ × ℤ)) (k : ℕ). kept ds k (each_from f k (drop (j + 1) xs))) (sym m) (sym (add-one j))

-- a shift is absent
pub kept_absent : {A : Type 0} (f : ℕ → A → Option ℤ) (whole : Option (List (ℕ × ℤ))) (xs : List A) (j : ℕ) (d : A) (done : List (ℕ × ℤ)) → j < length xs → f j (get_or xs j d) ≡ None → whole ≡ kept done j (each_from f j (drop j xs)) → whole ≡ None
kept_absent {A} f whole xs j d done h e w =
    w ∙ ap (λ (r : List A). kept done j (each_from f j r)) (drop_more xs j d h) ∙ ap (λ (o : Option ℤ). kept done j (option_and_then (λ z. option_map (λ zs. z ∷ zs) (each_from f (suc j) (drop (j + 1) xs))) o)) e

-- no place is left
pub kept_done : {A : Type 0} (f : ℕ → A → Option ℤ) (whole : Option (List (ℕ × ℤ))) (xs : List A) (j : ℕ) (done : List (ℕ × ℤ)) → length xs ≤ j → whole ≡ kept done j (each_from f j (drop j xs)) → whole ≡ Some done
kept_done {A} f whole xs j done h w = w ∙ ap (λ (r : List A). kept done j (each_from f j r)) (drop_of_length-le xs h) ∙ ap Some (append-nil done)

-- the places of a table's shifts are there
pub shifts_inside : (t : WarmTable) (shifts : List (ℕ × ℤ)) → IsTable t → option_map (sparse 0) (shifts_of t) ≡ Some shifts → All (λ (s : ℕ × ℤ). s.0 < length t.lines) shifts
unfolding shifts_of
shifts_inside t shifts s e =
    let m = map_some (sparse 0) (each_from (shift_at t) 0 t.basis.nonbasic) shifts e in
    let n : length m.0 ≡ length t.lines = each_length (shift_at t) 0 t.basis.nonbasic m.0 m.1 ∙ s.nonbasic ∙ sym s.lines in
    subst (λ (ps : List (ℕ × ℤ)). All (λ (p : ℕ × ℤ). p.0 < length t.lines) ps) m.2 (sparse_inside (length t.lines) 0 m.0 (omega (arith, n)))

-- the values of a basis, by the shifts that are not 0
pub refined_by : (t s : WarmTable) (shifts : List (ℕ × ℤ)) (r : Bool) (x : List ℤ) → s ≡ stood_table t → option_map (sparse 0) (shifts_of s) ≡ Some shifts → GivesNew r (each_from (moved_by s.basis.places s.lines shifts) 0 s.values) x → GivesNew r (refined t) x
unfolding refined moved_values
refined_by t s shifts r x a e g =
    let m = map_some (sparse 0) (shifts_of s) shifts e in
    let whole : refined t ≡ each_from (moved_by s.basis.places s.lines shifts) 0 s.values =
    ap (λ (u : WarmTable). option_and_then (moved_values u) (shifts_of u)) (sym a) ∙ ap (option_and_then (moved_values s)) m.1 ∙ all_moved s.basis.places s.lines m.0 s.values ∙ ap (λ (ps : List (ℕ × ℤ)). each_from (moved_by s.basis.places s.lines ps) 0 s.values) m.2 in
    subst (λ (o : Option (List ℤ)). GivesNew r o x) (sym whole) g
