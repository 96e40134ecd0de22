-- Rows to which the numbers of a list that are not 0 are added.
use Rattle.std.proofs.Common.{◌≡◌, ◌∙◌, ℕ, zero, suc, ◌+◌, ◌<◌, ◌≤◌, ℤ, pos, ◌+ℤ◌, ◌*ℤ◌, Bool, true, false, cond, List, [], ◌∷◌, ◌++◌, length, drop, get_or, slice_set, Option, Some, None, All, arith, add-one, refl, ap, ap₂, sym, subst}
use Rattle.std.specs.Option.{option_map, option_and_then}
use Rattle.std.specs.Ordering.{int_eq}
use Rattle.std.proofs.lemmas.List.{drop_more, append_assoc, append-nil}
use Rattle.std.proofs.Math.ListN.{drop_of_length-le}
use Rattle.base_num.specs.Sums.{entry}
use Rattle.base_num.specs.Each.{each_from}
use Rattle.lp_table.specs.Numbers.{down_of, cell_of}
use Rattle.lp_table.specs.Updates.{moved_cell, added_row}
use Rattle.lp_table.specs.Sparse.{sparse, added_at}
use Rattle.base_num.proofs.Each.{behind, behind_one}

none_inside : (n : ℕ) → All (λ (s : ℕ × ℤ). s.0 < n) []
none_inside n k d p = absurd (omega arith)

-- all places are inside
pub sparse_inside : (n j : ℕ) (qs : List ℤ) → j + length qs ≤ n → All (λ (s : ℕ × ℤ). s.0 < n) (sparse j qs)
sparse_inside n j [] h = none_inside n
sparse_inside n j (q ∷ qs) h = by (int_eq q (pos 0)) (sparse_inside n (suc j) qs (omega (arith, h)))
  where
    by : (b : Bool) → All (λ (s : ℕ × ℤ). s.0 < n) (sparse (suc j) qs) → All (λ (s : ℕ × ℤ). s.0 < n) (cond b (sparse (suc j) qs) ((j, q) ∷ sparse (suc j) qs))
    by true tail k d p = tail k d p
    by false tail zero d p = omega (arith, h)
    by false tail (suc k) d p = tail k d (omega arith)

pub steps_inside : (n : ℕ) (qs : List ℤ) (ss : List (ℕ × ℤ)) → length qs ≡ n → ss ≡ sparse 0 qs → All (λ (s : ℕ × ℤ). s.0 < n) ss
steps_inside n qs ss l e = subst (λ (ps : List (ℕ × ℤ)). All (λ (s : ℕ × ℤ). s.0 < n) ps) (sym e) (sparse_inside n 0 qs (omega (arith, l)))

-- the number at place j, where it is not 0, behind those before it
pub one_kept : (done : List (ℕ × ℤ)) (j : ℕ) (q : ℤ) (qs : List ℤ) → done ++ sparse j (q ∷ qs) ≡ (done ++ sparse j (q ∷ [])) ++ sparse (suc j) qs
one_kept done j q qs = by (int_eq q (pos 0))
  where
    by : (b : Bool) → done ++ cond b (sparse (suc j) qs) ((j, q) ∷ sparse (suc j) qs) ≡ (done ++ cond b [] ((j, q) ∷ [])) ++ sparse (suc j) qs
    by true = sym (append_assoc done [] (sparse (suc j) qs))
    by false = sym (append_assoc done ((j, q) ∷ []) (sparse (suc j) qs))

pub step_kept : (whole : List (ℕ × ℤ)) (line : List ℤ) (j : ℕ) (d : ℤ) (done more : List (ℕ × ℤ)) → j < length line → more ≡ done ++ sparse j (get_or line j d ∷ []) → whole ≡ done ++ sparse j (drop j line) → whole ≡ more ++ sparse (j + 1) (drop (j + 1) line)
step_kept whole line j d done more h m w =
    w ∙ ap (λ (r : List ℤ). done ++ sparse j r) (drop_more line j d h)
    ∙ one_kept done j (get_or line j d) (drop (j + 1) line)
    ∙ ap₂ (λ (ds : List (ℕ × ℤ)) (k : ℕ). ds ++ sparse k (drop (j + 1) line)) (sym m) (sym (add-one j))

pub steps_kept : (whole : List (ℕ × ℤ)) (line : List ℤ) (j : ℕ) (done : List (ℕ × ℤ)) → length line ≤ j → whole ≡ done ++ sparse j (drop j line) → done ≡ whole
steps_kept whole line j done h w = sym (w ∙ ap (λ (r : List ℤ). done ++ sparse j r) (drop_of_length-le line h) ∙ append-nil done)

-- one number is added
pub at_step : (q : ℤ) (whole : Option (List ℤ)) (ss : List (ℕ × ℤ)) (k : ℕ) (d : ℕ × ℤ) (row : List ℤ) (x : ℤ) → k < length ss → moved_cell q (get_or ss k d).1 (entry row (get_or ss k d).0) ≡ Some x → whole ≡ added_at q (drop k ss) row → whole ≡ added_at q (drop (k + 1) ss) (slice_set row (get_or ss k d).0 x)
at_step q whole ss k d row x h e w =
    w ∙ ap (λ (r : List (ℕ × ℤ)). added_at q r row) (drop_more ss k d h)
    ∙ ap (option_and_then (λ (y : ℤ). added_at q (drop (k + 1) ss) (slice_set row (get_or ss k d).0 y))) e

pub at_absent : (q : ℤ) (whole : Option (List ℤ)) (ss : List (ℕ × ℤ)) (k : ℕ) (d : ℕ × ℤ) (row : List ℤ) → k < length ss → moved_cell q (get_or ss k d).1 (entry row (get_or ss k d).0) ≡ None → whole ≡ added_at q (drop k ss) row → whole ≡ None
at_absent q whole ss k d row h e w =
    w ∙ ap (λ (r : List (ℕ × ℤ)). added_at q r row) (drop_more ss k d h)
    ∙ ap (option_and_then (λ (y : ℤ). added_at q (drop (k + 1) ss) (slice_set row (get_or ss k d).0 y))) e

pub at_done : (q : ℤ) (whole : Option (List ℤ)) (ss : List (ℕ × ℤ)) (k : ℕ) (row : List ℤ) → length ss ≤ k → whole ≡ added_at q (drop k ss) row → whole ≡ Some row
at_done q whole ss k row h w = w ∙ ap (λ (r : List (ℕ × ℤ)). added_at q r row) (drop_of_length-le ss h)

entry_behind : (done : List ℤ) (t : ℤ) (ts : List ℤ) → entry (done ++ t ∷ ts) (length done) ≡ t
entry_behind [] t ts = refl
entry_behind (d ∷ ds) t ts = entry_behind ds t ts

set_behind : (done : List ℤ) (t x : ℤ) (ts : List ℤ) → slice_set (done ++ t ∷ ts) (length done) x ≡ (done ++ x ∷ []) ++ ts
set_behind [] t x ts = refl
set_behind (d ∷ ds) t x ts = ap (λ (r : List ℤ). d ∷ r) (set_behind ds t x ts)

one_longer : (done : List ℤ) (x : ℤ) → length (done ++ x ∷ []) ≡ suc (length done)
one_longer [] x = refl
one_longer (d ∷ ds) x = ap suc (one_longer ds x)

-- nothing is moved by 0
still : (q n t : ℤ) → int_eq n (pos 0) ≡ true → moved_cell q n t ≡ Some t
unfolding moved_cell
still q n t e = ap (λ (b : Bool). cond b (Some t) (cell_of (t +ℤ down_of (q *ℤ n)))) e

-- where the numbers ns stand, of which ms are those from place j on, one number and the others
module _ (q : ℤ) (ns : List ℤ) where
  abbrev step : ℕ → ℤ → Option ℤ
  step j t = moved_cell q (entry ns j) t

  -- one number, where the others are added behind it
  one_more : (done ts ms : List ℤ) (t m : ℤ) → entry ns (length done) ≡ m → ((x : ℤ) → added_at q (sparse (suc (length done)) ms) ((done ++ x ∷ []) ++ ts) ≡ behind (done ++ x ∷ []) (each_from step (suc (length done)) ts)) → added_at q (sparse (length done) (m ∷ ms)) (done ++ t ∷ ts) ≡ behind done (each_from step (length done) (t ∷ ts))
  one_more done ts ms t m n tail = by (int_eq m (pos 0)) refl
    where
      others : Option (List ℤ)
      others = each_from step (suc (length done)) ts

      same : (o : Option ℤ) → option_and_then (λ (x : ℤ). added_at q (sparse (suc (length done)) ms) (slice_set (done ++ t ∷ ts) (length done) x)) o ≡ behind done (option_and_then (λ (y : ℤ). option_map (λ (ys : List ℤ). y ∷ ys) others) o)
      same None = refl
      same (Some x) = ap (added_at q (sparse (suc (length done)) ms)) (set_behind done t x ts) ∙ tail x ∙ sym (behind_one done x others)

      by : (b : Bool) → int_eq m (pos 0) ≡ b → added_at q (cond b (sparse (suc (length done)) ms) ((length done, m) ∷ sparse (suc (length done)) ms)) (done ++ t ∷ ts) ≡ behind done (each_from step (length done) (t ∷ ts))
      by true e =
          ap (added_at q (sparse (suc (length done)) ms)) (sym (append_assoc done (t ∷ []) ts)) ∙ tail t ∙ sym (behind_one done t others)
          ∙ sym (ap (λ (o : Option ℤ). behind done (option_and_then (λ (y : ℤ). option_map (λ (ys : List ℤ). y ∷ ys) others) o)) (ap (λ (z : ℤ). moved_cell q z t) n ∙ still q m t e))
      by false e =
          ap (option_and_then (λ (x : ℤ). added_at q (sparse (suc (length done)) ms) (slice_set (done ++ t ∷ ts) (length done) x))) (ap₂ (moved_cell q) (sym n) (entry_behind done t ts))
          ∙ same (step (length done) t)

  added_behind : (done ts ms : List ℤ) → length ms ≡ length ts → ((i : ℕ) → entry ns (length done + i) ≡ entry ms i) → added_at q (sparse (length done) ms) (done ++ ts) ≡ behind done (each_from step (length done) ts)
  added_behind done [] [] l h = refl
  added_behind done [] (m ∷ ms) l h = absurd (omega arith)
  added_behind done (t ∷ ts) [] l h = absurd (omega arith)
  added_behind done (t ∷ ts) (m ∷ ms) l h =
      one_more done ts ms t m (let e : length done ≡ length done + 0 = omega arith in ap (entry ns) e ∙ h 0)
      (λ x. subst (λ (n : ℕ). added_at q (sparse n ms) ((done ++ x ∷ []) ++ ts) ≡ behind (done ++ x ∷ []) (each_from step n ts)) (one_longer done x)
      (added_behind (done ++ x ∷ []) ts ms (omega arith) (λ i. let e : length (done ++ x ∷ []) + i ≡ length done + suc i = omega (arith, one_longer done x) in ap (entry ns) e ∙ h (suc i))))

nothing_before : (o : Option (List ℤ)) → behind [] o ≡ o
nothing_before None = refl
nothing_before (Some ys) = refl

-- numbers that are 0 change nothing
pub sparse_added : (q : ℤ) (ns row : List ℤ) → length ns ≡ length row → added_at q (sparse 0 ns) row ≡ added_row q ns row
unfolding added_row
sparse_added q ns row h = added_behind q ns [] row ns h (λ i. let e : 0 + i ≡ i = omega arith in ap (entry ns) e) ∙ nothing_before (each_from (λ j t. moved_cell q (entry ns j) t) 0 row)
