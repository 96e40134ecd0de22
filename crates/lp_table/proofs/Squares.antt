-- As many rows as columns, one after the other in one list.
use Rattle.std.proofs.Common.{◌≡◌, ℕ, ℤ, ◌+◌, ◌*◌, ◌<◌, ◌≤◌, List, ◌++◌, length, take, drop, slice_set, arith, ap, sym, ◌∙◌, subst}
use Rattle.std.proofs.lemmas.List.{take_at}
use Rattle.base_num.specs.Rows.{rows_in_list, put}
use Rattle.base_num.proofs.Flat.{rows_set, inside_is, put_length}

-- a row is inside the list
pub inside : (n v : ℕ) → v < n → v * n + n ≤ n * n
inside n v h = omega (arith, inside_is n v n h)

-- row v, after as many numbers as there were are written over the list
module _ (n v : ℕ) (old new r : List ℤ) (there : v < n) (width : length r ≡ n) (square : length old ≡ n * n) (is : new ≡ put (length r) (v * n) old r) where
  room : v * length r + length r ≤ length old
  room = subst (λ (k : ℕ). v * k + k ≤ length old) (sym width) (subst (λ (k : ℕ). v * n + n ≤ k) (sym square) (inside n v there))

  whole : new ≡ put n (v * n) old r
  whole = is ∙ ap (λ (k : ℕ). put k (v * n) old r) width

  pub as_long : length new ≡ length old
  as_long = ap length whole ∙ put_length n (v * n) old r width (subst (λ (k : ℕ). v * n + n ≤ k) (sym square) (inside n v there))

  pub over : take (length old) (new ++ drop (length new) old) ≡ new
  over = take_at new (drop (length new) old) (length old) as_long

  pub over_long : length (take (length old) (new ++ drop (length new) old)) ≡ n * n
  over_long = ap length over ∙ as_long ∙ square

  pub over_rows : rows_in_list n n (take (length old) (new ++ drop (length new) old)) ≡ slice_set (rows_in_list n n old) v r
  over_rows = ap (rows_in_list n n) (over ∙ whole) ∙ rows_set n n v old r there width (subst (λ (k : ℕ). n * n ≤ k) (sym square) (omega arith))
