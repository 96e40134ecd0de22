-- Lists of all rows.
use Rattle.std.proofs.Common.{◌≡◌, ◌∙◌, ℕ, zero, suc, ◌+◌, ◌<◌, List, [], ◌∷◌, ◌++◌, length, take, drop, replicate, get_or, set, Some, Result, Ok, Err, OnOk, Option, slice_get, refl, ap, sym, arith}
use Rattle.std.proofs.lemmas.List.{take_more, set-append_left, get_or_append_left, length-set, take_all, drop_all, append-nil}
use Rattle.std.proofs.lemmas.Option.{slice_get_within, get_or_from_slice_get}
use Rattle.lp_program.specs.declared.fixed.Fx.{Fx}
use Rattle.lp_program.specs.declared.programs.LpRow.{LpRow}
use Rattle.lp_program.specs.Answers.{zeros_of}
use Rattle.lp_program.specs.Numbers.{zero_fx}
use Rattle.lp_program.specs.StageLps.{no_row}

pub on_ok : {A E : Type 0} (r : Result A E) (P Q : Type 0) → (P → Q) → OnOk r P → OnOk r Q
on_ok (Ok x) P Q f h = f h
on_ok (Err e) P Q f h = h

pub zeros_all : (rows : List LpRow) → replicate (length rows) zero_fx ≡ zeros_of rows
zeros_all [] = refl
zeros_all (r ∷ rows) = ap (λ (fs : List Fx). zero_fx ∷ fs) (zeros_all rows)

-- one row more
pub one_more : (rows found new : List LpRow) (i : ℕ) (row : LpRow) → found ≡ take i rows → slice_get rows i ≡ Some row → new ≡ found ++ row ∷ [] → new ≡ take (i + 1) rows
one_more rows found new i row e at n =
    n ∙ ap (λ (fs : List LpRow). fs ++ row ∷ []) e
    ∙ ap (λ (r : LpRow). take i rows ++ r ∷ []) (sym (get_or_from_slice_get rows i row row at))
    ∙ sym (take_more rows i row (slice_get_within rows i row at))

-- a row with other sides, with others behind the list
pub sides_before : (rows new tail : List LpRow) (i : ℕ) (low high : Option Fx) → i < length rows → new ≡ set rows i (record (get_or rows i no_row) { low = low; high = high }) → take (length rows) (new ++ drop (length new) rows) ++ tail ≡ set (rows ++ tail) i (record (get_or (rows ++ tail) i no_row) { low = low; high = high })
sides_before rows new tail i low high l e =
    let row : LpRow = record (get_or rows i no_row) { low = low; high = high } in
    let count : length new ≡ length rows = ap length e ∙ length-set rows i row in
    let none : drop (length new) rows ≡ [] = drop_all (length new) rows (omega (arith, count)) in
    ap (λ (xs : List LpRow). take (length rows) (new ++ xs) ++ tail) none
    ∙ ap (λ (xs : List LpRow). take (length rows) xs ++ tail) (append-nil new)
    ∙ ap (λ (xs : List LpRow). xs ++ tail) (take_all (length rows) new (omega (arith, count)) ∙ e)
    ∙ sym (set-append_left rows tail i row l)
    ∙ ap (λ (r : LpRow). set (rows ++ tail) i (record r { low = low; high = high })) (sym (get_or_append_left rows tail no_row i l))

-- a row with one side written after the other
pub both_sides : (rows : List LpRow) (i : ℕ) (low high : Option Fx) (d e : LpRow) → i < length rows → set (set rows i (record { low = low; high = (get_or rows i d).high; terms = (get_or rows i d).terms })) i (record { low = (get_or (set rows i (record { low = low; high = (get_or rows i d).high; terms = (get_or rows i d).terms })) i e).low; high = high; terms = (get_or (set rows i (record { low = low; high = (get_or rows i d).high; terms = (get_or rows i d).terms })) i e).terms }) ≡ set rows i (record (get_or rows i no_row) { low = low; high = high })
both_sides [] i low high d e l = absurd (omega (arith, l))
both_sides (r ∷ rows) zero low high d e l = refl
both_sides (r ∷ rows) (suc i) low high d e l = ap (λ (rs : List LpRow). r ∷ rs) (both_sides rows i low high d e (omega (arith, l)))
