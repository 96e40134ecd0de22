-- A cell to which nothing is added.
use Rattle.std.proofs.Common.{◌≡◌, ◌^◌, ◌<◌, ℤ, pos, ◌+ℤ◌, ◌*ℤ◌, nat_abs, nat_lt, Bool, true, false, Option, Some, None, cond, arith, refl, ap, ◌∙◌}
use Rattle.std.specs.Ordering.{int_eq}
use Rattle.std.proofs.lemmas.Bool.Decides.{Decides-int_eq, nat_tests}
use lib.IntN.{*ℤ-zero, +ℤ_idr}
use Rattle.lp_table.specs.Numbers.{cell_of, down_of}
use Rattle.lp_table.specs.Updates.{moved_cell}

in_range : (t : ℤ) → nat_abs t < 2 ^ 60 → cell_of t ≡ Some t
in_range t h = let e : nat_lt (nat_abs t) (2 ^ 60) ≡ true = grind (arith, nat_tests) in ap (λ (b : Bool). cond b (Some t) None) e

nothing : (q n t : ℤ) → n ≡ pos 0 → nat_abs t < 2 ^ 60 → cell_of (t +ℤ down_of (q *ℤ n)) ≡ Some t
nothing q n t e h = ap (λ (z : ℤ). cell_of (t +ℤ down_of (q *ℤ z))) e ∙ ap (λ (z : ℤ). cell_of (t +ℤ down_of z)) (*ℤ-zero q) ∙ ap cell_of (+ℤ_idr t) ∙ in_range t h

-- the test for 0 changes nothing
pub skips : (q n t : ℤ) → nat_abs t < 2 ^ 60 → cell_of (t +ℤ down_of (q *ℤ n)) ≡ moved_cell q n t
unfolding moved_cell
skips q n t h = by (int_eq n (pos 0)) refl
  where
    by : (b : Bool) → int_eq n (pos 0) ≡ b → cell_of (t +ℤ down_of (q *ℤ n)) ≡ cond b (Some t) (cell_of (t +ℤ down_of (q *ℤ n)))
    by true e = nothing q n t ((Decides-int_eq n (pos 0)).0 e) h
    by false e = refl

pub moved_at : (r : Option ℤ) (q n t : ℤ) → nat_abs t < 2 ^ 60 → r ≡ cell_of (t +ℤ down_of (q *ℤ n)) → r ≡ moved_cell q n t
moved_at r q n t h e = e ∙ skips q n t h
