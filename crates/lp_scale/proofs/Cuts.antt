-- The columns and the exponents of cuts.
use Rattle.std.proofs.Common.{◌≡◌, ℕ, zero, suc, ◌-◌, ◌<◌, ℤ, pos, ◌≤ℤ◌, List, [], ◌∷◌, length, take, slice_get, slice_set, Option, Some, None, IfSome, All, ap, sym, subst, ◌∙◌}
use Rattle.std.specs.Option.{option_map}
use Rattle.std.proofs.lemmas.List.{length-take-le}
use Rattle.std.proofs.lemmas.List.Elements.{All-take}
use Rattle.lp_program.specs.declared.programs.LpRow.{LpRow}
use Rattle.lp_program.specs.declared.programs.Program.{Program}
use Rattle.lp_program.specs.Proper.{AreRising, IsProper}
use Rattle.lp_scale.specs.Exponents.{ColumnTerm, AreUpTo}
use Rattle.lp_scale.specs.Waiting.{last_column}

-- a term of rising ones is in a column that is there
term_inside : (least n k : ℕ) (ts : List ColumnTerm) → AreRising least n ts → IfSome (slice_get ts k) (λ (t : ColumnTerm). t.0 < n)
term_inside least n k [] r = tt
term_inside least n zero (t ∷ ts) r = r.1
term_inside least n (suc k) (t ∷ ts) r = term_inside (suc t.0) n k ts r.2

mapped : (n : ℕ) (o : Option ColumnTerm) → IfSome o (λ (t : ColumnTerm). t.0 < n) → IfSome (option_map (λ (t : ColumnTerm). t.0) o) (λ j. j < n)
mapped n None h = tt
mapped n (Some t) h = h

pub last_inside : (least n : ℕ) (ts : List ColumnTerm) → AreRising least n ts → IfSome (last_column ts) (λ j. j < n)
last_inside least n ts r = mapped n (slice_get ts (length ts - 1)) (term_inside least n (length ts - 1) ts r)

-- one exponent written over
pub set_up_to : (most : ℕ) (fs : List ℤ) (i : ℕ) (x : ℤ) → pos 0 ≤ℤ x → x ≤ℤ pos most → AreUpTo most fs → AreUpTo most (slice_set fs i x)
set_up_to most [] i x a b h j = h j
set_up_to most (f ∷ fs) zero x a b h zero = (a, b)
set_up_to most (f ∷ fs) zero x a b h (suc j) = h (suc j)
set_up_to most (f ∷ fs) (suc i) x a b h zero = h 0
set_up_to most (f ∷ fs) (suc i) x a b h (suc j) = set_up_to most fs i x a b (λ k. h (suc k)) j

-- the own rows of a program
pub own_rising : (lp : Program) (own : List LpRow) (n : ℕ) → own ≡ take lp.own lp.rows → n ≡ length lp.columns → IsProper lp → All (λ (r : LpRow). AreRising 0 n r.terms) own
own_rising lp own n e m p =
    subst (λ (k : ℕ). All (λ (r : LpRow). AreRising 0 k r.terms) own) (sym m)
    (subst (All (λ (r : LpRow). AreRising 0 (length lp.columns) r.terms)) (sym e) (All-take (λ (r : LpRow). AreRising 0 (length lp.columns) r.terms) lp.own lp.rows p.terms))

pub own_count : (lp : Program) (own : List LpRow) → own ≡ take lp.own lp.rows → IsProper lp → length own ≡ lp.own
own_count lp own e p = ap length e ∙ length-take-le lp.own lp.rows p.own
