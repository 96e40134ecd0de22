-- Programs of one decision and one own row.
use Rattle.std.proofs.Common.{◌≤ℤ◌, [], ◌∷◌, Option, IfSome, arith, refl}
use Rattle.std.proofs.lemmas.List.Elements.{All-cons, All-nil}
use Rattle.lp_program.specs.declared.fixed.Fx.{Fx}
use Rattle.lp_program.specs.declared.programs.Column.{Column}
use Rattle.lp_program.specs.declared.programs.LpRow.{LpRow}
use Rattle.lp_program.specs.declared.programs.Program.{Program}
use Rattle.lp_program.specs.Proper.{IsProper, IsReference, IsIdle, AreRising}

-- a decision, and a row with a factor of it
abbrev pub single : Column → Option Fx → Option Fx → Fx → Program
single c low high factor = record { columns = c ∷ []; rows = record { low = low; high = high; terms = (0, factor) ∷ [] } ∷ []; decisions = 1; own = 1 }

pub proper_one : (c : Column) (low high : Option Fx) (factor : Fx) → c.low.0 ≤ℤ c.high.0 → IfSome low (λ l. IfSome high (λ h. l.0 ≤ℤ h.0)) → IsProper (single c low high factor)
proper_one c low high factor h k =
    let row : LpRow = record { low = low; high = high; terms = (0, factor) ∷ [] } in
    let rising : AreRising 0 1 ((0, factor) ∷ []) = (omega arith, omega arith, tt) in
    record {
      boxes = All-cons (λ (c : Column). c.low.0 ≤ℤ c.high.0) c [] h (All-nil (λ (c : Column). c.low.0 ≤ℤ c.high.0));
      sides = All-cons (λ (r : LpRow). IfSome r.low (λ low. IfSome r.high (λ high. low.0 ≤ℤ high.0))) row [] k (All-nil (λ (r : LpRow). IfSome r.low (λ low. IfSome r.high (λ high. low.0 ≤ℤ high.0))));
      terms = All-cons (λ (r : LpRow). AreRising 0 1 r.terms) row [] rising (All-nil (λ (r : LpRow). AreRising 0 1 r.terms));
      decisions = omega arith;
      own = omega arith;
    }

pub reference_one : (c : Column) (low high : Option Fx) (factor : Fx) → IsReference (single c low high factor)
reference_one c low high factor = record { own = refl; idle = All-nil IsIdle }
