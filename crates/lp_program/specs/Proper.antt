-- Linear programs that a solver takes, and programs of one node.
use Rattle.std.specs.Prelude.{◌≡◌, ℕ, suc, ◌<◌, ◌≤◌, ◌≤ℤ◌, pos, List, [], ◌∷◌, length, map, take, drop, All, IfSome, ⊤}
use Rattle.lp_program.specs.declared.fixed.Fx.{Fx}
use Rattle.lp_program.specs.declared.programs.Column.{Column}
use Rattle.lp_program.specs.declared.programs.LpRow.{LpRow}
use Rattle.lp_program.specs.declared.programs.Program.{Program}

-- column numbers rise from `least` on and are below the number of columns
abbrev pub AreRising : ℕ → ℕ → List (ℕ × Fx) → Type 0
AreRising least columns [] = ⊤
AreRising least columns (t ∷ ts) = (least ≤ t.0) × (t.0 < columns) × AreRising (suc t.0) columns ts

-- no box is empty, terms rise, and decisions and own rows are counted
pub record IsProper (lp : Program) : Type 0 where
  pub boxes : All (λ (c : Column). c.low.0 ≤ℤ c.high.0) lp.columns
  pub sides : All (λ (r : LpRow). IfSome r.low (λ low. IfSome r.high (λ high. low.0 ≤ℤ high.0))) lp.rows
  pub terms : All (λ (r : LpRow). AreRising 0 (length lp.columns) r.terms) lp.rows
  pub decisions : lp.decisions ≤ length lp.columns
  pub own : lp.own ≤ length lp.rows

abbrev pub terms_of : List LpRow → List (List (ℕ × Fx))
terms_of rows = map (λ (r : LpRow). r.terms) rows

-- a column that stands at 0 and costs nothing
pub record IsIdle (c : Column) : Type 0 where
  pub low : c.low.0 ≡ pos 0
  pub high : c.high.0 ≡ pos 0
  pub cost : c.cost.0 ≡ pos 0

-- a program of own rows, in which the columns of successors are idle
pub record IsReference (lp : Program) : Type 0 where
  pub own : lp.own ≡ length lp.rows
  pub idle : All IsIdle (drop lp.decisions lp.columns)

-- a program with the same decisions, as many columns, and the same own rows but for their sides
pub record Extends (reference lp : Program) : Type 0 where
  pub decisions : lp.decisions ≡ reference.decisions
  pub own : lp.own ≡ reference.own
  pub count : length lp.columns ≡ length reference.columns
  pub columns : take reference.decisions lp.columns ≡ take reference.decisions reference.columns
  pub terms : terms_of (take reference.own lp.rows) ≡ terms_of (take reference.own reference.rows)
  pub proper : IsProper lp

-- a program that differs in the sides of own rows alone
pub record IsLike (lp other : Program) : Type 0 where
  pub columns : lp.columns ≡ other.columns
  pub decisions : lp.decisions ≡ other.decisions
  pub own : lp.own ≡ other.own
  pub terms : terms_of lp.rows ≡ terms_of other.rows
  pub cuts : drop lp.own lp.rows ≡ drop other.own other.rows
  pub proper : IsProper other
