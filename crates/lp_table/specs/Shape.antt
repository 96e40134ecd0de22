-- Tables whose lists are as long as they have to be, and whose numbers of variables and places are there.
use Rattle.std.specs.Prelude.{◌≡◌, ℕ, suc, ◌+◌, ◌<◌, ◌≤◌, ℤ, List, [], ◌∷◌, length, All, IfSome, ⊤}
use Rattle.lp_table.specs.declared.table.WarmTable.{WarmTable}

-- column numbers rise from `least` on and are below the number of columns
abbrev pub AreTermsRising : ℕ → ℕ → List (ℕ × ℤ) → Type 0
AreTermsRising least columns [] = ⊤
AreTermsRising least columns (t ∷ ts) = (least ≤ t.0) × (t.0 < columns) × AreTermsRising (suc t.0) columns ts

-- the number of variables: columns and slacks
abbrev pub variables : WarmTable → ℕ
variables t = length t.costs + length t.rows

pub record IsTable (t : WarmTable) : Type 0 where
  pub few : length t.costs ≤ 1199
  pub row_scales : length t.scales.rows ≡ length t.rows
  pub waiting : length t.cuts.waiting ≡ length t.costs
  pub column_scales : length t.scales.columns ≡ length t.costs
  pub lows : length t.bounds.lows ≡ variables t
  pub ups : length t.bounds.ups ≡ variables t
  pub has_low : length t.bounds.has_low ≡ variables t
  pub has_up : length t.bounds.has_up ≡ variables t
  pub nonbasic : length t.basis.nonbasic ≡ length t.costs
  pub places : length t.basis.places ≡ variables t
  pub high : length t.basis.high ≡ length t.costs
  pub reduced : length t.reduced ≡ length t.costs
  pub lines : length t.lines ≡ length t.costs
  pub values : length t.values ≡ length t.costs
  pub numbers : All (λ v. v < variables t) t.basis.nonbasic
  pub inside : All (λ p. IfSome p (λ j. j < length t.costs)) t.basis.places
  pub terms : All (AreTermsRising 0 (length t.costs)) t.rows
