-- The program of a table stays where its basis is rebuilt.
use Rattle.std.proofs.Common.{◌≡◌, ◌∙◌, ℤ, List, refl, ap, sym, subst}
use Rattle.lp_table.specs.declared.table.WarmTable.{WarmTable}
use Rattle.lp_table.specs.declared.table.Basis.{Basis}
use Rattle.lp_table.specs.SameParts.{with_basis}
use Rattle.lp_pivot.specs.Clean.{clean_of}
use Rattle.lp_pivot.specs.Standings.{stood_up}
use Rattle.lp_table.specs.SameParts.{with_work, KeepsProgram}

pub keeps_same : (t u : WarmTable) → u ≡ t → KeepsProgram t u
keeps_same t u h = subst (λ (s : WarmTable). KeepsProgram t s) (sym h) refl

pub keeps_clean : (t u : WarmTable) → u ≡ clean_of t → KeepsProgram t u
unfolding clean_of
keeps_clean t u h = subst (λ (s : WarmTable). KeepsProgram t s) (sym h) refl

pub keeps_basis : (t u : WarmTable) (b : Basis) (reduced : List ℤ) (lines : List (List ℤ)) → u ≡ with_basis t b reduced lines → KeepsProgram t u
keeps_basis t u b reduced lines h = subst (λ (s : WarmTable). KeepsProgram t s) (sym h) refl

pub keeps_stood : (b : Basis) (t u : WarmTable) → u ≡ stood_up b t → KeepsProgram t u
unfolding stood_up
keeps_stood b t u h = subst (λ (s : WarmTable). KeepsProgram t s) (sym h) refl

pub keeps_both : (t u v : WarmTable) → KeepsProgram t u → KeepsProgram u v → KeepsProgram t v
keeps_both t u v h k = k ∙ ap (λ (s : WarmTable). with_work s v.basis v.reduced v.lines v.values v.weak) h
