-- Two proofs that a start suits a program are equal.
use Rattle.std.specs.Prelude.{ℕ, suc, ℤ, List, [], ◌∷◌, Option, Some, None, IfSome}
use Rattle.std.specs.Coded.{Unit-prop}
use Rattle.std.proofs.Props.{props}
use Rattle.lp_program.specs.declared.programs.Program.{Program}
use Rattle.lp_table.specs.declared.table.WarmTable.{WarmTable}
use Rattle.lp_table.specs.Shape.{AreTermsRising}
use Rattle.lp_scale.specs.Fitting.{Suits}

-- two proofs that column numbers rise are equal
rising_once : (least columns : ℕ) (ts : List (ℕ × ℤ)) → IsProp (AreTermsRising least columns ts)
rising_once least columns [] = Unit-prop
rising_once least columns (t ∷ ts) =
    let others : IsProp (AreTermsRising (suc t.0) columns ts) = rising_once (suc t.0) columns ts in
    Prim.hlevel (others, props)

ruleset facts = (rising_once, props)

pub suits_is_fact : (start : Option WarmTable) (lp : Program) → IsProp (IfSome start (λ t. Suits t lp))
suits_is_fact None lp = Unit-prop
suits_is_fact (Some t) lp = Prim.hlevel facts
