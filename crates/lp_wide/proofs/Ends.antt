-- The turn that ends a run.
use Rattle.std.proofs.Common.{◌≡◌, ℕ, suc, ◌+◌, ◌-◌, ◌<◌, Bool, Option, Some, arith, ap, sym, ◌∙◌}
use Rattle.lp_program.specs.declared.programs.Program.{Program}
use Rattle.lp_program.specs.declared.programs.Answer.{Answer}
use Rattle.lp_wide_table.specs.declared.table.WideTable.{WideTable}
use Rattle.lp_wide.specs.Turns.{ends, wide_after_turn, wide_turn_on_table, wide_turns_on_table}

-- a turn that shows an answer
pub turn_shows : (lp : Program) (t : WideTable) (idle : Bool) (limit i : ℕ) (a : Answer) (whole : Option Answer) → i < limit → wide_turn_on_table lp t ≡ ends a → whole ≡ wide_turns_on_table lp (limit - i) idle t → Some a ≡ whole
turn_shows lp t idle limit i a whole h e w =
    let left : limit - i ≡ suc (limit - (i + 1)) = omega arith in
    sym (w ∙ ap (λ (n : ℕ). wide_turns_on_table lp n idle t) left ∙ ap (wide_after_turn lp (wide_turns_on_table lp (limit - (i + 1))) idle) e)
