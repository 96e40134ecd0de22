use Rattle.std.proofs.Common.{◌≡◌, ℕ, ◌+◌, ◌*◌, false, Option, IfOk, subst}
use Rattle.lp_program.specs.declared.programs.Answer.{Answer}
use Rattle.lp_wide.specs.Turns.{wide_turns_on_table}
use Rattle.lp_wide.proofs.solve.solved.Goals as goal

pub returns : goal.returns
returns c = subst (λ (n : ℕ). IfOk c.take_turns.result (λ (a : Option Answer). a ≡ wide_turns_on_table c.args.lp.now (20 * n + 100) false c.args.table)) c.len.ensures c.take_turns.ensures
