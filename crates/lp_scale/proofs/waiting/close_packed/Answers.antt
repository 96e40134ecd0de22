use Rattle.std.proofs.Common.{◌≡◌, true, subst, drop, All}
use Rattle.lp_program.specs.declared.programs.LpRow.{LpRow}
use Rattle.lp_scale.specs.Waiting.{is_narrow}
use Rattle.lp_scale.proofs.Waits.{all_kept}
use Rattle.lp_scale.proofs.waiting.close_packed.Goals as goal

pub returns-then-are_narrow-clause-value : goal.returns-then-are_narrow-clause-value
returns-then-are_narrow-clause-value c =
    all_kept c.args.reaches.now c.args.waiting.now (drop c.args.lp.now.own c.args.lp.now.rows)
    (subst (All (λ (r : LpRow). is_narrow c.args.reaches.now r ≡ true)) c.requires.cuts (c.are_narrow.ensures c.if-are_narrow.true))
