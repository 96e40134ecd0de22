use Rattle.std.proofs.Common.{◌≡◌, true, List, Bool, drop, All, subst}
use Rattle.lp_program.specs.declared.programs.LpRow.{LpRow}
use Rattle.lp_scale.specs.Waiting.{waits}
use Rattle.lp_scale.proofs.Waits.{puts_none}
use Rattle.lp_scale.proofs.widening.put_packed.Goals as goal

pub returns-then-do_all_wait-clause-value : goal.returns-then-do_all_wait-clause-value
returns-then-do_all_wait-clause-value c =
    let rows : List LpRow = drop c.args.lp.now.own c.args.lp.now.rows in
    puts_none c.args.table.now.cuts.waiting rows c.args.lp.now.own c.args.table.now
    (subst (λ (ws : List Bool). All (λ (r : LpRow). waits ws r ≡ true) rows) c.as_slice.ensures
    (subst (All (λ (r : LpRow). waits c.as_slice.result.now r ≡ true)) c.requires.cuts (c.do_all_wait.ensures c.if-do_all_wait.true)))
