use Rattle.std.proofs.Common.{◌≡◌, true, false, take, rules, ap, ◌∙◌}
use Rattle.lp_table.specs.declared.table.WarmTable.{WarmTable}
use Rattle.lp_scale.specs.Appending.{sided}
use Rattle.lp_scale.proofs.Shapes.{on_ok}
use Rattle.lp_solve.specs.Going.{trusted}
use Rattle.lp_solve.proofs.Setting.{go_fails, go_turns, ends_on}
use Rattle.lp_solve.proofs.going.go.Goals as goal

pub returns-then-not-prepare-clause-went : goal.returns-then-not-prepare-clause-went
returns-then-not-prepare-clause-went c =
    let e : false ≡ (sided (trusted c.args.table.now) (take c.args.lp.now.own c.args.lp.now.rows)).0 = search rules in
    go_fails c.args.lp.now c.args.table.now c.prepare.new.table e c.prepare.ensures.table

pub returns-clause-went : goal.returns-clause-went
returns-clause-went c =
    let e : true ≡ (sided (trusted c.args.table.now) (take c.args.lp.now.own c.args.lp.now.rows)).0 = search rules in
    ends_on c.take_all_turns.result _ _ c.take_all_turns.new.table (go_turns c.args.lp.now c.args.table.now c.prepare.new.table e c.prepare.ensures.table) c.take_all_turns.ensures.went

pub returns-clause-scales : goal.returns-clause-scales
returns-clause-scales c = on_ok c.take_all_turns.result c.take_all_turns.ensures.own (λ k r. ap (λ (t : WarmTable). t.scales) (k r) ∙ ap (λ (t : WarmTable). t.scales) c.prepare.ensures.table)
