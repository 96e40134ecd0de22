use Rattle.std.proofs.Common.{◌∙◌, ap}
use Rattle.hydro_form.specs.Stage.{row}
use Rattle.hydro_gen.specs.Stage.{balance}
use Rattle.hydro_form.proofs.Counted.{list_grown}
use Rattle.hydro_gen.proofs.stage.balances.Goals as goal

pub loop-reservoir-preserved : goal.loop-reservoir-preserved
loop-reservoir-preserved c =
    list_grown balance c.loop-reservoir.reservoir c.loop-reservoir.list.items c.push.new.self.items c.in_ok-row.field-0 c.in_ok-push.ensures.items c.loop-reservoir.invariant
    (c.in_ok-row.ensures ∙ ap (row 0) c.in_ok-terms.ensures)
