use Rattle.std.proofs.Common.{◌∙◌, ◌<◌, List, length, ap, arith, get_or, set}
use Rattle.lp_program.specs.declared.programs.LpRow.{LpRow}
use Rattle.lp_program.specs.declared.programs.Program.{Program}
use Rattle.lp_program.specs.Packed.{unlisted}
use Rattle.lp_program.specs.StageLps.{no_row, with_sides}
use Rattle.lp_program.proofs.AllRows.{sides_before}
use Rattle.lp_program.proofs.stage_lp.StageLp.set_sides.Goals as goal

pub returns : goal.returns
returns c =
    let p : Program = c.self.inside.listed in
    let within : c.args.row < length p.rows = omega (arith, c.requires, ap (λ (q : Program). q.own) c.self.view_is, c.self.invariant.own) in
    let is = c.restate.ensures ∙ ap (λ (rs : List LpRow). set rs c.args.row (record (get_or rs c.args.row no_row) { low = c.args.low; high = c.args.high })) c.as_mut_slice.ensures.value in
    ap (λ (rs : List LpRow). record p { rows = rs }) (sides_before p.rows c.restate.new.rows (unlisted c.self.inside.packed) c.args.row c.args.low c.args.high within is)
    ∙ ap (with_sides c.args.row c.args.low c.args.high) c.self.view_is
