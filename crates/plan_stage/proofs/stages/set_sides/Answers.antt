use Rattle.std.proofs.Common.{◌++◌, ◌∙◌, List, Some, length, map, All, ap, sym, subst, arith}
use Rattle.std.proofs.lemmas.List.{length-map, length-append}
use Rattle.problem.specs.declared.parts.Row.{Row}
use Rattle.lp_program.specs.declared.programs.LpRow.{LpRow}
use Rattle.plan_stage.specs.Stage.{own_row, cut_rows}
use Rattle.plan_stage.specs.Given.{IsOver}
use Rattle.plan_stage.proofs.Alike.{stage_in-is, stage_is, like-stages, restated, rows-stage_program, own-stage_program}
use Rattle.plan_stage.proofs.ValidatedStages.{of-validated}
use Rattle.plan_stage.proofs.stages.set_sides.Goals as goal

pub set_own_sides-requires-clause-given : goal.set_own_sides-requires-clause-given
set_own_sides-requires-clause-given c = (of-validated c.args.values.now c.args.state.now c.of-stage.ensures.stands c.requires.values c.requires.state).given

pub set_own_sides-requires-clause-over : goal.set_own_sides-requires-clause-over
set_own_sides-requires-clause-over c = subst (λ (rows : List Row). All (IsOver (length c.args.state.now) (length c.args.values.now)) rows) (sym c.as_slice.ensures) (of-validated c.args.values.now c.args.state.now c.of-stage.ensures.stands c.requires.values c.requires.state).over

pub set_own_sides-requires-clause-own : goal.set_own_sides-requires-clause-own
set_own_sides-requires-clause-own c =
    let t = c.requires.stage in
    ap length c.as_slice.ensures
    ∙ sym (own-stage_program t.pools c.of-stage.result.node.now c.of-stage.result.subproblem.now t.values t.state c.args.lp.now (stage_is c.of-stage.ensures.stands t.pools t.values t.state c.args.lp.now t.is))

pub set_own_sides-requires-clause-count : goal.set_own_sides-requires-clause-count
set_own_sides-requires-clause-count c =
    let n = c.of-stage.result.node.now in
    let s = c.of-stage.result.subproblem.now in
    let t = c.requires.stage in
    let rows = rows-stage_program t.pools n s t.values t.state c.args.lp.now (stage_is c.of-stage.ensures.stands t.pools t.values t.state c.args.lp.now t.is) in
    omega (arith, ap length rows, ap length c.as_slice.ensures, length-append (map (own_row t.values t.state) s.rows) (cut_rows s t.pools (length s.decisions) n.successors), length-map s.rows (own_row t.values t.state))

pub returns-clause-value : goal.returns-clause-value
returns-clause-value c = λ pools v x is.
    let n = c.of-stage.result.node.now in
    let s = c.of-stage.result.subproblem.now in
    let cuts : List LpRow = cut_rows s pools (length s.decisions) n.successors in
    let old = stage_is c.of-stage.ensures.stands pools v x c.args.lp.now is in
    let before = rows-stage_program pools n s v x c.args.lp.now old ∙ ap (λ (rows : List Row). map (own_row v x) rows ++ cuts) (sym c.as_slice.ensures) in
    let after = c.set_own_sides.ensures.value v x cuts before ∙ ap (λ (rows : List Row). map (own_row c.args.values.now c.args.state.now) rows ++ cuts) c.as_slice.ensures in
    stage_in-is c.of-stage.ensures.stands pools c.args.values.now c.args.state.now
    ∙ ap Some (sym (c.set_own_sides.ensures.tail ∙ restated pools n s v x c.args.values.now c.args.state.now c.args.lp.now c.set_own_sides.new.lp.rows old after))

pub returns-clause-like : goal.returns-clause-like
returns-clause-like c =
    let t = c.requires.stage in
    like-stages c.of-stage.ensures.stands t.pools t.values t.state c.args.values.now c.args.state.now c.args.lp.now c.set_own_sides.new.lp t.is (returns-clause-value c t.pools t.values t.state t.is)
