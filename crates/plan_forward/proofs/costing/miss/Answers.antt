use Rattle.std.proofs.Common.{◌∙◌, ◌<◌, pos, ℤ, List, length, get_or, sym, ap, subst}
use mir.Syntax.{w128}
use Rattle.std.proofs.lemmas.Int.{to_z-of_z}
use Rattle.std.proofs.lemmas.List.{get_or-map}
use Rattle.problem.specs.declared.parts.Row.{Row}
use Rattle.plan_answer.proofs.ClassifiedInfeasible.{rows_at}
use Rattle.plan_forward.specs.Costing.{miss_of}
use Rattle.plan_forward.proofs.GivenNumbers.{numbers_given, row_over}
use Rattle.plan_forward.proofs.costing.miss.Goals as goal

pub bounds-as_slice-row : goal.bounds-as_slice-row
bounds-as_slice-row c = subst (λ (rows : List Row). c.args.row < length rows) (sym (c.as_slice.ensures ∙ rows_at c.args.problem.now c.args.node c.sub.result.now c.requires.known c.sub.ensures)) c.requires.row

pub miss_of-requires-clause-given : goal.miss_of-requires-clause-given
miss_of-requires-clause-given c = numbers_given c.args.problem.now c.parts.ensures.validated c.args.node c.requires.known c.sub.result.now c.sub.ensures c.args.decisions.now c.args.state.now c.args.values.now c.requires.decisions c.requires.state c.requires.values

pub miss_of-requires-clause-over : goal.miss_of-requires-clause-over
miss_of-requires-clause-over c =
    let rows = c.as_slice.ensures in
    let inside = subst (λ (rs : List Row). c.args.row < length rs) (sym (rows_at c.args.problem.now c.args.node c.sub.result.now c.requires.known c.sub.ensures)) c.requires.row in
    row_over c.args.problem.now c.parts.ensures.validated c.args.node c.requires.known c.sub.result.now c.sub.ensures c.args.decisions.now c.args.state.now c.args.values.now c.requires.decisions c.requires.state c.requires.values
    c.args.row c.index-as_slice-row.result inside (c.index-as_slice-row.is ∙ ap (λ (rs : List Row). get_or rs c.args.row c.index-as_slice-row.result) rows)

pub returns-clause-value : goal.returns-clause-value
returns-clause-value c =
    let rows = c.as_slice.ensures ∙ rows_at c.args.problem.now c.args.node c.sub.result.now c.requires.known c.sub.ensures in
    let f : Row → ℤ = λ row. miss_of row c.args.decisions.now c.args.state.now c.args.values.now in
    let here = c.index-as_slice-row.is ∙ ap (λ (rs : List Row). get_or rs c.args.row c.index-as_slice-row.result) rows in
    to_z-of_z w128 c.miss_of.result (record { sfits = c.miss_of.type_inv }) ∙ c.miss_of.ensures.value ∙ ap f here ∙ sym (get_or-map f _ c.args.row c.index-as_slice-row.result (pos 0) c.requires.row)
