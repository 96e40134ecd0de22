use Rattle.std.proofs.Common.{◌∙◌, ◌<◌, List, [], length, get_or, sym, ap, subst}
use Rattle.std.proofs.lemmas.List.{get_or-map, length-map}
use Rattle.base_num.specs.Sums.{Term}
use Rattle.problem.specs.declared.parts.Row.{Row}
use Rattle.plan_answer.proofs.ClassifiedInfeasible.{rows_at}
use Rattle.plan_mend.specs.Stages.{node_of_stage}
use Rattle.plan_mend.proofs.stage.terms_at.Goals as goal

pub bounds-as_slice-row : goal.bounds-as_slice-row
bounds-as_slice-row c =
    let s = c.args.stage.now in
    let rows = c.as_slice.ensures ∙ rows_at s.problem.now s.node c.sub.result.now c.requires.stage.known c.sub.ensures in
    let count = length-map (node_of_stage s).rows (λ (row : Row). row.decisions) in
    subst (λ (rs : List Row). c.args.row < length rs) (sym rows) (subst (λ k. c.args.row < k) count c.requires.row)

pub returns : goal.returns
returns c =
    let s = c.args.stage.now in
    let rows = c.as_slice.ensures ∙ rows_at s.problem.now s.node c.sub.result.now c.requires.stage.known c.sub.ensures in
    let count = length-map (node_of_stage s).rows (λ (row : Row). row.decisions) in
    let f : Row → List Term = λ row. row.decisions in
    c.as_slice-2.ensures ∙ ap (λ (rs : List Row). f (get_or rs c.args.row c.index-as_slice-row.result)) rows
    ∙ sym (get_or-map f (node_of_stage s).rows c.args.row c.index-as_slice-row.result [] (subst (λ k. c.args.row < k) count c.requires.row))
