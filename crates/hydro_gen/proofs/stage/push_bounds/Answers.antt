use Rattle.std.proofs.Common.{◌∙◌, ◌++◌, List, map, sym, ap, append_assoc}
use Rattle.std.specs.List.{flat_map}
use Rattle.serde_json.specs.Data.{Data}
use Rattle.serde_json.specs.View.{view}
use Rattle.base_graph.specs.Paths.{numbers}
use Rattle.hydro_gen.specs.Stage.{reservoir_bounds}
use Rattle.hydro_form.proofs.Counted.{flat_more}
use Rattle.hydro_gen.proofs.stage.push_bounds.Goals as goal

pub loop-reservoir-preserved : goal.loop-reservoir-preserved
loop-reservoir-preserved c =
    let r = c.loop-reservoir.reservoir in
    let before = map view c.args.list.now.items in
    c.in_ok-push_bounds_of.ensures ∙ ap (λ (l : List Data). l ++ reservoir_bounds r) c.loop-reservoir.invariant ∙ append_assoc before (flat_map reservoir_bounds (numbers r)) (reservoir_bounds r)
    ∙ ap (λ (l : List Data). before ++ l) (sym (flat_more reservoir_bounds r))
