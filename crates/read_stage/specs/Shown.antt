-- The definitions' parts of a stage for which the code's parts stand.
use Rattle.serde_json.specs.View.{view, members_view, items_view}
use Rattle.read_stage.specs.declared.stage_parts.StageParts.{StageParts}
use Rattle.read_stage.specs.StageParts as parts

abbrev pub shown : StageParts → parts.StageParts
shown v = record {
  states = members_view v.states.now.entries;
  randoms = items_view v.randoms.now;
  variables = items_view v.variables.now;
  objective = view v.objective.now;
  constraints = items_view v.constraints.now;
}
