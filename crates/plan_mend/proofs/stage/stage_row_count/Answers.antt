use Rattle.std.proofs.Common.{◌∙◌, sym}
use Rattle.std.proofs.lemmas.List.{length-map}
use Rattle.problem.specs.declared.parts.Row.{Row}
use Rattle.plan_mend.specs.Stages.{node_of_stage}
use Rattle.plan_mend.proofs.stage.stage_row_count.Goals as goal

pub returns : goal.returns
returns c = c.row_count.ensures ∙ sym (length-map (node_of_stage c.args.stage.now).rows (λ (row : Row). row.decisions))
