use Rattle.std.proofs.Common.{◌∙◌}
use mir.Syntax.{w128}
use Rattle.std.proofs.lemmas.Int.{to_z-of_z}
use Rattle.theory.specs.View.{node_of}
use Rattle.cut_make.proofs.sums.constant_sum_by.Goals as goal

pub weighted_constants-requires-clause-scale : goal.weighted_constants-requires-clause-scale
unfolding node_of
weighted_constants-requires-clause-scale c = to_z-of_z w128 c.scale-scale.result (record { sfits = c.scale-scale.type_inv }) ∙ c.scale-scale.ensures
