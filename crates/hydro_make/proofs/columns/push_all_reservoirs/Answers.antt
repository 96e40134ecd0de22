use Rattle.std.proofs.Common.{map}
use Rattle.hydro_make.specs.Columns as columns
use Rattle.hydro_make.specs.Seen.{seen_column}
use Rattle.hydro_form.proofs.Counted.{flat_joined}
use Rattle.hydro_make.proofs.columns.push_all_reservoirs.Goals as goal

pub loop-j-preserved : goal.loop-j-preserved
loop-j-preserved c =
    flat_joined (columns.reservoir_columns c.args.plants.now) c.loop-j.j (map seen_column c.args.list.now.items) (map seen_column c.loop-j.list.items) _ c.in_ok-push_reservoir_columns.ensures c.loop-j.invariant
