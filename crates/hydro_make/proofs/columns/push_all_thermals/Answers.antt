use Rattle.std.proofs.Common.{map}
use Rattle.hydro_make.specs.Layout as layout
use Rattle.hydro_make.specs.Columns as columns
use Rattle.hydro_make.specs.Seen.{seen_column}
use Rattle.hydro_make.specs.declared.columns.Column.TheVariants as column
use Rattle.hydro_form.proofs.Counted.{pushed, map_joined}
use Rattle.hydro_make.proofs.columns.push_all_thermals.Goals as goal

pub loop-i-preserved : goal.loop-i-preserved
loop-i-preserved c =
    map_joined (λ i. columns.decided (layout.thermal_of i)) c.loop-i.i (map seen_column c.args.list.now.items) (map seen_column c.loop-i.list.items) _ (pushed seen_column c.loop-i.list.items c.push.new.self.items (column.Thermal c.loop-i.i) c.in_ok-push.ensures.items) c.loop-i.invariant
