use Rattle.std.proofs.Common.{map}
use Rattle.hydro_make.specs.Columns as columns
use Rattle.hydro_make.specs.Seen.{seen_column}
use Rattle.hydro_make.specs.declared.columns.Column.TheVariants as column
use Rattle.hydro_form.proofs.Counted.{pushed_two, flat_joined}
use Rattle.hydro_make.proofs.columns.push_all_buses.Goals as goal

pub loop-b-preserved : goal.loop-b-preserved
loop-b-preserved c =
    flat_joined columns.bus_columns c.loop-b.b (map seen_column c.args.list.now.items) (map seen_column c.loop-b.list.items) _ (pushed_two seen_column c.loop-b.list.items c.push.new.self.items c.push-in-loop-b.new.self.items (column.Demand c.loop-b.b) (column.Deficit c.loop-b.b) c.in_ok-push.ensures.items c.in_ok-push-2.ensures.items) c.loop-b.invariant
