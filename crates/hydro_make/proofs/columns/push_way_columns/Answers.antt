use Rattle.std.proofs.Common.{◌+◌, map, ◌++◌, ap, ◌∙◌, arith}
use Rattle.hydro_make.specs.Columns as columns
use Rattle.hydro_make.specs.Seen.{seen_column}
use Rattle.hydro_make.specs.declared.columns.Store.TheVariants as store
use Rattle.hydro_make.specs.declared.columns.Column.TheVariants as column
use Rattle.hydro_form.proofs.Counted.{pushed_two}
use Rattle.hydro_make.proofs.Steps.{flat_stepped}
use Rattle.hydro_make.proofs.columns.push_way_columns.Goals as goal

pub loop-k-preserved : goal.loop-k-preserved
loop-k-preserved c =
    flat_stepped (columns.way_columns c.args.j) c.loop-k.k (map seen_column c.args.list.now.items) (map seen_column c.loop-k.list.items) _ (pushed_two seen_column c.loop-k.list.items c.push.new.self.items c.push-in-loop-k.new.self.items (column.Before (store.Way c.args.j (c.loop-k.k + 1))) (column.After (store.Way c.args.j (c.loop-k.k + 1))) c.in_ok-push.ensures.items c.in_ok-push-2.ensures.items ∙ ap (λ n. map seen_column c.loop-k.list.items ++ columns.way_columns c.args.j n) (omega arith)) c.loop-k.invariant
