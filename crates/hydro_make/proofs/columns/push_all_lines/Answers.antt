use Rattle.std.proofs.Common.{map}
use Rattle.hydro_make.specs.Layout as layout
use Rattle.hydro_make.specs.Columns as columns
use Rattle.hydro_make.specs.Seen.{seen_column}
use Rattle.hydro_make.specs.declared.columns.Column.TheVariants as column
use Rattle.hydro_form.proofs.Counted.{pushed, map_joined}
use Rattle.hydro_make.proofs.columns.push_all_lines.Goals as goal

pub loop-l-preserved : goal.loop-l-preserved
loop-l-preserved c =
    map_joined (λ i. columns.decided (layout.line_of i)) c.loop-l.l (map seen_column c.args.list.now.items) (map seen_column c.loop-l.list.items) _ (pushed seen_column c.loop-l.list.items c.push.new.self.items (column.Line c.loop-l.l) c.in_ok-push.ensures.items) c.loop-l.invariant
