use Rattle.std.proofs.Common.{map}
use Rattle.hydro_make.specs.Layout as layout
use Rattle.hydro_make.specs.Seen.{seen_store}
use Rattle.hydro_form.proofs.Counted.{flat_joined}
use Rattle.hydro_make.proofs.columns.push_ways.Goals as goal

pub loop-j-preserved : goal.loop-j-preserved
loop-j-preserved c =
    flat_joined (layout.way_at c.args.plants.now c.args.away) c.loop-j.j (map seen_store c.args.list.now.items) (map seen_store c.loop-j.list.items) _ c.in_ok-push_way.ensures c.loop-j.invariant
