use Rattle.std.proofs.Common.{map}
use Rattle.hydro_make.specs.Layout as layout
use Rattle.hydro_make.specs.Seen.{seen_store}
use Rattle.hydro_make.specs.declared.columns.Store.TheVariants as store
use Rattle.hydro_form.proofs.Counted.{pushed, map_joined}
use Rattle.hydro_make.proofs.columns.push_volumes.Goals as goal

pub loop-j-preserved : goal.loop-j-preserved
loop-j-preserved c =
    map_joined (layout.volume_of) c.loop-j.j (map seen_store c.args.list.now.items) (map seen_store c.loop-j.list.items) _ (pushed seen_store c.loop-j.list.items c.push.new.self.items (store.Volume c.loop-j.j) c.in_ok-push.ensures.items) c.loop-j.invariant
