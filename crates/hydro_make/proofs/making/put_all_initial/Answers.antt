use Rattle.std.proofs.Common.{arith}
use Rattle.serde_json.specs.Data.{Data, no_members}
use Rattle.serde_json.specs.View.{members_view}
use Rattle.hydro_form.specs.Listed.{integer}
use Rattle.hydro_make.specs.Layout as layout
use Rattle.hydro_make.specs.Layout.{HydroStore}
use Rattle.hydro_make.specs.Columns.{state_name}
use Rattle.hydro_make.specs.Seen.{seen_store}
use Rattle.hydro_make.proofs.Written.{entry_put}
use Rattle.hydro_make.proofs.making.put_all_initial.Goals as goal

pub loop-store-preserved : goal.loop-store-preserved
loop-store-preserved c =
    let value : HydroStore → Data = λ s. integer (layout.store_initial c.args.plants.now s) in
    entry_put seen_store (state_name c.args.plants.now) value c.args.stores.now c.loop-store.store-index _ no_members (members_view c.loop-store.map.entries) (members_view c.put_initial.new.map.entries)
    (omega arith) c.in_ok-put_initial.ensures c.loop-store.invariant
