use Rattle.std.proofs.Common.{arith}
use Rattle.serde_json.specs.Data.{Data, no_members}
use Rattle.serde_json.specs.View.{members_view}
use Rattle.hydro_make.specs.Layout.{HydroStore}
use Rattle.hydro_make.specs.Columns.{state_name}
use Rattle.hydro_make.specs.Stage as stage
use Rattle.hydro_make.specs.Seen.{seen_store}
use Rattle.hydro_make.proofs.Written.{entry_put}
use Rattle.hydro_make.proofs.stage.put_states.Goals as goal

pub loop-store-preserved : goal.loop-store-preserved
loop-store-preserved c =
    let value : HydroStore → Data = stage.state c.args.plants.now in
    entry_put seen_store (state_name c.args.plants.now) value c.args.stores.now c.loop-store.store-index _ no_members (members_view c.loop-store.map.entries) (members_view c.put_state.new.map.entries)
    (omega arith) c.in_ok-put_state.ensures c.loop-store.invariant
