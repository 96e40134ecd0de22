use Rattle.std.proofs.Common.{map, take, ◌≡◌}
use Rattle.serde_json.specs.View.{members_view}
use Rattle.serde_json.specs.Data.{no_members}
use Rattle.hydro_make.specs.Columns.{state_name}
use Rattle.hydro_make.specs.Stage as stage
use Rattle.hydro_make.specs.Seen.{seen_store}
use Rattle.hydro_form.specs.Listed.{put_by}
use Rattle.hydro_make.proofs.stage.put_states.Given as goal

abbrev pub invariant-loop-store : goal.invariant-loop-store
invariant-loop-store l = members_view l.map.entries ≡ put_by (state_name l.plants) (stage.state l.plants) (map seen_store (take l.store-index l.stores)) no_members
