use Rattle.std.proofs.Common.{map, take, ◌≡◌}
use Rattle.serde_json.specs.View.{members_view}
use Rattle.serde_json.specs.Data.{no_members}
use Rattle.hydro_make.specs.Layout as layout
use Rattle.hydro_make.specs.Columns.{state_name}
use Rattle.hydro_make.specs.Seen.{seen_store}
use Rattle.hydro_form.specs.Listed.{put_by, integer}
use Rattle.hydro_make.proofs.making.put_all_initial.Given as goal

abbrev pub invariant-loop-store : goal.invariant-loop-store
invariant-loop-store l = members_view l.map.entries ≡ put_by (state_name l.plants) (λ s. integer (layout.store_initial l.plants s)) (map seen_store (take l.store-index l.stores)) no_members
