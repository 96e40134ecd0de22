use Rattle.std.proofs.Common.{ℕ}
use Rattle.serde_json.specs.View.{members_view}
use Rattle.base_num.specs.Sums.{entry}
use Rattle.hydro_form.specs.Listed.{integer}
use Rattle.hydro_make.specs.Columns.{chance_name}
use Rattle.hydro_make.specs.Seen.{chance_of}
use Rattle.hydro_make.proofs.Written.{number_put}
use Rattle.hydro_make.proofs.nodes.put_values.Goals as goal

pub loop-at-preserved : goal.loop-at-preserved
loop-at-preserved c =
    let key = λ (n : ℕ). chance_name c.args.plants.now (chance_of c.args.random n) in
    let value = λ (n : ℕ). integer (entry c.args.values.now n) in
    number_put key value c.loop-at.at (members_view c.args.map.now.entries) (members_view c.loop-at.map.entries) (members_view c.put_value.new.map.entries) c.in_ok-put_value.ensures c.loop-at.invariant
