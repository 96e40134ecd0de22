use Rattle.std.proofs.Common.{◌≡◌, drop}
use Rattle.serde_json.specs.View.{members_view}
use Rattle.read_json.specs.Fields.{place}
use Rattle.read_json.specs.Steps.{walk_list}
use Rattle.read_file.specs.Values.{random_value_at, values_at}
use Rattle.read_file.proofs.values.values.Given as goal

abbrev pub invariant-loop-i : goal.invariant-loop-i
invariant-loop-i l =
    walk_list (λ found i name. random_value_at (place l.part l.a l.b i) (members_view l.support.entries) found name) l.found l.i (drop l.i l.randoms) ≡ values_at l.part l.a l.b l.randoms (members_view l.support.entries)
