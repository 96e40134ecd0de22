use Rattle.std.proofs.Common.{not, string_bytes, ap, ◌∙◌}
use Rattle.std.specs.Str.{bytes_eq}
use Rattle.read_json.proofs.Named.{list_any-map}
use Rattle.read_json.proofs.names.insert.Goals as goal

pub returns-clause-added : goal.returns-clause-added
returns-clause-added c = c.in-Ok.ensures.added ∙ ap not (list_any-map string_bytes (bytes_eq (string_bytes c.args.text)) c.args.set.now.keys)
