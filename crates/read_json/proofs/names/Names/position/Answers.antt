use Rattle.std.proofs.Common.{string_bytes, ap, ◌∙◌}
use Rattle.std.specs.Prelude.{position}
use Rattle.std.specs.Str.{bytes_eq}
use Rattle.read_json.proofs.Named.{position-map}
use Rattle.read_json.proofs.names.Names.position.Goals as goal

pub returns : goal.returns
returns c = c.get_index_of.ensures.index ∙ position-map string_bytes (bytes_eq c.args.name.now) c.self.inside.set.keys ∙ ap (position (bytes_eq c.args.name.now)) c.self.view_is
