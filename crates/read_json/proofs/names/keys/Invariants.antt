use Rattle.std.proofs.Common.{◌≡◌, ◌++◌, List, String, Global, map, string_bytes}
use Rattle.std.specs.Map as entries
use Rattle.read_json.proofs.names.keys.Given as goal

-- the keys so far are numbered
abbrev pub invariant-loop-key : goal.invariant-loop-key
invariant-loop-key l = (front : List (String Global)) × (front ++ l.key-iterator ≡ entries.keys_of l.members.entries) × (l.names ≡ map string_bytes front)
