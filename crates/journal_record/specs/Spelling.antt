-- The bytes of entries. Numbers are big-endian.
use Rattle.std.specs.Prelude.{ℕ, ℤ, List, ◌++◌, length}
use Rattle.std.specs.List.{flat_map}
use Rattle.std.specs.Int.{w16, w32, w64, to_be_bytes, cast_unsigned}
use Rattle.theory.specs.declared.cut.Certificate.{Certificate}
use Rattle.cut_pool.specs.declared.entry.Entry.{Entry}
use Rattle.cut_pool.specs.declared.entry.EntryStep.{EntryStep}

-- a row's multiplier
abbrev pub row_text : ℤ → List ℕ
row_text z = to_be_bytes w64 (cast_unsigned w64 z)

-- a cut's place and its multiplier
abbrev pub pair_text : ℕ × ℕ → List ℕ
pair_text q = to_be_bytes w32 q.0 ++ to_be_bytes w64 q.1

-- the number of pairs, and then the pairs
abbrev pub pairs_text : List (ℕ × ℕ) → List ℕ
pairs_text qs = to_be_bytes w32 (length qs) ++ flat_map pair_text qs

-- the rows' multipliers, and then the pairs of each successor
abbrev pub certificate_text : Certificate → List ℕ
certificate_text c = flat_map row_text c.rows ++ flat_map pairs_text c.cuts

-- the node, and then its certificates
abbrev pub step_text : EntryStep → List ℕ
step_text s = to_be_bytes w16 s.node ++ flat_map certificate_text s.list

-- the iteration, the unanswered solves, the number of steps, and then the steps
abbrev pub entry_text : Entry → List ℕ
entry_text e = to_be_bytes w32 e.iteration ++ to_be_bytes w32 e.unanswered ++ to_be_bytes w16 (length e.steps) ++ flat_map step_text e.steps

-- entries one after another
abbrev pub spell : List Entry → List ℕ
spell es = flat_map entry_text es
