use Rattle.std.proofs.Common.{◌≡◌, ◌++◌, length, take}
use Rattle.std.specs.Int.{w32, to_be_bytes}
use Rattle.std.specs.Prelude.{All}
use Rattle.std.specs.List.{flat_map}
use Rattle.journal_record.specs.Shape.{PairFits}
use Rattle.journal_record.specs.Spelling.{pair_text}
use Rattle.journal_record.proofs.encoding.put_pairs.Given as goal

abbrev pub invariant-loop-pair : goal.invariant-loop-pair
invariant-loop-pair l = record { text : l.out.items ≡ (l.fn.out.items ++ to_be_bytes w32 (length l.pairs)) ++ flat_map pair_text (take l.pair-index l.pairs); numbers : All PairFits (take l.pair-index l.pairs) }
