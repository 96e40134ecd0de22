use Rattle.std.proofs.Common.{◌≡◌, ◌++◌, take}
use Rattle.std.specs.Prelude.{All}
use Rattle.std.specs.List.{flat_map}
use Rattle.journal_record.specs.Shape.{PairsFit}
use Rattle.journal_record.specs.Spelling.{pairs_text}
use Rattle.journal_record.proofs.encoding.put_cuts.Given as goal

abbrev pub invariant-loop-pairs : goal.invariant-loop-pairs
invariant-loop-pairs l = record { text : l.out.items ≡ l.fn.out.items ++ flat_map pairs_text (take l.pairs-index l.cuts); numbers : All PairsFit (take l.pairs-index l.cuts) }
