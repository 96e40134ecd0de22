use Rattle.std.proofs.Common.{◌≡◌, take}
use Rattle.std.specs.Prelude.{All}
use Rattle.std.specs.List.{flat_map}
use Rattle.journal_record.specs.Shape.{EntryFits}
use Rattle.journal_record.specs.Spelling.{entry_text}
use Rattle.journal_record.proofs.encoding.put_entries.Given as goal

abbrev pub invariant-loop-entry : goal.invariant-loop-entry
invariant-loop-entry l = record { text : l.out.items ≡ flat_map entry_text (take l.entry-index l.list); numbers : All EntryFits (take l.entry-index l.list) }
