use Rattle.std.proofs.Common.{◌≡◌, ◌++◌, take}
use Rattle.std.specs.Prelude.{All, FitsSigned}
use Rattle.std.specs.List.{flat_map}
use Rattle.std.specs.Int.{w64}
use Rattle.journal_record.specs.Spelling.{row_text}
use Rattle.journal_record.proofs.encoding.put_rows.Given as goal

abbrev pub invariant-loop-row : goal.invariant-loop-row
invariant-loop-row l = record { text : l.out.items ≡ l.fn.out.items ++ flat_map row_text (take l.row-index l.rows); numbers : All (λ z. FitsSigned w64 z) (take l.row-index l.rows) }
