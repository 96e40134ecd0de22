use Rattle.std.proofs.Common.{ap, length, subst, ◌≤◌, ◌^◌}
use Rattle.std.proofs.lemmas.List.{append-nil}
use Rattle.journal_record.specs.Spelling.{entry_text}
use Rattle.journal_record.proofs.Room.{entry_room}
use Rattle.journal_record.proofs.encoding.encode.Goals as goal

pub put_entry-requires : goal.put_entry-requires
put_entry-requires c = entry_room c.args.problem.now c.validated.ensures c.args.entry.now c.requires.shape (subst (λ n. n ≤ 2 ^ 26) (ap length (append-nil (entry_text c.args.entry.now))) c.requires.short)
