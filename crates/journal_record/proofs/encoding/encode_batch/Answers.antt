use Rattle.journal_record.proofs.Room.{entries_room}
use Rattle.journal_record.proofs.encoding.encode_batch.Goals as goal

pub put_entries-requires : goal.put_entries-requires
put_entries-requires c = entries_room c.args.problem.now c.validated.ensures c.args.list.now c.requires.shape c.requires.short
