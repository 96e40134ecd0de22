use Rattle.journal_load.proofs.Adding.{entries_fit}
use Rattle.journal_load.proofs.records.add_record.Goals as goal

pub bound-bound-requires-clause-fit : goal.bound-bound-requires-clause-fit
bound-bound-requires-clause-fit c = entries_fit c.args.problem.now c.parts.ensures.validated c.args.found.now.pools.lists c.add_entries.new.pools.lists c.args.entries.now c.requires.writable c.requires.fit c.in_ok-add_entries.ensures.value
