use Rattle.std.proofs.Common.{◌≡◌}
use Rattle.journal_load.specs.RootValues.{root_values}
use Rattle.journal_load.proofs.Loops.{EntriesLeft}
use Rattle.journal_load.proofs.cuts.add_entries.Given as goal

abbrev pub invariant-loop-entry : goal.invariant-loop-entry
invariant-loop-entry l = EntriesLeft l.problem l.initial.pools.lists l.entries l.entry-index l.pools.lists × (l.values ≡ root_values l.problem l.pools.lists)
