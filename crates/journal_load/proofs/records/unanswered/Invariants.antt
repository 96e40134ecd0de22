use Rattle.std.proofs.Common.{◌≡◌, ◌≤◌, ◌*◌, ◌^◌, take}
use Rattle.std.specs.List.{sum_by}
use Rattle.cut_pool.specs.declared.entry.Entry.{Entry}
use Rattle.journal_load.proofs.records.unanswered.Given as goal

abbrev pub invariant-loop-entry : goal.invariant-loop-entry
invariant-loop-entry l = (l.sum ≡ sum_by (λ (e : Entry). e.unanswered) (take l.entry-index l.entries)) × (l.sum ≤ 2 ^ 32 * l.entry-index)
