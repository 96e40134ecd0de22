use Rattle.std.proofs.Common.{List, All, subst, sym}
use Rattle.cut_pool.specs.declared.entry.Entry.{Entry}
use Rattle.policy_robust.proofs.Adding.{KnownEntry, record_known}
use Rattle.policy_robust.proofs.risk_cuts.add_record.Goals as goal

pub add_entries-requires-clause-known : goal.add_entries-requires-clause-known
add_entries-requires-clause-known c =
    subst (λ (es : List Entry). All (KnownEntry c.args.problem.now) es) (sym c.as_slice.ensures) (record_known c.args.problem.now c.parts.ensures.validated c.args.entries.now c.requires.paths)
