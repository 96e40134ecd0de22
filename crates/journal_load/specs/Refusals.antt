-- The faults of a journal's parts as faults of the journal, and the contracts of code that loads.
use Rattle.std.specs.Prelude.{◌≡◌, ℕ, Option, Some, None, Result, Ok, Err}
use Rattle.base_num.specs.Steps.{GivesOr}
use Rattle.problem.specs.declared.formulas.TooMuch.{TooMuch}
use Rattle.journal_file.specs.declared.head.HeadFault.{HeadFault}
use Rattle.journal_file.specs.declared.head.HeadFault.TheVariants as heads
use Rattle.journal_file.specs.declared.commit_byte.CommitByteFault.{CommitByteFault}
use Rattle.journal_file.specs.declared.commit_byte.CommitByteFault.TheVariants as commit_bytes
use Rattle.journal_file.specs.declared.commit_byte.PayloadFault.{PayloadFault}
use Rattle.journal_file.specs.declared.commit_byte.PayloadFault.TheVariants as payloads
use Rattle.journal_record.specs.declared.fault.EntryFault.{EntryFault}
use Rattle.journal_record.specs.declared.fault.EntryFault.TheVariants as entries
use Rattle.journal_load.specs.declared.refusal.JournalRefusal.TheVariants.{NotAJournal, OtherVersion, Short, BadLength, BadRecord, BadBatch}
use Rattle.journal_load.specs.declared.refusal.LoadFault.{LoadFault}
use Rattle.journal_load.specs.declared.refusal.LoadFault.TheVariants as faults

abbrev pub of_head : HeadFault → LoadFault
of_head heads.NotAJournal = faults.Refused NotAJournal
of_head (heads.OtherVersion version) = faults.Refused (OtherVersion version)
of_head (heads.Short place) = faults.Refused (Short place)
of_head heads.DiskFault = faults.DiskFault
of_head (heads.BadBatch batch) = faults.Refused (BadBatch batch)

abbrev pub of_commit_byte : CommitByteFault → LoadFault
of_commit_byte (commit_bytes.Short place) = faults.Refused (Short place)
of_commit_byte commit_bytes.DiskFault = faults.DiskFault

-- of the record of an iteration
abbrev pub of_payload : ℕ → PayloadFault → LoadFault
of_payload k (payloads.Short place) = faults.Refused (Short place)
of_payload k (payloads.BadLength length) = faults.Refused (BadLength k length)
of_payload k payloads.DiskFault = faults.DiskFault
of_payload k payloads.Memory = faults.Memory

abbrev pub of_entries : ℕ → EntryFault → LoadFault
of_entries k (entries.Bad place) = faults.Refused (BadRecord k place)
of_entries k entries.Memory = faults.Memory

-- a part of the journal, with its fault as the journal's
abbrev pub with_fault : {A E : Type 0} → (E → LoadFault) → Result A E → Result A LoadFault
with_fault of (Ok x) = Ok x
with_fault of (Err e) = Err (of e)

-- a formula that passes its limit
abbrev pub within_formula : Option TooMuch → Result (Unit {0}) LoadFault
within_formula None = Ok tt
within_formula (Some t) = Err (faults.TooMuch t)

-- Code answers as the definition does, unless the disk failed or memory was refused.
abbrev pub LoadFails : {Y : Type 0} → LoadFault → Result Y LoadFault → Type 0
LoadFails (faults.Refused r) load = load ≡ Err (faults.Refused r)
LoadFails (faults.TooMuch t) load = load ≡ Err (faults.TooMuch t)
LoadFails faults.DiskFault load = Unit {0}
LoadFails faults.Memory load = Unit {0}

abbrev pub LoadGives : {X Y : Type 0} → (X → Y) → Result X LoadFault → Result Y LoadFault → Type 0
LoadGives view result load = GivesOr LoadFails view result load
