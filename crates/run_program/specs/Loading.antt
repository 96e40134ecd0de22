-- The answers of code that loads a journal, unless a formula is above its limit.
use Rattle.std.specs.Prelude.{◌≡◌, Result, Err, ⊤}
use Rattle.journal_load.specs.declared.refusal.LoadFault.{LoadFault}
use Rattle.journal_load.specs.declared.refusal.LoadFault.TheVariants as faults
use Rattle.run_program.specs.declared.status.Status.{Status}
use Rattle.run_program.specs.declared.status.Status.TheVariants.{JournalRefused, TooMuch}

-- the refusal or the formula that was defined; want of memory and a fault of the disk are free
abbrev pub NotLoaded : {A : Type 0} → LoadFault → Result A Status → Type 0
NotLoaded (faults.Refused r) defined = defined ≡ Err (JournalRefused r)
NotLoaded (faults.TooMuch t) defined = defined ≡ Err (TooMuch t)
NotLoaded faults.DiskFault defined = ⊤
NotLoaded faults.Memory defined = ⊤
