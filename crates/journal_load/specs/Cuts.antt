-- The cuts that the steps of entries add to pools.
use Rattle.std.specs.Prelude.{ℕ, List, [], ◌∷◌, Option, Some, None, Result, Ok, Err}
pub use Rattle.base_num.specs.Steps.{◌>>=◌}
use Rattle.problem.specs.Validated.{Validated}
use Rattle.theory.specs.declared.cut.Cut.{Cut}
use Rattle.theory.specs.Problem.{node_at}
use Rattle.theory.specs.Pools.{push}
use Rattle.theory.specs.CutOf.{cut_of}
use Rattle.theory.specs.View.{problem_of}
use Rattle.cut_pool.specs.declared.entry.Entry.{Entry}
use Rattle.cut_pool.specs.declared.entry.EntryStep.{EntryStep}
use Rattle.cut_make.specs.declared.fault.CertFault.{CertFault}
use Rattle.cut_make.specs.Acceptance.{fault_of}
use Rattle.journal_load.specs.declared.refusal.JournalRefusal.TheVariants.{BadCertificate}
use Rattle.journal_load.specs.declared.refusal.LoadFault.{LoadFault}
use Rattle.journal_load.specs.declared.refusal.LoadFault.TheVariants.{Refused}

-- the cut of a step's certificates over these pools
abbrev pub cut_of_step : Validated → List (List Cut) → EntryStep → Cut
cut_of_step p pools s = cut_of pools (node_at (problem_of p) s.node) s.list

-- the first fault of a step's certificates over these pools
abbrev pub fault_of_step : Validated → List (List Cut) → EntryStep → Option CertFault
fault_of_step p pools s = fault_of pools (node_at (problem_of p) s.node) s.list

-- the pools with the cut, unless there is a fault
abbrev pub unless_fault : ℕ → ℕ → Option CertFault → List (List Cut) → Result (List (List Cut)) LoadFault
unless_fault k m None pools = Ok pools
unless_fault k m (Some fault) pools = Err (Refused (BadCertificate k m fault))

-- the pools with the cut of a step of iteration k behind the others of its node, where its certificates are accepted
unfoldable pub step_added : Validated → ℕ → List (List Cut) → EntryStep → Result (List (List Cut)) LoadFault
step_added p k pools s = unless_fault k s.node (fault_of_step p pools s) (push pools s.node (cut_of_step p pools s))

-- one step after the other, each over the cuts of those before it
unfoldable pub steps_added : Validated → ℕ → List (List Cut) → List EntryStep → Result (List (List Cut)) LoadFault
steps_added p k pools [] = Ok pools
steps_added p k pools (s ∷ ss) = do
  next ← step_added p k pools s
  steps_added p k next ss

-- one entry after the other
unfoldable pub entries_added : Validated → List (List Cut) → List Entry → Result (List (List Cut)) LoadFault
entries_added p pools [] = Ok pools
entries_added p pools (e ∷ es) = do
  next ← steps_added p e.iteration pools e.steps
  entries_added p next es
