-- The versions of a journal.
use Rattle.std.specs.Prelude.{◌≡◌, ◌⊎◌, ◌≤◌, ⊤}
use Rattle.journal_file.specs.declared.head.Head.{Head}
use Rattle.journal_file.specs.declared.head.Head.TheVariants.{Uncommitted, Committed}

-- a journal with a committed header has version 1 and batch 1, or version 2 and a batch of 1 to 64
abbrev pub IsKnown : Head → Type 0
IsKnown (Uncommitted length) = ⊤
IsKnown (Committed version digest seed batch) = ((version ≡ 1) × (batch ≡ 1)) ⊎ ((version ≡ 2) × (1 ≤ batch) × (batch ≤ 64))
