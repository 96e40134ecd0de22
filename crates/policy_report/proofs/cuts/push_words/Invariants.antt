use Rattle.std.proofs.Common.{◌≡◌, ◌++◌, drop}
use Rattle.std.specs.Io.{StartsWith}
use Rattle.std.specs.List.{flat_map}
use Rattle.policy_report.specs.Report.{word}
use Rattle.policy_report.proofs.cuts.push_words.Given as goal

abbrev pub invariant-loop-number : goal.invariant-loop-number
invariant-loop-number l =
    (l.out.items ++ flat_map word (drop l.number-index l.numbers) ≡ l.initial.out.items ++ flat_map word l.numbers)
    × StartsWith l.out.items l.initial.out.items
