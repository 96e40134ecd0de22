use Rattle.std.proofs.Common.{◌≡◌, ◌+◌, ◌-◌, ◌^◌, ◌≤◌, length}
use Rattle.std.specs.Io.KnownBytes.{Consumes}
use Rattle.run_program.proofs.reading.gather.Given as goal

abbrev pub invariant-loop-chunk : goal.invariant-loop-chunk
invariant-loop-chunk g l = record {
  taken : Consumes (g.I.Source.left l.initial.source) (g.I.Source.left l.source) l.bytes.items;
  later : g.I.Source.faults l.initial.source ≤ g.I.Source.faults l.source;
  stayed : g.I.Source.faults l.source ≡ g.I.Source.faults l.initial.source;
  size : length l.bytes.items ≤ 2 ^ 24 + 1;
}

abbrev pub decreases-loop-chunk : goal.decreases-loop-chunk
decreases-loop-chunk g l = 2 ^ 24 + 1 - length l.bytes.items
