use Rattle.std.proofs.Common.{◌≡◌, length, ◌-◌, ◌≤◌, take}
use Rattle.std.specs.Io.KnownBytes.{Appends}
use Rattle.run_program.proofs.writing.put.Given as goal

abbrev pub invariant-loop-at : goal.invariant-loop-at
invariant-loop-at g l = record {
  front : Appends (g.O.Sink.taken l.initial.out) (g.O.Sink.taken l.out) (take l.at l.text);
  inside : l.at ≤ length l.text;
  later : g.O.Sink.faults l.initial.out ≤ g.O.Sink.faults l.out;
  stayed : g.O.Sink.faults l.out ≡ g.O.Sink.faults l.initial.out;
}

abbrev pub decreases-loop-at : goal.decreases-loop-at
decreases-loop-at g l = length l.text - l.at
