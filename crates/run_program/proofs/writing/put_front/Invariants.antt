use Rattle.std.proofs.Common.{length, ◌≤◌, take}
use Rattle.std.specs.Io.KnownBytes.{Appends}
use Rattle.run_program.proofs.writing.put_front.Given as goal

abbrev pub invariant-loop : goal.invariant-loop
invariant-loop g l = record {
  front : Appends (g.W.Write.contents l.initial.output) (g.W.Write.contents l.output) (take l.at l.text);
  inside : l.at ≤ length l.text;
}
