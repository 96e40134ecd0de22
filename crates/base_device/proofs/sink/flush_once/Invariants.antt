use Rattle.std.specs.Io.KnownBytes.{Keeps}
use Rattle.base_device.proofs.sink.flush_once.Given as goal

-- the interrupted calls changed nothing
abbrev pub invariant-loop : goal.invariant-loop
invariant-loop g l = Keeps (g.W.Write.contents l.initial.output) (g.W.Write.contents l.output)
