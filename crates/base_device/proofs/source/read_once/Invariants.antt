use Rattle.std.specs.Io.KnownBytes.{Keeps}
use Rattle.base_device.proofs.source.read_once.Given as goal

-- the interrupted calls changed nothing
abbrev pub invariant-loop : goal.invariant-loop
invariant-loop g l = Keeps (g.R.Read.remaining l.initial.input) (g.R.Read.remaining l.input)
