use Rattle.std.proofs.Common.{◌≡◌, length, drop}
use Rattle.lp_program.specs.declared.packed.Out.{Out}
use Rattle.lp_scale.specs.Walks.{walk}
use Rattle.lp_scan.specs.Packed.{with_leaving}
use Rattle.lp_scan.proofs.packed.add_all.Given as goal

abbrev pub invariant-loop-k : goal.invariant-loop-k
invariant-loop-k l = record {
  value : walk (λ k ls (o : Out). with_leaving l.states ls o) 0 l.fn.found l.outs ≡ walk (λ k ls (o : Out). with_leaving l.states ls o) l.k l.found (drop l.k l.outs);
  count : length l.found ≡ length l.fn.found;
}
