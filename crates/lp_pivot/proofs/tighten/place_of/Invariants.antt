use Rattle.std.proofs.Common.{◌≡◌, ◌<◌, length, drop, IfSome, None}
use Rattle.lp_pivot.specs.Tighten.{place_from}
use Rattle.lp_pivot.proofs.tighten.place_of.Given as goal

abbrev pub invariant-loop-j : goal.invariant-loop-j
invariant-loop-j l = record {
  inside : IfSome l.best (λ b. b < length l.line);
  place : place_from l.basis l.line None 0 l.nonbasic ≡ place_from l.basis l.line l.best l.j (drop l.j l.nonbasic);
}
