use Rattle.std.proofs.Common.{◌≡◌, drop}
use Rattle.lp_scale.specs.Fitting.{Fits}
use Rattle.lp_scan.specs.Scan.{asked_for}
use Rattle.lp_scan.specs.Steps.{Grows}
use Rattle.lp_scan.proofs.scanning.ask_all.Given as goal

abbrev pub invariant-loop-k : goal.invariant-loop-k
invariant-loop-k l = record {
  value : asked_for l.lp l.greatest l.fn.table ≡ asked_for l.lp (drop l.k l.greatest) l.table;
  fits : Fits l.table l.lp;
  grows : Grows l.fn.table l.table;
}
