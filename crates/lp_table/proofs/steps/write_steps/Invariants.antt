use Rattle.std.proofs.Common.{◌≡◌, ◌≤◌, ◌++◌, length, take, drop}
use Rattle.lp_table.specs.Sparse.{sparse}
use Rattle.lp_table.proofs.steps.write_steps.Given as goal

abbrev pub invariant-loop-j : goal.invariant-loop-j
invariant-loop-j l = record {
  lengths : length l.steps ≡ length l.fn.steps;
  few : l.count ≤ l.j;
  kept : sparse 0 l.line ≡ take l.count l.steps ++ sparse l.j (drop l.j l.line);
}
