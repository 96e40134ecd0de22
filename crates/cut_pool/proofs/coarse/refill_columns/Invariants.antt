use Rattle.std.proofs.Common.{◌≡◌, ◌<◌, ◌≤◌, ℕ, length, get_or}
use Rattle.std.specs.Global.{Vec}
use Rattle.lp_program.specs.Coarse.{AreSteeps}
use Rattle.cut_pool.specs.CoarseLists.{AreFrontColumns}
use Rattle.cut_pool.proofs.coarse.refill_columns.Given as goal

abbrev pub invariant-loop-state : goal.invariant-loop-state
invariant-loop-state l = record {
  count : length l.columns ≡ length l.initial.columns;
  steeps : AreFrontColumns l.shift l.kept l.cuts l.initial.columns → (j : ℕ) (d : Vec ℕ) → j < l.state → AreSteeps l.shift l.cuts j (get_or l.columns j d).items;
  others : (j : ℕ) (d : Vec ℕ) → l.state ≤ j → get_or l.columns j d ≡ get_or l.initial.columns j d;
}
