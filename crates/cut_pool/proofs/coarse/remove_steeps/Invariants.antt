use Rattle.std.proofs.Common.{◌≡◌, ◌<◌, ◌≤◌, ℕ, length, get_or}
use Rattle.std.specs.Global.{Vec}
use Rattle.std.specs.List.{remove}
use Rattle.cut_pool.proofs.coarse.remove_steeps.Given as goal

abbrev pub invariant-loop-state : goal.invariant-loop-state
invariant-loop-state l = record {
  count : length l.columns ≡ length l.initial.columns;
  removed : (j : ℕ) (d : Vec ℕ) → j < l.state → l.number < length (get_or l.initial.columns j d).items → (get_or l.columns j d).items ≡ remove (get_or l.initial.columns j d).items l.number;
  others : (j : ℕ) (d : Vec ℕ) → l.state ≤ j → get_or l.columns j d ≡ get_or l.initial.columns j d;
}
