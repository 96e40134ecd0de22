use Rattle.std.proofs.Common.{◌≡◌, ◌<◌, ◌≤◌, ◌∷◌, ◌++◌, ℕ, [], List, length, get_or, All}
use Rattle.theory.specs.declared.cut.Cut.{Cut}
use Rattle.cut_pool.specs.declared.box_maxima.BoxMaximum.{BoxMaximum}
use Rattle.cut_pool.specs.BoxMaxima.{IsBoxMaximum}
use Rattle.cut_pool.proofs.pool.raise_all.Given as goal

abbrev pub invariant-loop-i : goal.invariant-loop-i
invariant-loop-i l = record {
  count : length l.box_maxima ≡ length l.initial.box_maxima;
  raised : (cuts : List Cut) → All (IsBoxMaximum cuts) l.initial.box_maxima → (k : ℕ) (d : BoxMaximum) → k < l.i → IsBoxMaximum (cuts ++ l.cut ∷ []) (get_or l.box_maxima k d);
  others : (k : ℕ) (d : BoxMaximum) → l.i ≤ k → get_or l.box_maxima k d ≡ get_or l.initial.box_maxima k d;
}
