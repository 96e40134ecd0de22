-- Decisions that are fractions u/N, as decisions in units of 1/(S*N).
use Rattle.std.proofs.Common.{◌≡◌, ℕ, ◌*◌, ◌<◌, ℤ, pos, ◌+ℤ◌, ◌*ℤ◌, List, [], ◌∷◌, get_or, ap₂, sym, subst, ◌∙◌}
use Rattle.std.proofs.lemmas.List.{length-map}
use Rattle.base_num.specs.Sums.{entry, at_terms}
use Rattle.base_num.proofs.Order.{le_scale}
use Rattle.base_num.proofs.Ring.{ring, var, ◌⊗◌}
use Rattle.problem.specs.declared.parts.Row.{Row}
use Rattle.theory.specs.Problem.{S, Node}
use Rattle.theory.specs.Tree.{InBox, AtLeast, AtMost, Decides, left_side, times_all}
use Rattle.theory.proofs.Fractions.{between}
use Rattle.plan_answer.specs.Farkas.{NoDecision, fraction_side, FractionsDecide}
use Rattle.plan_answer.proofs.Refuted.{entry_times, terms_times}

module _ (units : ℕ) (n : Node) (values x u : List ℤ) where
  same_side : (row : Row) → fraction_side units values x u row ≡ left_side (S * units) values (times_all units x) (times_all S u) row
  same_side row = sym (ap₂ (λ (a b : ℤ). a +ℤ b +ℤ pos (S * units) *ℤ at_terms row.randoms (entry values)) (terms_times S u row.decisions) (terms_times units x row.states))

  boxed : InBox units n.decision_low n.decision_high u → InBox (S * units) n.decision_low n.decision_high (times_all S u)
  boxed b = record {
    count = length-map u (λ (z : ℤ). pos S *ℤ z) ∙ b.count;
    above = λ k h. between (pos (S * units) *ℤ entry n.decision_low k) (pos S *ℤ (pos units *ℤ entry n.decision_low k)) (pos S *ℤ entry u k) (entry (times_all S u) k)
        (ring (pos S ∷ pos units ∷ entry n.decision_low k ∷ []) (var 0 ⊗ var 1 ⊗ var 2) (var 0 ⊗ (var 1 ⊗ var 2)) tt) (le_scale S (pos units *ℤ entry n.decision_low k) (entry u k) (b.above k h)) (sym (entry_times S u k));
    below = λ k h. between (entry (times_all S u) k) (pos S *ℤ entry u k) (pos S *ℤ (pos units *ℤ entry n.decision_high k)) (pos (S * units) *ℤ entry n.decision_high k)
        (entry_times S u k) (le_scale S (entry u k) (pos units *ℤ entry n.decision_high k) (b.below k h)) (ring (pos S ∷ pos units ∷ entry n.decision_high k ∷ []) (var 0 ⊗ (var 1 ⊗ var 2)) (var 0 ⊗ var 1 ⊗ var 2) tt);
  }

  whole : FractionsDecide units n values x u → Decides (S * units) n values (times_all units x) (times_all S u)
  whole f = record {
    box = boxed f.box;
    rows = λ k d h. record {
      low = subst (λ (z : ℤ). AtLeast (get_or n.rows k d).low (S * units) z) (same_side (get_or n.rows k d)) (f.low k d h);
      high = subst (λ (z : ℤ). AtMost (get_or n.rows k d).high (S * units) z) (same_side (get_or n.rows k d)) (f.high k d h);
    };
  }

pub no_fractions : (n : Node) (values x : List ℤ) → NoDecision n values x → (units : ℕ) (u : List ℤ) → 0 < units → ¬ FractionsDecide units n values x u
no_fractions n values x none units u p f = none units (times_all S u) p (whole units n values x u f)
