use Rattle.std.proofs.Common.{◌≡◌, drop}
use Rattle.lp_price.specs.Folds.{fold_from}
use Rattle.lp_price.specs.Proves.{term_step}
use Rattle.lp_price.proofs.proving.lessen_all.Given as goal

abbrev pub invariant-loop-k : goal.invariant-loop-k
invariant-loop-k l = fold_from (λ k ws t. term_step l.multiplier ws t) 0 l.fn.weights l.terms ≡ fold_from (λ k ws t. term_step l.multiplier ws t) l.k l.weights (drop l.k l.terms)
