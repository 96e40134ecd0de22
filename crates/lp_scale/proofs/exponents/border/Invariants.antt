use Rattle.std.proofs.Common.{◌≡◌, max, drop}
use Rattle.lp_scale.specs.Walks.{walk}
use Rattle.lp_scale.specs.Exponents.{term_size}
use Rattle.lp_scale.proofs.exponents.border.Given as goal

abbrev pub invariant-loop-k : goal.invariant-loop-k
invariant-loop-k l = walk (λ j m t. max m (term_size l.reaches t)) 0 0 l.terms ≡ walk (λ j m t. max m (term_size l.reaches t)) l.k l.most (drop l.k l.terms)
