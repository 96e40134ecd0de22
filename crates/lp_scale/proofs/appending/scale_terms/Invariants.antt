use Rattle.std.proofs.Common.{◌≡◌, drop}
use Rattle.base_num.specs.Each.{each_from}
use Rattle.base_num.proofs.Each.{behind}
use Rattle.lp_scale.specs.Appending.{scaled_term, scaled_terms}
use Rattle.lp_scale.proofs.appending.scale_terms.Given as goal

abbrev pub invariant-loop-k : goal.invariant-loop-k
invariant-loop-k l = scaled_terms l.exponents l.exponent l.terms ≡ behind l.found (each_from (λ k t. scaled_term l.exponents l.exponent t) l.k (drop l.k l.terms))
