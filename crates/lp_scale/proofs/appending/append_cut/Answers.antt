use Rattle.std.proofs.Common.{◌≡◌, rules, ℕ, true, arith}
use Rattle.std.proofs.lemmas.Bool.Decides.{nat_tests}
use Rattle.lp_scale.proofs.appending.append_cut.Goals as goal

pub returns-clause-small : goal.returns-clause-small
returns-clause-small c = λ _. λ (most : ℕ) w.
    let t : c.in_ok-append_row.field-0 ≡ true = first_of (search rules, grind (arith, nat_tests)) in
    c.in_ok-append_row.ensures.small t most w
