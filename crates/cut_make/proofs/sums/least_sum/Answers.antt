use Rattle.std.proofs.Common.{ℕ, ◌-◌, ◌^◌, ◌<◌, ℤ, pos, ◌*ℤ◌, ◌≤ℤ◌, List, length, map, subst, ◌∙◌}
use Rattle.std.specs.Int.{int_min}
use Rattle.base_num.specs.Sums.{sum_to, entry}
use Rattle.problem.specs.declared.parts.Decision.{Decision}
use Rattle.theory.specs.Size.{magnitude, reach}
use Rattle.cut_make.specs.Congruent.{Congruent}
use Rattle.cut_make.specs.Tabled.{Tabled}
use Rattle.cut_make.specs.Parts.{costs_at_scale, reduced_at}
use Rattle.cut_make.proofs.Congruence.{same_read}
use Rattle.cut_make.proofs.sums.least_sum.Goals as goal

pub returns-clause-value : goal.returns-clause-value
returns-clause-value c = λ k costs small.
    let h = c.args.here.now in
    let d : ℕ → ℤ = reduced_at k h.pools.now.lists h.node.now h.subproblem.now c.args.certificate.now in
    let table : Tabled d c.add_multipliers.new.sums = c.add_multipliers.ensures.value (costs_at_scale k h.subproblem.now) costs in
    same_read c.boxes_least.result (record { sfits = c.boxes_least.type_inv })
    ∙ subst (λ (ds : List Decision). ((j : ℕ) → j < length ds → (reach (map (λ (e : Decision). e.low) ds) (map (λ (e : Decision). e.high) ds) j *ℤ magnitude (d j)) ≤ℤ pos (2 ^ 127 - 1))
    → Congruent c.boxes_least.result (sum_to (length ds) (λ j. int_min (d j *ℤ entry (map (λ (e : Decision). e.low) ds) j) (d j *ℤ entry (map (λ (e : Decision). e.high) ds) j))))
    c.as_slice.ensures (c.boxes_least.ensures d table) small
