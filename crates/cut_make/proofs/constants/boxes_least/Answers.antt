use Rattle.std.proofs.Common.{◌≡◌, ℕ, ◌-◌, ◌^◌, ◌<◌, ◌≤◌, ℤ, pos, ◌*ℤ◌, ◌≤ℤ◌, List, SFits, length, map, get_or, to_z, of_z, rules, arith, ap, ap₂, sym, subst, ◌∙◌, add-one, nat_abs}
use mir.Syntax.{w128}
use Rattle.std.specs.Int.{int_wrap, int_min}
use Rattle.std.proofs.lemmas.Int.{ints, to_z-of_z}
use Rattle.std.proofs.lemmas.List.{get_or-map}
use Rattle.base_num.specs.Sums.{sum_to, entry}
use Rattle.base_num.proofs.Fronts.{sum_more}
use Rattle.base_num.proofs.Order.{le_trans, le_scale}
use lib.IntN.{*ℤ_comm}
use Rattle.theory.proofs.Fractions.{between}
use Rattle.problem.specs.declared.parts.Decision.{Decision}
use Rattle.theory.specs.Size.{magnitude, reach}
use Rattle.cut_make.proofs.Congruence.{same_add, same_read, exact, in_range}
use Rattle.cut_make.proofs.constants.boxes_least.Goals as goal

-- one end of a box
end_small : (e m d : ℤ) → magnitude e ≤ℤ m → (m *ℤ magnitude d) ≤ℤ pos (2 ^ 127 - 1) → (magnitude d *ℤ magnitude e) ≤ℤ pos (2 ^ 127 - 1)
end_small e m d h k = le_trans (magnitude d *ℤ magnitude e) (magnitude d *ℤ m) (pos (2 ^ 127 - 1)) (le_scale (nat_abs d) (magnitude e) m h) (subst (λ (z : ℤ). z ≤ℤ pos (2 ^ 127 - 1)) (*ℤ_comm m (magnitude d)) k)

low_reach : (low high : List ℤ) (j : ℕ) → magnitude (entry low j) ≤ℤ reach low high j
low_reach low high j = omega (arith, ints)

high_reach : (low high : List ℤ) (j : ℕ) → magnitude (entry high j) ≤ℤ reach low high j
high_reach low high j = omega (arith, ints)

reach_some : (low high : List ℤ) (j : ℕ) → pos 1 ≤ℤ reach low high j
reach_some low high j = omega (arith, ints)

reduced_fits : (m d : ℤ) → pos 1 ≤ℤ m → (m *ℤ magnitude d) ≤ℤ pos (2 ^ 127 - 1) → SFits w128 d
reduced_fits m d h k =
    in_range d (le_trans (magnitude d) (m *ℤ magnitude d) (pos (2 ^ 127 - 1)) (between (magnitude d) (magnitude d *ℤ pos 1) (magnitude d *ℤ m) (m *ℤ magnitude d) (omega (arith, ints)) (le_scale (nat_abs d) (pos 1) m h) (*ℤ_comm (magnitude d) m)) k)

low_at : (ds : List Decision) (j : ℕ) (d : Decision) → j < length ds → d ≡ get_or ds j d → entry (map (λ (d : Decision). d.low) ds) j ≡ d.low
low_at ds j d h e = get_or-map (λ (d : Decision). d.low) ds j d (pos 0) h ∙ ap (λ (d : Decision). d.low) (sym e)

high_at : (ds : List Decision) (j : ℕ) (d : Decision) → j < length ds → d ≡ get_or ds j d → entry (map (λ (d : Decision). d.high) ds) j ≡ d.high
high_at ds j d h e = get_or-map (λ (d : Decision). d.high) ds j d (pos 0) h ∙ ap (λ (d : Decision). d.high) (sym e)

pub loop-j-preserved : goal.loop-j-preserved
loop-j-preserved c = λ d table small.
    let ds : List Decision = c.args.decisions.now in
    let j : ℕ = c.loop-j.j in
    let h : j < length ds = c.loop-j-test.true in
    let v : ℤ = entry c.args.reduced.now j in
    let own : Decision = c.index-decisions-j.result in
    let fits : SFits w128 v = search rules in
    let s : ℤ = to_z w128 c.loop-j.sum-bits in
    let ls : List ℤ = map (λ (e : Decision). e.low) ds in
    let us : List ℤ = map (λ (e : Decision). e.high) ds in
    let part : ℕ → ℤ = λ (i : ℕ). int_min (d i *ℤ entry ls i) (d i *ℤ entry us i) in
    let is : to_z w128 (of_z w128 v) ≡ d j = to_z-of_z w128 v fits ∙ exact v (d j) fits (reduced_fits (reach ls us j) (d j) (reach_some ls us j) (small j h)) (table j (omega (arith, c.requires, h))) in
    let low : entry ls j ≡ own.low = low_at ds j own h c.index-decisions-j.is in
    let high : entry us j ≡ own.high = high_at ds j own h c.index-decisions-j.is in
    let least : c.box_least.result ≡ part j =
    c.box_least.ensures
    (rw is (subst (λ (z : ℤ). (magnitude (d j) *ℤ magnitude z) ≤ℤ pos (2 ^ 127 - 1)) low (end_small (entry ls j) (reach ls us j) (d j) (low_reach ls us j) (small j h))))
    (rw is (subst (λ (z : ℤ). (magnitude (d j) *ℤ magnitude z) ≤ℤ pos (2 ^ 127 - 1)) high (end_small (entry us j) (reach ls us j) (d j) (high_reach ls us j) (small j h))))
    ∙ ap₂ int_min (ap₂ ◌*ℤ◌ is (sym low)) (ap₂ ◌*ℤ◌ is (sym high)) in
    same_read c.wrapping_add-sum.result (record { sfits = c.wrapping_add-sum.type_inv }) ∙ c.wrapping_add-sum.ensures
    ∙ same_add s _ (sum_to j part) (part j) (c.loop-j.invariant d table small) (same_read c.box_least.result (record { sfits = c.box_least.type_inv }) ∙ ap (int_wrap w128) least)
    ∙ ap (int_wrap w128) (sym (sum_more j part) ∙ ap (λ (n : ℕ). sum_to n part) (sym (add-one j)))

pub returns : goal.returns
returns c = λ d table small.
    c.loop-j.invariant d table small
    ∙ ap (λ (n : ℕ). int_wrap w128 (sum_to n (λ j. int_min (d j *ℤ entry (map (λ (e : Decision). e.low) c.args.decisions.now) j) (d j *ℤ entry (map (λ (e : Decision). e.high) c.args.decisions.now) j)))) (ended c.loop-j.auto.j-end c.loop-j-test.false)
  where
    ended : {m n : ℕ} → m ≤ n → n ≤ m → m ≡ n
    ended h k = omega arith
