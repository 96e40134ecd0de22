use Rattle.std.proofs.Common.{◌≡◌, ℕ, ◌<◌, ◌≤◌, ℤ, pos, ◌+ℤ◌, ◌*ℤ◌, SFits, List, length, zip, get_or, take, to_z, of_z, rules, arith, ap, ap₂, sym, ◌∙◌, take_all}
use mir.Syntax.{w128}
use Rattle.std.specs.Int.{int_wrap}
use Rattle.std.proofs.lemmas.Int.{to_z-of_z}
use Rattle.std.proofs.lemmas.Slice.Zip.{get_or-zip, length-zip}
use Rattle.base_num.specs.Sums.{Term, entry, same_place, coefficient, placed}
use Rattle.cut_make.proofs.Tables.{tabled_as, more_times, placed_zip}
use Rattle.cut_make.proofs.reduced_costs.add_slopes.Goals as goal

placed_count : (ps : List ℕ) (xs : List ℤ) (i : ℕ) → i < length ps → i < length xs → i < length (placed ps xs)
placed_count ps xs i h k = omega (arith, length-zip ps xs, ap length (placed_zip ps xs))

placed_all : (ps : List ℕ) (xs : List ℤ) (i m : ℕ) → m ≡ length (zip ps xs) → m ≤ i → length (placed ps xs) ≤ i
placed_all ps xs i m e h = omega (arith, ap length (placed_zip ps xs))

placed_at : (ps : List ℕ) (xs : List ℤ) (i : ℕ) → i < length ps → i < length xs → get_or (placed ps xs) i (0, pos 0) ≡ (get_or ps i 0, entry xs i)
placed_at ps xs i h k = ap (λ (ts : List Term). get_or ts i (0, pos 0)) (placed_zip ps xs) ∙ get_or-zip ps xs i (0, pos 0) h k

pub loop-s-preserved : goal.loop-s-preserved
loop-s-preserved c =
    let ps : List ℕ = c.args.outs.now in
    let xs : List ℤ = c.args.slopes.now in
    let i : ℕ = c.loop-s.s in
    let m : ℤ = to_z w128 (of_z w128 c.args.multiplier) in
    let h : i < length ps = omega (arith, c.min-s-end.ensures) in
    let k : i < length xs = omega (arith, c.min-s-end.ensures) in
    let fits : SFits w128 (entry xs i) = search rules in
    record {
      count = omega (arith, c.add_at.ensures.count, c.loop-s.invariant.count);
      value = λ f t. tabled_as _ _ c.add_at.new.sums
          (λ j. ap (int_wrap w128)
          (ap (λ (b : ℤ). f j +ℤ m *ℤ coefficient (take i (placed ps xs)) j +ℤ m *ℤ (b *ℤ same_place (get_or ps i 0) j)) (to_z-of_z w128 (entry xs i) fits)
          ∙ more_times (λ (t : Term). t.1 *ℤ same_place t.0 j) (placed ps xs) i (0, pos 0) (f j) m (entry xs i *ℤ same_place (get_or ps i 0) j) (placed_count ps xs i h k) (sym (ap (λ (t : Term). t.1 *ℤ same_place t.0 j) (placed_at ps xs i h k)))))
          (c.add_at.ensures.value _ (c.loop-s.invariant.value f t));
    }

pub returns-clause-value : goal.returns-clause-value
returns-clause-value c = λ f t. tabled_as _ _ c.loop-s.sums
    (λ j. ap₂ (λ (m : ℤ) (ts : List Term). int_wrap w128 (f j +ℤ m *ℤ coefficient ts j)) (to_z-of_z w128 c.args.multiplier c.ranges.multiplier)
    (take_all c.loop-s.s (placed c.args.outs.now c.args.slopes.now) (placed_all c.args.outs.now c.args.slopes.now c.loop-s.s c.min-s-end.result (c.min-s-end.ensures ∙ sym (length-zip c.args.outs.now c.args.slopes.now)) c.loop-s-test.false)))
    (c.loop-s.invariant.value f t)
