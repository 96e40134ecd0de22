use Rattle.std.proofs.Common.{◌≡◌, ◌∙◌, ◌^◌, ◌<◌, ℕ, ℤ, List, Vec, Global, length, nat_abs, All, ◌⊎◌, refl, ap, subst, arith}
use Rattle.base_num.specs.Sums.{entry}
use Rattle.lp_program.specs.Covering.{packed_cut_at}
use Rattle.lp_program.specs.SlopeEnds.{IsLevel, IsUndercut}
use Rattle.cut_pool.proofs.SlopeRanges.{raised, known, put}
use Rattle.cut_pool.proofs.slope_range.SlopeRange.add.Goals as goal

pub returns-then-is_known : goal.returns-then-is_known
returns-then-is_known c = λ _.
    let all = c.args.cuts.now in
    let was = c.args.self.now.greatest.items in
    let count : length (packed_cut_at all c.args.place).slopes ≡ length was = omega (arith, ap (λ (xs : List ℤ). length xs) c.slopes-slopes.ensures.value, c.if-slopes-len.false, c.len.ensures) in
    known all c.args.place c.args.self.now _ count c.requires.before c.raise_kept.ensures.count
    (λ j l. c.raise_kept.ensures.value j l ∙ ap (λ (xs : List ℤ). raised (entry was j) (entry xs j)) c.slopes-slopes.ensures.value)
    (subst (λ (xs : List ℤ). All (λ s. nat_abs s < 2 ^ 57) xs) c.slopes-slopes.ensures.value c.slopes-slopes.ensures.small) refl
    (subst (λ (ps : List ℕ). IsLevel (packed_cut_at all c.args.place) ⊎ IsUndercut all ps (packed_cut_at all c.args.place)) c.as_slice.ensures.value (c.is_known.ensures c.if-is_known.true))

pub returns : goal.returns
returns c = λ more.
    let all = c.args.cuts.now in
    let was = c.args.self.now.greatest.items in
    let count : length (packed_cut_at all c.args.place).slopes ≡ length was = omega (arith, ap (λ (xs : List ℤ). length xs) c.slopes-slopes.ensures.value, c.if-slopes-len.false, c.len.ensures) in
    put all c.args.place c.args.self.now c.put.new.self count c.requires.before
    (ap (λ (v : Vec ℤ Global). length v.items) c.put.ensures.greatest ∙ c.raise_kept.ensures.count)
    (λ j l. ap (λ (v : Vec ℤ Global). entry v.items j) c.put.ensures.greatest ∙ c.raise_kept.ensures.value j l ∙ ap (λ (xs : List ℤ). raised (entry was j) (entry xs j)) c.slopes-slopes.ensures.value)
    (subst (λ (xs : List ℤ). All (λ s. nat_abs s < 2 ^ 57) xs) c.slopes-slopes.ensures.value c.slopes-slopes.ensures.small) (c.put.ensures.least more)
