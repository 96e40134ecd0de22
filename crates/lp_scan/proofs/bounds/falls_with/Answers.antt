use Rattle.std.proofs.Common.{◌∙◌, ◌^◌, ◌+◌, ℕ, ℤ, Vec, Global, length, SFits, arith, ap, refl, sym, rules}
use Rattle.std.proofs.lemmas.Int.{to_z-of_z}
use Rattle.std.proofs.lemmas.Nat.{pow_pos}
use Rattle.std.proofs.lemmas.Option.{slice_get_read}
use mir.Syntax.{w64}
use Rattle.base_num.specs.Sums.{entry, floor_over}
use Rattle.lp_scan.proofs.Below.{state_below, falls_at, falls_past}
use Rattle.lp_scan.proofs.bounds.falls_with.Goals as goal

pub returns-then-states-j : goal.returns-then-states-j
returns-then-states-j c =
    let coarse = c.args.coarse.now in
    let column = slice_get_read coarse.steeps.now (length coarse.steeps.now) 0 c.index-coarse-0.result refl (omega (arith, c.requires.some, c.requires.lists)) c.index-coarse-0.is in
    let items = c.as_slice.ensures.value ∙ ap (λ (v : Vec ℕ Global). v.items) (sym c.index-coarse-0.is) in
    falls_past c.args.cuts.now c.args.states.now c.args.j coarse.slope_shift (coarse.slope_shift + coarse.state_shift) _ c.index-coarse-0.result.items items (c.requires.coarse.steeps 0 c.index-coarse-0.result column) refl c.if-states-j.true

pub returns-in-Some : goal.returns-in-Some
returns-in-Some c =
    let xs = c.args.states.now in
    let j = c.args.j in
    let coarse = c.args.coarse.now in
    let x = c.in-Some.state in
    let fits : SFits w64 (entry xs j) = search rules in
    let below = state_below (entry xs j) x coarse.state_shift (pow_pos coarse.state_shift) (c.in-Some.ensures.below ∙ ap (λ (v : ℤ). floor_over v (2 ^ coarse.state_shift)) (to_z-of_z w64 (entry xs j) fits)) in
    let column = slice_get_read coarse.steeps.now (length coarse.steeps.now) j c.index-coarse-j.result refl (omega (arith, c.if-states-j.false, c.requires.lists)) c.index-coarse-j.is in
    let items = c.as_slice-in-Some.ensures.value ∙ ap (λ (v : Vec ℕ Global). v.items) (sym c.index-coarse-j.is) in
    falls_at c.args.cuts.now xs j coarse.slope_shift coarse.state_shift _ c.index-coarse-j.result.items items (c.requires.coarse.steeps j c.index-coarse-j.result column) c.in-Some.ensures.few below
