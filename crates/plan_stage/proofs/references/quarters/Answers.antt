use Rattle.std.proofs.Common.{◌<◌, ◌∙◌, ℕ, ℤ, pos, List, [], length, map, zip, get_or, SFits, w64, rules, ap, ap₂, sym, arith, take_all}
use mir.Syntax.{w128}
use Rattle.std.proofs.lemmas.Int.{to_z-of_z}
use Rattle.std.proofs.lemmas.Slice.Zip.{get_or-zip, length-zip}
use Rattle.plan_stage.specs.Nodes.{quarter}
use Rattle.plan_stage.proofs.Growing.{map_more}
use Rattle.plan_stage.proofs.references.quarters.Goals as goal

pub loop-k-preserved : goal.loop-k-preserved
loop-k-preserved c =
    let low : List ℤ = c.args.low.now in
    let high : List ℤ = c.args.high.now in
    let k : ℕ = c.loop-k.k in
    let in_low : k < length low = omega (arith, c.min-k-end.ensures) in
    let in_high : k < length high = omega (arith, c.min-k-end.ensures) in
    let low_fits : SFits w64 (get_or low k (pos 0)) = search rules in
    let high_fits : SFits w64 (get_or high k (pos 0)) = search rules in
    map_more quarter (zip low high) k (pos 0, pos 0) [] c.loop-k.found c.push.new.self _ (omega (arith, length-zip low high)) c.loop-k.invariant (to_z-of_z w128 c.quarter.result (record { sfits = c.quarter.type_inv }) ∙ c.quarter.ensures ∙ ap₂ (λ (a b : ℤ). quarter (a, b)) (to_z-of_z w64 (get_or low k (pos 0)) low_fits) (to_z-of_z w64 (get_or high k (pos 0)) high_fits) ∙ ap quarter (sym (get_or-zip low high k (pos 0, pos 0) in_low in_high))) c.in_ok-push.ensures

pub returns : goal.returns
returns c =
    let low : List ℤ = c.args.low.now in
    let high : List ℤ = c.args.high.now in
    c.loop-k.invariant ∙ ap (map quarter) (take_all c.loop-k.k (zip low high) (omega (arith, length-zip low high, c.min-k-end.ensures, c.loop-k-test.false)))
