use Rattle.std.proofs.Common.{◌∙◌, ◌+ℤ◌, ◌*ℤ◌, ℤ, List, get_or, to_z, SFits, rules, ap}
use mir.Syntax.{w128}
use Rattle.std.specs.Int.{int_max}
use Rattle.std.proofs.lemmas.Int.{to_z-of_z}
use Rattle.base_num.specs.Sums.{entry}
use Rattle.cut_pool.specs.BoxMaxima.{no_box, product_over}
use Rattle.cut_pool.proofs.RaisedBoxMaxima.{summand}
use Rattle.cut_pool.proofs.box_maxima.greatest_over.Goals as goal

pub loop-state-preserved : goal.loop-state-preserved
loop-state-preserved c =
    let fits : SFits w128 c.in_ok-value.value = search rules in
    let slope = to_z-of_z w128 c.slope_at.result (record { sfits = c.slope_at.type_inv }) ∙ c.slope_at.ensures ∙ ap (λ (xs : List ℤ). entry xs c.loop-state.state) c.as_slice-slopes.ensures in
    let held : SFits w128 c.in_ok-product.product = search rules in
    let product = c.in_ok-product.ensures ∙ ap (λ (s : ℤ). int_max (s *ℤ (get_or c.args.boxes.now c.loop-state.state no_box).least) (s *ℤ (get_or c.args.boxes.now c.loop-state.state no_box).greatest)) slope in
    rw (to_z-of_z w128 c.in_ok-value.value fits) (summand c.args.cut.now.alpha (to_z w128 c.loop-state.value-bits) c.in_ok-product.product c.in_ok-value.value c.loop-state.state (product_over c.args.boxes.now c.args.cut.now) c.loop-state.invariant product (c.in_ok-value.ensures ∙ ap (λ (p : ℤ). to_z w128 c.loop-state.value-bits +ℤ p) (to_z-of_z w128 c.in_ok-product.product held)))
