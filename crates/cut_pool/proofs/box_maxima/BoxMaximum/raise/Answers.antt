use Rattle.std.proofs.Common.{◌≡◌, ◌∙◌, ◌∷◌, ◌++◌, ℤ, [], ap, refl, sym, rules, SFits, is_ok}
use mir.Syntax.{w128}
use Rattle.std.proofs.lemmas.Int.{to_z-of_z}
use Rattle.cut_pool.proofs.RaisedBoxMaxima.{raised_read, so_where}
use Rattle.cut_pool.proofs.box_maxima.BoxMaximum.raise.Goals as goal

pub returns : goal.returns
returns c = λ went cuts is.
    let held = c.args.self.now.values.items in
    let fits : SFits w128 c.in-Some.value = search rules in
    let put : c.push.new.self.items ≡ held ++ c.greatest_yet-greatest.result ∷ [] = so_where (is_ok c.push.result) _ _ _ (sym c.is_ok.ensures.value ∙ went) c.push.ensures.items
    ∙ ap (λ (z : ℤ). held ++ z ∷ []) (to_z-of_z w128 c.greatest_yet-greatest.result (record { sfits = c.greatest_yet-greatest.type_inv })) in
    raised_read cuts c.args.cut.now c.args.self.now _ c.as_slice.result.now c.as_slice-2.result.now _ c.greatest_yet-greatest.result is refl put
    c.as_slice.ensures c.as_slice-2.ensures.value (to_z-of_z w128 c.in-Some.value fits ∙ c.in-Some.ensures)
    c.greatest_yet-greatest.ensures.first c.greatest_yet-greatest.ensures.later
