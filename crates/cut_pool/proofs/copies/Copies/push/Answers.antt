use Rattle.std.proofs.Common.{◌≡◌, ◌∙◌, ◌∷◌, ◌++◌, ◌<◌, ◌^◌, ℤ, [], length, arith, ap}
use mir.Syntax.{w128}
use Rattle.std.proofs.lemmas.Int.{to_z-of_z}
use Rattle.lp_program.specs.Covering.{packed_cut_at}
use Rattle.cut_pool.proofs.MoreCuts.{packed_with, seen_with}
use Rattle.cut_pool.proofs.copies.Copies.push.Goals as goal

pub invariant_of-self : goal.invariant_of-self
invariant_of-self c =
    let held = c.self.inside.heights.items in
    let put : c.push_cut.new.heights.items ≡ held ++ c.height-height.result ∷ [] = c.in-Ok.ensures.heights ∙ ap (λ (z : ℤ). held ++ z ∷ []) (to_z-of_z w128 c.height-height.result (record { sfits = c.height-height.type_inv })) in
    let room : length held < 2 ^ 24 = omega (arith, c.len.ensures, c.if-len-ge-MOST_CUTS.false) in
    packed_with c.self.inside.states held c.self.inside.slopes.items c.push_cut.new.heights.items c.push_cut.new.slopes.items c.height-height.result c.slopes-own.result.now c.self.invariant room c.height-height.ensures.small (omega (arith, c.if-own-self.false)) c.slopes-own.ensures.small put c.in-Ok.ensures.slopes

pub returns-in-Ok : goal.returns-in-Ok
returns-in-Ok c =
    let held = c.self.inside.heights.items in
    let put : c.push_cut.new.heights.items ≡ held ++ c.height-height.result ∷ [] = c.in-Ok.ensures.heights ∙ ap (λ (z : ℤ). held ++ z ∷ []) (to_z-of_z w128 c.height-height.result (record { sfits = c.height-height.type_inv })) in
    seen_with c.self.inside.states held c.self.inside.slopes.items c.push_cut.new.heights.items c.push_cut.new.slopes.items c.height-height.result c.slopes-own.result.now c.args.self.now (packed_cut_at c.args.cuts.now c.args.place) c.self.invariant.count (omega (arith, c.if-own-self.false)) put c.in-Ok.ensures.slopes c.self.view_is c.height-height.ensures.value c.slopes-own.ensures.value
