use Rattle.std.proofs.Common.{◌∙◌, ℕ, List, [], ◌∷◌, ◌++◌, map, take, sym, ap}
use Rattle.std.proofs.lemmas.List.{map_more}
use Rattle.theory.specs.declared.cut.Certificate.{Certificate}
use Rattle.cut_check.specs.Bases.{certificate_of}
use Rattle.policy_robust.proofs.base.certificates.Goals as goal

pub loop-preserved : goal.loop-preserved
loop-preserved c =
    let made = certificate_of c.args.node.now c.args.sub.now in
    c.in_ok-push.ensures
    ∙ ap (λ (list : List Certificate). list ++ c.in_ok-base_certificate.field-0 ∷ []) c.loop.invariant
    ∙ ap (λ (one : Certificate). map (λ (w : ℕ). made) (take c.loop.index c.args.weights.now) ++ one ∷ []) c.in_ok-base_certificate.ensures.value
    ∙ sym (map_more (λ (w : ℕ). made) c.args.weights.now c.loop.index 0 c.loop-test.true)
