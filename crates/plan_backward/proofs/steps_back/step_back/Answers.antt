use Rattle.std.proofs.Common.{◌∙◌, ◌<◌, [], ◌∷◌, ◌++◌, List, length, All, ap, sym, subst, refl}
use Rattle.std.proofs.lemmas.List.{get_or-set_other}
use Rattle.std.proofs.lemmas.List.Elements.{All-push}
use Rattle.theory.specs.declared.cut.Cut.{Cut}
use Rattle.theory.specs.Pools.{pool, push, Sound}
use Rattle.theory.specs.View.{problem_of}
use Rattle.theory.proofs.Appending.{push_sound}
use Rattle.cut_pool.specs.AtNodes.{PoolsFit}
use Rattle.cut_pool.specs.declared.entry.EntryStep.{EntryStep}
use Rattle.plan_backward.proofs.Cuts.{fit_push}
use Rattle.plan_backward.proofs.StepsBack.{taken-push}
use Rattle.plan_backward.proofs.steps_back.step_back.Goals as goal

pub returns-clause-fit : goal.returns-clause-fit
returns-clause-fit g c =
    let p = c.args.planner.now.problem.now in
    let pushed = c.in_ok-push-2.ensures.cuts ∙ ap (λ (lists : List (List Cut)). push lists c.args.reached.now.step.node c.in_ok-found.cut) c.in_ok-reserve.ensures.cuts in
    subst (λ (lists : List (List Cut)). PoolsFit p lists) (sym pushed) (fit_push (problem_of p) (length p.parts.nodes) c.args.pools.now.lists c.args.reached.now.step.node c.in_ok-found.cut c.requires.visit.fit c.in_ok-found.ensures.fits)

pub returns-clause-sound : goal.returns-clause-sound
returns-clause-sound g c = λ sound.
    let p = c.args.planner.now.problem.now in
    let pushed = c.in_ok-push-2.ensures.cuts ∙ ap (λ (lists : List (List Cut)). push lists c.args.reached.now.step.node c.in_ok-found.cut) c.in_ok-reserve.ensures.cuts in
    subst (λ (lists : List (List Cut)). Sound (problem_of p) lists) (sym pushed) (push_sound (problem_of p) c.args.pools.now.lists c.args.reached.now.step.node c.in_ok-found.cut sound (c.in_ok-found.ensures.holds sound))

pub returns-clause-taken : goal.returns-clause-taken
returns-clause-taken g c =
    let pushed = c.in_ok-push-2.ensures.cuts ∙ ap (λ (lists : List (List Cut)). push lists c.args.reached.now.step.node c.in_ok-found.cut) c.in_ok-reserve.ensures.cuts in
    taken-push c.args.pools.now.lists _ _ c.args.entry.now.steps _ (record { node = c.args.reached.now.step.node; list = c.in_ok-found.found.list }) c.in_ok-found.cut pushed c.in_ok-push.ensures refl

pub returns-clause-others : goal.returns-clause-others
returns-clause-others g c = λ k other.
    let pushed = c.in_ok-push-2.ensures.cuts ∙ ap (λ (lists : List (List Cut)). push lists c.args.reached.now.step.node c.in_ok-found.cut) c.in_ok-reserve.ensures.cuts in
    ap (λ (lists : List (List Cut)). pool lists k) pushed ∙ get_or-set_other c.args.pools.now.lists c.args.reached.now.step.node k (pool c.args.pools.now.lists c.args.reached.now.step.node ++ c.in_ok-found.cut ∷ []) [] other

pub returns-clause-known : goal.returns-clause-known
returns-clause-known g c = λ known.
    let p = c.args.planner.now.problem.now in
    subst (λ (steps : List EntryStep). All (λ (s : EntryStep). s.node < length p.parts.nodes) steps) (sym c.in_ok-push.ensures) (All-push (λ (s : EntryStep). s.node < length p.parts.nodes) c.args.entry.now.steps (record { node = c.args.reached.now.step.node; list = c.in_ok-found.found.list }) known c.requires.visit.known)
