use Rattle.std.proofs.Common.{◌≡◌, ℕ, ◌≤◌, List, length, All, Result, IfOk, sym, ap, subst, ◌∙◌, arith}
use Rattle.std.proofs.lemmas.Result.{IfOk-weaker}
use Rattle.rand_chacha.specs.ChaCha.{ChaCha}
use Rattle.plan_draw.specs.declared.steps.PathStep.{PathStep}
use Rattle.plan_draw.specs.Drawn.{EndsRight, first_node, FollowsArcs, IsInRange, IsPath, path, StartsAtRoot}
use Rattle.plan_draw.proofs.Draws.{path_is, starts_at}
use Rattle.plan_draw.proofs.PathFacts.{drawn}
use Rattle.plan_draw.proofs.paths.path.Goals as goal

pub next-requires : goal.next-requires
next-requires c =
    let at = ap (λ (g : ChaCha). g.word_pos) c.stream_of-words.ensures ∙ starts_at c.args.seed c.args.stream in
    omega (arith, at)

pub steps_from-requires-clause-place : goal.steps_from-requires-clause-place
steps_from-requires-clause-place c =
    let at = ap (λ (g : ChaCha). g.word_pos) c.stream_of-words.ensures ∙ starts_at c.args.seed c.args.stream in
    let moved = ap (λ (g : ChaCha). g.word_pos) c.next.ensures.later in
    omega (arith, at, moved)

-- a fact of the path is one of what was drawn
holds : {E : Type 0} (result : Result (List PathStep) E) (whole : List PathStep) (P : List PathStep → Type 0) → IfOk result (λ steps. steps ≡ whole) → P whole → IfOk result P
holds result whole P value h = IfOk-weaker result (λ steps. steps ≡ whole) P (λ steps is. subst P (sym is) h) value

pub returns : goal.returns
returns c =
    let p = c.args.problem.now in
    let first = ap (λ (w : ℕ). first_node p.parts w) (sym c.next.ensures.word) ∙ c.first_node-first.ensures.value in
    let is = path_is p c.args.seed c.args.stream c.stream_of-words.result c.next.new.words c.first_node-first.result c.stream_of-words.ensures c.next.ensures.later first in
    let steps : List PathStep = path p c.args.seed c.args.stream in
    let value : IfOk c.steps_from.result (λ ss. ss ≡ steps) = IfOk-weaker c.steps_from.result _ _ (λ ss e. e ∙ is) c.steps_from.ensures in
    let facts = drawn p c.first_node-first.ensures.validated c.args.seed c.args.stream in
    record {
      value = value;
      starts = holds c.steps_from.result steps (StartsAtRoot p.parts) value facts.starts;
      follows = holds c.steps_from.result steps (FollowsArcs p.parts) value facts.follows;
      ends = holds c.steps_from.result steps (EndsRight p.parts) value facts.ends;
      in_range = holds c.steps_from.result steps (All (IsInRange p.parts)) value facts.in_range;
      few = holds c.steps_from.result steps (λ ss. length ss ≤ p.longest) value facts.few;
      is_path = holds c.steps_from.result steps (IsPath p) value (record { starts = facts.starts; follows = facts.follows; in_range = facts.in_range });
    }
