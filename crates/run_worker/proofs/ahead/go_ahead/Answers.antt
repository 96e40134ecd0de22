use Rattle.std.proofs.Common.{◌≡◌, ◌*◌, ℕ, true, List, length, ap, subst, ◌∙◌, arith}
use Rattle.std.proofs.lemmas.List.{length-map}
use Rattle.problem.specs.Validated.{Validated, is_validated}
use Rattle.problem.proofs.ValidatedFacts.{parts-is_validated, few_nodes}
use Rattle.theory.specs.declared.cut.Cut.{Cut}
use Rattle.plan_train.proofs.Growing.{cut_back-extended}
use Rattle.run_worker.proofs.ahead.go_ahead.Goals as goal

pub counts-requires : goal.counts-requires
counts-requires g c =
    let few = few_nodes c.args.planner.now.problem.now.parts (parts-is_validated c.args.planner.now.problem.now (subst (λ (p : Validated). is_validated p ≡ true) c.problem-problem.ensures c.parts.ensures.validated)) in
    rw c.make_ready.ensures (omega (arith, few, c.requires.fit.lists))

pub cut_back-requires-clause-nodes : goal.cut_back-requires-clause-nodes
cut_back-requires-clause-nodes g c =
    let few = few_nodes c.args.planner.now.problem.now.parts (parts-is_validated c.args.planner.now.problem.now (subst (λ (p : Validated). is_validated p ≡ true) c.problem-problem.ensures c.parts.ensures.validated)) in
    let counted = ap (λ (ns : List ℕ). length ns) (c.as_slice.ensures ∙ c.in_ok-counts.ensures) ∙ length-map c.make_ready.new.pools.lists (λ (cuts : List Cut). length cuts) in
    let nodes : length c.make_ready.new.pools.lists ≡ length c.args.pools.now.lists = ap (λ pools. length pools.lists) c.make_ready.ensures in
    omega (arith, few, c.requires.fit.lists, counted, nodes)

pub returns : goal.returns
returns g c =
    cut_back-extended (c.args.stretch.count * c.args.stretch.batch) c.make_ready.new.pools.lists c.answer_all.new.pools.lists c.cut_back.new.pools.lists c.as_slice.result.now (c.as_slice.ensures ∙ c.in_ok-counts.ensures) c.in_ok-answer_all.ensures c.cut_back.ensures.count c.cut_back.ensures.cuts
    ∙ ap (λ pools. pools.lists) c.make_ready.ensures
