use Rattle.std.proofs.Common.{◌≡◌, ◌<◌, length, get_or, ap, sym, subst, ◌∙◌, arith}
use Rattle.std.proofs.lemmas.List.Elements.{Contains-get_or}
use Rattle.base_graph.specs.Search.{Progress, come_all, marks_of}
use Rattle.base_graph.proofs.Searches.{Searched, search_begun, search_goes_on, search_ends, marks_reached}
use Rattle.base_graph.proofs.search.marks.Goals as goal

pub loop-at-init : goal.loop-at-init
loop-at-init c =
    let found = c.in_ok-come_all.ensures.found ∙ ap (λ (s : Progress). come_all s.found c.args.starts.now) c.in_ok-search.ensures in (
      c.come_all.ensures.count ∙ ap (λ (s : Progress). s.count) c.in_ok-search.ensures,
      rw found (search_begun c.args.graph.now c.args.starts.now c.requires.starts),
    )

pub successors-requires : goal.successors-requires
successors-requires c =
    let place : c.loop-at.at < length c.loop-at.search.found = omega (arith, c.loop-at-test.true, c.len.ensures) in
    rw c.node.ensures (c.loop-at.invariant.1.below (get_or c.loop-at.search.found c.loop-at.at 0) (Contains-get_or c.loop-at.search.found c.loop-at.at 0 place))

pub loop-at-smaller : goal.loop-at-smaller
loop-at-smaller c =
    omega (arith, search_ends c.args.graph.now c.args.starts.now c.loop-at.search.found c.loop-at.at c.loop-at.invariant.1, c.loop-at-test.true, c.len.ensures)

pub loop-at-preserved : goal.loop-at-preserved
loop-at-preserved c =
    let place : c.loop-at.at < length c.loop-at.search.found = omega (arith, c.loop-at-test.true, c.len.ensures) in (
      c.come_all-in-loop-at.ensures.count ∙ c.loop-at.invariant.0,
      rw (c.in_ok-come_all-2.ensures.found, c.successors.ensures, c.node.ensures)
          (search_goes_on c.args.graph.now c.args.starts.now c.loop-at.search.found c.loop-at.at c.requires.known place c.loop-at.invariant.1),
    )

pub returns : goal.returns
returns c =
    let end : c.loop-at.at ≡ length c.loop-at.search.found = omega (arith, c.loop-at-test.false, c.len.ensures, c.loop-at.invariant.1.place) in
    let whole : Searched c.args.graph.now c.args.starts.now c.loop-at.search.found (length c.loop-at.search.found) =
    subst (Searched c.args.graph.now c.args.starts.now c.loop-at.search.found) end c.loop-at.invariant.1 in
    c.into_marks.ensures ∙ ap (λ n. marks_of n c.loop-at.search.found) c.loop-at.invariant.0
    ∙ sym (marks_reached c.args.graph.now c.args.starts.now c.loop-at.search.found c.requires.known whole)
