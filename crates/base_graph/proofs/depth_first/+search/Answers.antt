use Rattle.std.proofs.Common.{◌≡◌, ◌<◌, [], length, set, sym, subst, arith, true, ap, length-set}
use Rattle.base_num.proofs.Tests.{all_at}
use Rattle.base_graph.specs.Paths.{are_known}
use Rattle.base_graph.specs.DepthFirst.{rank_of, is_ranked, RankAbove, LeadTo}
use Rattle.base_graph.specs.declared.depth_first.Mark.TheVariants.{Open}
use Rattle.base_graph.proofs.Paths.{known_at}
use Rattle.base_graph.proofs.RankTable.{unseen_opened, unseen_falls, later_trans, opened, lead_on, lead_kept, cycle_met, ranked_now, above_more, ranks_below}
use Rattle.base_graph.proofs.depth_first.+search.Goals as goal

pub rank_above-visit-requires : goal.rank_above-visit-requires
rank_above-visit-requires t c =
    let went = c.loop-node.invariant.went in
    let fewer = unseen_falls c.args.marks.now c.loop-node.marks c.loop-node.auto.marks went.later in
    let inside : c.loop-node.node-index < length c.args.nodes.now = c.loop-node-test.true in
    let known = known_at (length c.args.graph.now) c.args.nodes.now c.loop-node.node-index c.requires.inside inside in
    (omega (arith, fewer), (c.requires.known, (c.requires.count, (omega arith, (known, (went.right, lead_kept c.args.graph.now c.args.marks.now c.loop-node.marks c.args.nodes.now c.loop-node.node-index inside went.later c.requires.lead))))))

pub rank_above-overflow_add-branch : goal.rank_above-overflow_add-branch
rank_above-overflow_add-branch t c =
    let went = c.in_ok-visit.ensures.0 in
    let found = c.in_ok-visit.ensures.1 in
    let below = ranks_below c.args.graph.now c.visit.new.marks _ went.right (ap is_ranked found) in
    omega (arith, below, ap rank_of found)

pub rank_above-loop-node-preserved : goal.rank_above-loop-node-preserved
rank_above-loop-node-preserved t c =
    let went = c.in_ok-visit.ensures.0 in
    let before = c.loop-node.invariant in
    let inside : c.loop-node.node-index < length c.args.nodes.now = c.loop-node-test.true in
    record {
      went = record { right = went.right; later = later_trans _ _ _ before.went.later went.later };
      found = rw c.max-most.ensures (above_more c.args.graph.now c.loop-node.marks c.visit.new.marks c.args.nodes.now c.loop-node.node-index c.loop-node.most c.in_ok-visit.field-0 inside went before.found c.in_ok-visit.ensures.1);
    }

pub visit-rank_above-requires : goal.visit-rank_above-requires
visit-rank_above-requires t c =
    let g = c.args.graph.now in
    let ms = c.args.marks.now in
    let inside : c.args.node < length ms = omega arith in
    let fewer = unseen_opened ms c.args.node inside c.in-Unseen.is in (
      omega (arith, fewer),
      (
        c.requires.known,
        (
          c.requires.count,
          (
            omega (arith, length-set ms c.args.node Open),
            (
              subst (λ ks. are_known (length g) ks ≡ true) (sym c.successors.ensures) (all_at (are_known (length g)) g c.args.node [] c.requires.known c.requires.inside),
              (opened g ms c.args.node inside c.in-Unseen.is c.requires.right, subst (LeadTo g (set ms c.args.node Open)) (sym c.successors.ensures) (lead_on g ms c.args.node inside c.requires.lead)),
            ),
          ),
        ),
      ),
    )

pub visit-returns-in_ok-rank-in-Unseen : goal.visit-returns-in_ok-rank-in-Unseen
visit-returns-in_ok-rank-in-Unseen t c =
    let g = c.args.graph.now in
    let ms = c.args.marks.now in
    let mid = c.rank_above.new.marks in
    ranked_now g ms mid c.args.node c.in_ok-rank-in-Unseen.rank (omega arith) (omega (arith, length-set ms c.args.node Open)) c.in-Unseen.is c.in_ok-rank-in-Unseen.ensures.0
    (subst (λ ks. RankAbove mid ks c.in_ok-rank-in-Unseen.rank) c.successors.ensures c.in_ok-rank-in-Unseen.ensures.1)

pub visit-returns-in-Open : goal.visit-returns-in-Open
visit-returns-in-Open t c = cycle_met _ _ c.args.node c.requires.known c.requires.inside c.requires.lead c.in-Open.is
