use Rattle.base_graph.proofs.AllRanked.{ranks_are, ranks_are_below}
use Rattle.base_graph.proofs.rank.ranks_in.Goals as goal

pub returns-in_ok-ranks_of-in-Some-clause-value : goal.returns-in_ok-ranks_of-in-Some-clause-value
returns-in_ok-ranks_of-in-Some-clause-value c = rw c.in_ok-ranks_of-in-Some.ensures (ranks_are c.args.graph.now c.rank_all.new.marks c.in-Some.ensures)

pub returns-in_ok-ranks_of-in-Some-clause-below : goal.returns-in_ok-ranks_of-in-Some-clause-below
returns-in_ok-ranks_of-in-Some-clause-below c = rw c.in_ok-ranks_of-in-Some.ensures (ranks_are_below c.args.graph.now c.rank_all.new.marks c.in-Some.ensures)
