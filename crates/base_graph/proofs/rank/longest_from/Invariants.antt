use Rattle.std.proofs.Common.{◌≡◌, max, drop}
use Rattle.base_graph.specs.Ranks.{longest_from}
use Rattle.base_graph.proofs.rank.longest_from.Given as goal

abbrev pub invariant-loop-start : goal.invariant-loop-start
invariant-loop-start l = max l.most (longest_from l.ranks (drop l.start-index l.starts)) ≡ longest_from l.ranks l.starts
