use Rattle.std.proofs.Common.{◌≡◌, ◌+◌, ◌*◌, ◌-◌, ◌<◌, ◌++◌, length}
use Rattle.plan_draw.specs.Drawn.{path_from, word_in}
use Rattle.plan_draw.proofs.paths.steps_from.Given as goal

abbrev pub invariant-loop : goal.invariant-loop
invariant-loop l = record {
  inside : l.node < length l.problem.parts.nodes;
  words : l.words ≡ record l.fn.words { word_pos = 2 * l.counter + 1 };
  found : l.found ++ path_from l.problem.parts (word_in l.fn.words) (l.problem.longest - l.counter) (2 * l.counter + 1) l.node ≡ path_from l.problem.parts (word_in l.fn.words) l.problem.longest 1 l.fn.first;
}
