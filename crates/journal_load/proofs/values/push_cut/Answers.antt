use Rattle.std.proofs.Common.{◌∙◌, ap, List, ℤ, length}
use Rattle.journal_load.proofs.Raising.{values_count, values_pushed}
use Rattle.journal_load.proofs.values.push_cut.Goals as goal

pub raise-requires-clause-count : goal.raise-requires-clause-count
raise-requires-clause-count c = ap (λ (xs : List ℤ). length xs) c.requires.values ∙ values_count c.args.problem.now c.args.pools.now.lists

pub returns-clause-values : goal.returns-clause-values
returns-clause-values c = values_pushed c.args.problem.now c.args.pools.now.lists c.push.new.self.lists c.args.node c.args.cut c.args.values.now c.raise.new.values c.push.result c.requires.known c.requires.fit c.requires.values c.raise.ensures c.push.ensures.cuts
