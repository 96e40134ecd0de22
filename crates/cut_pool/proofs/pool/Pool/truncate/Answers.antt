use Rattle.std.proofs.Common.{◌∙◌}
use Rattle.cut_pool.proofs.PushedCuts.{truncated}
use Rattle.cut_pool.proofs.pool.Pool.truncate.Goals as goal

pub gone_back-requires-clause-marked : goal.gone_back-requires-clause-marked
gone_back-requires-clause-marked c = truncated c.self.inside.cuts.items c.as_slice.result.now c.args.count c.self.inside.active c.take.result c.take.ensures.value (c.as_slice.ensures.value ∙ c.truncate-2.ensures.items) c.self.invariant.active
