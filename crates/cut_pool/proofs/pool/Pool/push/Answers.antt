use Rattle.std.proofs.Common.{◌∙◌}
use Rattle.cut_pool.proofs.PushedCuts.{renewed, widened}
use Rattle.cut_pool.proofs.pool.Pool.push.Goals as goal

pub renewed-requires-clause-before : goal.renewed-requires-clause-before
renewed-requires-clause-before c = renewed c.self.inside.cuts.items c.as_slice.result.now c.args.cut c.self.inside.active c.take.result c.take.ensures.value (c.as_slice.ensures.value ∙ c.in-Ok.ensures.items) c.self.invariant.active

pub widened-requires-clause-before : goal.widened-requires-clause-before
widened-requires-clause-before c = widened c.self.inside.cuts.items c.as_slice-in-Ok.result.now c.args.cut c.self.inside.range c.take-in-Ok.result c.take-in-Ok.ensures.value (c.as_slice-in-Ok.ensures.value ∙ c.in-Ok.ensures.items) c.self.invariant.range
