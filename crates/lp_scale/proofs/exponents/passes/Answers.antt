use Rattle.std.proofs.Common.{arith}
use Rattle.lp_scale.proofs.Passes.{up_to_more}
use Rattle.lp_scale.proofs.exponents.passes.Goals as goal

pub pass-requires-clause-exponents : goal.pass-requires-clause-exponents
pass-requires-clause-exponents c = up_to_more 0 384 _ (omega arith) c.requires.exponents

pub pass-requires-2-clause-exponents : goal.pass-requires-2-clause-exponents
pass-requires-2-clause-exponents c = up_to_more 128 384 _ (omega arith) (c.pass.ensures.range 0 c.requires.exponents)

pub pass-requires-3-clause-exponents : goal.pass-requires-3-clause-exponents
pass-requires-3-clause-exponents c = up_to_more 256 384 _ (omega arith) (c.pass-2.ensures.range 128 (c.pass.ensures.range 0 c.requires.exponents))

pub pass-requires-4-clause-exponents : goal.pass-requires-4-clause-exponents
pass-requires-4-clause-exponents c = c.pass-3.ensures.range 256 (c.pass-2.ensures.range 128 (c.pass.ensures.range 0 c.requires.exponents))

pub returns-clause-range : goal.returns-clause-range
returns-clause-range c = c.pass-4.ensures.range 384 (c.pass-3.ensures.range 256 (c.pass-2.ensures.range 128 (c.pass.ensures.range 0 c.requires.exponents)))
