use Rattle.std.proofs.Common.{arith}
use Rattle.lp_program.proofs.SpreadDuals.{length-joined, padded_is}
use Rattle.lp_program.proofs.duals.Duals.padded.Goals as goal

pub returns-clause-value : goal.returns-clause-value
returns-clause-value c = padded_is c.args.first c.new.result.items c.args.rows c.max-count.result c.new.ensures.items (omega (arith, c.max-count.ensures, c.len.ensures))

pub returns-clause-long : goal.returns-clause-long
returns-clause-long c = omega (arith, c.max-count.ensures, c.len.ensures, length-joined c.args.first c.new.result.items c.max-count.result (omega (arith, c.max-count.ensures, c.len.ensures)))
