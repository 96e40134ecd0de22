use Rattle.std.proofs.Common.{arith}
use Rattle.journal_record.proofs.Whole.{is_spelled, is_read, is_bad}
use Rattle.journal_record.proofs.decoding.decode_batch_with.Goals as goal

pub returns-clause-spelled : goal.returns-clause-spelled
returns-clause-spelled c = is_spelled c.args.problem.now c.args.iteration c.args.batch c.args.payload.now c.placed.result (λ i. omega (arith, c.type_inv.payload i)) c.placed.ensures

pub returns-clause-again : goal.returns-clause-again
returns-clause-again c = is_read c.args.problem.now c.args.iteration c.args.batch c.args.payload.now c.placed.result c.validated.ensures c.placed.ensures

pub returns-clause-bad : goal.returns-clause-bad
returns-clause-bad c = is_bad c.args.problem.now c.args.iteration c.args.batch c.args.payload.now c.placed.result c.validated.ensures c.placed.ensures
