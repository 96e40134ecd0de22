use Rattle.std.proofs.Common.{rules}
use Rattle.plan_answer.proofs.ToppedPairs.{room_at}
use Rattle.plan_answer.proofs.settling.raise_pair.Goals as goal

pub overflow_add-multiplier : goal.overflow_add-multiplier
overflow_add-multiplier c = record { fits = room_at c.args.pairs.now c.as_slice.result.now c.args.at c.args.more (search rules) c.requires.room }
