use Rattle.std.proofs.Common.{refl}
use Rattle.cut_pool.proofs.MoreCuts.{front}
use Rattle.cut_pool.proofs.flat_cuts.FlatCuts.truncate.Goals as goal

pub returns-then-self : goal.returns-then-self
returns-then-self c = λ cuts few flat. front cuts c.args.count c.args.self.now _ few flat c.if-self.true c.truncate.ensures.items c.truncate-then-self.ensures.items refl
