use Rattle.std.proofs.Common.{arith, rules}
use Rattle.std.proofs.lemmas.Bool.Decides.{nat_tests}
use Rattle.plan_answer.proofs.ToppedPairs.{greatest_there}
use Rattle.plan_answer.proofs.settling.top_up.Goals as goal

pub raise_pair-requires-clause-there : goal.raise_pair-requires-clause-there
raise_pair-requires-clause-there c =
    greatest_there c.args.pairs c.as_slice.result.now c.greatest_pair-at.result (grind (arith, nat_tests)) (search rules) (search rules)
