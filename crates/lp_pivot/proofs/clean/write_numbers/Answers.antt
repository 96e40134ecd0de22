use Rattle.std.proofs.Common.{length, arith}
use Rattle.std.proofs.lemmas.List.FromFn.{fill_by_all}
use Rattle.lp_pivot.proofs.clean.write_numbers.Goals as goal

pub returns : goal.returns
returns c = fill_by_all (λ j. j) c.loop-j.nonbasic (length c.args.nonbasic.now) 0 c.loop-j.invariant.count (λ k h. c.loop-j.invariant.done k (omega (arith, h, c.loop-j-test.false, c.len-j-end.ensures)))
