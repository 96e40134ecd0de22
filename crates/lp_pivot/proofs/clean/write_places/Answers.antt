use Rattle.std.proofs.Common.{length, None, arith}
use Rattle.std.proofs.lemmas.List.FromFn.{fill_by_all}
use Rattle.lp_pivot.specs.Clean.{first_place}
use Rattle.lp_pivot.proofs.clean.write_places.Goals as goal

pub returns : goal.returns
returns c = fill_by_all (first_place c.args.columns) c.loop-v.places (length c.args.places.now) None c.loop-v.invariant.count (λ k h. c.loop-v.invariant.done k (omega (arith, h, c.loop-v-test.false, c.len-v-end.ensures)))
