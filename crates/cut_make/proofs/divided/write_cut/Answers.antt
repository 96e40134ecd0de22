use Rattle.std.proofs.Common.{[], ◌∙◌}
use Rattle.cut_make.proofs.Congruence.{same_read}
use Rattle.cut_make.proofs.divided.write_cut.Goals as goal

pub returns : goal.returns
returns c = λ high.
    c.write_cut_of.ensures c.args.list.now high c.requires.made c.slope_sums-slopes.ensures.value (same_read c.constant_sum-constant.result (record { sfits = c.constant_sum-constant.type_inv }) ∙ c.constant_sum-constant.ensures [] [])
