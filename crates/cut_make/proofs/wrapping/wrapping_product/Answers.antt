use Rattle.std.proofs.Common.{◌*ℤ◌, ap, ◌∙◌}
use mir.Syntax.{w128}
use Rattle.std.specs.Int.{int_wrap}
use Rattle.std.proofs.lemmas.Int.{wrapping_mul_is, int_wrap_fits, SFits-int_wrap}
use Rattle.cut_make.proofs.wrapping.wrapping_product.Goals as goal

pub returns : goal.returns
returns c = ap (int_wrap w128) (wrapping_mul_is w128 c.args.x c.args.y c.ranges.x c.ranges.y) ∙ int_wrap_fits w128 _ (SFits-int_wrap w128 (c.args.x *ℤ c.args.y))
