use Rattle.std.proofs.Common.{◌∙◌, arith}
use Rattle.cut_pool.proofs.Covered.{marked_below}
use Rattle.cut_pool.proofs.active_cuts.Active.go_back.Goals as goal

pub fill-requires : goal.fill-requires
fill-requires c = marked_below c.args.cuts.now c.args.self.now c.as_slice-2.result.now c.requires (omega (arith, c.if-len-self.false, c.len.ensures.value)) (c.as_slice-2.ensures.value ∙ c.in_ok-copy_places.ensures ∙ c.as_slice.ensures.value)
