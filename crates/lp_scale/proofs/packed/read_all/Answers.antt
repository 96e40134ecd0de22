use Rattle.std.proofs.Common.{List, All}
use Rattle.lp_program.specs.PackedCut.{PackedCut}
use Rattle.lp_program.specs.PackedCut.{IsSmallCut}
use Rattle.lp_scale.proofs.Waits.{read_more, all_read}
use Rattle.lp_scale.proofs.packed.read_all.Goals as goal

pub loop-k-preserved : goal.loop-k-preserved
loop-k-preserved c = read_more (λ (cs : List PackedCut). All IsSmallCut cs) c.args.view.now.cuts c.as_slice-cuts.result.now c.loop-k.k c.index-cuts-k.result c.as_slice-cuts.ensures c.loop-k-test.true c.index-cuts-k.is c.loop-k.invariant c.states.ensures.small

pub returns : goal.returns
returns c = all_read (λ (cs : List PackedCut). All IsSmallCut cs) c.args.view.now.cuts c.as_slice-cuts.result.now c.loop-k.k c.as_slice-cuts.ensures c.loop-k-test.false c.loop-k.invariant
