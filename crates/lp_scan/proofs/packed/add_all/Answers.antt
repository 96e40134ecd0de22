use Rattle.std.proofs.Common.{◌∙◌, ◌+◌, ℤ, List, drop, ap, sym}
use Rattle.lp_program.specs.declared.packed.Out.{Out}
use Rattle.lp_scale.specs.Walks.{walk}
use Rattle.lp_scan.specs.Packed.{with_leaving}
use Rattle.lp_scan.proofs.PackedWalks.{walk_more}
use Rattle.lp_scan.proofs.packed.add_all.Goals as goal

pub loop-k-preserved : goal.loop-k-preserved
loop-k-preserved c = record {
  value = c.loop-k.invariant.value ∙ walk_more (λ k ls (o : Out). with_leaving c.args.states.now ls o) c.loop-k.k c.loop-k.k c.loop-k.found c.args.outs.now _ c.loop-k-test.true ∙ ap (λ (ls : List ℤ). walk (λ k ls (o : Out). with_leaving c.args.states.now ls o) (c.loop-k.k + 1) ls (drop (c.loop-k.k + 1) c.args.outs.now)) (sym (c.add_out.ensures.value c.if-not-add_out.false));
  count = c.add_out.ensures.count ∙ c.loop-k.invariant.count;
}
