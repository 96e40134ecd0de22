use Rattle.std.proofs.Common.{◌≡◌, ◌∙◌, true, length, ap, sym}
use Rattle.lp_program.specs.declared.programs.LpRow.{LpRow}
use Rattle.lp_program.proofs.PackedRows.{counted}
use Rattle.lp_scale.specs.Waiting.{waits}
use Rattle.lp_scan.specs.Packed.{leaving_of}
use Rattle.lp_scan.specs.Values.{IsValueWithin}
use Rattle.lp_scan.proofs.PackedWalks.{successor_more, holds_here, holds_later}
use Rattle.lp_scan.proofs.packed.take_packed.Goals as goal

pub take_successor-requires-clause-within : goal.take_successor-requires-clause-within
take_successor-requires-clause-within c =
    holds_here (λ (r : LpRow). waits c.args.lookup.now.waiting.now r ≡ true → IsValueWithin c.args.lookup.now.states.now r) c.as_slice-outs.result.now _ c.loop-k.k c.as_slice-cuts.result.now c.index-cuts-k.result c.loop-k-test.true c.index-cuts-k.is c.loop-k.invariant.within

pub loop-k-preserved : goal.loop-k-preserved
loop-k-preserved c = record {
  value = successor_more c.args.lookup.now.waiting.now c.args.lookup.now.states.now c.as_slice-outs.result.now c.args.view.now.first c.loop-k.k c.loop-k.row c.len-row.result _ c.loop-k.greatest c.take_successor.new.greatest c.as_slice-cuts.result.now c.index-cuts-k.result c.loop-k-test.true c.index-cuts-k.is c.len-row.ensures.value c.loop-k.invariant.value c.take_successor.ensures.value;
  within = holds_later (λ (r : LpRow). waits c.args.lookup.now.waiting.now r ≡ true → IsValueWithin c.args.lookup.now.states.now r) c.as_slice-outs.result.now c.args.view.now.first c.loop-k.k c.as_slice-cuts.result.now c.index-cuts-k.result c.loop-k-test.true c.loop-k.invariant.within;
  states = c.take_successor.ensures.leaving ∙ c.loop-k.invariant.states;
  count = c.take_successor.ensures.count ∙ c.loop-k.invariant.count;
  rows = counted c.as_slice-outs.result.now c.args.view.now.first c.loop-k.k c.loop-k.row c.len-row.result _ c.as_slice-cuts.result.now c.index-cuts-k.result c.loop-k-test.true c.loop-k.invariant.rows (c.len-row.ensures.value ∙ ap length c.index-cuts-k.is);
}

pub take_successor-requires-clause-count : goal.take_successor-requires-clause-count
take_successor-requires-clause-count c = ap length c.loop-k.invariant.states ∙ c.requires.count

pub take_successor-requires-clause-leaving : goal.take_successor-requires-clause-leaving
take_successor-requires-clause-leaving c = c.loop-k.invariant.states ∙ c.requires.leaving ∙ ap (leaving_of c.args.lookup.now.states.now) (sym c.as_slice-outs.ensures)
