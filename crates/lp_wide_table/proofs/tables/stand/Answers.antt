use Rattle.std.proofs.Common.{map, pos, ap, arith, sym, length-set, ◌∙◌}
use Rattle.std.proofs.Math.ListN.{get_or-map}
use Rattle.std.proofs.lemmas.List.{length-map, get_or_default}
use Rattle.lp_scale.specs.Scaling.{is_below_zero}
use Rattle.lp_scale.proofs.Walking.{write_more, write_all}
use Rattle.lp_wide_table.proofs.tables.stand.Goals as goal

pub loop-j-preserved : goal.loop-j-preserved
loop-j-preserved c =
    let n = length-map c.args.reduced.now is_below_zero in
    record {
      count = length-set c.loop-j.high c.loop-j.j _ ∙ c.loop-j.invariant.count;
      value = write_more (map is_below_zero c.args.reduced.now) c.args.high.now c.loop-j.high c.loop-j.j _ (is_below_zero (pos 0)) (omega (arith, n, c.loop-j-test.true)) (omega (arith, c.loop-j-test.true, c.requires)) (c.is_negative.ensures ∙ ap is_below_zero (c.index-reduced-j.is ∙ sym (get_or_default c.args.reduced.now c.loop-j.j (pos 0) c.index-reduced-j.result c.loop-j-test.true)) ∙ sym (get_or-map is_below_zero c.args.reduced.now c.loop-j.j (pos 0))) c.loop-j.invariant.value;
    }

pub returns : goal.returns
returns c =
    let n = length-map c.args.reduced.now is_below_zero in
    write_all (map is_below_zero c.args.reduced.now) c.args.high.now c.loop-j.high c.loop-j.j (omega (arith, n, c.loop-j-test.false)) (omega (arith, c.loop-j-test.false, c.requires)) c.loop-j.invariant.value
