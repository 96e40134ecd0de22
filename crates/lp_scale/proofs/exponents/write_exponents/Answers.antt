use Rattle.std.proofs.Common.{map, None, arith, sym, length-set, ◌∙◌}
use Rattle.std.proofs.Math.ListN.{get_or-map}
use Rattle.std.proofs.lemmas.List.{length-map}
use Rattle.lp_scale.specs.Exponents.{column_lift}
use Rattle.std.proofs.lemmas.Int.{to_z-of_z}
use mir.Syntax.{w32}
use Rattle.lp_scale.proofs.Walking.{write_more, write_all}
use Rattle.lp_scale.proofs.exponents.write_exponents.Goals as goal

pub loop-j-preserved : goal.loop-j-preserved
loop-j-preserved c =
    let n = length-map c.args.spans.now column_lift in
    record {
      count = length-set c.loop-j.exponents c.loop-j.j _ ∙ c.loop-j.invariant.count;
      value = write_more (map column_lift c.args.spans.now) c.args.exponents.now c.loop-j.exponents c.loop-j.j _ (column_lift None) (omega (arith, n, c.loop-j-test.true, c.loop-j.invariant.count, c.requires.count)) (omega (arith, c.loop-j-test.true, c.loop-j.invariant.count)) (to_z-of_z w32 _ (record { sfits = c.column_lift.type_inv }) ∙ c.column_lift.ensures ∙ sym (get_or-map column_lift c.args.spans.now c.loop-j.j None)) c.loop-j.invariant.value;
    }

pub returns : goal.returns
returns c =
    let n = length-map c.args.spans.now column_lift in
    write_all (map column_lift c.args.spans.now) c.args.exponents.now c.loop-j.exponents c.loop-j.j (omega (arith, n, c.loop-j-test.false, c.loop-j.invariant.count, c.requires.count)) (omega (arith, c.loop-j-test.false, c.loop-j.invariant.count)) c.loop-j.invariant.value
