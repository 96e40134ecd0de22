use Rattle.std.proofs.Common.{sym, subst, ap, ◌∙◌, map}
use Rattle.lp_scale.specs.Packed.{lift_of, AreLifts}
use Rattle.lp_scale.proofs.Standing.{lifts_between}
use Rattle.lp_scale.proofs.packed.write_packed_spans.Goals as goal

pub write_lifted_spans-requires-clause-lifts : goal.write_lifted_spans-requires-clause-lifts
write_lifted_spans-requires-clause-lifts c = subst AreLifts (sym (c.as_slice-2.ensures ∙ c.in_ok-lifts.ensures ∙ ap (map (lift_of c.args.exponents.now)) c.as_slice.ensures)) (lifts_between c.args.exponents.now c.args.view.now.outs c.requires.exponents)
