use Rattle.std.proofs.Common.{◌∙◌, ℤ, List, get_or, take, slice_set, Option, None, ap, sym}
use Rattle.lp_program.specs.PackedCut.{PackedCut}
use Rattle.lp_program.specs.Covering.{value_of}
use Rattle.lp_scale.specs.Walks.{walk}
use Rattle.lp_scan.specs.Values.{Valued, greater_valued}
use Rattle.lp_scan.proofs.PackedWalks.{cuts_rest, cuts_come, true_inside}
use Rattle.lp_scan.proofs.packed.take_successor.Goals as goal

pub returns-then-is_waiting-clause-value : goal.returns-then-is_waiting-clause-value
returns-then-is_waiting-clause-value c =
    let bests = c.args.greatest.now in
    let waits = sym c.is_waiting.ensures ∙ c.if-is_waiting.true in
    ap (λ (b : Option Valued). slice_set bests c.args.column b) (c.take_best.ensures ∙ ap (λ (ls : List ℤ). walk (λ i b (c : PackedCut). greater_valued b (i, value_of c ls)) c.args.lookup.now.first (get_or bests c.args.column None) c.args.cuts.now) (c.front-states.ensures ∙ ap (take c.states.result) (c.as_slice.ensures ∙ c.requires.leaving)))
    ∙ sym (cuts_come c.args.lookup.now.waiting.now c.args.lookup.now.states.now c.args.lookup.now.first bests c.args.outs.now c.args.column c.states.result c.args.cuts.now c.states.ensures.slopes c.states.ensures.few waits (true_inside c.args.lookup.now.waiting.now c.args.column _ waits c.requires.waiting) c.requires.within)

pub returns-else-is_waiting-clause-value : goal.returns-else-is_waiting-clause-value
returns-else-is_waiting-clause-value c = sym (cuts_rest c.args.lookup.now.waiting.now c.args.lookup.now.states.now c.args.lookup.now.first c.args.greatest.now c.args.outs.now c.args.column c.args.cuts.now (sym c.is_waiting.ensures ∙ c.if-is_waiting.false))
