use Rattle.std.proofs.Common.{arith, subst, sym}
use Rattle.std.proofs.lemmas.Result.{err_from_is_err_and}
use Rattle.policy_robust.specs.RiskCuts.{entry_added}
use Rattle.policy_robust.proofs.Each.{each_more, each_stops, each_done}
use Rattle.policy_robust.proofs.Adding.{KnownEntry, entry_fit}
use Rattle.policy_robust.proofs.risk_cuts.add_entries.Goals as goal

pub returns-in_err-add_entry : goal.returns-in_err-add_entry
returns-in_err-add_entry c =
    let l = c.loop-entry in
    let e = err_from_is_err_and c.from_residual.result c.from_residual.ensures.1 in
    rw (e.1, e.2) (each_stops (entry_added c.args.problem.now c.args.alternatives.now) l.risk_cuts.lists c.args.entries.now l.entry-index c.entry-item.result _ c.loop-entry-test.true c.entry-item.is l.invariant.so_far c.in_err-add_entry.field-0.0 c.in_err-add_entry.ensures)

pub loop-entry-preserved : goal.loop-entry-preserved
loop-entry-preserved c =
    let l = c.loop-entry in
    let known = subst (KnownEntry c.args.problem.now) (sym c.entry-item.is) (c.requires.known l.entry-index c.entry-item.result c.loop-entry-test.true) in
    record {
      so_far = each_more (entry_added c.args.problem.now c.args.alternatives.now) l.risk_cuts.lists c.args.entries.now l.entry-index c.entry-item.result _ c.loop-entry-test.true c.entry-item.is l.invariant.so_far c.add_entry.new.risk_cuts.lists c.in_ok-add_entry.ensures;
      fit = entry_fit c.args.problem.now c.args.alternatives.now c.parts.ensures.validated c.requires.listed l.risk_cuts.lists c.add_entry.new.risk_cuts.lists c.entry-item.result known l.invariant.fit c.in_ok-add_entry.ensures;
    }

pub returns : goal.returns
returns c = let l = c.loop-entry in each_done (entry_added c.args.problem.now c.args.alternatives.now) l.risk_cuts.lists c.args.entries.now l.entry-index _ (omega (arith, c.loop-entry-test.false)) l.invariant.so_far
