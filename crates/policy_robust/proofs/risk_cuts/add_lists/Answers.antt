use Rattle.std.proofs.Common.{arith, subst, sym}
use Rattle.std.proofs.lemmas.Result.{err_from_is_err_and}
use Rattle.journal_load.specs.Accepted.{IsRecord}
use Rattle.policy_robust.specs.RiskCuts.{risk_entries_added}
use Rattle.policy_robust.proofs.Each.{each_more, each_stops, each_done}
use Rattle.policy_robust.proofs.Adding.{record_known, at_index, entries_fit}
use Rattle.policy_robust.proofs.risk_cuts.add_lists.Goals as goal

pub returns-in_err-add_record-clause-value : goal.returns-in_err-add_record-clause-value
returns-in_err-add_record-clause-value c =
    let l = c.loop-entries in
    let e = err_from_is_err_and c.from_residual.result c.from_residual.ensures.1 in
    rw (e.1, e.2) (each_stops (risk_entries_added c.args.problem.now c.args.alternatives.now) l.risk_cuts.lists c.args.lists.now l.entries-index c.entries-item.result _ c.loop-entries-test.true c.entries-item.is l.invariant.so_far c.in_err-add_record.field-0.0 c.in_err-add_record.ensures)

pub loop-entries-preserved : goal.loop-entries-preserved
loop-entries-preserved c =
    let l = c.loop-entries in
    let known = record_known c.args.problem.now c.parts.ensures.validated c.entries-item.result (subst (IsRecord c.args.problem.now) (sym c.entries-item.is) (at_index (IsRecord c.args.problem.now) c.args.lists.now l.entries-index c.entries-item.result c.requires.records c.loop-entries-test.true)) in
    record {
      so_far = each_more (risk_entries_added c.args.problem.now c.args.alternatives.now) l.risk_cuts.lists c.args.lists.now l.entries-index c.entries-item.result _ c.loop-entries-test.true c.entries-item.is l.invariant.so_far c.add_record.new.risk_cuts.lists c.in_ok-add_record.ensures;
      fit = entries_fit c.args.problem.now c.args.alternatives.now c.parts.ensures.validated c.requires.listed l.risk_cuts.lists c.add_record.new.risk_cuts.lists c.entries-item.result known l.invariant.fit c.in_ok-add_record.ensures;
    }

pub returns-clause-value : goal.returns-clause-value
returns-clause-value c = let l = c.loop-entries in each_done (risk_entries_added c.args.problem.now c.args.alternatives.now) l.risk_cuts.lists c.args.lists.now l.entries-index _ (omega (arith, c.loop-entries-test.false)) l.invariant.so_far

pub returns-clause-fit : goal.returns-clause-fit
returns-clause-fit c = c.loop-entries.invariant.fit
