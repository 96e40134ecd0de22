use Rattle.std.proofs.Common.{length, All, arith, subst, sym, ◌∙◌, ap, List, None}
use Rattle.std.proofs.lemmas.Result.{err_from_is_err_and}
use Rattle.cut_pool.specs.declared.entry.EntryStep.{EntryStep}
use Rattle.journal_record.specs.Shape.{Writable}
use Rattle.journal_record.proofs.LongestPath.{path_length, is_small}
use Rattle.journal_load.specs.Refusals.{LoadFails}
use Rattle.journal_load.specs.Cuts.{steps_added}
use Rattle.journal_load.proofs.Adding.{Known}
use Rattle.journal_load.proofs.Once.{known_steps}
use Rattle.journal_load.proofs.Loops.{entry_fails, entry_more, entries_done, at_recursion, at_each}
use Rattle.journal_load.proofs.cuts.add_entries.Goals as goal

pub add_steps-requires-clause-known : goal.add_steps-requires-clause-known
add_steps-requires-clause-known c =
    let l = c.loop-entry in
    let writable = subst (Writable c.args.problem.now) (sym c.entry-item.is) (at_recursion (Writable c.args.problem.now) c.args.entries.now l.entry-index c.entry-item.result c.requires.writable c.loop-entry-test.true) in
    subst (λ (ss : List EntryStep). All (Known c.args.problem.now) ss) (sym c.as_slice.ensures) (at_each (Known c.args.problem.now) c.entry-item.result.steps (known_steps c.args.problem.now None c.entry-item.result.steps writable.path))

pub add_steps-requires-clause-few : goal.add_steps-requires-clause-few
add_steps-requires-clause-few c = λ m.
    let l = c.loop-entry in
    let p = c.args.problem.now in
    let writable = subst (Writable p) (sym c.entry-item.is) (at_recursion (Writable p) c.args.entries.now l.entry-index c.entry-item.result c.requires.writable c.loop-entry-test.true) in
    omega (arith, l.invariant.0.few m, path_length p c.parts.ensures.validated c.entry-item.result.steps writable.path, (is_small p c.parts.ensures.validated).longest, ap (λ (ss : List EntryStep). length ss) c.as_slice.ensures)

pub returns-in_err-add_steps-clause-value : goal.returns-in_err-add_steps-clause-value
returns-in_err-add_steps-clause-value c =
    let l = c.loop-entry in
    let p = c.args.problem.now in
    let x = c.entry-item.result in
    let e = err_from_is_err_and c.from_residual.result c.from_residual.ensures.1 in
    let fails = subst (λ (ss : List EntryStep). LoadFails c.in_err-add_steps.field-0.0 (steps_added p x.iteration l.pools.lists ss)) c.as_slice.ensures c.in_err-add_steps.ensures.value in
    rw (e.1, e.2) (entry_fails p c.args.pools.now.lists c.args.entries.now l.entry-index l.pools.lists c.loop-entry-test.true x c.entry-item.is l.invariant.0 c.in_err-add_steps.field-0.0 fails)

pub loop-entry-preserved : goal.loop-entry-preserved
loop-entry-preserved c =
    let l = c.loop-entry in
    let p = c.args.problem.now in
    let x = c.entry-item.result in
    let writable = subst (Writable p) (sym c.entry-item.is) (at_recursion (Writable p) c.args.entries.now l.entry-index x c.requires.writable c.loop-entry-test.true) in
    let left = entry_more p c.args.pools.now.lists c.args.entries.now l.entry-index l.pools.lists c.loop-entry-test.true x c.entry-item.is l.invariant.0 c.parts.ensures.validated writable c.add_steps.new.pools.lists
    (ap (λ (ss : List EntryStep). steps_added p x.iteration l.pools.lists ss) (sym c.as_slice.ensures) ∙ c.in_ok-add_steps.ensures.value) in
    (left, c.in_ok-add_steps.ensures.values)

pub returns-clause-value : goal.returns-clause-value
returns-clause-value c = let l = c.loop-entry in entries_done c.args.problem.now c.args.pools.now.lists c.args.entries.now l.entry-index l.pools.lists (omega (arith, c.loop-entry-test.false)) l.invariant.0
