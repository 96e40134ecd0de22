use Rattle.std.proofs.Common.{◌≡◌, ◌++◌, ◌∙◌, ℕ, List, length, All, OnOk, sym, subst, ap₂}
use Rattle.theory.specs.declared.cut.Cut.{Cut}
use Rattle.theory.specs.Pools.{pool}
use Rattle.lp_program.specs.declared.programs.LpRow.{LpRow}
use Rattle.lp_program.specs.declared.packed.Out.{Out}
use Rattle.plan_stage.specs.Outs.{rows_over}
use Rattle.plan_stage.specs.Spans.{IsSlopeWithin}
use Rattle.plan_stage.proofs.OutSlopes.{rows-cut_rows, within-spans}
use Rattle.plan_stage.proofs.cut_rows.push_cut_rows.Goals as goal

pub push_rows_over-requires-clause-within : goal.push_rows_over-requires-clause-within
push_rows_over-requires-clause-within c =
    let pools : List (List Cut) = c.args.pools.now.lists in
    let outs = c.as_slice.ensures ∙ c.in_ok-outs.ensures in
    subst (λ (os : List Out). All (λ m. All (λ (x : Cut). All (IsSlopeWithin x.beta) os) (pool pools m)) c.args.successors.now) (sym outs)
    (λ i d h k e l. within-spans c.args.subproblem.now _ (c.requires.spans i d h k e l))

pub returns : goal.returns
returns c =
    let pools : List (List Cut) = c.args.pools.now.lists in
    let outs = c.as_slice.ensures ∙ c.in_ok-outs.ensures in
    subst (λ (rs : List LpRow). OnOk c.push_rows_over.result (c.push_rows_over.new.rows ≡ c.args.rows.now ++ rs))
    (ap₂ (λ (os : List Out) (k : ℕ). rows_over os pools k c.args.successors.now) outs c.len-column.ensures ∙ rows-cut_rows c.args.subproblem.now pools (length c.args.subproblem.now.decisions) c.args.successors.now c.requires.differ)
    c.push_rows_over.ensures
