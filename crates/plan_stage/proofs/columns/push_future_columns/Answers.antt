use Rattle.std.proofs.Common.{◌<◌, ◌++◌, ◌∙◌, ℕ, List, length, map, zip, sym, ap, arith, take_all}
use Rattle.std.proofs.lemmas.Slice.Zip.{get_or-zip, length-zip}
use Rattle.theory.specs.Pools.{pool}
use Rattle.lp_program.specs.declared.programs.Column.{Column}
use Rattle.plan_stage.specs.Stage.{future_column}
use Rattle.plan_stage.proofs.Growing.{map_more}
use Rattle.plan_stage.proofs.columns.push_future_columns.Goals as goal

pub loop-i-preserved : goal.loop-i-preserved
loop-i-preserved c =
    let successors : List ℕ = c.args.successors.now in
    let weights : List ℕ = c.args.weights.now in
    let i : ℕ = c.loop-i.i in
    let inside : i < length weights = omega (arith, c.requires.counts) in
    let column : ℕ × ℕ → Column = λ (q : ℕ × ℕ). future_column c.args.subproblem.now q.1 (pool c.args.pools.now.lists q.0) in
    let is = c.future_column-column.ensures ∙ ap column (sym (get_or-zip successors weights i (0, 0) c.loop-i-test.true inside)) in
    map_more column (zip successors weights) i (0, 0) c.args.columns.now c.loop-i.columns c.push.new.self _ (omega (arith, length-zip successors weights)) c.loop-i.invariant is c.in_ok-push.ensures

pub returns : goal.returns
returns c =
    let successors : List ℕ = c.args.successors.now in
    let weights : List ℕ = c.args.weights.now in
    c.loop-i.invariant ∙ ap (λ (qs : List (ℕ × ℕ)). c.args.columns.now ++ map (λ (q : ℕ × ℕ). future_column c.args.subproblem.now q.1 (pool c.args.pools.now.lists q.0)) qs) (take_all c.loop-i.i (zip successors weights) (omega (arith, length-zip successors weights, c.requires.counts, c.loop-i-test.false)))
