use Rattle.std.proofs.Common.{◌≡◌, ◌∙◌, ◌+◌, ◌-◌, ℕ, length, arith, refl, ap, sym}
use Rattle.lp_table.specs.declared.table.WarmTable.{WarmTable}
use Rattle.lp_table.specs.Shape.{variables}
use Rattle.lp_table.specs.SameParts.{with_basis}
use Rattle.lp_pivot.specs.Tighten.{tightened}
use Rattle.lp_pivot.proofs.Tightening.{tight_step, tight_absent, tight_done}
use Rattle.lp_pivot.proofs.tighten.tighten_all.Goals as goal

pub loop-slack-init : goal.loop-slack-init
loop-slack-init c =
    let t : WarmTable = c.args.table.now in
    let e : length t.rows ≡ length t.costs + length t.rows - length t.costs = omega arith in
    record {
      sized = c.requires.sized;
      width = refl;
      steps = refl;
      kept = refl;
      left = ap (tightened c.args.was.now t (length t.costs)) e ∙ ap (λ (v : ℕ). tightened c.args.was.now t v (variables t - v)) (sym c.len-columns.ensures);
    }

pub loop-slack-preserved : goal.loop-slack-preserved
loop-slack-preserved c = record {
  sized = c.tighten.ensures.sized;
  width = c.tighten.ensures.width ∙ c.loop-slack.invariant.width;
  steps = c.tighten.ensures.steps ∙ c.loop-slack.invariant.steps;
  kept = c.tighten.ensures.kept ∙ ap (λ (t : WarmTable). with_basis t c.tighten.new.table.basis c.tighten.new.table.reduced c.tighten.new.table.lines) c.loop-slack.invariant.kept;
  left = tight_step c.args.was.now c.loop-slack.table c.loop-slack.slack (variables c.args.table.now) _ c.tighten.new.table (omega (arith, c.loop-slack-test.true, c.len-variables.ensures, c.requires.places)) c.if-not-tighten.ensures.tight c.loop-slack.invariant.left;
}

pub returns-then-not-tighten-clause-tightened : goal.returns-then-not-tighten-clause-tightened
returns-then-not-tighten-clause-tightened c =
    tight_absent c.args.was.now c.loop-slack.table c.loop-slack.slack (variables c.args.table.now) _ (omega (arith, c.loop-slack-test.true, c.len-variables.ensures, c.requires.places)) c.if-not-tighten.ensures.tight c.loop-slack.invariant.left

pub returns-clause-tightened : goal.returns-clause-tightened
returns-clause-tightened c =
    tight_done c.args.was.now c.loop-slack.table c.loop-slack.slack (variables c.args.table.now) _ (omega (arith, c.loop-slack-test.false, c.len-variables.ensures, c.requires.places)) c.loop-slack.invariant.left
