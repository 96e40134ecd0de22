use Rattle.std.proofs.Common.{◌++◌, ◌∷◌, [], List, ap₂, sym, ◌∙◌, arith}
use Rattle.std.proofs.lemmas.List.FromFn.{map-range_with_len_more}
use Rattle.cut_pool.specs.declared.box_maxima.OutBox.{OutBox}
use Rattle.plan_stage.specs.OutBoxes.{out_box}
use Rattle.plan_stage.proofs.out_boxes.out_boxes.Goals as goal

pub loop-state-preserved : goal.loop-state-preserved
loop-state-preserved c =
    c.in_ok-push.ensures
    ∙ ap₂ (λ (bs : List OutBox) (b : OutBox). bs ++ b ∷ []) c.loop-state.invariant c.out_box.ensures
    ∙ sym (map-range_with_len_more (out_box c.args.subproblem.now) 0 c.loop-state.state c.loop-state.state (omega arith))
