use Rattle.std.proofs.Common.{◌+◌, ◌∷◌, [], List, length, All, ap, subst, sym, ◌∙◌, length-append, arith}
use Rattle.std.proofs.lemmas.List.Elements.{All-append, All-cons, All-nil}
use Rattle.plan_draw.specs.declared.steps.PathStep.{PathStep}
use Rattle.plan_draw.specs.Drawn.{path, IsPath}
use Rattle.plan_train.proofs.Drawn.{paths-go}
use Rattle.plan_train.proofs.drawing.paths_from.Goals as goal

pub loop-place-preserved : goal.loop-place-preserved
loop-place-preserved c =
    let l = c.loop-place in
    let p = c.args.problem.now in
    let drawn = c.in_ok-path.ensures.value ∙ ap (λ n. path p c.args.seed (c.args.first + n)) c.from.ensures in
    let more : List (List PathStep) = c.in_ok-path.field-0 ∷ [] in
    record {
      value = paths-go p c.args.seed c.args.first c.args.count l.place l.found c.push.new.self _ c.in_ok-path.field-0 c.loop-place-test.true drawn c.in_ok-push.ensures l.invariant.value;
      count = omega (arith, ap length c.in_ok-push.ensures, length-append l.found more, l.invariant.count);
      paths = subst (All (IsPath p)) (sym c.in_ok-push.ensures) (All-append (IsPath p) l.found more l.invariant.paths (All-cons (IsPath p) c.in_ok-path.field-0 [] c.in_ok-path.ensures.is_path (All-nil (IsPath p))));
    }
