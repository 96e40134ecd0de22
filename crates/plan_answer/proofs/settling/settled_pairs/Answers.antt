use Rattle.std.proofs.Common.{◌≡◌, ◌∙◌, ℕ, List, drop}
use Rattle.plan_answer.specs.Settling.{topped, settled_pairs}
use Rattle.plan_answer.proofs.SettledNode.{if_ok}
use Rattle.plan_answer.proofs.SettledSteps.{room_there, all_shared}
use Rattle.plan_answer.proofs.settling.settled_pairs.Goals as goal

pub top_up-requires : goal.top_up-requires
top_up-requires c =
    room_there c.args.target c.args.count (drop c.args.from c.args.duals.now) c.in_ok-pairs.field-0.pairs c.in_ok-pairs.field-0.missing c.in_ok-pairs.ensures.pairs c.in_ok-pairs.ensures.missing c.ranges.target.fits

pub returns : goal.returns
returns c =
    let shared = all_shared c.args.target c.args.count (drop c.args.from c.args.duals.now) c.in_ok-pairs.field-0.pairs c.in_ok-pairs.field-0.missing c.in_ok-pairs.ensures.pairs c.in_ok-pairs.ensures.missing c.requires.count in
    if_ok (λ (found : List (ℕ × ℕ)). found ≡ topped c.in_ok-pairs.field-0.pairs c.in_ok-pairs.field-0.missing) (λ (found : List (ℕ × ℕ)). found ≡ settled_pairs c.args.target c.args.count (drop c.args.from c.args.duals.now)) c.top_up.result
    (λ found is. is ∙ shared) c.top_up.ensures
