use Rattle.std.proofs.Common.{◌∙◌, ℕ, ◌*◌, min, ap₂}
use Rattle.policy_evaluate.specs.TooBig.{most_size}
use Rattle.policy_evaluate.proofs.Stopping.{product_stops}
use Rattle.policy_evaluate.proofs.stage_sizes.path_size.Goals as goal

pub returns : goal.returns
returns c =
    c.capped_product.ensures
    ∙ ap₂ (λ (a b : ℕ). min (a * b) c.args.cap) (c.from.ensures ∙ c.longest.ensures) c.most_size.ensures
    ∙ product_stops c.args.problem.now.longest (most_size c.args.problem.now) c.args.cap
