use Rattle.std.proofs.Common.{◌≡◌, ◌<◌, ℕ, List, length, subst, sym, ap, ◌∙◌}
use Rattle.std.proofs.lemmas.List.{append-nil}
use Rattle.plan_draw.specs.Picked.{picked}
use Rattle.plan_draw.proofs.Picking.{picked_in_range}
use Rattle.plan_draw.proofs.picks.pick.Goals as goal

pub returns-clause-in_range : goal.returns-clause-in_range
returns-clause-in_range c =
    let is : c.pick_or_stop.result ≡ picked c.args.weights.now c.args.word = c.pick_or_stop.ensures ∙ ap (λ (ws : List ℕ). picked ws c.args.word) (append-nil c.args.weights.now) in
    subst (λ (k : ℕ). k < length c.args.weights.now) (sym is) (picked_in_range c.args.weights.now c.args.word c.ranges.word.fits c.requires.some c.requires.weights)
