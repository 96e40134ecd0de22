use Rattle.std.proofs.Common.{◌∙◌, refl, sym}
use Rattle.cut_pool.proofs.MoreCuts.{more}
use Rattle.cut_pool.proofs.ShortSlopes.{not_err}
use Rattle.cut_pool.proofs.flat_cuts.FlatCuts.add.Goals as goal

pub returns-else-is_err : goal.returns-else-is_err
returns-else-is_err c = λ cuts flat.
    let r = c.push.result in
    let went = sym c.is_err.ensures.value ∙ c.if-is_err.false in
    more cuts c.args.cut.now c.args.self.now c.push.new.self flat c.if-not-self.false
    (c.if-not-takes.ensures.count refl) (c.if-not-takes.ensures.height refl) (c.if-not-takes.ensures.room refl)
    (not_err r went c.push.ensures.heights) (not_err r went c.push.ensures.slopes) (not_err r went c.push.ensures.small) (c.push.ensures.states)
