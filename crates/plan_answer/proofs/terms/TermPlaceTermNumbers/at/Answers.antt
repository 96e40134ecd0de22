use Rattle.plan_answer.proofs.Beside.{place_same, place_other}
use Rattle.plan_answer.proofs.terms.TermPlaceTermNumbers.at.Goals as goal

pub returns-then-index-self : goal.returns-then-index-self
returns-then-index-self c = place_same c.args.index c.args.self.now.index c.if-index-self.true

pub returns-else-index-self : goal.returns-else-index-self
returns-else-index-self c = place_other c.args.index c.args.self.now.index c.if-index-self.false
