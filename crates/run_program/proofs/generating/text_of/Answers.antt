use Rattle.run_program.proofs.Reports.{accepts}
use Rattle.run_program.proofs.generating.text_of.Goals as goal

pub returns-clause-accepted : goal.returns-clause-accepted
returns-clause-accepted c = accepts (λ v. v.items) c.generate.result c.generate.ensures.accepted c.generate.ensures.base_fits
