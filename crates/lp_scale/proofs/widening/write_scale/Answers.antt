use Rattle.std.proofs.Common.{pos}
use Rattle.lp_scale.proofs.Cuts.{set_up_to}
use Rattle.lp_scale.proofs.Weights.{read_least, read_greatest}
use Rattle.lp_scale.proofs.widening.write_scale.Goals as goal

pub returns-clause-exponents : goal.returns-clause-exponents
returns-clause-exponents c =
    set_up_to 1000 c.args.exponents.now c.args.j _ (read_least (pos 0) _ (record { sfits = c.successor_scale.type_inv }) c.successor_scale.ensures.least) (read_greatest (pos 1000) _ (record { sfits = c.successor_scale.type_inv }) c.successor_scale.ensures.greatest) c.requires.exponents
