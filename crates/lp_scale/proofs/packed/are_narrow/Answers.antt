use Rattle.std.proofs.Common.{sym, ap, ◌∙◌, nat_le, get_or}
use Rattle.std.specs.List.{list_all}
use Rattle.lp_program.specs.declared.packed.Out.{Out}
use Rattle.lp_scale.proofs.Waits.{narrow_rows}
use Rattle.lp_scale.proofs.packed.are_narrow.Goals as goal

pub returns : goal.returns
returns c = λ t. narrow_rows c.args.reaches.now c.args.view.now.outs c.args.view.now.first c.args.view.now.cuts c.requires.few (ap (list_all (λ (o : Out). nat_le (get_or c.args.reaches.now o.decision 0) 71)) (sym c.as_slice.ensures) ∙ sym c.are_outs_short.ensures ∙ t) c.read_all.ensures
