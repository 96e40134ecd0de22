use Rattle.std.proofs.Common.{◌∙◌, length, Some, None, ap, sym, subst}
use Rattle.lp_table.specs.declared.table.WarmTable.{WarmTable}
use Rattle.lp_table.specs.declared.table.Basis.{Basis}
use Rattle.lp_table.specs.Shape.{IsTable, variables}
use Rattle.lp_pivot.specs.Clean.{clean_of}
use Rattle.lp_pivot.specs.Standings.{stood_up}
use Rattle.lp_pivot.proofs.Keeping.{keeps_clean, keeps_basis, keeps_stood, keeps_both}
use Rattle.lp_pivot.proofs.Sizes.{sized_clean, sized_stood}
use Rattle.lp_pivot.proofs.Tightening.{rebuilt_by}
use Rattle.lp_pivot.proofs.rebuilding.rebuild_from.Goals as goal

pub tighten_all-requires-clause-sized : goal.tighten_all-requires-clause-sized
tighten_all-requires-clause-sized c = subst IsTable (sym c.clean.ensures) (sized_clean c.args.table.now c.requires.sized)

pub tighten_all-requires-clause-width : goal.tighten_all-requires-clause-width
unfolding clean_of
tighten_all-requires-clause-width c = c.requires.width ∙ sym (ap (λ (t : WarmTable). length t.costs) c.clean.ensures)

pub tighten_all-requires-clause-steps : goal.tighten_all-requires-clause-steps
unfolding clean_of
tighten_all-requires-clause-steps c = c.requires.steps ∙ sym (ap (λ (t : WarmTable). length t.costs) c.clean.ensures)

pub tighten_all-requires-clause-places : goal.tighten_all-requires-clause-places
unfolding clean_of
tighten_all-requires-clause-places c = ap (λ (b : Basis). length b.places) c.requires.was ∙ c.requires.sized.places ∙ sym (ap variables c.clean.ensures)

pub returns-then-not-tighten_all-clause-rebuilt : goal.returns-then-not-tighten_all-clause-rebuilt
returns-then-not-tighten_all-clause-rebuilt c = rebuilt_by c.args.table.now c.clean.new.table c.args.was.now None c.requires.was c.clean.ensures c.if-not-tighten_all.ensures.tightened

pub stand_up-requires-clause-places : goal.stand_up-requires-clause-places
unfolding clean_of
stand_up-requires-clause-places c = ap (λ (b : Basis). length b.places) c.requires.was ∙ c.requires.sized.places ∙ sym (ap variables c.clean.ensures) ∙ sym (ap variables c.tighten_all.ensures.kept)

pub returns-clause-sized : goal.returns-clause-sized
returns-clause-sized c = subst IsTable (sym c.stand_up.ensures) (sized_stood c.args.was.now c.tighten_all.new.table c.tighten_all.ensures.sized)

pub returns-clause-rebuilt : goal.returns-clause-rebuilt
returns-clause-rebuilt c =
    rebuilt_by c.args.table.now c.clean.new.table c.args.was.now (Some c.tighten_all.new.table) c.requires.was c.clean.ensures c.if-not-tighten_all.ensures.tightened
    ∙ ap Some (ap (λ (b : Basis). stood_up b c.tighten_all.new.table) (sym c.requires.was) ∙ sym c.stand_up.ensures)

pub returns-then-not-tighten_all-clause-program : goal.returns-then-not-tighten_all-clause-program
returns-then-not-tighten_all-clause-program c =
    keeps_both c.args.table.now c.clean.new.table c.tighten_all.new.table (keeps_clean c.args.table.now c.clean.new.table c.clean.ensures) (keeps_basis c.clean.new.table c.tighten_all.new.table _ _ _ c.tighten_all.ensures.kept)

pub returns-clause-program : goal.returns-clause-program
returns-clause-program c =
    keeps_both c.args.table.now c.tighten_all.new.table c.stand_up.new.table
    (keeps_both c.args.table.now c.clean.new.table c.tighten_all.new.table (keeps_clean c.args.table.now c.clean.new.table c.clean.ensures) (keeps_basis c.clean.new.table c.tighten_all.new.table _ _ _ c.tighten_all.ensures.kept))
    (keeps_stood c.args.was.now c.tighten_all.new.table c.stand_up.new.table c.stand_up.ensures)
