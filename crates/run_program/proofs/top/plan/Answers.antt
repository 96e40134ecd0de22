use Rattle.std.proofs.Common.{List, ℕ, IfSome, refl, subst}
use Rattle.run_program.specs.Journals.{JournalGrows, IfTraining, RunLeavesPrefix}
use Rattle.run_program.specs.declared.status.Status.TheVariants.{Done, WriteFault}
use Rattle.run_program.proofs.Reports.{lacks_explains}
use Rattle.run_program.proofs.Wrote.{of_source}
use Rattle.run_program.proofs.top.plan.Goals as goal

pub returns-in-Err-clause-cause : goal.returns-in-Err-clause-cause
returns-in-Err-clause-cause g c = lacks_explains _ _ _ c.in-Ok.bytes.items c.in-Ok.ensures.bytes.0 c.in-Ok.ensures.bytes.1 c.in-Ok.ensures.bytes.2 refl (c.in-Ok.ensures.otherwise (λ e. cc)) refl _ c.in-Err.status c.as_slice.ensures.value c.in-Err.ensures.lacks

pub returns-in-Err-clause-grown : goal.returns-in-Err-clause-grown
returns-in-Err-clause-grown g c =
    let v = g.V.Solver.does c.args.solver.now in
    let old = g.D.Disk.store c.args.outside.journal.now in
    let new = g.D.Disk.store c.report_of.new.journal in
    let command = c.args.command in
    let grown : IfTraining command (λ t. IfSome old.reads (λ kept. JournalGrows v c.in-Err.status c.in-Ok.bytes.items kept new t))
    = subst (λ (x : List ℕ). IfTraining command (λ t. IfSome old.reads (λ kept. JournalGrows v c.in-Err.status x kept new t))) c.as_slice.ensures.value c.in-Err.ensures.grown in
    of_source _ _ c.in-Ok.bytes.items command old.reads (λ b kept t. JournalGrows v c.in-Err.status b kept new t) c.in-Ok.ensures.bytes.0 c.in-Ok.ensures.bytes.1 grown

pub returns-in-Err-clause-any_moment : goal.returns-in-Err-clause-any_moment
returns-in-Err-clause-any_moment g c =
    let v = g.V.Solver.does c.args.solver.now in
    let old = g.D.Disk.store c.args.outside.journal.now in
    let new = g.D.Disk.store c.report_of.new.journal in
    let command = c.args.command in
    let leaves : IfTraining command (λ t. IfSome old.reads (λ kept. RunLeavesPrefix v c.in-Ok.bytes.items kept old new t))
    = subst (λ (x : List ℕ). IfTraining command (λ t. IfSome old.reads (λ kept. RunLeavesPrefix v x kept old new t))) c.as_slice.ensures.value c.in-Err.ensures.any_moment in
    of_source _ _ c.in-Ok.bytes.items command old.reads (λ b kept t. RunLeavesPrefix v b kept old new t) c.in-Ok.ensures.bytes.0 c.in-Ok.ensures.bytes.1 leaves

-- the status of a text that was not written whole has trained as Done has
pub returns-clause-grown : goal.returns-clause-grown
returns-clause-grown g c =
    let v = g.V.Solver.does c.args.solver.now in
    let old = g.D.Disk.store c.args.outside.journal.now in
    let new = g.D.Disk.store c.report_of.new.journal in
    let command = c.args.command in
    let grown : IfTraining command (λ t. IfSome old.reads (λ kept. JournalGrows v WriteFault c.in-Ok.bytes.items kept new t))
    = subst (λ (x : List ℕ). IfTraining command (λ t. IfSome old.reads (λ kept. JournalGrows v WriteFault x kept new t))) c.as_slice.ensures.value c.in-Ok-report_of.ensures.grown in
    of_source _ _ c.in-Ok.bytes.items command old.reads (λ b kept t. JournalGrows v WriteFault b kept new t) c.in-Ok.ensures.bytes.0 c.in-Ok.ensures.bytes.1 grown

pub returns-in-Ok-put-clause-grown : goal.returns-in-Ok-put-clause-grown
returns-in-Ok-put-clause-grown g c =
    let v = g.V.Solver.does c.args.solver.now in
    let old = g.D.Disk.store c.args.outside.journal.now in
    let new = g.D.Disk.store c.report_of.new.journal in
    let command = c.args.command in
    let grown : IfTraining command (λ t. IfSome old.reads (λ kept. JournalGrows v Done c.in-Ok.bytes.items kept new t))
    = subst (λ (x : List ℕ). IfTraining command (λ t. IfSome old.reads (λ kept. JournalGrows v Done x kept new t))) c.as_slice.ensures.value c.in-Ok-report_of.ensures.grown in
    of_source _ _ c.in-Ok.bytes.items command old.reads (λ b kept t. JournalGrows v Done b kept new t) c.in-Ok.ensures.bytes.0 c.in-Ok.ensures.bytes.1 grown

pub returns-in-Ok-put-clause-any_moment : goal.returns-in-Ok-put-clause-any_moment
returns-in-Ok-put-clause-any_moment g c =
    let v = g.V.Solver.does c.args.solver.now in
    let old = g.D.Disk.store c.args.outside.journal.now in
    let new = g.D.Disk.store c.report_of.new.journal in
    let command = c.args.command in
    let leaves : IfTraining command (λ t. IfSome old.reads (λ kept. RunLeavesPrefix v c.in-Ok.bytes.items kept old new t))
    = subst (λ (x : List ℕ). IfTraining command (λ t. IfSome old.reads (λ kept. RunLeavesPrefix v x kept old new t))) c.as_slice.ensures.value c.in-Ok-report_of.ensures.any_moment in
    of_source _ _ c.in-Ok.bytes.items command old.reads (λ b kept t. RunLeavesPrefix v b kept old new t) c.in-Ok.ensures.bytes.0 c.in-Ok.ensures.bytes.1 leaves

pub returns-clause-any_moment : goal.returns-clause-any_moment
returns-clause-any_moment g c =
    let v = g.V.Solver.does c.args.solver.now in
    let old = g.D.Disk.store c.args.outside.journal.now in
    let new = g.D.Disk.store c.report_of.new.journal in
    let command = c.args.command in
    let leaves : IfTraining command (λ t. IfSome old.reads (λ kept. RunLeavesPrefix v c.in-Ok.bytes.items kept old new t))
    = subst (λ (x : List ℕ). IfTraining command (λ t. IfSome old.reads (λ kept. RunLeavesPrefix v x kept old new t))) c.as_slice.ensures.value c.in-Ok-report_of.ensures.any_moment in
    of_source _ _ c.in-Ok.bytes.items command old.reads (λ b kept t. RunLeavesPrefix v b kept old new t) c.in-Ok.ensures.bytes.0 c.in-Ok.ensures.bytes.1 leaves
