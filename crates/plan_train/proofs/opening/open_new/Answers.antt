use Rattle.std.proofs.Common.{List, ℕ, IfSome, subst}
use Rattle.base_device.specs.Since.{LeavesOnly}
use Rattle.journal_file.specs.Layout.{Title}
use Rattle.journal_file.specs.IsPrefix.{IsPrefix}
use Rattle.journal_load.specs.Load.{seen_outcome}
use Rattle.plan_train.specs.Training.{title_of}
use Rattle.plan_train.proofs.Opened.{committed_leaves}
use Rattle.plan_train.proofs.opening.open_new.Goals as goal

pub returns-in_err-commit_header-clause-any_moment : goal.returns-in_err-commit_header-clause-any_moment
returns-in_err-commit_header-clause-any_moment g c =
    let old = g.D.Disk.store c.args.disk.now in
    let new = g.D.Disk.store c.commit_header.new.disk in
    committed_leaves (title_of c.args.digest.now c.args.seed (seen_outcome c.args.loaded.now)) (seen_outcome c.args.loaded.now) old new c.requires.committed
    (subst (λ (t : Title). IfSome old.reads (λ bytes. (qs : List (List ℕ)) → IsPrefix t qs 0 bytes → LeavesOnly old new (IsPrefix t qs 0))) (c.batch_of.ensures.title c.args.digest.now c.args.seed) c.commit_header.ensures.any_moment)

pub returns-clause-any_moment : goal.returns-clause-any_moment
returns-clause-any_moment g c =
    let old = g.D.Disk.store c.args.disk.now in
    let new = g.D.Disk.store c.commit_header.new.disk in
    committed_leaves (title_of c.args.digest.now c.args.seed (seen_outcome c.args.loaded.now)) (seen_outcome c.args.loaded.now) old new c.requires.committed
    (subst (λ (t : Title). IfSome old.reads (λ bytes. (qs : List (List ℕ)) → IsPrefix t qs 0 bytes → LeavesOnly old new (IsPrefix t qs 0))) (c.batch_of.ensures.title c.args.digest.now c.args.seed) c.commit_header.ensures.any_moment)
