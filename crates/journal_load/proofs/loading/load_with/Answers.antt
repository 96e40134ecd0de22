use Rattle.std.proofs.Common.{◌≡◌, ◌⊎◌, Ok, [], sym, ap, subst, ◌∙◌}
use Rattle.std.proofs.lemmas.Result.{err_from_is_err_and}
use Rattle.journal_file.specs.declared.head.Head.{Head}
use Rattle.journal_file.specs.declared.head.HeadFault.TheVariants as heads
use Rattle.journal_file.specs.Head.{head_of}
use Rattle.journal_load.specs.Refusals.{LoadFails}
use Rattle.journal_load.specs.Load.{LoadsAs, load_from, load_records, title_asked, Outcome}
use Rattle.journal_load.proofs.Binding.{fails_from}
use Rattle.journal_load.proofs.DiskReadings.{told, known}
use Rattle.journal_load.proofs.Outcomes.{a_head, no_head, head_bad, head_good, uncommitted_from, title_bad, title_good}
use Rattle.journal_load.proofs.loading.load_with.Goals as goal

pub returns-in_err-read_head-clause-value : goal.returns-in_err-read_head-clause-value
returns-in_err-read_head-clause-value g c =
    let e = err_from_is_err_and c.from_residual.result c.from_residual.ensures.1 in
    let f = c.in_err-read_head.field-0.0 in
    let r = (g.D.Disk.store c.args.disk.now).reads in
    rw (e.1, e.2) (told r (λ b is. head_bad c.args.problem.now c.args.base.lists c.args.asked.now.digest.now c.args.asked.now.seed c.args.asked.now.batch b f (known (λ b. (no_head f ≡ head_of b) ⊎ (no_head f ≡ no_head heads.DiskFault)) r b is c.in_err-read_head.ensures.value)))

pub returns-in_err-check_title-in-Committed-clause-value : goal.returns-in_err-check_title-in-Committed-clause-value
returns-in_err-check_title-in-Committed-clause-value g c =
    let e = err_from_is_err_and c.from_residual-in_err-check_title-in-Committed.result c.from_residual-in_err-check_title-in-Committed.ensures.1 in
    let f = c.in_err-check_title-in-Committed.field-0.0 in
    let h = c.in_ok-read_head.field-0 in
    let b = c.in-Committed in
    let p = c.args.problem.now in
    let base = c.args.base.lists in
    let d = c.args.asked.now.digest.now in
    let seed = c.args.asked.now.seed in
    let batch = c.args.asked.now.batch in
    let r = (g.D.Disk.store c.args.disk.now).reads in
    rw (e.1, e.2) (told r (λ bytes is.
    let good = head_good p base d seed batch bytes h (known (λ x. (a_head h ≡ head_of x) ⊎ (a_head h ≡ no_head heads.DiskFault)) r bytes is c.in_ok-read_head.ensures.value) in
    let from = title_bad p base d seed batch bytes f b.number b.seed b.batch b.digest (fails_from f (title_asked d seed batch b.digest b.seed b.batch) c.in_err-check_title-in-Committed.ensures.value) in
    subst (LoadFails f) (sym (good ∙ ap (λ (k : Head). load_from p base d seed batch bytes k) b.is)) from))

pub returns-in-Uncommitted-clause-value : goal.returns-in-Uncommitted-clause-value
returns-in-Uncommitted-clause-value g c =
    let h = c.in_ok-read_head.field-0 in
    let p = c.args.problem.now in
    let base = c.args.base.lists in
    let d = c.args.asked.now.digest.now in
    let seed = c.args.asked.now.seed in
    let batch = c.args.asked.now.batch in
    let r = (g.D.Disk.store c.args.disk.now).reads in
    told r (λ bytes is.
    let good = head_good p base d seed batch bytes h (known (λ x. (a_head h ≡ head_of x) ⊎ (a_head h ≡ no_head heads.DiskFault)) r bytes is c.in_ok-read_head.ensures.value) in
    ([], c.requires.empty, good ∙ ap (λ (k : Head). load_from p base d seed batch bytes k) c.in-Uncommitted.is ∙ uncommitted_from p base d seed batch bytes c.in-Uncommitted.length ∙ ap (λ (o : Outcome). Ok (o, [])) (sym c.load_uncommitted.ensures.value)))

pub returns-in_ok-check_title-in-Committed-clause-value : goal.returns-in_ok-check_title-in-Committed-clause-value
returns-in_ok-check_title-in-Committed-clause-value g c =
    let h = c.in_ok-read_head.field-0 in
    let b = c.in-Committed in
    let p = c.args.problem.now in
    let base = c.args.base.lists in
    let d = c.args.asked.now.digest.now in
    let seed = c.args.asked.now.seed in
    let batch = c.args.asked.now.batch in
    let kept = g.K.Keeper.kept c.load_committed.new.keep in
    let r = (g.D.Disk.store c.args.disk.now).reads in
    let mid = (g.D.Disk.store c.read_head.new.disk).reads in
    told r (λ bytes is.
    let good = head_good p base d seed batch bytes h (known (λ x. (a_head h ≡ head_of x) ⊎ (a_head h ≡ no_head heads.DiskFault)) r bytes is c.in_ok-read_head.ensures.value) in
    let all = good ∙ ap (λ (k : Head). load_from p base d seed batch bytes k) b.is ∙ title_good p base d seed batch bytes b.number b.seed b.batch b.digest (sym c.in_ok-check_title-in-Committed.ensures.value) in
    subst (LoadsAs kept c.load_committed.result) (sym all) (known (λ x. LoadsAs kept c.load_committed.result (load_records p base x b.number b.batch)) mid bytes (c.read_head.ensures.stays.reads ∙ is) c.load_committed.ensures.value))
