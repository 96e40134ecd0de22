use Rattle.std.proofs.Common.{◌≡◌, ℕ, Option, None, Ok, IfSome, refl, sym, ◌∙◌, subst, arith, rules}
use Rattle.std.proofs.lemmas.Result.{err_from_is_err_and}
use Rattle.journal_load.specs.Refusals.{LoadFails}
use Rattle.journal_load.specs.Records.{Found, gathered_found, rest_at, record_at}
use Rattle.journal_load.proofs.DiskReadings.{same_bytes, stays_same, stays_on}
use Rattle.journal_load.proofs.Reaching.{Reached, reached_none, reached_clear, reached_fault, reached_many, reached_bad, reached_more}
use Rattle.journal_load.proofs.records.read_records.Goals as goal

pub loop-init : goal.loop-init
loop-init g c =
    let p = c.args.problem.now in
    let base = c.args.found.now.pools.lists in
    let r = (g.D.Disk.store c.args.disk.now).reads in
    let kept = g.K.Keeper.kept c.args.keep.now in (
      subst (λ (f : Found). Reached p base c.args.layout.batch c.args.layout.first r kept 0 c.args.layout.first f) (sym c.requires.fresh) (reached_none p base c.args.layout.batch c.args.layout.first r kept c.parts.ensures.validated c.requires.base c.requires.near c.requires.empty),
      stays_same (g.D.Disk.store c.args.disk.now),
      refl,
      c.requires.values,
    )

pub returns-in_err-tail-clause-value : goal.returns-in_err-tail-clause-value
returns-in_err-tail-clause-value g c =
    let e = err_from_is_err_and c.from_residual.result c.from_residual.ensures.1 in
    let l = c.loop in
    let r = (g.D.Disk.store c.args.disk.now).reads in
    let f = c.in_err-tail.field-0.0 in
    rw (e.1, e.2) (reached_fault c.args.problem.now c.args.found.now.pools.lists c.args.layout.batch c.args.layout.first r (g.K.Keeper.kept l.keep) l.counter l.at (gathered_found l.found) l.invariant.0 f
    (same_bytes (λ b. LoadFails f (rest_at b l.at)) r (g.D.Disk.store l.disk).reads l.invariant.1.reads c.in_err-tail.ensures.value))

pub returns-in-Some-clause-value : goal.returns-in-Some-clause-value
returns-in-Some-clause-value g c =
    let l = c.loop in
    let r = (g.D.Disk.store c.args.disk.now).reads in
    reached_clear c.args.problem.now c.args.found.now.pools.lists c.args.layout.batch c.args.layout.first r (g.K.Keeper.kept l.keep) l.counter l.at (gathered_found l.found) l.invariant.0 c.in-Some.tail
    (subst (λ (o : Option ℕ). IfSome r (λ b. rest_at b l.at ≡ Ok o)) c.in-Some.is (same_bytes (λ b. rest_at b l.at ≡ Ok c.in_ok-tail.field-0) r (g.D.Disk.store l.disk).reads l.invariant.1.reads c.in_ok-tail.ensures.value))

pub returns-in_err-entries-clause-value : goal.returns-in_err-entries-clause-value
returns-in_err-entries-clause-value g c =
    let e = err_from_is_err_and c.from_residual-in_err-entries.result c.from_residual-in_err-entries.ensures.1 in
    let l = c.loop in
    let p = c.args.problem.now in
    let r = (g.D.Disk.store c.args.disk.now).reads in
    let f = c.in_err-entries.field-0.0 in
    let none : c.in_ok-tail.field-0 ≡ None = search rules in
    let set = subst (λ (o : Option ℕ). IfSome r (λ b. rest_at b l.at ≡ Ok o)) none (same_bytes (λ b. rest_at b l.at ≡ Ok c.in_ok-tail.field-0) r (g.D.Disk.store l.disk).reads l.invariant.1.reads c.in_ok-tail.ensures.value) in
    rw (e.1, e.2) (reached_bad p c.args.found.now.pools.lists c.args.layout.batch c.args.layout.first r (g.K.Keeper.kept l.keep) l.counter l.at (gathered_found l.found) l.invariant.0 set c.loop-test.true f
    (same_bytes (λ b. LoadFails f (record_at p c.args.layout.batch b l.at (gathered_found l.found))) r (g.D.Disk.store c.rest_at.new.disk).reads (c.rest_at.ensures.stays.reads ∙ l.invariant.1.reads) c.in_err-entries.ensures.value))

pub loop-preserved : goal.loop-preserved
loop-preserved g c =
    let l = c.loop in
    let p = c.args.problem.now in
    let r = (g.D.Disk.store c.args.disk.now).reads in
    let none : c.in_ok-tail.field-0 ≡ None = search rules in
    let set = subst (λ (o : Option ℕ). IfSome r (λ b. rest_at b l.at ≡ Ok o)) none (same_bytes (λ b. rest_at b l.at ≡ Ok c.in_ok-tail.field-0) r (g.D.Disk.store l.disk).reads l.invariant.1.reads c.in_ok-tail.ensures.value) in
    let es = c.in_ok-entries.entries in
    let next = c.in_ok-entries.next in
    let more = gathered_found c.read_record.new.found in (
      reached_more p c.args.found.now.pools.lists c.args.layout.batch c.args.layout.first r (g.K.Keeper.kept l.keep) l.counter l.at (gathered_found l.found) l.invariant.0 set c.loop-test.true c.parts.ensures.validated c.requires.batch next es more (g.K.Keeper.kept c.keep.new.self)
          (same_bytes (λ b. record_at p c.args.layout.batch b l.at (gathered_found l.found) ≡ Ok (es, next, more)) r (g.D.Disk.store c.rest_at.new.disk).reads (c.rest_at.ensures.stays.reads ∙ l.invariant.1.reads) c.in_ok-entries.ensures.value)
          c.in_ok-entries.ensures.batch c.in_ok-entries.ensures.added c.in_ok-entries.ensures.next c.in_ok-keep.ensures,
      stays_on (g.D.Disk.store c.args.disk.now) (g.D.Disk.store l.disk) (g.D.Disk.store c.read_record.new.disk) l.invariant.1 (stays_on (g.D.Disk.store l.disk) (g.D.Disk.store c.rest_at.new.disk) (g.D.Disk.store c.read_record.new.disk) c.rest_at.ensures.stays c.read_record.ensures.stays),
      c.in_ok-entries.ensures.cause.otherwise (λ e. cc) ∙ c.in_ok-tail.ensures.cause.otherwise (λ e. cc) ∙ l.invariant.2,
      c.in_ok-entries.ensures.values,
    )

pub returns-in_err-tail-2-clause-value : goal.returns-in_err-tail-2-clause-value
returns-in_err-tail-2-clause-value g c =
    let e = err_from_is_err_and c.from_residual-in_err-tail-2.result c.from_residual-in_err-tail-2.ensures.1 in
    let l = c.loop in
    let r = (g.D.Disk.store c.args.disk.now).reads in
    let f = c.in_err-tail-2.field-0.0 in
    rw (e.1, e.2) (reached_fault c.args.problem.now c.args.found.now.pools.lists c.args.layout.batch c.args.layout.first r (g.K.Keeper.kept l.keep) l.counter l.at (gathered_found l.found) l.invariant.0 f
    (same_bytes (λ b. LoadFails f (rest_at b l.at)) r (g.D.Disk.store l.disk).reads l.invariant.1.reads c.in_err-tail-2.ensures.value))

pub returns-in-Some-2-clause-value : goal.returns-in-Some-2-clause-value
returns-in-Some-2-clause-value g c =
    let l = c.loop in
    let r = (g.D.Disk.store c.args.disk.now).reads in
    reached_clear c.args.problem.now c.args.found.now.pools.lists c.args.layout.batch c.args.layout.first r (g.K.Keeper.kept l.keep) l.counter l.at (gathered_found l.found) l.invariant.0 c.in-Some-2.tail
    (subst (λ (o : Option ℕ). IfSome r (λ b. rest_at b l.at ≡ Ok o)) c.in-Some-2.is (same_bytes (λ b. rest_at b l.at ≡ Ok c.in_ok-tail-2.field-0) r (g.D.Disk.store l.disk).reads l.invariant.1.reads c.in_ok-tail-2.ensures.value))

pub returns-clause-value : goal.returns-clause-value
returns-clause-value g c =
    let l = c.loop in
    let r = (g.D.Disk.store c.args.disk.now).reads in
    reached_many c.args.problem.now c.args.found.now.pools.lists c.args.layout.batch c.args.layout.first r (g.K.Keeper.kept l.keep) l.counter l.at (gathered_found l.found) l.invariant.0
    (subst (λ (o : Option ℕ). IfSome r (λ b. rest_at b l.at ≡ Ok o)) c.in-None.is (same_bytes (λ b. rest_at b l.at ≡ Ok c.in_ok-tail-2.field-0) r (g.D.Disk.store l.disk).reads l.invariant.1.reads c.in_ok-tail-2.ensures.value))
    (omega (arith, c.loop-test.false))
