use Rattle.std.proofs.lemmas.Result.{err_from_is_err_and}
use Rattle.journal_record.specs.Reading.{many, certificate_at}
use Rattle.journal_record.proofs.Loop.{goes_on, ends, is_done}
use Rattle.journal_record.proofs.certificates.certificates.Goals as goal

pub returns-in_err-certificate : goal.returns-in_err-certificate
returns-in_err-certificate c =
    let l = c.loop in
    let p = err_from_is_err_and c.from_residual-in_err-certificate.result c.from_residual-in_err-certificate.ensures.1 in
    rw (p.1, p.2) (ends (certificate_at c.args.sizes) c.in_err-certificate.field-0.0 l.found.items c.args.sizes.realizations l.counter l.tail.now (many (certificate_at c.args.sizes) c.args.sizes.realizations c.args.bytes.now) c.loop-test.true c.in_err-certificate.ensures l.invariant)

pub loop-preserved : goal.loop-preserved
loop-preserved c =
    let l = c.loop in
    rw c.in_ok-push.ensures.items (goes_on (certificate_at c.args.sizes) l.found.items c.args.sizes.realizations l.counter l.tail.now c.in_ok-certificate.certificate c.in_ok-certificate.after.now (many (certificate_at c.args.sizes) c.args.sizes.realizations c.args.bytes.now) c.loop-test.true c.in_ok-certificate.ensures l.invariant)

pub returns : goal.returns
returns c = let l = c.loop in rw c.from_vec.ensures (is_done (certificate_at c.args.sizes) l.found.items c.args.sizes.realizations l.counter l.tail.now (many (certificate_at c.args.sizes) c.args.sizes.realizations c.args.bytes.now) c.loop-test.false l.invariant)
