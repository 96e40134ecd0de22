use Rattle.std.proofs.Common.{subst, arith}
use Rattle.std.proofs.lemmas.Grind.{common_steps}
use Rattle.std.proofs.lemmas.List.Elements.{All-more}
use Rattle.journal_record.specs.Shape.{CertificateFits}
use Rattle.journal_record.proofs.encoding.put_certificates.Goals as goal

pub loop-certificate-preserved : goal.loop-certificate-preserved
loop-certificate-preserved c = record {
  text = grind (arith, common_steps);
  numbers = All-more CertificateFits c.args.list.now c.loop-certificate.certificate-index _ c.loop-certificate-test.true c.loop-certificate.invariant.numbers (subst CertificateFits c.certificate-item.is c.in_ok-put_certificate.ensures.numbers);
}
