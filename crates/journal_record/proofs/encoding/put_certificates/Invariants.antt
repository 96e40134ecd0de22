use Rattle.std.proofs.Common.{◌≡◌, ◌++◌, take}
use Rattle.std.specs.Prelude.{All}
use Rattle.std.specs.List.{flat_map}
use Rattle.journal_record.specs.Shape.{CertificateFits}
use Rattle.journal_record.specs.Spelling.{certificate_text}
use Rattle.journal_record.proofs.encoding.put_certificates.Given as goal

abbrev pub invariant-loop-certificate : goal.invariant-loop-certificate
invariant-loop-certificate l = record { text : l.out.items ≡ l.fn.out.items ++ flat_map certificate_text (take l.certificate-index l.list); numbers : All CertificateFits (take l.certificate-index l.list) }
