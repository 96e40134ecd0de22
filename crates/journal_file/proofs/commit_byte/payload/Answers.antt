use Rattle.std.proofs.Common.{◌∙◌, arith}
use Rattle.journal_file.proofs.Reading.{told_headless, told_long, told_short, told_whole}
use Rattle.journal_file.proofs.commit_byte.payload.Goals as goal

pub returns-then-len-at-clause-value : goal.returns-then-len-at-clause-value
returns-then-len-at-clause-value g c = told_headless _ _ c.in_ok-len.len c.in_ok-len.ensures.value _ c.if-len-at.true

pub returns-then-length-gt-MOST_PAYLOAD-clause-value : goal.returns-then-length-gt-MOST_PAYLOAD-clause-value
returns-then-length-gt-MOST_PAYLOAD-clause-value g c =
    told_long _ _ c.in_ok-len.len c.in_ok-len.ensures.value _ c.len.ensures.stays.reads _ _ c.in_ok-read_at.ensures.value c.from_be_bytes-length.ensures (omega (arith, c.if-len-at.false)) _ c.if-length-gt-MOST_PAYLOAD.true

pub returns-then-len-next-clause-value : goal.returns-then-len-next-clause-value
returns-then-len-next-clause-value g c =
    told_short _ _ c.in_ok-len.len c.in_ok-len.ensures.value _ c.len.ensures.stays.reads _ _ c.in_ok-read_at.ensures.value c.from_be_bytes-length.ensures (omega (arith, c.if-len-at.false)) _ (omega (arith, c.if-length-gt-MOST_PAYLOAD.false)) (omega (arith, c.if-len-next.true, c.from.ensures))

pub returns-clause-value : goal.returns-clause-value
returns-clause-value g c =
    told_whole _ _ c.in_ok-len.len c.in_ok-len.ensures.value _ c.len.ensures.stays.reads _ _ c.in_ok-read_at.ensures.value c.from_be_bytes-length.ensures (omega (arith, c.if-len-at.false)) (omega (arith, c.if-length-gt-MOST_PAYLOAD.false)) (omega (arith, c.if-len-next.false, c.from.ensures)) _ (c.read_at.ensures.stays.reads ∙ c.len.ensures.stays.reads) _ c.in_ok-read_into.ensures.bytes
