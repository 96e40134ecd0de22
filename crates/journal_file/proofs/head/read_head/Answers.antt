use Rattle.std.proofs.Common.{◌≡◌, inl, ℕ, length, take, min, ◌∙◌, ap, rules}
use Rattle.journal_file.proofs.Reading.{head_read}
use Rattle.journal_file.proofs.DiskBytes.{told, known}
use Rattle.journal_file.proofs.head.read_head.Goals as goal

pub returns-clause-value : goal.returns-clause-value
returns-clause-value g c =
    let r = (g.D.Disk.store c.args.disk.now).reads in
    told r (λ bytes is.
    let len = known (λ b. c.in_ok-len.len ≡ length b) r bytes is c.in_ok-len.ensures.length in
    let front = known (λ b. take (min c.in_ok-len.len 54) c.read_front.new.buffer ≡ take (min c.in_ok-len.len 54) b) r bytes is c.in_ok-len.ensures.front in
    let m : c.min.result ≡ min c.in_ok-len.len 54 = search rules in
    inl (c.head_from.ensures.value ∙ head_read bytes (take c.min.result c.read_front.new.buffer) c.in_ok-len.len len (ap (λ (n : ℕ). take n c.read_front.new.buffer) m ∙ front)))
