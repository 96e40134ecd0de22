use Rattle.std.proofs.Common.{◌≡◌, [], ◌∷◌, ◌++◌, length, take, ◌∙◌, arith}
use Rattle.base_device.specs.Disks.{written}
use Rattle.journal_file.proofs.Growing.{rest_off_leaves}
use Rattle.journal_file.proofs.Bytes.{written_last}
use Rattle.journal_file.proofs.DiskBytes.{told, known, map_as}
use Rattle.journal_file.proofs.growth.recover.Goals as goal

pub returns-then-len-at-clause-any_moment : goal.returns-then-len-at-clause-any_moment
returns-then-len-at-clause-any_moment g c = rest_off_leaves (g.D.Disk.store c.args.disk.now) _ _ (g.D.Disk.lawful c.args.disk.now) c.requires.quiet _ c.clear_commit_byte.ensures.any_moment c.in_ok-len.ensures.reads c.cut_to.ensures.any_moment

pub returns-clause-reads : goal.returns-clause-reads
returns-clause-reads g c =
    let old = g.D.Disk.store c.args.disk.now in
    c.in_ok-len.ensures.reads ∙ map_as old.reads (λ b. written b c.args.at (0 ∷ [])) (λ b. take c.args.at b ++ 0 ∷ []) (told old.reads (λ bytes is.
    let len = known (λ b. c.in_ok-len.len ≡ length b) old.reads bytes is c.in_ok-len.ensures.length in
    written_last bytes c.args.at 0 (omega (arith, len, c.if-len-at.false))))
