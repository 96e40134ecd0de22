use Rattle.journal_file.proofs.Growing.{commit_byte_read_leaves, commit_byte_put_leaves}
use Rattle.journal_file.proofs.growth.clear_commit_byte.Goals as goal

pub returns-in_err-byte-clause-any_moment : goal.returns-in_err-byte-clause-any_moment
returns-in_err-byte-clause-any_moment g c = commit_byte_read_leaves (g.D.Disk.store c.args.disk.now) _ (g.D.Disk.store c.args.disk.now) (g.D.Disk.lawful c.args.disk.now) c.requires.quiet _ c.byte_at.ensures.stays

pub returns-else-byte-ne0-clause-any_moment : goal.returns-else-byte-ne0-clause-any_moment
returns-else-byte-ne0-clause-any_moment g c = commit_byte_read_leaves (g.D.Disk.store c.args.disk.now) _ (g.D.Disk.store c.args.disk.now) (g.D.Disk.lawful c.args.disk.now) c.requires.quiet _ c.byte_at.ensures.stays

pub returns-in_err-put-clause-any_moment : goal.returns-in_err-put-clause-any_moment
returns-in_err-put-clause-any_moment g c = commit_byte_put_leaves (g.D.Disk.store c.args.disk.now) _ _ (g.D.Disk.lawful c.args.disk.now) c.requires.quiet _ c.byte_at.ensures.stays _ c.if-byte-ne0.true c.in_ok-byte.ensures.byte c.put.ensures.any_moment

pub returns-in_ok-put-clause-any_moment : goal.returns-in_ok-put-clause-any_moment
returns-in_ok-put-clause-any_moment g c = commit_byte_put_leaves (g.D.Disk.store c.args.disk.now) _ _ (g.D.Disk.lawful c.args.disk.now) c.requires.quiet _ c.byte_at.ensures.stays _ c.if-byte-ne0.true c.in_ok-byte.ensures.byte c.put.ensures.any_moment
