use Rattle.std.proofs.Common.{inl, inr}
use Rattle.journal_file.proofs.Newborn.{mark_read_leaves, mark_put_leaves}
use Rattle.journal_file.proofs.header_commit.unmark.Goals as goal
use Rattle.journal_file.proofs.header_commit.unmark.Goals.{then-len-le1-via-then-len-le1, then-len-le1-via-else-len-le1+then-byte-ne0}

pub returns-in_err-byte-clause-any_moment : goal.returns-in_err-byte-clause-any_moment
returns-in_err-byte-clause-any_moment g c = mark_read_leaves (g.D.Disk.store c.args.disk.now) _ (g.D.Disk.store c.args.disk.now) (g.D.Disk.lawful c.args.disk.now) c.requires.quiet c.byte_at.ensures.stays

pub returns-in_err-put-clause-any_moment : goal.returns-in_err-put-clause-any_moment
returns-in_err-put-clause-any_moment g c = mark_put_leaves (g.D.Disk.store c.args.disk.now) _ _ (g.D.Disk.lawful c.args.disk.now) c.requires.quiet c.byte_at.ensures.stays c.requires.uncommitted _ _ c.in_ok-byte.ensures.byte c.in_ok-byte.ensures.length (elim c.then-len-le1.branch [ then-len-le1-via-then-len-le1 w ↦ inl w.if-len-le1.true | then-len-le1-via-else-len-le1+then-byte-ne0 w ↦ inr w.if-byte-ne0.true ]) c.put.ensures.any_moment

pub returns-in_ok-put-clause-any_moment : goal.returns-in_ok-put-clause-any_moment
returns-in_ok-put-clause-any_moment g c = mark_put_leaves (g.D.Disk.store c.args.disk.now) _ _ (g.D.Disk.lawful c.args.disk.now) c.requires.quiet c.byte_at.ensures.stays c.requires.uncommitted _ _ c.in_ok-byte.ensures.byte c.in_ok-byte.ensures.length (elim c.then-len-le1.branch [ then-len-le1-via-then-len-le1 w ↦ inl w.if-len-le1.true | then-len-le1-via-else-len-le1+then-byte-ne0 w ↦ inr w.if-byte-ne0.true ]) c.put.ensures.any_moment
