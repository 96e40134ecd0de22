use Rattle.journal_file.proofs.Newborn.{tail_off_leaves}
use Rattle.journal_file.proofs.header_commit.clear.Goals as goal

pub returns-then-len-most-clause-any_moment : goal.returns-then-len-most-clause-any_moment
returns-then-len-most-clause-any_moment g c = tail_off_leaves (g.D.Disk.store c.args.disk.now) _ _ (g.D.Disk.lawful c.args.disk.now) c.requires.quiet c.args.most c.requires.some.0 c.requires.uncommitted c.unmark.ensures.any_moment c.in_ok-len.ensures.reads c.cut_to.ensures.any_moment
