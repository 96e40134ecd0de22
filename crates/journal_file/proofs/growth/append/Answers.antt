use Rattle.journal_file.proofs.Growing.{body_short, body_put_leaves, commit_byte_opened_leaves}
use Rattle.journal_file.proofs.growth.append.Goals as goal

pub put-requires-clause-short : goal.put-requires-clause-short
put-requires-clause-short g c = body_short c.args.body.now c.requires.body

pub returns-in_err-put-clause-any_moment : goal.returns-in_err-put-clause-any_moment
returns-in_err-put-clause-any_moment g c = body_put_leaves (g.D.Disk.store c.args.disk.now) _ (g.D.Disk.store c.put.new.disk) (g.D.Disk.lawful c.args.disk.now) c.requires.quiet c.args.at _ c.requires.last c.put.ensures.any_moment

pub returns-in_err-put-2-clause-any_moment : goal.returns-in_err-put-2-clause-any_moment
returns-in_err-put-2-clause-any_moment g c = commit_byte_opened_leaves (g.D.Disk.store c.args.disk.now) _ _ (g.D.Disk.lawful c.args.disk.now) c.requires.quiet c.args.at _ c.requires.last c.put.ensures.any_moment c.in_ok-put.ensures.reads c.put-2.ensures.any_moment

pub returns-clause-any_moment : goal.returns-clause-any_moment
returns-clause-any_moment g c = commit_byte_opened_leaves (g.D.Disk.store c.args.disk.now) _ _ (g.D.Disk.lawful c.args.disk.now) c.requires.quiet c.args.at _ c.requires.last c.put.ensures.any_moment c.in_ok-put.ensures.reads c.put-2.ensures.any_moment
