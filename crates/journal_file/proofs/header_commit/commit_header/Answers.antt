use Rattle.std.proofs.Common.{rules}
use Rattle.journal_file.proofs.Newborn.{clear_leaves, head_put_leaves, header_commit_put_leaves, header_commit_reads}
use Rattle.journal_file.proofs.DiskBytes.{on_ok}
use Rattle.journal_file.proofs.header_commit.commit_header.Goals as goal

pub returns-in_err-clear-clause-any_moment : goal.returns-in_err-clear-clause-any_moment
returns-in_err-clear-clause-any_moment g c = clear_leaves c.args.digest.now c.args.seed c.args.batch (search rules) (g.D.Disk.store c.args.disk.now) (g.D.Disk.store c.clear.new.disk) c.clear.ensures.any_moment

pub returns-in_err-put-clause-any_moment : goal.returns-in_err-put-clause-any_moment
returns-in_err-put-clause-any_moment g c = head_put_leaves c.args.digest.now c.args.seed c.args.batch (search rules) (g.D.Disk.store c.args.disk.now) (g.D.Disk.store c.clear.new.disk) c.clear.ensures.any_moment (g.D.Disk.lawful c.args.disk.now) c.requires.quiet c.new_head-count.result.0 c.new_head-count.result.1 c.new_head-count.ensures.count c.new_head-count.ensures.bytes c.in_ok-clear.ensures.reads (g.D.Disk.store c.put.new.disk) (g.D.Disk.store c.put.new.disk) c.put.ensures.any_moment

pub returns-clause-any_moment : goal.returns-clause-any_moment
returns-clause-any_moment g c = header_commit_put_leaves c.args.digest.now c.args.seed c.args.batch (search rules) (g.D.Disk.store c.args.disk.now) (g.D.Disk.store c.clear.new.disk) c.clear.ensures.any_moment (g.D.Disk.lawful c.args.disk.now) c.requires.quiet c.new_head-count.result.0 c.new_head-count.result.1 c.new_head-count.ensures.count c.new_head-count.ensures.bytes c.in_ok-clear.ensures.reads (g.D.Disk.store c.put.new.disk) (g.D.Disk.store c.put-2.new.disk) c.put.ensures.any_moment c.in_ok-put.ensures.reads c.put-2.ensures.any_moment

pub returns-clause-reads : goal.returns-clause-reads
returns-clause-reads g c = on_ok c.put-2.result c.put-2.ensures.reads (header_commit_reads c.args.digest.now c.args.seed c.args.batch (search rules) (g.D.Disk.store c.args.disk.now) (g.D.Disk.store c.clear.new.disk) c.clear.ensures.any_moment (g.D.Disk.lawful c.args.disk.now) c.requires.quiet c.new_head-count.result.0 c.new_head-count.result.1 c.new_head-count.ensures.count c.new_head-count.ensures.bytes c.in_ok-clear.ensures.reads (g.D.Disk.store c.put.new.disk) (g.D.Disk.store c.put-2.new.disk) c.in_ok-put.ensures.reads)
