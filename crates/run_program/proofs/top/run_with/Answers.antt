use Rattle.run_program.specs.Words.{asked_command}
use Rattle.run_program.proofs.ResumedRuns.{asked_within, resumes}
use Rattle.run_program.proofs.Meant.{meant}
use Rattle.run_program.proofs.Plans.{describes}
use Rattle.run_program.proofs.Reports.{completes}
use Rattle.run_program.proofs.Sounding.{sounds}
use Rattle.run_program.proofs.top.run_with.Goals as goal

-- what the status tells of the run has the rest in it
pub returns : goal.returns
returns g c =
    let wanted = asked_command c.args.words.now in
    let done = c.act.ensures in
    record {
      cause = done.cause;
      complete = completes _ wanted _ _ done.cause;
      means = meant _ wanted _ _ done.cause;
      sound = sounds _ wanted _ _ done.cause;
      described = describes _ wanted _ _ done.cause;
      unwritten = done.unwritten;
      unread = done.unread;
      journal = done.journal;
      journal_unread = done.journal_unread;
      journal_later = done.journal_later;
      grown = done.grown;
      any_moment = done.any_moment;
      resumed = resumes _ wanted _ _ (g.D.Disk.store c.act.new.outside.1.0) (asked_within c.args.words.now) done.cause done.grown;
    }
