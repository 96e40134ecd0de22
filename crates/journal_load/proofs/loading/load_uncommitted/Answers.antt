use Rattle.std.proofs.Common.{ℤ, List, [], false, sym, subst, arith}
use Rattle.journal_load.specs.declared.loaded.Loaded.{Loaded}
use Rattle.journal_load.specs.Accepted.{Accepted, IsSound}
use Rattle.journal_load.proofs.Reaching.{sound_none, accepted_none}
use Rattle.journal_load.proofs.Outcomes.{safe_from}
use Rattle.journal_load.proofs.loading.load_uncommitted.Goals as goal

pub returns-clause-accepted : goal.returns-clause-accepted
returns-clause-accepted c =
    let p = c.args.problem.now in
    let base = c.args.base.lists in
    subst (λ (bounds : List ℤ). Accepted p base [] (record { pools = base; bounds = bounds; unanswered = 0 })) (sym c.new.ensures) (accepted_none p base)

pub returns-clause-safe : goal.returns-clause-safe
returns-clause-safe c =
    let p = c.args.problem.now in
    let base = c.args.base.lists in
    let batch = c.new_title-version.result.1 in
    let l : Loaded = record { pools = c.args.base; bounds = c.new.result; unanswered = 0; committed = false; end = 0; tail = 0; version = c.new_title-version.result.0; batch = batch } in
    safe_from p l 0 (omega arith) (subst (λ (bounds : List ℤ). IsSound p batch 0 (record { pools = base; bounds = bounds; unanswered = 0 })) (sym c.new.ensures) (sound_none p base batch c.parts.ensures.validated c.requires.base)) c.new_title-version.ensures.known (omega arith)
