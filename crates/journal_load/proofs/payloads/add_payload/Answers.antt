use Rattle.std.proofs.Common.{◌≡◌, ◌+◌, ℕ, suc, List, length, sym, ap, ◌∙◌, subst, arith}
use Rattle.cut_pool.specs.declared.entry.Entry.{Entry}
use Rattle.journal_record.specs.Shape.{IsBatch}
use Rattle.journal_load.specs.Accepted.{IsSound}
use Rattle.journal_load.specs.Records.{gathered_found, record_added}
use Rattle.journal_load.proofs.Recorded.{record_sound}
use Rattle.journal_load.proofs.payloads.add_payload.Goals as goal

pub returns-clause-gathered : goal.returns-clause-gathered
returns-clause-gathered c =
    let p = c.args.problem.now in
    let i = length c.args.found.now.bounds in
    let es = c.in_ok-entries.entries in
    let new = gathered_found c.add_record.new.found in
    let k : c.len.result + 1 ≡ suc i = omega (arith, c.len.ensures) in
    let s = record_sound p c.parts.ensures.validated c.args.batch i es (subst (λ (n : ℕ). IsBatch p n c.args.batch es) k c.in_ok-entries.ensures.batch) c.requires.most (gathered_found c.args.found.now) new c.requires.gathered.sound (ap (λ (l : List Entry). record_added p (gathered_found c.args.found.now) l) (sym c.as_slice.ensures) ∙ c.in_ok-add_record.ensures.value) in
    record { sound = subst (λ (n : ℕ). IsSound p c.args.batch n new) (sym s.count) s; values = c.in_ok-add_record.ensures.values }

pub returns-clause-count : goal.returns-clause-count
returns-clause-count c =
    let p = c.args.problem.now in
    let i = length c.args.found.now.bounds in
    let es = c.in_ok-entries.entries in
    let new = gathered_found c.add_record.new.found in
    let k : c.len.result + 1 ≡ suc i = omega (arith, c.len.ensures) in
    let s = record_sound p c.parts.ensures.validated c.args.batch i es (subst (λ (n : ℕ). IsBatch p n c.args.batch es) k c.in_ok-entries.ensures.batch) c.requires.most (gathered_found c.args.found.now) new c.requires.gathered.sound (ap (λ (l : List Entry). record_added p (gathered_found c.args.found.now) l) (sym c.as_slice.ensures) ∙ c.in_ok-add_record.ensures.value) in
    omega (arith, s.count)
