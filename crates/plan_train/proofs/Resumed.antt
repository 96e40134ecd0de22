-- Training that was stopped and is resumed leaves what unstopped training does.
use Rattle.std.proofs.Common.{◌≡◌, ◌≢◌, ◌∙◌, ℕ, ◌+◌, ◌-◌, ◌≤◌, true, ℤ, List, [], ◌∷◌, ◌++◌, length, take, get_or, Option, Some, None, Ok, refl, sym, ap, subst, arith}
use Rattle.std.specs.List.{sum_by}
use Rattle.std.proofs.Math.Logic.{⊎_elim}
use Rattle.std.proofs.Math.Seq.{take-append_seam}
use Rattle.std.proofs.lemmas.List.{length-map, take-map}
use Rattle.std.proofs.lemmas.List.Sums.{sum_by-append}
use Rattle.problem.specs.Formulas.{too_much}
use Rattle.problem.specs.Validated.{Validated, is_validated}
use Rattle.theory.specs.declared.cut.Cut.{Cut}
use Rattle.theory.specs.Range.{based}
use Rattle.cut_pool.specs.declared.entry.Entry.{Entry}
use Rattle.journal_record.specs.Spelling.{spell}
use Rattle.journal_file.specs.Layout.{Title, IsTitle, front, journal, new_title, body_of, records}
use Rattle.journal_file.specs.IsPrefix.{Uncommitted, Grown, clear, half_open, IsPrefix, uncommitted, committed}
use Rattle.journal_load.specs.Load as loads
use Rattle.journal_load.specs.Load.{Outcome, load_of}
use Rattle.lp_program.specs.Solving.{Solving}
use Rattle.plan_train.specs.Continuing.{Continued, continued}
use Rattle.plan_train.specs.Resuming.{Resumes, unstopped}
use Rattle.plan_train.specs.Training.{HoldsPrefix, loaded_front, iterations, payloads, title_of, unanswered_in}
use Rattle.plan_train.specs.Training as training
use Rattle.plan_train.proofs.Continuing.{counted}
use Rattle.plan_train.proofs.Placed.{front-append, payloads-append}
use Rattle.plan_train.proofs.Recorded.{AreRecorded, are_recorded, found_by}
use Rattle.plan_train.proofs.Reread.{AsksFor, journal_loaded, uncommitted_loaded}
use Rattle.plan_train.proofs.Splitting.{joined, split, few_lists, running_before, first_lists}

-- the title of a new journal, and the batch that is asked
asks_for : (digest : List ℕ) (seed : ℕ) (asked : Option ℕ) → AsksFor asked (new_title digest seed asked).batch
asks_for digest seed None = tt
asks_for digest seed (Some b) = refl

-- the title of a journal that is not committed
uncommitted_title : (digest : List ℕ) (seed : ℕ) (asked : Option ℕ) (base : List (List Cut)) → title_of (new_title digest seed asked).digest (new_title digest seed asked).seed (loads.uncommitted base asked) ≡ new_title digest seed asked
uncommitted_title digest seed None base = refl
uncommitted_title digest seed (Some b) base = refl

few_paths : (t : Title) → IsTitle t → t.batch ≤ 64
few_paths t title = ⊎_elim (λ one. omega (arith, one.1)) (λ two. two.2) title.version

not_open : (n : ℕ) → n ≡ 0 → n ≢ 1
not_open n z e = omega (arith, z, e)

-- the bytes before the commit byte of a journal
front_of : (t : Title) (ps : List (List ℕ)) (commit_byte : ℕ) (tail : List ℕ) → take (length (front t ps)) (journal t ps commit_byte tail) ≡ front t ps
front_of t ps commit_byte tail = take-append_seam (front t ps) (commit_byte ∷ tail)

-- the records of more lists behind it
pub grown_to : (t : Title) (f : List ℕ) (some more : List (List Entry)) → f ≡ front t (payloads some) → f ++ records (payloads more) ++ 0 ∷ [] ≡ journal t (payloads (some ++ more)) 0 []
grown_to t f some more is =
    ap (λ (l : List ℕ). l ++ records (payloads more) ++ 0 ∷ []) is
    ∙ ap (λ (l : List ℕ). l ++ 0 ∷ []) (sym (front-append t (payloads some) (payloads more)))
    ∙ ap (λ (ps : List (List ℕ)). front t ps ++ 0 ∷ []) (sym (payloads-append some more))

module _ {Start Chain : Type 0} (v : Solving Start Chain) (p : Validated) (validated : is_validated p ≡ true) (base : List (List Cut)) (is : based p ≡ Ok base) (t : Title) (title : IsTitle t) (asked : Option ℕ) (asks : AsksFor asked t.batch)
    (count : ℕ) (few : count ≤ 2000) (room : too_much p count t.batch ≡ None) where
  abbrev after : ℕ → Continued
  after n = unstopped v p base t n

  abbrev whole : Continued
  whole = after count

  module _ (j : ℕ) (there : j ≤ length whole.lists) where
    below : j ≤ count
    below = omega (arith, there, few_lists v p t.seed t.batch base count)

    running : (after j).stop ≡ None
    running = running_before v p t.seed t.batch base count j there

    first : take j whole.lists ≡ (after j).lists
    first = first_lists v p t.seed t.batch base count j there

    recorded : AreRecorded p base t.batch (after j)
    recorded = are_recorded v p validated base is t.seed t.batch count few (few_paths t title) room j below

    counts : (length (after j).lists ≡ j) × (length (after j).bounds ≡ j)
    counts = counted v p base t.seed t.batch 0 j running

    -- both parts
    abbrev behind : Continued
    behind = continued v p (after j).pools t.seed t.batch j (count - j)

    parts : whole ≡ joined (after j) behind
    parts =
        let sum : j + (count - j) ≡ count = omega (arith, below) in
        ap after (sym sum) ∙ split v p t.seed t.batch base j (count - j) running

    -- an outcome that has what stands after the first part goes on with the other one
    goes_on : (o : Outcome) → o.pools ≡ (after j).pools → o.bounds ≡ (after j).bounds → o.batch ≡ t.batch → iterations v p t.seed count o ≡ behind
    goes_on o pools bounds batch =
        let number : length o.bounds ≡ j = ap (λ (bs : List ℤ). length bs) bounds ∙ counts.1 in
        ap (λ (q : List (List Cut)). continued v p q t.seed o.batch (length o.bounds) (count - length o.bounds)) pools
        ∙ ap (λ (b : ℕ). continued v p (after j).pools t.seed b (length o.bounds) (count - length o.bounds)) batch
        ∙ ap (λ (k : ℕ). continued v p (after j).pools t.seed t.batch k (count - k)) number

    resumes : (bytes : List ℕ) (o : Outcome) → load_of p base t.digest (Some t.seed) asked bytes ≡ Ok (o, (after j).lists) → o.pools ≡ (after j).pools → o.bounds ≡ (after j).bounds → o.unanswered ≡ unanswered_in (after j).lists
        → title_of t.digest t.seed o ≡ t → HoldsPrefix t o (payloads whole.lists) j bytes → loaded_front t.digest t.seed o bytes ≡ front t (payloads (after j).lists) → Resumes v p base t asked count j bytes o
    resumes bytes o loaded pools bounds unanswered named stands ahead =
        let later : iterations v p t.seed count o ≡ behind = goes_on o pools bounds (ap (λ (x : Title). x.batch) named) in
        let same : whole ≡ joined (after j) (iterations v p t.seed count o) = parts ∙ ap (joined (after j)) (sym later) in
        record {
          loads = loaded ∙ ap (λ (ls : List (List Entry)). Ok (o, ls)) (sym first);
          pools = pools;
          bounds = bounds;
          unanswered = unanswered ∙ ap unanswered_in (sym first);
          title = named;
          stands = stands;
          all_lists = ap (λ (ls : List (List Entry)). ls ++ (iterations v p t.seed count o).lists) first ∙ sym (ap (λ (c : Continued). c.lists) same);
          all_bounds = ap (λ (bs : List ℤ). bs ++ (iterations v p t.seed count o).bounds) bounds ∙ sym (ap (λ (c : Continued). c.bounds) same);
          all_unanswered = ap (λ (n : ℕ). n + unanswered_in (iterations v p t.seed count o).lists) unanswered ∙ sym (sum_by-append (sum_by (λ (e : Entry). e.unanswered)) (after j).lists (iterations v p t.seed count o).lists) ∙ ap unanswered_in (sym (ap (λ (c : Continued). c.lists) same));
          last_pools = sym (ap (λ (c : Continued). c.pools) same);
          stop = sym (ap (λ (c : Continued). c.stop) same);
          all_bytes = grown_to t (loaded_front t.digest t.seed o bytes) (after j).lists (iterations v p t.seed count o).lists ahead ∙ ap (λ (ls : List (List Entry)). journal t (payloads ls) 0 []) (sym (ap (λ (c : Continued). c.lists) same));
        }

    -- a journal with a committed header
    abbrev outcome : List ℕ → Outcome
    outcome tail = loads.committed t.version t.batch (record { found = found_by (after j); lists = (after j).lists; end = length (front t (payloads (after j).lists)); tail = length tail })

    written : take j (payloads whole.lists) ≡ payloads (after j).lists
    written = take-map spell j whole.lists ∙ ap payloads first

    from_committed : (bytes : List ℕ) (commit_byte : ℕ) (tail : List ℕ) → commit_byte ≢ 1 → bytes ≡ journal t (take j (payloads whole.lists)) commit_byte tail → Grown t (payloads whole.lists) j bytes → Resumes v p base t asked count j bytes (outcome tail)
    from_committed bytes commit_byte tail other same grown =
        let at : bytes ≡ journal t (payloads (after j).lists) commit_byte tail = same ∙ ap (λ (ps : List (List ℕ)). journal t ps commit_byte tail) written in
        resumes bytes (outcome tail)
        (ap (λ (b : List ℕ). load_of p base t.digest (Some t.seed) asked b) at ∙ journal_loaded p validated base t asked commit_byte tail (after j).lists (found_by (after j)) title asks other (omega (arith, counts.0, below, few)) recorded.read)
        refl refl refl refl
        (training.committed refl (ap (λ (ps : List (List ℕ)). length (front t ps)) (sym written)) grown)
        (ap (λ (b : List ℕ). take (length (front t (payloads (after j).lists))) b) at ∙ front_of t (payloads (after j).lists) commit_byte tail)

  grown_resumes : (j : ℕ) (bytes : List ℕ) → Grown t (payloads whole.lists) j bytes → (o : Outcome) × Resumes v p base t asked count j bytes o
  grown_resumes j bytes (clear there tail same) =
      let within : j ≤ length whole.lists = omega (arith, there, length-map whole.lists spell) in
      (outcome j within tail, from_committed j within bytes 0 tail (not_open 0 refl) same (clear there tail same))
  grown_resumes j bytes (half_open there commit_byte not_zero not_one same) =
      let within : j ≤ length whole.lists = omega (arith, there, length-map whole.lists spell) in
      let tail : List ℕ = body_of (get_or (payloads whole.lists) j []) in
      (outcome j within tail, from_committed j within bytes commit_byte tail not_one same (half_open there commit_byte not_zero not_one same))

  -- a journal that is not committed yet
  uncommitted_resumes : title_of t.digest t.seed (loads.uncommitted base asked) ≡ t → (bytes : List ℕ) → Uncommitted t bytes → Resumes v p base t asked count 0 bytes (loads.uncommitted base asked)
  unfolding continued
  uncommitted_resumes named bytes un =
      resumes 0 (omega arith) bytes (loads.uncommitted base asked)
      (uncommitted_loaded p base t t.digest (Some t.seed) asked bytes title un)
      refl refl refl named (training.uncommitted refl refl un) (ap (λ (x : Title). front x []) named)

  prefix_resumes : title_of t.digest t.seed (loads.uncommitted base asked) ≡ t → (j : ℕ) (bytes : List ℕ) → IsPrefix t (payloads whole.lists) j bytes → (o : Outcome) × Resumes v p base t asked count j bytes o
  prefix_resumes named j bytes (committed grown) = grown_resumes j bytes grown
  prefix_resumes named j bytes (uncommitted none un) = subst (λ (k : ℕ). (o : Outcome) × Resumes v p base t asked count k bytes o) (sym none) (loads.uncommitted base asked, uncommitted_resumes named bytes un)

-- Training that is stopped within any write and resumed gives what unstopped training gives.
pub resumed : {Start Chain : Type 0} (v : Solving Start Chain) (p : Validated) (base : List (List Cut)) (digest : List ℕ) (seed count : ℕ) (asked : Option ℕ) (j : ℕ) (bytes : List ℕ)
    → is_validated p ≡ true → based p ≡ Ok base → IsTitle (new_title digest seed asked) → count ≤ 2000 → too_much p count (new_title digest seed asked).batch ≡ None
    → IsPrefix (new_title digest seed asked) (payloads (unstopped v p base (new_title digest seed asked) count).lists) j bytes
    → (o : Outcome) × Resumes v p base (new_title digest seed asked) asked count j bytes o
resumed v p base digest seed count asked j bytes validated is title few room prefix =
    prefix_resumes v p validated base is (new_title digest seed asked) title asked (asks_for digest seed asked) count few room (uncommitted_title digest seed asked base) j bytes prefix
