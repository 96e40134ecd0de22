-- One more change behind those that are kept.
use Rattle.std.proofs.Common.{◌≡◌, ℕ, suc, ◌+◌, List, [], ◌∷◌, ◌++◌, length, take, drop, refl, ◌∙◌, ap, arith, length-drop}
use Rattle.std.proofs.lemmas.List.{take_all, take-append-le, drop-append-le}
use Rattle.base_device.specs.declared.memory_disk.history.HistoryEntry.{HistoryEntry}
use Rattle.base_device.specs.declared.memory_disk.history.HistoryEntry.TheVariants as entries
use Rattle.base_device.specs.Changes.{Change, wrote, cut_to, synced}
use Rattle.base_device.specs.Histories.{logged, pieces_length}

pub logged_length : (es : List HistoryEntry) (ps : List ℕ) → length (logged es ps) ≡ length es
logged_length [] ps = refl
logged_length (entries.Wrote at len ∷ es) ps = ap suc (logged_length es (drop len ps))
logged_length (entries.CutTo len ∷ es) ps = ap suc (logged_length es ps)
logged_length (entries.Synced ∷ es) ps = ap suc (logged_length es ps)

pub pieces_length_push : (es : List HistoryEntry) (e : HistoryEntry) → pieces_length (es ++ e ∷ []) ≡ pieces_length es + pieces_length (e ∷ [])
pieces_length_push [] e = omega arith
pieces_length_push (entries.Wrote at len ∷ es) e = omega (arith, pieces_length_push es e)
pieces_length_push (entries.CutTo len ∷ es) e = pieces_length_push es e
pieces_length_push (entries.Synced ∷ es) e = pieces_length_push es e

pub logged_wrote : (es : List HistoryEntry) (ps : List ℕ) (at : ℕ) (piece : List ℕ) → pieces_length es ≡ length ps → logged (es ++ entries.Wrote at (length piece) ∷ []) (ps ++ piece) ≡ logged es ps ++ wrote at piece ∷ []
logged_wrote [] [] at piece is = ap (λ (l : List ℕ). wrote at l ∷ []) (take_all (length piece) piece (omega arith))
logged_wrote [] (p ∷ ps) at piece is = absurd (omega arith)
logged_wrote (entries.Wrote there len ∷ es) ps at piece is =
    let front : take len (ps ++ piece) ≡ take len ps = take-append-le len ps piece (omega arith) in
    let tail : drop len (ps ++ piece) ≡ drop len ps ++ piece = drop-append-le len ps piece (omega arith) in
    let left : pieces_length es ≡ length (drop len ps) = omega (arith, length-drop len ps) in
    ap (λ (l : List ℕ). wrote there l ∷ logged (es ++ entries.Wrote at (length piece) ∷ []) (drop len (ps ++ piece))) front
    ∙ ap (λ (l : List ℕ). wrote there (take len ps) ∷ logged (es ++ entries.Wrote at (length piece) ∷ []) l) tail
    ∙ ap (λ (l : List Change). wrote there (take len ps) ∷ l) (logged_wrote es (drop len ps) at piece left)
logged_wrote (entries.CutTo len ∷ es) ps at piece is = ap (λ (l : List Change). cut_to len ∷ l) (logged_wrote es ps at piece is)
logged_wrote (entries.Synced ∷ es) ps at piece is = ap (λ (l : List Change). synced ∷ l) (logged_wrote es ps at piece is)

pub logged_cut : (es : List HistoryEntry) (ps : List ℕ) (n : ℕ) → logged (es ++ entries.CutTo n ∷ []) ps ≡ logged es ps ++ cut_to n ∷ []
logged_cut [] ps n = refl
logged_cut (entries.Wrote at len ∷ es) ps n = ap (λ (l : List Change). wrote at (take len ps) ∷ l) (logged_cut es (drop len ps) n)
logged_cut (entries.CutTo len ∷ es) ps n = ap (λ (l : List Change). cut_to len ∷ l) (logged_cut es ps n)
logged_cut (entries.Synced ∷ es) ps n = ap (λ (l : List Change). synced ∷ l) (logged_cut es ps n)

pub logged_sync : (es : List HistoryEntry) (ps : List ℕ) → logged (es ++ entries.Synced ∷ []) ps ≡ logged es ps ++ synced ∷ []
logged_sync [] ps = refl
logged_sync (entries.Wrote at len ∷ es) ps = ap (λ (l : List Change). wrote at (take len ps) ∷ l) (logged_sync es (drop len ps))
logged_sync (entries.CutTo len ∷ es) ps = ap (λ (l : List Change). cut_to len ∷ l) (logged_sync es ps)
logged_sync (entries.Synced ∷ es) ps = ap (λ (l : List Change). synced ∷ l) (logged_sync es ps)
