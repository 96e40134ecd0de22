-- One more change behind others, and what a crash leaves of them.
use Rattle.std.proofs.Common.{◌≡◌, ◌⊎◌, inl, inr, ⊎_elim, ℕ, zero, suc, ◌≤◌, List, [], ◌∷◌, ◌++◌, length, take, replicate, refl, sym, ◌∙◌, ap, subst, arith, length-take}
use Rattle.std.proofs.lemmas.List.{take_all, take-append-le, length-replicate}
use Rattle.base_device.specs.Disks.{written, Torn, Cut}
use Rattle.base_device.specs.Changes.{Change, wrote, cut_to, synced, Contents, at_rest, changed, after_changes, Placed, LeftBy, LeftAfter, Image, ImageSince}
use Rattle.base_device.proofs.Steps.{torn_written, torn_marked, cut_taken, cut_alike, take_front, length_written}
use Rattle.base_device.proofs.Unobservable.{torn_nothing, cut_nothing}

pub after_push : (xs : List Change) (x : Change) (s : Contents) → after_changes (xs ++ x ∷ []) s ≡ changed x (after_changes xs s)
after_push [] x s = refl
after_push (y ∷ xs) x s = after_push xs x (changed y s)

pub placed_write : (xs : List Change) (at : ℕ) (piece : List ℕ) (s : Contents) → Placed xs s → at ≤ length (after_changes xs s).kept → Placed (xs ++ wrote at piece ∷ []) s
placed_write [] at piece s placed le = (le, tt)
placed_write (wrote there other ∷ xs) at piece s placed le = (placed.0, placed_write xs at piece _ placed.1 le)
placed_write (cut_to len ∷ xs) at piece s placed le = placed_write xs at piece _ placed le
placed_write (synced ∷ xs) at piece s placed le = placed_write xs at piece _ placed le

pub placed_cut : (xs : List Change) (len : ℕ) (s : Contents) → Placed xs s → Placed (xs ++ cut_to len ∷ []) s
placed_cut [] len s placed = tt
placed_cut (wrote at piece ∷ xs) len s placed = (placed.0, placed_cut xs len _ placed.1)
placed_cut (cut_to other ∷ xs) len s placed = placed_cut xs len _ placed
placed_cut (synced ∷ xs) len s placed = placed_cut xs len _ placed

pub placed_sync : (xs : List Change) (s : Contents) → Placed xs s → Placed (xs ++ synced ∷ []) s
placed_sync [] s placed = tt
placed_sync (wrote at piece ∷ xs) s placed = (placed.0, placed_sync xs _ placed.1)
placed_sync (cut_to other ∷ xs) s placed = placed_sync xs _ placed
placed_sync (synced ∷ xs) s placed = placed_sync xs _ placed

-- what a crash leaves after one change more
pub left_push : (xs : List Change) (x : Change) (s : Contents) (left : List ℕ → Type 0) (c : List ℕ) → LeftAfter (xs ++ x ∷ []) s left c → LeftBy x (after_changes xs s).kept (LeftAfter xs s left) c
left_push [] (wrote at piece) s left c is = is
left_push [] (cut_to len) s left c is = is
left_push [] synced s left c is = is
left_push (y ∷ xs) x s left c is = left_push xs x (changed y s) (LeftBy y s.kept left) c is

-- what was read at the last sync is left, and so is what is torn
pub lost_left : (xs : List Change) (s : Contents) (left : List ℕ → Type 0) → left s.lost → LeftAfter xs s left (after_changes xs s).lost
lost_left [] s left is = is
lost_left (wrote at piece ∷ xs) s left is = lost_left xs _ (LeftBy (wrote at piece) s.kept left) (s.lost, is, torn_nothing at (length piece) s.lost)
lost_left (cut_to len ∷ xs) s left is = lost_left xs _ (LeftBy (cut_to len) s.kept left) (s.lost, is, cut_nothing len s.lost)
lost_left (synced ∷ xs) s left is = lost_left xs _ (LeftBy synced s.kept left) refl

pub torn_left : (xs : List Change) (s : Contents) (left : List ℕ → Type 0) → length s.torn ≡ length s.kept → Placed xs s → left s.torn → LeftAfter xs s left (after_changes xs s).torn
torn_left [] s left same placed is = is
torn_left (wrote at piece ∷ xs) s left same placed is =
    let le : at ≤ length s.torn = omega (arith, same, placed.0) in
    let longer : length (written s.torn at (replicate (length piece) 165)) ≡ length (written s.kept at piece) =
    omega (arith, same, length_written s.torn at (replicate (length piece) 165) le, length_written s.kept at piece placed.0, length-replicate {A = ℕ} (length piece) 165) in
    torn_left xs _ (LeftBy (wrote at piece) s.kept left) longer placed.1 (s.torn, is, torn_marked at (length piece) s.torn le)
torn_left (cut_to len ∷ xs) s left same placed is =
    torn_left xs _ (LeftBy (cut_to len) s.kept left) (cut_alike len s.torn s.kept same) placed (s.torn, is, cut_taken len s.torn)
torn_left (synced ∷ xs) s left same placed is = torn_left xs _ (LeftBy synced s.kept left) refl placed refl

-- the images of a disk after one change more
pub image_write : (xs : List Change) (initial : List ℕ) (at : ℕ) (piece c : List ℕ) → at ≤ length (after_changes xs (at_rest initial)).kept → Image (xs ++ wrote at piece ∷ []) initial c → (d : List ℕ) × Image xs initial d × Torn at (length piece) d c
image_write xs initial at piece c le (inl is) =
    let kept = (after_changes xs (at_rest initial)).kept in
    let now : c ≡ written kept at piece = is ∙ ap (λ (s : Contents). s.kept) (after_push xs (wrote at piece) (at_rest initial)) in
    (kept, inl refl, subst (λ (l : List ℕ). Torn at (length piece) kept l) (sym now) (torn_written at piece kept le))
image_write xs initial at piece c le (inr left) =
    let from = left_push xs (wrote at piece) (at_rest initial) (λ d. d ≡ initial) c left in
    (from.0, inr from.1, from.2)

pub image_cut : (xs : List Change) (initial : List ℕ) (len : ℕ) (c : List ℕ) → Image (xs ++ cut_to len ∷ []) initial c → (d : List ℕ) × Image xs initial d × Cut len d c
image_cut xs initial len c (inl is) =
    let kept = (after_changes xs (at_rest initial)).kept in
    let now : c ≡ take len kept = is ∙ ap (λ (s : Contents). s.kept) (after_push xs (cut_to len) (at_rest initial)) in
    (kept, inl refl, subst (λ (l : List ℕ). Cut len kept l) (sym now) (cut_taken len kept))
image_cut xs initial len c (inr left) =
    let from = left_push xs (cut_to len) (at_rest initial) (λ d. d ≡ initial) c left in
    (from.0, inr from.1, from.2)

pub image_sync : (xs : List Change) (initial c : List ℕ) → Image (xs ++ synced ∷ []) initial c → c ≡ (after_changes xs (at_rest initial)).kept
image_sync xs initial c (inl is) = is ∙ ap (λ (s : Contents). s.kept) (after_push xs synced (at_rest initial))
image_sync xs initial c (inr left) = left_push xs synced (at_rest initial) (λ d. d ≡ initial) c left

-- what a crash gives is an image
pub image_lost : (xs : List Change) (initial : List ℕ) → Image xs initial (after_changes xs (at_rest initial)).lost
image_lost xs initial = inr (lost_left xs (at_rest initial) (λ d. d ≡ initial) refl)

pub image_torn : (xs : List Change) (initial : List ℕ) → Placed xs (at_rest initial) → Image xs initial (after_changes xs (at_rest initial)).torn
image_torn xs initial placed = inr (torn_left xs (at_rest initial) (λ d. d ≡ initial) refl placed refl)

-- the front of a list with one more is a front of the list, or all
take_push : (k : ℕ) (xs : List Change) (x : Change) → (take k (xs ++ x ∷ []) ≡ take k xs) ⊎ (take k (xs ++ x ∷ []) ≡ xs ++ x ∷ [])
take_push zero xs x = inl refl
take_push (suc k) [] x = inr (ap (λ (l : List Change). x ∷ l) (take_all k [] (omega arith)))
take_push (suc k) (y ∷ xs) x = ⊎_elim (λ e. inl (ap (λ (l : List Change). y ∷ l) e)) (λ e. inr (ap (λ (l : List Change). y ∷ l) e)) (take_push k xs x)

-- the moments go on
pub since_more : (xs : List Change) (x : Change) (initial : List ℕ) (t : ℕ) (c : List ℕ) → ImageSince (xs ++ x ∷ []) initial t c → ImageSince xs initial t c ⊎ Image (xs ++ x ∷ []) initial c
since_more xs x initial t c left =
    ⊎_elim (λ e. inl (left.0, left.1, subst (λ (l : List Change). Image l initial c) e left.2)) (λ e. inr (subst (λ (l : List Change). Image l initial c) e left.2)) (take_push left.0 xs x)

pub since_keeps : (xs : List Change) (x : Change) (initial : List ℕ) (t : ℕ) (c : List ℕ) → t ≤ length xs → ImageSince xs initial t c → ImageSince (xs ++ x ∷ []) initial t c
since_keeps xs x initial t c le left =
    let k = length (take left.0 xs) in
    let inside : k ≤ length xs = omega (arith, length-take left.0 xs) in
    let later : t ≤ k = omega (arith, le, left.1, length-take left.0 xs) in
    let same : take k (xs ++ x ∷ []) ≡ take left.0 xs = take-append-le k xs (x ∷ []) inside ∙ take_front left.0 xs in
    (k, later, subst (λ (l : List Change). Image l initial c) (sym same) left.2)
