-- The length of a text: at most the value of the formula for records.
use Rattle.std.proofs.Common.{◌≡◌, ℕ, zero, suc, ◌+◌, ◌*◌, ◌<◌, ◌≤◌, ◌==◌, true, cond, List, [], ◌∷◌, ◌++◌, length, slice_get, Option, Some, None, refl, sym, ap, subst, ◌∙◌, arith}
use Rattle.std.specs.Prelude.{ℤ, nat_le, option_map, option_and_then, unwrap_or}
use Rattle.std.specs.List.{flat_map, sum_by, AllByRecursion}
use Rattle.std.specs.Int.{w16, w32, w64, to_be_bytes}
use Rattle.std.proofs.lemmas.Bool.Decides.{nat_tests}
use Rattle.std.proofs.lemmas.List.{length-append}
use Rattle.std.proofs.lemmas.List.Concat.{flat_map-cons}
use Rattle.std.proofs.lemmas.List.Sums.{sum_by-cons}
use Rattle.std.proofs.Math.Nat.{mul-le-mul_right}
use Rattle.base_num.proofs.Tests.{and_first, and_second}
use Rattle.base_graph.specs.Ranks.{rank}
use Rattle.base_graph.proofs.Falling.{rank_falls}
use Rattle.problem.specs.declared.parts.Node.{Node}
use Rattle.problem.specs.declared.parts.Subproblem.{Subproblem}
use Rattle.problem.specs.Formulas.{row_count, step_bytes, record_bytes}
use Rattle.problem.specs.Parts.{own_subproblem}
use Rattle.problem.specs.Validated.{Validated, is_validated, graph_of}
use Rattle.theory.specs.declared.cut.Certificate.{Certificate}
use Rattle.cut_pool.specs.declared.entry.Entry.{Entry}
use Rattle.cut_pool.specs.declared.entry.EntryStep.{EntryStep}
use Rattle.journal_record.specs.Spelling.{row_text, pair_text, pairs_text, certificate_text, step_text, entry_text, spell}
use Rattle.journal_record.specs.Shape.{sizes_of, may_stand, is_path_backwards, SuitsSizes, StepSuits, Writable, PairsWithin, StepWithin}
use Rattle.journal_record.proofs.Taken.{is_node}
use Rattle.journal_record.proofs.LongestPath.{Graph, graph, led}
use Rattle.journal_record.proofs.NodeParts.{weights_are, successors_are}

-- ---- sums over 0, .., n - 1

abbrev sum_front : (ℕ → ℕ) → ℕ → ℕ
sum_front f zero = 0
sum_front f (suc n) = f 0 + sum_front (λ k. f (suc k)) n

rises : (f g : ℕ → ℕ) (n : ℕ) → ((k : ℕ) → f k ≤ g k) → sum_front f n ≤ sum_front g n
rises f g zero h = omega arith
rises f g (suc n) h = omega (arith, h 0, rises (λ k. f (suc k)) (λ k. g (suc k)) n (λ k. h (suc k)))

-- one place has room for d more
picks : (f g : ℕ → ℕ) (n m d : ℕ) → ((k : ℕ) → f k ≤ g k) → m < n → d + f m ≤ g m → d + sum_front f n ≤ sum_front g n
picks f g zero m d h l e = absurd (omega arith)
picks f g (suc n) zero d h l e = omega (arith, e, rises (λ k. f (suc k)) (λ k. g (suc k)) n (λ k. h (suc k)))
picks f g (suc n) (suc m) d h l e = omega (arith, h 0, picks (λ k. f (suc k)) (λ k. g (suc k)) n m d (λ k. h (suc k)) (omega arith) e)

-- f of the entry at m, and 0 where there is none
abbrev at : {A : Type 0} → (A → ℕ) → List A → ℕ → ℕ
at f xs m = unwrap_or (option_map f (slice_get xs m)) 0

summed : {A : Type 0} (f : A → ℕ) (xs : List A) → sum_front (at f xs) (length xs) ≡ sum_by f xs
summed f [] = refl
summed f (x ∷ xs) = omega (arith, summed f xs, sum_by-cons f x xs)

-- ---- the parts of a step

rows_length : (zs : List ℤ) → length (flat_map row_text zs) ≡ 8 * length zs
rows_length [] = refl
rows_length (z ∷ zs) =
    let e : length (flat_map row_text (z ∷ zs)) ≡ 8 + length (flat_map row_text zs) = ap length (flat_map-cons row_text z zs) ∙ length-append (row_text z) (flat_map row_text zs) in
    omega (arith, e, rows_length zs)

-- parts of at most b bytes each
parts_length : {A : Type 0} (text : A → List ℕ) (b : ℕ) (xs : List A) → AllByRecursion (λ x. length (text x) ≤ b) xs → length (flat_map text xs) ≤ length xs * b
parts_length text b [] h = omega arith
parts_length text b (x ∷ xs) h =
    let e : length (flat_map text (x ∷ xs)) ≡ length (text x) + length (flat_map text xs) = ap length (flat_map-cons text x xs) ∙ length-append (text x) (flat_map text xs) in
    omega (arith, e, h.0, parts_length text b xs h.1)

pair_length : (q : ℕ × ℕ) → length (pair_text q) ≤ 12
pair_length q = omega (arith, length-append (to_be_bytes w32 q.0) (to_be_bytes w64 q.1))

each_pair : (qs : List (ℕ × ℕ)) → AllByRecursion (λ q. length (pair_text q) ≤ 12) qs
each_pair [] = tt
each_pair (q ∷ qs) = (pair_length q, each_pair qs)

pairs_length : (n : ℕ) (qs : List (ℕ × ℕ)) → length qs ≤ n → length (pairs_text qs) ≤ 4 + 12 * n
pairs_length n qs h =
    let e : length (pairs_text qs) ≡ 4 + length (flat_map pair_text qs) = length-append (to_be_bytes w32 (length qs)) (flat_map pair_text qs) in
    omega (arith, e, h, parts_length pair_text 12 qs (each_pair qs))

weaker : {A : Type 0} (P Q : A → Type 0) → ((x : A) → P x → Q x) → (xs : List A) → AllByRecursion P xs → AllByRecursion Q xs
weaker P Q f [] h = tt
weaker P Q f (x ∷ xs) h = (f x h.0, weaker P Q f xs h.1)

-- the bytes of a certificate with r rows and k successors, and at most n pairs for each
abbrev certificate_bytes : ℕ → ℕ → ℕ → ℕ
certificate_bytes r k n = 8 * r + k * (4 + 12 * n)

certificate_length : (n r k : ℕ) (c : Certificate) → length c.rows ≡ r → length c.cuts ≡ k → AllByRecursion (λ qs. length qs ≤ n) c.cuts → length (certificate_text c) ≤ certificate_bytes r k n
certificate_length n r k c er ek h =
    let e : length (certificate_text c) ≡ length (flat_map row_text c.rows) + length (flat_map pairs_text c.cuts) = length-append (flat_map row_text c.rows) (flat_map pairs_text c.cuts) in
    let cuts : length (flat_map pairs_text c.cuts) ≤ length c.cuts * (4 + 12 * n) = parts_length pairs_text (4 + 12 * n) c.cuts (weaker (λ (qs : List (ℕ × ℕ)). length qs ≤ n) (λ qs. length (pairs_text qs) ≤ 4 + 12 * n) (pairs_length n) c.cuts h) in
    subst (λ (j : ℕ). length (certificate_text c) ≤ 8 * r + j * (4 + 12 * n)) ek (omega (arith, e, cuts, rows_length c.rows, er))

list_length : (n r k : ℕ) (cs : List Certificate) → AllByRecursion (λ c. (length c.rows ≡ r) × (length c.cuts ≡ k) × AllByRecursion (λ qs. length qs ≤ n) c.cuts) cs → length (flat_map certificate_text cs) ≤ length cs * certificate_bytes r k n
list_length n r k cs h = parts_length certificate_text (certificate_bytes r k n) cs
    (weaker (λ (c : Certificate). (length c.rows ≡ r) × (length c.cuts ≡ k) × AllByRecursion (λ qs. length qs ≤ n) c.cuts) (λ c. length (certificate_text c) ≤ certificate_bytes r k n) (λ c f. certificate_length n r k c f.0 f.1 f.2) cs h)

some_at : {A : Type 0} (xs : List A) (m : ℕ) → m < length xs → (x : A) × (slice_get xs m ≡ Some x)
some_at [] m l = absurd (omega arith)
some_at (x ∷ xs) zero l = (x, refl)
some_at (x ∷ xs) (suc m) l = some_at xs m (omega arith)

counted_rows : (o : Option Subproblem) → unwrap_or (option_map (λ (s : Subproblem). length s.rows) o) 0 ≡ row_count o
counted_rows None = refl
counted_rows (Some s) = refl

-- ---- a step, by its node

-- the bytes that the formula gives for the node
abbrev node_bytes : Validated → ℕ → ℕ → ℕ
node_bytes p cuts m = at (step_bytes p.parts cuts) p.parts.nodes m

record SizesAre (p : Validated) (m : ℕ) (n : Node) : Type 0 where
  realizations : (sizes_of p m).realizations ≡ length n.weights
  rows : (sizes_of p m).rows ≡ row_count (own_subproblem p.parts n)
  successors : (sizes_of p m).successors ≡ length n.successors

sizes_are : (p : Validated) (m : ℕ) (n : Node) → slice_get p.parts.nodes m ≡ Some n → SizesAre p m n
sizes_are p m n e = record {
  realizations = ap (λ (ws : List ℕ). length ws) (weights_are p.parts m n e);
  rows = ap (λ (o : Option Node). unwrap_or (option_map (λ (s : Subproblem). length s.rows) (option_and_then (λ (x : Node). slice_get p.parts.subs x.sub) o)) 0) e ∙ counted_rows (own_subproblem p.parts n);
  successors = ap (λ (ks : List ℕ). length ks) (successors_are p.parts m n e);
}

joined : (n : ℕ) (r k : ℕ) (cs : List Certificate) → AllByRecursion (λ c. (length c.rows ≡ r) × (length c.cuts ≡ k)) cs → AllByRecursion (λ c. AllByRecursion (λ qs. length qs ≤ n) c.cuts) cs
    → AllByRecursion (λ c. (length c.rows ≡ r) × (length c.cuts ≡ k) × AllByRecursion (λ qs. length qs ≤ n) c.cuts) cs
joined n r k [] a b = tt
joined n r k (c ∷ cs) a b = ((a.0.0, a.0.1, b.0), joined n r k cs a.1 b.1)

step_length : (p : Validated) (cuts : ℕ) (s : EntryStep) → s.node < length p.parts.nodes → StepSuits p s → StepWithin (cuts + 1) s → length (step_text s) ≤ node_bytes p cuts s.node
step_length p cuts s known suits within =
    let n = some_at p.parts.nodes s.node known in
    let z = sizes_are p s.node n.0 n.1 in
    let r = row_count (own_subproblem p.parts n.0) in
    let k = length n.0.successors in
    let shapes : AllByRecursion (λ (c : Certificate). (length c.rows ≡ r) × (length c.cuts ≡ k)) s.list
    = weaker (SuitsSizes (sizes_of p s.node)) (λ c. (length c.rows ≡ r) × (length c.cuts ≡ k)) (λ c f. (f.rows ∙ z.rows, f.cuts ∙ z.successors)) s.list suits.each in
    let list = list_length (cuts + 1) r k s.list (joined (cuts + 1) r k s.list shapes within) in
    let counted : length s.list ≡ length n.0.weights = suits.count ∙ z.realizations in
    let e : length (step_text s) ≡ 2 + length (flat_map certificate_text s.list) = length-append (to_be_bytes w16 s.node) (flat_map certificate_text s.list) in
    let list_is : length (flat_map certificate_text s.list) ≤ length n.0.weights * certificate_bytes r k (cuts + 1) = subst (λ (j : ℕ). length (flat_map certificate_text s.list) ≤ j * certificate_bytes r k (cuts + 1)) counted list in
    let here : node_bytes p cuts s.node ≡ step_bytes p.parts cuts n.0 = ap (λ (o : Option Node). unwrap_or (option_map (step_bytes p.parts cuts) o) 0) n.1 in
    subst (λ (j : ℕ). length (step_text s) ≤ j) (sym here) (omega (arith, e, list_is))

-- ---- the steps of an entry, whose nodes' ranks rise

-- the bytes of a node of at least this rank
abbrev high : Validated → ℕ → ℕ → ℕ → ℕ
high p cuts r m = cond (nat_le r (rank (graph_of p.parts) m)) (node_bytes p cuts m) 0

none_above : (x r b : ℕ) → x < r → cond (nat_le r x) b 0 ≡ 0
none_above x r b h = grind (arith, nat_tests)

all_above : (x r b : ℕ) → r ≤ x → cond (nat_le r x) b 0 ≡ b
all_above x r b h = grind (arith, nat_tests)

falls : (x q r b : ℕ) → r ≤ q → cond (nat_le q x) b 0 ≤ cond (nat_le r x) b 0
falls x q r b h = grind (arith, nat_tests)

abbrev whole : Validated → ℕ → ℕ → ℕ
whole p cuts r = sum_front (high p cuts r) (length p.parts.nodes)

-- a node's bytes and those of the nodes of a higher rank
room_for : (p : Validated) (cuts m r : ℕ) → m < length p.parts.nodes → r ≤ rank (graph_of p.parts) m → node_bytes p cuts m + whole p cuts (rank (graph_of p.parts) m + 1) ≤ whole p cuts r
room_for p cuts m r known low =
    let q = rank (graph_of p.parts) m in
    picks (high p cuts (q + 1)) (high p cuts r) (length p.parts.nodes) m (node_bytes p cuts m)
    (λ k. falls (rank (graph_of p.parts) k) (q + 1) r (node_bytes p cuts k) (omega (arith, low))) known
    (omega (arith, none_above q (q + 1) (node_bytes p cuts m) (omega arith), all_above q r (node_bytes p cuts m) low))

steps_length : (p : Validated) → Graph p → (cuts : ℕ) (before : Option ℕ) (s : EntryStep) (ss : List EntryStep) (r : ℕ) → is_path_backwards p before (s ∷ ss) ≡ true → AllByRecursion (StepSuits p) (s ∷ ss) → AllByRecursion (StepWithin (cuts + 1)) (s ∷ ss)
    → r ≤ rank (graph_of p.parts) s.node → length (flat_map step_text (s ∷ ss)) ≤ whole p cuts r
steps_length p g cuts before s [] r path suits within low =
    let stands : may_stand p before true s.node ≡ true = and_first (may_stand p before true s.node) true path in
    let known : s.node < length p.parts.nodes = is_node p before true s.node stands in
    let e : length (flat_map step_text (s ∷ [])) ≡ length (step_text s) + 0 = ap length (flat_map-cons step_text s []) ∙ length-append (step_text s) (flat_map step_text []) in
    omega (arith, e, step_length p cuts s known suits.0 within.0, room_for p cuts s.node r known low)
steps_length p g cuts before s (t ∷ ts) r path suits within low =
    let first : may_stand p before (length (t ∷ ts) == 0) s.node ≡ true = and_first (may_stand p before (length (t ∷ ts) == 0) s.node) (is_path_backwards p (Some s.node) (t ∷ ts)) path in
    let later : is_path_backwards p (Some s.node) (t ∷ ts) ≡ true = and_second (may_stand p before (length (t ∷ ts) == 0) s.node) (is_path_backwards p (Some s.node) (t ∷ ts)) path in
    let stands : may_stand p (Some s.node) (length ts == 0) t.node ≡ true = and_first (may_stand p (Some s.node) (length ts == 0) t.node) (is_path_backwards p (Some t.node) ts) later in
    let known : s.node < length p.parts.nodes = is_node p before (length (t ∷ ts) == 0) s.node first in
    let less = rank_falls (graph_of p.parts) t.node s.node g.known g.acyclic (led p s.node (length ts == 0) t.node stands) in
    let others = steps_length p g cuts (Some s.node) t ts (rank (graph_of p.parts) s.node + 1) later suits.1 within.1 (omega (arith, less)) in
    let e : length (flat_map step_text (s ∷ t ∷ ts)) ≡ length (step_text s) + length (flat_map step_text (t ∷ ts)) = ap length (flat_map-cons step_text s (t ∷ ts)) ∙ length-append (step_text s) (flat_map step_text (t ∷ ts)) in
    omega (arith, e, step_length p cuts s known suits.0 within.0, room_for p cuts s.node r known low, others)

every : (p : Validated) (cuts : ℕ) → whole p cuts 0 ≤ sum_by (step_bytes p.parts cuts) p.parts.nodes
every p cuts = omega (arith, rises (high p cuts 0) (node_bytes p cuts) (length p.parts.nodes) (λ k. omega (arith, all_above (rank (graph_of p.parts) k) 0 (node_bytes p cuts k) (omega arith))), summed (step_bytes p.parts cuts) p.parts.nodes)

entry_length : (p : Validated) → Graph p → (cuts : ℕ) (e : Entry) → Writable p e → PairsWithin (cuts + 1) e → length (entry_text e) ≤ 10 + sum_by (step_bytes p.parts cuts) p.parts.nodes
entry_length p g cuts e fits within =
    let count = to_be_bytes w16 (length e.steps) in
    let steps = flat_map step_text e.steps in
    let unanswered = to_be_bytes w32 e.unanswered in
    let iteration = to_be_bytes w32 e.iteration in
    let is : length (entry_text e) ≡ 10 + length steps = omega (arith, length-append iteration (unanswered ++ count ++ steps), length-append unanswered (count ++ steps), length-append count steps) in
    omega (arith, is, of_steps e.steps fits.path fits.steps within, every p cuts)
  where
    of_steps : (ss : List EntryStep) → is_path_backwards p None ss ≡ true → AllByRecursion (StepSuits p) ss → AllByRecursion (StepWithin (cuts + 1)) ss → length (flat_map step_text ss) ≤ whole p cuts 0
    of_steps [] h a b = omega arith
    of_steps (s ∷ ss) h a b = steps_length p g cuts None s ss 0 h a b (omega arith)

-- A text is no longer than the formula for records says.
pub text_length : (p : Validated) (cuts batch : ℕ) (es : List Entry) → is_validated p ≡ true → length es ≤ batch → AllByRecursion (Writable p) es → AllByRecursion (PairsWithin (cuts + 1)) es → length (spell es) ≤ record_bytes p.parts cuts batch
text_length p cuts batch es validated few fits within =
    let b = 10 + sum_by (step_bytes p.parts cuts) p.parts.nodes in
    let each = parts_length entry_text b es (all es fits within) in
    omega (arith, each, mul-le-mul_right b few)
  where
    all : (xs : List Entry) → AllByRecursion (Writable p) xs → AllByRecursion (PairsWithin (cuts + 1)) xs → AllByRecursion (λ e. length (entry_text e) ≤ 10 + sum_by (step_bytes p.parts cuts) p.parts.nodes) xs
    all [] f w = tt
    all (x ∷ xs) f w = (entry_length p (graph p validated) cuts x f.0 w.0, all xs f.1 w.1)
