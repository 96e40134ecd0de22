-- The report of sound pools is sound line by line.
use Rattle.std.proofs.Common.{◌≡◌, ℕ, zero, suc, ◌+◌, ◌/◌, ◌%◌, ℤ, pos, negsuc, Bool, true, false, ◌&&◌, cond, List, [], ◌∷◌, ◌++◌, codes, All, ◌≢◌, ◌==◌, get_or, nat_lt, if◌then◌else◌, refl, sym, ap, subst, ◌∙◌, append_assoc, length, arith}
use Rattle.std.proofs.lemmas.Bool.Decides.{nat_tests}
use Rattle.std.proofs.lemmas.Grind.{common_steps}
use Rattle.std.proofs.lemmas.List.{append-nil}
use Rattle.std.proofs.lemmas.List.Folds.{list_all-append}
use Rattle.std.proofs.lemmas.List.Elements.{All-nil, All-cons, All-tail}
use Rattle.std.specs.List.{list_all, flat_map}
use Rattle.std.specs.Fmt.{signed_decimal, decimal, digits, digits_onto, digit_glyph}
use Rattle.base_num.proofs.Tests.{both, and_second}
use Rattle.base_num.specs.Texts.{escaped, json_string, digit_of}
use Rattle.theory.specs.declared.cut.Cut.{Cut}
use Rattle.problem.specs.declared.parts.State.{State}
use Rattle.problem.specs.declared.parts.Node.{Node}
use Rattle.problem.specs.declared.parts.ProblemParts.{ProblemParts}
use Rattle.problem.specs.Validated.{Validated}
use Rattle.theory.specs.Problem.{Problem}
use Rattle.theory.specs.Pools.{pool, Sound}
use Rattle.theory.specs.Bound.{bound, Under}
use Rattle.theory.specs.View.{problem_of}
use Rattle.policy_report.specs.Lines.{numbered}
use Rattle.policy_report.specs.Report.{number_text, state_line, node_line, title, head_text, word, cut_words, cut_line, node_cuts, cut_lines, bound_line, base_text, iteration_line, iteration_after, iteration_lines, total_line, iterations_text, rest_line, check_text, train_text}
use Rattle.policy_report.specs.SoundLines.{before_lines, lines_of, first_word, Claims, Line, Lines, claims_of, SoundLines}

-- no byte of it is a newline or another control character
abbrev pub printable : List ℕ → Bool
printable line = list_all (λ b. nat_lt 10 b) line

pub printable-append : (xs ys : List ℕ) → printable xs ≡ true → printable ys ≡ true → printable (xs ++ ys) ≡ true
printable-append xs ys h k = list_all-append (λ b. nat_lt 10 b) xs ys ∙ both (printable xs) (printable ys) h k

glyph_printable : (upper : Bool) (d : ℕ) → nat_lt 10 (digit_glyph upper d) ≡ true
glyph_printable upper d = grind (arith, nat_tests, common_steps)

onto_printable : (k base n : ℕ) (acc : List ℕ) → printable acc ≡ true → printable (digits_onto k base false n acc) ≡ true
onto_printable zero base n acc h = h
onto_printable (suc k) base n acc h =
    let more : printable (digit_glyph false (n % base) ∷ acc) ≡ true = both (nat_lt 10 (digit_glyph false (n % base))) (printable acc) (glyph_printable false (n % base)) h in
    by (n / base == 0) more (onto_printable k base (n / base) (digit_glyph false (n % base) ∷ acc) more)
  where
    by : (t : Bool) → printable (digit_glyph false (n % base) ∷ acc) ≡ true → printable (digits_onto k base false (n / base) (digit_glyph false (n % base) ∷ acc)) ≡ true → printable (cond t (digit_glyph false (n % base) ∷ acc) (digits_onto k base false (n / base) (digit_glyph false (n % base) ∷ acc))) ≡ true
    by true e f = e
    by false e f = f

decimal_printable : (n : ℕ) → printable (decimal n) ≡ true
unfolding digits
decimal_printable n = onto_printable 64 10 n [] refl

number_printable : (z : ℤ) → printable (signed_decimal z) ≡ true
number_printable (pos n) = decimal_printable n
number_printable (negsuc n) = both (nat_lt 10 45) (printable (decimal (suc n))) refl (decimal_printable (suc n))

pub word_printable : (z : ℤ) → printable (word z) ≡ true
word_printable z = printable-append (codes " ") (signed_decimal z) refl (number_printable z)

words_printable : (zs : List ℤ) → printable (flat_map word zs) ≡ true
words_printable [] = refl
words_printable (z ∷ zs) = printable-append (word z) (flat_map word zs) (word_printable z) (words_printable zs)

cut_printable : (c : Cut) → printable (cut_words c) ≡ true
cut_printable c = printable-append (word c.alpha) (flat_map word c.beta) (word_printable c.alpha) (words_printable c.beta)

digit_printable : (n : ℕ) → nat_lt 10 (digit_of n) ≡ true
digit_printable n = grind (arith, nat_tests, common_steps)

-- a name is written without control characters
escaped_printable : (b : ℕ) → printable (escaped b) ≡ true
unfolding escaped
escaped_printable b = by (b == 34) (b == 92) (b == 8) (b == 12) (b == 10) (b == 13) (b == 9) (nat_lt b 32) (λ h. grind (arith, nat_tests))
  where
    coded : printable (codes "\\u00" ++ digit_of (b / 16) ∷ digit_of (b % 16) ∷ []) ≡ true
    coded = printable-append (codes "\\u00") (digit_of (b / 16) ∷ digit_of (b % 16) ∷ []) refl
        (both (nat_lt 10 (digit_of (b / 16))) (nat_lt 10 (digit_of (b % 16)) && true) (digit_printable (b / 16)) (both (nat_lt 10 (digit_of (b % 16))) true (digit_printable (b % 16)) refl))

    by : (q s e f n r t c : Bool) → (c ≡ false → nat_lt 10 b ≡ true) → printable (if q then codes "\\\"" else (if s then codes "\\\\" else (if e then codes "\\b" else (if f then codes "\\f" else (if n then codes "\\n" else (if r then codes "\\r" else (if t then codes "\\t" else (if c then codes "\\u00" ++ digit_of (b / 16) ∷ digit_of (b % 16) ∷ [] else b ∷ [])))))))) ≡ true
    by true s e f n r t c h = refl
    by false true e f n r t c h = refl
    by false false true f n r t c h = refl
    by false false false true n r t c h = refl
    by false false false false true r t c h = refl
    by false false false false false true t c h = refl
    by false false false false false false true c h = refl
    by false false false false false false false true h = coded
    by false false false false false false false false h = both (nat_lt 10 b) true (h refl) refl

names_printable : (bs : List ℕ) → printable (flat_map escaped bs) ≡ true
names_printable [] = refl
names_printable (b ∷ bs) = printable-append (escaped b) (flat_map escaped bs) (escaped_printable b) (names_printable bs)

pub name_printable : (name : List ℕ) → printable (json_string name) ≡ true
name_printable name = printable-append (codes "\"" ++ flat_map escaped name) (codes "\"") (printable-append (codes "\"") (flat_map escaped name) refl (names_printable name)) refl

-- a printable line ends at the newline behind it
one_line : (line tail : List ℕ) → printable line ≡ true → lines_of (line ++ 10 ∷ tail) ≡ line ∷ lines_of tail
one_line [] tail h = refl
one_line (b ∷ bs) tail h =
    by (b == 10) refl (grind (arith, nat_tests, h)) ∙ ap (before_lines b) (one_line bs tail (and_second (nat_lt 10 b) (printable bs) h))
  where
    by : (t : Bool) → (b == 10) ≡ t → t ≡ false → cond t ([] ∷ lines_of (bs ++ 10 ∷ tail)) (before_lines b (lines_of (bs ++ 10 ∷ tail))) ≡ before_lines b (lines_of (bs ++ 10 ∷ tail))
    by true e f = absurd (cc)
    by false e f = refl

module _ (claims : Claims) where
  -- before sound lines the text is sound too
  abbrev pub Good : List ℕ → Type 0
  Good text = (tail : List ℕ) → Lines claims tail → Lines claims (text ++ tail)

  pub good_line : (line : List ℕ) → printable line ≡ true → Line claims line → Good (line ++ codes "\n")
  good_line line h s tail r =
      let e : lines_of ((line ++ codes "\n") ++ tail) ≡ line ∷ lines_of tail = ap lines_of (append_assoc line (codes "\n") tail) ∙ one_line line tail h in
      subst (All (Line claims)) (sym e) (All-cons (Line claims) line (lines_of tail) s r)

  pub good_append : (a b : List ℕ) → Good a → Good b → Good (a ++ b)
  good_append a b f g tail r = subst (Lines claims) (sym (append_assoc a b tail)) (f (b ++ tail) (g tail r))

  pub good_numbered : {A : Type 0} (text : ℕ → A → List ℕ) → ((i : ℕ) (x : A) → Good (text i x)) → (i : ℕ) (xs : List A) → Good (numbered text i xs)
  good_numbered text f i [] = λ tail r. r
  good_numbered text f i (x ∷ xs) = good_append (text i x) (numbered text (suc i) xs) (f i x) (good_numbered text f (suc i) xs)

  -- a line whose first letter is none of those of words that claim something
  pub plain_line : (line : List ℕ) (letter : ℕ) → get_or (first_word line) 0 0 ≡ letter → letter ≢ 99 → letter ≢ 98 → letter ≢ 105 → letter ≢ 117 → letter ≢ 112 → letter ≢ 119 → Line claims line
  plain_line line letter e c b i u p w = record {
    cut = λ h. absurd (c (sym e ∙ ap (λ w. get_or w 0 0) h));
    bound = λ h. absurd (b (sym e ∙ ap (λ w. get_or w 0 0) h));
    iteration = λ h. absurd (i (sym e ∙ ap (λ w. get_or w 0 0) h));
    upper = λ h. absurd (u (sym e ∙ ap (λ w. get_or w 0 0) h));
    risk_cut = λ h. absurd (p (sym e ∙ ap (λ w. get_or w 0 0) h));
    worst = λ h. absurd (w (sym e ∙ ap (λ w. get_or w 0 0) h));
  }

  good_state : (i : ℕ) (s : State) → Good (state_line i s)
  good_state i s =
      let line : List ℕ = codes "state " ++ number_text i ++ codes " " ++ json_string s.name in
      good_line line
      (printable-append (codes "state " ++ number_text i ++ codes " ") (json_string s.name) (printable-append (codes "state " ++ number_text i) (codes " ") (printable-append (codes "state ") (number_text i) refl (number_printable (pos i))) refl) (name_printable s.name))
      (plain_line line 115 refl (omega arith) (omega arith) (omega arith) (omega arith) (omega arith) (omega arith))

  good_node : (i : ℕ) (n : Node) → Good (node_line i n)
  good_node i n =
      let line : List ℕ = codes "node " ++ number_text i ++ codes " " ++ json_string n.name in
      good_line line
      (printable-append (codes "node " ++ number_text i ++ codes " ") (json_string n.name) (printable-append (codes "node " ++ number_text i) (codes " ") (printable-append (codes "node ") (number_text i) refl (number_printable (pos i))) refl) (name_printable n.name))
      (plain_line line 110 refl (omega arith) (omega arith) (omega arith) (omega arith) (omega arith) (omega arith))

  good_title : Good title
  unfolding title
  good_title = good_append (codes "hydroplan 1" ++ codes "\n") (codes "scale 16777216" ++ codes "\n")
      (good_line (codes "hydroplan 1") refl (plain_line (codes "hydroplan 1") 104 refl (omega arith) (omega arith) (omega arith) (omega arith) (omega arith) (omega arith)))
      (good_line (codes "scale 16777216") refl (plain_line (codes "scale 16777216") 115 refl (omega arith) (omega arith) (omega arith) (omega arith) (omega arith) (omega arith)))

  pub good_head : (parts : ProblemParts) → Good (head_text parts)
  unfolding head_text
  good_head parts = good_append (title ++ numbered state_line 0 parts.states) (numbered node_line 0 parts.nodes)
      (good_append title (numbered state_line 0 parts.states) good_title (good_numbered state_line good_state 0 parts.states)) (good_numbered node_line good_node 0 parts.nodes)

  no : (a b : ℕ) (w : List ℕ) → get_or w 0 0 ≡ a → a ≢ b → (v : List ℕ) → get_or v 0 0 ≡ b → w ≡ v → ⊥
  no a b w e n v f h = n (sym e ∙ ap (λ u. get_or u 0 0) h ∙ f)

  good_cut : (m k : ℕ) (c : Cut) → claims.cuts m c → Good (cut_line m k c)
  good_cut m k c h =
      let line : List ℕ = codes "cut" ++ word (pos m) ++ word (pos k) ++ cut_words c in
      good_line line
      (printable-append (codes "cut" ++ word (pos m) ++ word (pos k)) (cut_words c) (printable-append (codes "cut" ++ word (pos m)) (word (pos k)) (printable-append (codes "cut") (word (pos m)) refl (word_printable (pos m))) (word_printable (pos k))) (cut_printable c))
      (record {
        cut = λ e. record { node = m; place = k; cut = c; is = refl; claimed = h };
        bound = λ e. absurd (no 99 98 (first_word line) refl (omega arith) (codes "bound") refl e);
        iteration = λ e. absurd (no 99 105 (first_word line) refl (omega arith) (codes "iteration") refl e);
        upper = λ e. absurd (no 99 117 (first_word line) refl (omega arith) (codes "upper") refl e);
        risk_cut = λ e. absurd (no 99 112 (first_word line) refl (omega arith) (codes "plane") refl e);
        worst = λ e. absurd (no 99 119 (first_word line) refl (omega arith) (codes "worst") refl e);
      })

  good_cuts : (m k : ℕ) (cuts : List Cut) → All (claims.cuts m) cuts → Good (numbered (cut_line m) k cuts)
  good_cuts m k [] h = λ tail r. r
  good_cuts m k (c ∷ cs) h = good_append (cut_line m k c) (numbered (cut_line m) (suc k) cs) (good_cut m k c (h 0 c (omega arith))) (good_cuts m (suc k) cs (All-tail (claims.cuts m) c cs h))

  good_lists : (m : ℕ) (lists : List (List Cut)) → ((k : ℕ) → All (claims.cuts (m + k)) (get_or lists k [])) → Good (numbered node_cuts m lists)
  good_lists m [] h = λ tail r. r
  good_lists m (cuts ∷ lists) h =
      let first : All (claims.cuts m) cuts = subst (λ (k : ℕ). All (claims.cuts k) cuts) (omega arith) (h 0) in
      let tail : (k : ℕ) → All (claims.cuts (suc m + k)) (get_or lists k []) = λ k. subst (λ (i : ℕ). All (claims.cuts i) (get_or lists k [])) (omega arith) (h (suc k)) in
      good_append (node_cuts m cuts) (numbered node_cuts (suc m) lists) (good_cuts m 0 cuts first) (good_lists (suc m) lists tail)

  pub good_bound : (b : ℤ) → claims.bounds b → Good (bound_line b)
  good_bound b h =
      let line : List ℕ = codes "bound" ++ word b in
      good_line line (printable-append (codes "bound") (word b) refl (word_printable b))
      (record {
        cut = λ e. absurd (no 98 99 (first_word line) refl (omega arith) (codes "cut") refl e);
        bound = λ e. record { number = b; is = refl; claimed = h };
        iteration = λ e. absurd (no 98 105 (first_word line) refl (omega arith) (codes "iteration") refl e);
        upper = λ e. absurd (no 98 117 (first_word line) refl (omega arith) (codes "upper") refl e);
        risk_cut = λ e. absurd (no 98 112 (first_word line) refl (omega arith) (codes "plane") refl e);
        worst = λ e. absurd (no 98 119 (first_word line) refl (omega arith) (codes "worst") refl e);
      })

  pub good_upper : (u : ℤ) → claims.uppers u → Good (codes "upper" ++ word u ++ codes "\n")
  good_upper u h =
      let line : List ℕ = codes "upper" ++ word u in
      good_line line (printable-append (codes "upper") (word u) refl (word_printable u))
      (record {
        cut = λ e. absurd (no 117 99 (first_word line) refl (omega arith) (codes "cut") refl e);
        bound = λ e. absurd (no 117 98 (first_word line) refl (omega arith) (codes "bound") refl e);
        iteration = λ e. absurd (no 117 105 (first_word line) refl (omega arith) (codes "iteration") refl e);
        upper = λ e. record { number = u; is = refl; claimed = h };
        risk_cut = λ e. absurd (no 117 112 (first_word line) refl (omega arith) (codes "plane") refl e);
        worst = λ e. absurd (no 117 119 (first_word line) refl (omega arith) (codes "worst") refl e);
      })

  good_iteration : (k : ℕ) (b : ℤ) → claims.bounds b → Good (iteration_line k b)
  good_iteration k b h =
      let front : List ℕ = codes "iteration" ++ word (pos k) in
      let line : List ℕ = front ++ codes " bound" ++ word b in
      good_line line
      (printable-append (front ++ codes " bound") (word b) (printable-append front (codes " bound") (printable-append (codes "iteration") (word (pos k)) refl (word_printable (pos k))) refl) (word_printable b))
      (record {
        cut = λ e. absurd (no 105 99 (first_word line) refl (omega arith) (codes "cut") refl e);
        bound = λ e. absurd (no 105 98 (first_word line) refl (omega arith) (codes "bound") refl e);
        iteration = λ e. record { iteration = k; bound = b; is = refl; claimed = h };
        upper = λ e. absurd (no 105 117 (first_word line) refl (omega arith) (codes "upper") refl e);
        risk_cut = λ e. absurd (no 105 112 (first_word line) refl (omega arith) (codes "plane") refl e);
        worst = λ e. absurd (no 105 119 (first_word line) refl (omega arith) (codes "worst") refl e);
      })

  good_iterations : (i : ℕ) (bounds : List ℤ) → All claims.bounds bounds → Good (numbered iteration_after i bounds)
  good_iterations i [] h = λ tail r. r
  good_iterations i (b ∷ bs) h =
      good_append (iteration_line (suc i) b) (numbered iteration_after (suc i) bs)
      (good_iteration (suc i) b (h 0 b (omega arith))) (good_iterations (suc i) bs (All-tail claims.bounds b bs h))

  good_total : (count unanswered : ℕ) → Good (total_line count unanswered)
  good_total count unanswered =
      let front : List ℕ = codes "total iterations" ++ word (pos count) ++ codes " unsettled" in
      good_line (front ++ word (pos unanswered))
      (printable-append front (word (pos unanswered)) (printable-append (codes "total iterations" ++ word (pos count)) (codes " unsettled") (printable-append (codes "total iterations") (word (pos count)) refl (word_printable (pos count))) refl) (word_printable (pos unanswered)))
      (plain_line (front ++ word (pos unanswered)) 116 refl (omega arith) (omega arith) (omega arith) (omega arith) (omega arith) (omega arith))

  good_rest : (n : ℕ) → Good (rest_line n)
  good_rest n =
      good_line (codes "rest" ++ word (pos n)) (printable-append (codes "rest") (word (pos n)) refl (word_printable (pos n)))
      (plain_line (codes "rest" ++ word (pos n)) 114 refl (omega arith) (omega arith) (omega arith) (omega arith) (omega arith) (omega arith))

  good_pools : (pools : List (List Cut)) → ((m : ℕ) → All (claims.cuts m) (pool pools m)) → Good (cut_lines pools)
  good_pools pools s = good_lists 0 pools (λ k. subst (λ (i : ℕ). All (claims.cuts i) (pool pools k)) (omega arith) (s k))

  good_texts : (bounds : List ℤ) (unanswered : ℕ) → All claims.bounds bounds → Good (iterations_text bounds unanswered)
  unfolding iterations_text
  good_texts bounds unanswered h = good_append (iteration_lines bounds) (total_line (length bounds) unanswered) (good_iterations 0 bounds h) (good_total (length bounds) unanswered)

-- the report of sound pools is sound line by line
pub sound_lines : (p : Validated) (pools : List (List Cut)) → Sound (problem_of p) pools → Under (problem_of p) (bound (problem_of p) pools) → SoundLines (problem_of p) (base_text p pools)
unfolding base_text
sound_lines p pools s u =
    let q : Problem = problem_of p in
    let c : Claims = claims_of q (λ m k. ⊥) (λ b. ⊥) in
    let good = good_append c (head_text p.parts ++ cut_lines pools) (bound_line (bound q pools)) (good_append c (head_text p.parts) (cut_lines pools) (good_head c p.parts) (good_pools c pools s)) (good_bound c (bound q pools) u) in
    subst (SoundLines q) (append-nil (head_text p.parts ++ cut_lines pools ++ bound_line (bound q pools))) (good [] (All-nil (Line c)))

-- and so is that of a journal, where its pools are sound and each of its bounds is under the cost of each policy
pub sound_check : (p : Validated) (pools : List (List Cut)) (bounds : List ℤ) (unanswered tail : ℕ) → Sound (problem_of p) pools → All (Under (problem_of p)) bounds → Under (problem_of p) (bound (problem_of p) pools)
    → SoundLines (problem_of p) (check_text p pools bounds unanswered tail)
unfolding check_text
sound_check p pools bounds unanswered tail s us u =
    let q : Problem = problem_of p in
    let c : Claims = claims_of q (λ m k. ⊥) (λ b. ⊥) in
    let cuts : List ℕ = head_text p.parts ++ cut_lines pools in
    let iterations : List ℕ = cuts ++ iterations_text bounds unanswered in
    let last : List ℕ = iterations ++ bound_line (bound q pools) in
    let good = good_append c last (rest_line tail) (good_append c iterations (bound_line (bound q pools)) (good_append c cuts (iterations_text bounds unanswered) (good_append c (head_text p.parts) (cut_lines pools) (good_head c p.parts) (good_pools c pools s)) (good_texts c bounds unanswered us)) (good_bound c (bound q pools) u)) (good_rest c tail) in
    subst (SoundLines q) (append-nil (last ++ rest_line tail)) (good [] (All-nil (Line c)))

-- and that of training
pub sound_training : (p : Validated) (pools : List (List Cut)) (bounds : List ℤ) (unanswered : ℕ) → All (Under (problem_of p)) bounds → Under (problem_of p) (bound (problem_of p) pools) → SoundLines (problem_of p) (train_text p pools bounds unanswered)
unfolding train_text
sound_training p pools bounds unanswered us u =
    let q : Problem = problem_of p in
    let c : Claims = claims_of q (λ m k. ⊥) (λ b. ⊥) in
    let iterations : List ℕ = head_text p.parts ++ iterations_text bounds unanswered in
    let good = good_append c iterations (bound_line (bound q pools)) (good_append c (head_text p.parts) (iterations_text bounds unanswered) (good_head c p.parts) (good_texts c bounds unanswered us)) (good_bound c (bound q pools) u) in
    subst (SoundLines q) (append-nil (iterations ++ bound_line (bound q pools))) (good [] (All-nil (Line c)))
