-- A stream after some words.
use Rattle.std.proofs.Common.{◌≡◌, ℕ, ◌+◌, ap, ◌∙◌}
use Rattle.rand_chacha.specs.ChaCha.{ChaCha}
use Rattle.plan_draw.specs.Drawn.{word_in}

-- the stream at a place
abbrev pub at : ChaCha → ℕ → ChaCha
at g place = record g { word_pos = place }

pub later : (g a b : ChaCha) (n m k : ℕ) → a ≡ at g n → b ≡ at a (a.word_pos + m) → n + m ≡ k → b ≡ at g k
later g a b n m k p q e = rw p at q ∙ ap (at g) e

pub same_words : (g a : ChaCha) (n : ℕ) → a ≡ at g n → word_in a ≡ word_in g
unfolding word_in
same_words g a n p = ap word_in p

pub place_of : (g a : ChaCha) (n : ℕ) → a ≡ at g n → a.word_pos ≡ n
place_of g a n p = ap (λ (h : ChaCha). h.word_pos) p
