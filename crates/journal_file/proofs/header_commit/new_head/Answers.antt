use Rattle.std.proofs.Common.{ℕ, List, [], ◌∷◌, ◌++◌, sym, ◌∙◌, ap}
use Rattle.journal_file.specs.Layout.{title_bytes, new_title, shared_title}
use Rattle.journal_file.proofs.Newborn.{title_one, title_two}
use Rattle.journal_file.proofs.header_commit.new_head.Goals as goal

pub returns-in-None-clause-bytes : goal.returns-in-None-clause-bytes
returns-in-None-clause-bytes c =
    c.fill-count.ensures.bytes
    ∙ ap (λ (l : List ℕ). l ++ 0 ∷ []) c.fill_title-at.ensures.bytes
    ∙ title_one c.args.digest.now c.args.seed
    ∙ ap (λ b. 0 ∷ title_bytes (new_title c.args.digest.now c.args.seed b) ++ 0 ∷ []) (sym c.in-None.is)

pub returns-in-Some-clause-bytes : goal.returns-in-Some-clause-bytes
returns-in-Some-clause-bytes c =
    c.fill-count-in-Some.ensures.bytes
    ∙ ap (λ (l : List ℕ). l ++ 0 ∷ []) (c.fill-behind.ensures.bytes ∙ ap (λ (l : List ℕ). l ++ c.to_be_bytes.result) c.fill_title-at-in-Some.ensures.bytes ∙ ap (λ (l : List ℕ). (0 ∷ shared_title 2 c.args.digest.now c.args.seed) ++ l) c.to_be_bytes.ensures)
    ∙ title_two c.args.digest.now c.args.seed c.in-Some.paths
    ∙ ap (λ b. 0 ∷ title_bytes (new_title c.args.digest.now c.args.seed b) ++ 0 ∷ []) (sym c.in-Some.is)
