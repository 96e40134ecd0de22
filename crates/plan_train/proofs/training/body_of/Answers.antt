use Rattle.std.proofs.Common.{◌≡◌, [], ◌++◌, ◌∷◌, length, ap, ◌∙◌, refl, rules}
use Rattle.std.specs.Int.{w32, to_be_bytes}
use Rattle.journal_file.specs.Layout.{body_of}
use Rattle.journal_record.specs.Spelling.{spell}
use Rattle.plan_train.proofs.Bodies.{body_parts}
use Rattle.plan_train.proofs.training.body_of.Goals as goal

pub returns : goal.returns
returns c =
    let p = c.in_ok-payload.payload.items in
    let is : p ≡ spell c.args.entries.now = c.in_ok-payload.ensures.text in
    let parts : c.push.new.self.items ≡ ([] ++ to_be_bytes w32 (length p) ++ p) ++ 0 ∷ [] = search rules in
    parts ∙ body_parts p (length p) refl ∙ ap body_of is
