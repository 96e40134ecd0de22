use Rattle.std.proofs.Common.{◌≡◌, ℕ, Bool, true}
use Rattle.lp_scale.specs.Walks.{GivesWalked}
use Rattle.lp_scale.specs.Scaling.{AreSmall}
use Rattle.lp_scale.specs.Appending.{appended_cut}
use Rattle.lp_scale.proofs.Counts.{cut_more}
use Rattle.lp_scale.proofs.Shapes.{gives_true, if_ok_more}
use Rattle.lp_scale.proofs.widening.put_cut.Goals as goal

pub returns-else-waits-clause-small : goal.returns-else-waits-clause-small
returns-else-waits-clause-small c =
    if_ok_more (λ (made : Bool). made ≡ true → (most : ℕ) → AreSmall most c.args.table.now.scales → AreSmall most c.append_cut.new.table.scales) (λ (made : Bool). made ≡ true → AreSmall 1000 c.append_cut.new.table.scales) c.append_cut.result
    (λ made f t. f t 1000 c.requires.small) c.append_cut.ensures.small

pub returns-else-waits-clause-waiting : goal.returns-else-waits-clause-waiting
returns-else-waits-clause-waiting c =
    if_ok_more (λ (made : Bool). GivesWalked made (appended_cut c.args.i c.args.row.now c.args.table.now) c.append_cut.new.table) (λ (made : Bool). made ≡ true → c.append_cut.new.table.cuts.waiting ≡ c.args.table.now.cuts.waiting) c.append_cut.result
    (λ made g t. (cut_more c.args.i c.args.row.now c.args.table.now c.append_cut.new.table (gives_true made _ _ t g)).waiting) c.append_cut.ensures.value
