use Rattle.std.proofs.Common.{◌∙◌, SFits, ap₂, sym, rules}
use mir.Syntax.{w64, w128}
use Rattle.std.proofs.lemmas.Int.{to_z-of_z}
use Rattle.plan_mend.specs.Moves.{reaching, short_of, is_other}
use Rattle.plan_mend.specs.Stages.{frame_at}
use Rattle.plan_mend.proofs.Listed.{same_amount, two_moves, one_move}
use Rattle.plan_mend.proofs.moves.push_both.Goals as goal

pub returns-in_ok-push_move-2 : goal.returns-in_ok-push_move-2
returns-in_ok-push_move-2 c =
    let d = c.args.miss in
    let t = c.args.term in
    let fits : SFits w64 c.args.term.1 = search rules in
    let miss = to_z-of_z w128 d c.ranges.miss in
    let factor = to_z-of_z w64 t.1 fits in
    let beyond = to_z-of_z w128 c.directed-beyond.result (record { sfits = c.directed-beyond.type_inv }) ∙ same_amount reaching c.directed-beyond.result d _ t.1 _ c.reaching-most.result c.directed-beyond.ensures.value c.reaching-most.ensures.value miss factor in
    let short = to_z-of_z w128 c.directed-short.result (record { sfits = c.directed-short.type_inv }) ∙ same_amount short_of c.directed-short.result d _ t.1 _ c.short_of-least.result c.directed-short.ensures.value c.short_of-least.ensures.value miss factor in
    let least = c.short_of-least.ensures.value ∙ ap₂ short_of miss factor in
    let most = c.reaching-most.ensures.value ∙ ap₂ reaching miss factor in
    two_moves (frame_at c.args.aim.now.stage.now) c.args.aim.now.deep c.args.aim.now.search.now c.args.aim.now.row d t c.args.moves.now c.push_move.new.moves _ beyond c.in_ok-push_move.ensures
    c.push_move-then-is_other.new.moves _ short (ap₂ is_other (sym least) (sym most) ∙ sym c.is_other.ensures ∙ c.if-is_other.true) c.in_ok-push_move-2.ensures

pub returns-else-is_other : goal.returns-else-is_other
returns-else-is_other c =
    let d = c.args.miss in
    let t = c.args.term in
    let fits : SFits w64 c.args.term.1 = search rules in
    let miss = to_z-of_z w128 d c.ranges.miss in
    let factor = to_z-of_z w64 t.1 fits in
    let beyond = to_z-of_z w128 c.directed-beyond.result (record { sfits = c.directed-beyond.type_inv }) ∙ same_amount reaching c.directed-beyond.result d _ t.1 _ c.reaching-most.result c.directed-beyond.ensures.value c.reaching-most.ensures.value miss factor in
    let least = c.short_of-least.ensures.value ∙ ap₂ short_of miss factor in
    let most = c.reaching-most.ensures.value ∙ ap₂ reaching miss factor in
    one_move (frame_at c.args.aim.now.stage.now) c.args.aim.now.deep c.args.aim.now.search.now c.args.aim.now.row d t c.args.moves.now c.push_move.new.moves _ beyond c.in_ok-push_move.ensures
    (ap₂ is_other (sym least) (sym most) ∙ sym c.is_other.ensures ∙ c.if-is_other.false)
