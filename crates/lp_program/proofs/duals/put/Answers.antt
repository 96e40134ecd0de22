use Rattle.std.proofs.Common.{◌∙◌, ℕ, List, slice_get, ap, sym}
use Rattle.lp_program.specs.declared.fixed.Fx.{Fx}
use Rattle.lp_program.specs.Duals.{place_of, is_of}
use Rattle.lp_program.proofs.SpreadDuals.{put_there, put_nothing, put_new}
use Rattle.lp_program.proofs.duals.put.Goals as goal

pub returns-then-is_of : goal.returns-then-is_of
returns-then-is_of c =
    let place = c.place_of-place.ensures.value ∙ ap (place_of c.args.row) c.as_slice.ensures.value in
    let there = sym (c.is_of.ensures.value ∙ ap (λ (ps : List (ℕ × Fx)). is_of c.args.row (slice_get ps c.place_of-place.result)) c.as_slice-2.ensures.value) ∙ c.if-is_of.true in
    put_there c.args.row c.args.dual c.args.pairs.now.items c.place_of-place.result place there

pub returns-then-is_zero : goal.returns-then-is_zero
returns-then-is_zero c =
    let place = c.place_of-place.ensures.value ∙ ap (place_of c.args.row) c.as_slice.ensures.value in
    let none = sym (c.is_of.ensures.value ∙ ap (λ (ps : List (ℕ × Fx)). is_of c.args.row (slice_get ps c.place_of-place.result)) c.as_slice-2.ensures.value) ∙ c.if-is_of.false in
    put_nothing c.args.row c.args.dual c.args.pairs.now.items c.place_of-place.result place none (sym c.is_zero.ensures ∙ c.if-is_zero.true)

pub returns-in-Ok : goal.returns-in-Ok
returns-in-Ok c =
    let place = c.place_of-place.ensures.value ∙ ap (place_of c.args.row) c.as_slice.ensures.value in
    let none = sym (c.is_of.ensures.value ∙ ap (λ (ps : List (ℕ × Fx)). is_of c.args.row (slice_get ps c.place_of-place.result)) c.as_slice-2.ensures.value) ∙ c.if-is_of.false in
    put_new c.args.row c.args.dual c.args.pairs.now.items c.place_of-place.result place c.insert.new.self.items none (sym c.is_zero.ensures ∙ c.if-is_zero.false) c.in-Ok.ensures.items
