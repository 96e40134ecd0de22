use Rattle.std.proofs.Common.{◌≡◌, ◌++◌, ◌∷◌, [], List, String, Global, string_bytes, string_cmp, map, true, sym, ap, ◌∙◌, subst, append_assoc}
use Rattle.std.proofs.lemmas.List.{append-nil, map_push}
use Rattle.std.specs.List.Sorted.{IsStrictlySortedBy}
use Rattle.read_json.proofs.InOrder.{keys_of-members_view, new_key}
use Rattle.read_json.proofs.names.keys.Goals as goal

pub loop-key-preserved : goal.loop-key-preserved
loop-key-preserved c =
    let l = c.loop-key in
    let front : List (String Global) = l.invariant.0 in
    let key : String Global = c.in-Some.key.now in
    let whole = ap (λ ks. front ++ ks) (sym c.in-Some.ensures.steps) ∙ l.invariant.1 in
    let new = new_key front key c.next.new.self (subst (IsStrictlySortedBy string_cmp) (sym whole) c.keys-key-items.ensures.ordered) in
    let added : c.in_ok-add.field-0 ≡ true = c.in_ok-add.ensures.added ∙ rw (c.as_str.ensures.value, l.invariant.2, new) in (
      front ++ key ∷ [],
      append_assoc front (key ∷ []) c.next.new.self ∙ whole,
      c.in_ok-add.ensures.names ∙ rw (added, c.as_str.ensures.value, l.invariant.2) (sym (map_push string_bytes front key)),
    )

pub returns : goal.returns
returns c =
    let l = c.loop-key in
    let all = sym (append-nil l.invariant.0) ∙ ap (λ ks. l.invariant.0 ++ ks) (sym c.in-None.ensures.steps.0) ∙ l.invariant.1 in
    l.invariant.2 ∙ ap (map string_bytes) all ∙ sym (keys_of-members_view c.args.members.now.entries)
