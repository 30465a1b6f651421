use Rattle.std.proofs.Common.{◌∷◌, [], List, not, map, sym, ap, ◌∙◌}
use Rattle.std.proofs.lemmas.List.{map-append}
use Rattle.std.specs.List.{list_any}
use Rattle.std.specs.Str.{bytes_eq}
use Rattle.ver_syntax.specs.declared.row.Row.{Row}
use Rattle.ver_items.specs.Sections.{name_at}
use Rattle.ver_file.specs.Firsts.{first_of, named_at}
use Rattle.ver_file.specs.Flaws.{unless}
use Rattle.ver_file.proofs.FlawLemmas.{one_repeated, put_new, put_old}
use Rattle.ver_file.proofs.check.repeated_among.Goals as goal

pub returns-then-not-is_other-clause-names : goal.returns-then-not-is_other-clause-names
returns-then-not-is_other-clause-names c =
    let names = map (name_at c.args.text.now) c.args.pins.now.items in
    let t = ap (λ (pins : List Row). not (list_any (bytes_eq (name_at c.args.text.now c.args.pin)) (map (name_at c.args.text.now) pins))) (sym c.deref.ensures.value) ∙ sym c.is_other.ensures ∙ c.if-not-is_other.true in
    sym (put_old names (name_at c.args.text.now c.args.pin) t)

pub returns-clause-names : goal.returns-clause-names
returns-clause-names c =
    let names = map (name_at c.args.text.now) c.args.pins.now.items in
    let t = ap (λ (pins : List Row). not (list_any (bytes_eq (name_at c.args.text.now c.args.pin)) (map (name_at c.args.text.now) pins))) (sym c.deref.ensures.value) ∙ sym c.is_other.ensures ∙ c.if-not-is_other.false in
    ap (map (name_at c.args.text.now)) c.in_ok-push.ensures.items
    ∙ map-append (name_at c.args.text.now) c.args.pins.now.items (c.args.pin ∷ [])
    ∙ sym (put_new names (name_at c.args.text.now c.args.pin) t)

pub returns-then-not-is_other-clause-first : goal.returns-then-not-is_other-clause-first
returns-then-not-is_other-clause-first c =
    let names = map (name_at c.args.text.now) c.args.pins.now.items in
    let t = ap (λ (pins : List Row). not (list_any (bytes_eq (name_at c.args.text.now c.args.pin)) (map (name_at c.args.text.now) pins))) (sym c.deref.ensures.value) ∙ sym c.is_other.ensures ∙ c.if-not-is_other.true in
    c.unless.ensures
    ∙ ap (first_of c.args.first)
    (ap (λ b. unless b c.args.pin.from) (sym t) ∙ sym (one_repeated names (named_at c.args.text.now c.args.pin)))

pub returns-clause-first : goal.returns-clause-first
returns-clause-first c =
    let names = map (name_at c.args.text.now) c.args.pins.now.items in
    let t = ap (λ (pins : List Row). not (list_any (bytes_eq (name_at c.args.text.now c.args.pin)) (map (name_at c.args.text.now) pins))) (sym c.deref.ensures.value) ∙ sym c.is_other.ensures ∙ c.if-not-is_other.false in
    ap (first_of c.args.first)
    (ap (λ b. unless b c.args.pin.from) (sym t) ∙ sym (one_repeated names (named_at c.args.text.now c.args.pin)))
