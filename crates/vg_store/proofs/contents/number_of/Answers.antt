use Rattle.std.proofs.Common.{◌≡◌, ◌∙◌, refl, ap, arith, rules, false, Some, None, option_map, string_bytes}
use Rattle.std.specs.Prelude.{is_some, slice_get}
use Rattle.std.specs.Map.{keys_of}
use Rattle.std.specs.String.{string_eq}
use Rattle.std.proofs.lemmas.Map.Text.{text_keys}
use Rattle.indexmap.specs.IndexMap.{get_by_text, insert_entry}
use Rattle.vg_store.proofs.MapLemmas.{inserted_name}
use Rattle.vg_store.proofs.NumberLemmas.{name_is, name_stays}
use Rattle.vg_store.proofs.ToldLemmas.{told_alike}
use Rattle.vg_store.proofs.contents.number_of.Goals as goal

pub returns-in-Some-clause-named : goal.returns-in-Some-clause-named
returns-in-Some-clause-named c = name_is c.args.files.now c.args.name.now (Some c.in-Some.number) c.in-Some.ensures.index refl

pub returns-clause-kept : goal.returns-clause-kept
returns-clause-kept c =
    let none : false ≡ is_some (get_by_text c.args.files.now c.args.name.now) = search rules in
    let here : get_by_text c.insert_full.new.self c.args.name.now ≡ Some None = grind (arith, text_keys) in
    told_alike c.args.files.now c.insert_full.new.self c.args.name.now none here (λ other differs. grind (arith, text_keys))

pub returns-clause-named : goal.returns-clause-named
returns-clause-named c =
    let here = inserted_name c.args.files.now.entries c.in_ok-name.name None in
    let es = c.in_ok-number.ensures.entries in
    let at = c.in_ok-number.ensures.index in
    ap (λ l. option_map string_bytes (slice_get (keys_of l) c.in_ok-number.number)) es
    ∙ ap (λ n. option_map string_bytes (slice_get (keys_of (insert_entry string_eq c.args.files.now.entries c.in_ok-name.name None)) n)) at
    ∙ here ∙ ap (λ l. Some l) c.in_ok-name.ensures.ok

pub returns-clause-same_names : goal.returns-clause-same_names
returns-clause-same_names c = λ number. name_stays string_eq c.args.files.now c.insert_full.new.self c.in_ok-name.name None number c.in_ok-number.ensures.entries
