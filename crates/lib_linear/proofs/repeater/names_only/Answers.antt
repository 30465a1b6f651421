use Rattle.std.proofs.Common.{rules, tests, ◌≡◌, length, sym, ap, ◌==◌, ◌∙◌, refl}
use Rattle.std.specs.List.{list_all}
use Rattle.std.specs.Str.{bytes_eq}
use Rattle.std.proofs.lemmas.Iterator.Consumers.{YieldsList-from_first}
use Rattle.std.proofs.lemmas.Iterator.Search.{all_from_yields_List}
use Rattle.vg_scan.specs.Lines.{words}
use Rattle.lib_linear.proofs.RepeaterLemmas.{there}
use Rattle.lib_linear.proofs.repeater.names_only.Goals as goal

pub returns-then-not-is_empty : goal.returns-then-not-is_empty
returns-then-not-is_empty c =
    let each : c.all.result ≡ list_all (bytes_eq c.args.input.now) (words c.args.value.now) =
    all_from_yields_List (bytes_eq c.args.input.now) _ _ c.all.result c.all.ensures.ran
    (YieldsList-from_first (λ x. x.now) (λ left. left) (words c.args.value.now) c.new-names.ensures) (λ x b q k. search (rules, tests)) in
    rw (each, there (length (words c.args.value.now)) (ap (λ xs. length xs == 0) (sym c.new-names.ensures) ∙ sym c.is_empty.ensures ∙ c.if-not-is_empty.true)) refl
