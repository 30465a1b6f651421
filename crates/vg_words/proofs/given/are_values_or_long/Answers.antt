use Rattle.std.proofs.Common.{Bool, String, ◌∙◌, rules, tests, sym, string_bytes}
use Rattle.std.proofs.lemmas.Iterator.{YieldsList-from_slice}
use Rattle.std.proofs.lemmas.Iterator.Search.{all_from_yields_List}
use Rattle.std.proofs.lemmas.List.Folds.{list_all-map}
use Rattle.std.specs.declared.alloc.Global.{Global}
use Rattle.vg_words.specs.Command.{is_value_or_long}
use Rattle.vg_words.proofs.given.are_values_or_long.Goals as goal

abbrev is_read : String Global → Bool
is_read word = is_value_or_long (string_bytes word)

pub returns : goal.returns
returns c =
    all_from_yields_List is_read _ _ _ c.all.ensures.ran (YieldsList-from_slice c.args.words.now cc) (λ x b q k. search (rules, tests))
    ∙ sym (list_all-map is_value_or_long string_bytes c.args.words.now)
