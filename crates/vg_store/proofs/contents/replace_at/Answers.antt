use Rattle.std.proofs.Common.{ap, option_map, vec_items, sym}
use Rattle.std.specs.Prelude.{option_and_then}
use Rattle.indexmap.proofs.CallerLemmas.{index_map_len-with_value_at}
use Rattle.vg_store.proofs.MapLemmas.{replaced_at, stay_apart, same_names}
use Rattle.vg_store.proofs.contents.replace_at.Goals as goal

pub returns-clause-replaced : goal.returns-clause-replaced
returns-clause-replaced c =
    λ name is. ap (option_and_then (option_map vec_items)) (replaced_at c.args.files.now c.args.number name c.in-Some.file.now c.args.told c.in-Some.ensures.unique is (sym c.in-Some.ensures.value))

pub returns-clause-others : goal.returns-clause-others
returns-clause-others c =
    λ other differs. ap (option_and_then (option_map vec_items)) (stay_apart c.args.files.now c.args.number c.in-Some.file.now c.args.told c.in-Some.ensures.unique (sym c.in-Some.ensures.value) other differs)

pub returns-clause-same_names : goal.returns-clause-same_names
returns-clause-same_names c = same_names c.args.files.now c.args.number c.args.told

pub returns-clause-same_length : goal.returns-clause-same_length
returns-clause-same_length c = index_map_len-with_value_at c.args.files.now c.args.number c.args.told
