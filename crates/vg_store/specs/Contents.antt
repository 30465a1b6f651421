-- Files by their names and numbers.
use Rattle.std.specs.Prelude.{ℕ, List, slice_get, string_bytes, String, Option, Some, None, option_and_then, option_map, Vec, vec_items}
use Rattle.std.specs.declared.alloc.Global.{Global}
use Rattle.indexmap.specs.IndexMap.{IndexMap, get_by_text, keys}
use Rattle.vg_store.specs.States.{Draft}
use Rattle.vg_store.specs.declared.waiting.Waiting.{Waiting}

module _ {S : Type 0} where
  -- the name of the file of this number, if there is a number
  abbrev pub named : {X : Type 0} → IndexMap (String Global) X S → Option ℕ → Option (List ℕ)
  named files None = None
  named files (Some n) = option_map string_bytes (slice_get (keys files) n)

  -- the bytes of the file of this name, where they are told
  abbrev pub told_of : IndexMap (String Global) (Option (Vec ℕ Global)) S → List ℕ → Option (List ℕ)
  told_of files name = option_and_then (option_map vec_items) (get_by_text files name)

-- what contracts see of a draft that waits
abbrev pub draft_of : {X S : Type 0} → IndexMap (String Global) X S → Waiting → Draft
draft_of files waiting = record { name = named files (Some waiting.file); bytes = Some (vec_items waiting.bytes) }

-- what they see of one whose bytes are not kept
abbrev pub draft_named : {X S : Type 0} → IndexMap (String Global) X S → Option ℕ → Draft
draft_named files number = record { name = named files number; bytes = None }
