-- Two nets of one name, as the code finds them: for the functions between.
use Rattle.std.specs.Prelude.{◌≡◌, ℕ, ◌<◌, ◌≤◌, List, [], ◌∷◌, Option, None, Some, slice_get, IfSome}
use Rattle.std.specs.List.{Contains, flat_map}
use Rattle.ver_syntax.specs.declared.row.Row.{Row}
use Rattle.ver_items.specs.Sections.{name_at}
use Rattle.ver_file.specs.Flaws.{Named, name_flaws, named_nets}
use Rattle.ver_file.specs.Nets.{tokens_of_nets}

-- the names of all nets of a text, each given at the first token of its identifier
abbrev pub all_named : List ℕ → List Named
all_named text = flat_map (named_nets text) (tokens_of_nets text)

-- the net of this number has the name of an earlier one, which is this name
pub record IsClash (text name : List ℕ) (later : Named) : Type 0 where
  pub at : ℕ
  pub before : ℕ
  pub earlier : Named
  pub rise : before < at
  pub is : slice_get (all_named text) at ≡ Some later
  pub is_earlier : slice_get (all_named text) before ≡ Some earlier
  pub named : later.name ≡ name
  pub named_earlier : earlier.name ≡ name

-- where a net has the name of an earlier one, and this is the name of the identifier of this number, it is given there
pub record FindsClash (text : List ℕ) (at : ℕ) (found : Option ℕ) : Type 0 where
  pub is : IfSome found (Contains (name_flaws text))
  pub each : (token : Row) (later : Named) → slice_get (tokens_of_nets text) at ≡ Some token
      → IsClash text (name_at text token) later → found ≡ Some later.place

-- of the names of so many identifiers this is the first place at which a net has one that an earlier net has
pub record AreFound (text : List ℕ) (count : ℕ) (first : Option ℕ) : Type 0 where
  pub among : IfSome first (Contains (name_flaws text))
  pub least : (at : ℕ) (token : Row) (later : Named) → at < count → slice_get (tokens_of_nets text) at ≡ Some token
      → IsClash text (name_at text token) later → (place : ℕ) × (first ≡ Some place) × (place ≤ later.place)

-- a place, if it is one
abbrev pub place_in : Option ℕ → List ℕ
place_in None = []
place_in (Some place) = place ∷ []
