-- The tables of a text's identifiers and nets: for the functions between.
use Rattle.std.specs.Prelude.{◌≡◌, ℕ, max, ◌<◌, nat_lt, ◌/◌, ◌^◌, ◌++◌, List, [], ◌∷◌, length, map, slice_index_or, None, false, if◌then◌else◌}
use Rattle.std.specs.List.{All, list_any}
use Rattle.std.specs.Str.{bytes_eq}
use Rattle.ver_module.specs.Netlists.{Net, NetTable}
use Rattle.ver_module.specs.declared.net.Identifier.{Identifier}
use Rattle.vg_scan.specs.Lines.{part}
use Rattle.ver_text.specs.Names.{is_escaped, name_of}
use Rattle.ver_file.specs.declared.identifier.Identifiers.{Identifiers}
use Rattle.ver_file.specs.declared.uses.Use.{Use}
use Rattle.ver_syntax.specs.declared.row.Row.{Row}
use Rattle.ver_items.specs.Declarations.{Declared, declared_of, direction_in, first_declared, is_supply_in, range_in}
use Rattle.ver_items.specs.Sections.{bytes_at, name_at}
use Rattle.ver_file.specs.Nets.{first_tokens, tokens_of_nets}
use Rattle.ver_file.specs.Said.{identifiers_of, is_declared}

-- what holds of all nets of the identifier whose first token this is, by these declarations
abbrev pub identifier_at : List ℕ → List Declared → Row → Identifier
identifier_at text ds r = record {
  range = range_in ds (name_at text r);
  escaped = is_escaped (bytes_at text r);
  port = direction_in ds (name_at text r);
  supply = is_supply_in ds (name_at text r);
}

-- where the first tokens of identifiers begin
abbrev pub froms_of : List ℕ → List ℕ
froms_of text = map (λ r. r.from) (tokens_of_nets text)

-- these declare no other names than these
abbrev pub DeclareOnly : List Declared → List (List ℕ) → Type 0
DeclareOnly ds names = (name : List ℕ) → list_any (bytes_eq name) names ≡ false → first_declared ds name ≡ None

-- as much is kept of identifiers as they have names
pub record AreCounted (found : Identifiers) : Type 0 where
  pub all : length found.all.items ≡ length found.names
  pub declared : length found.declared.items ≡ length found.names

-- an identifier of this number stands there
pub record IsUse (text : List ℕ) (names : List (List ℕ)) (found : Use) : Type 0 where
  pub within : found.id < length names
  pub is : slice_index_or names found.id [] ≡ name_of (part text found.from found.to)

-- how many places of identifiers are kept of a text of this length
abbrev pub most_uses : ℕ → ℕ
most_uses text_len = max (2 ^ 16) (text_len / 16)

-- with a place last, where they are not so many
abbrev pub with_use : ℕ → Use → List Use → List Use
with_use most place uses = if nat_lt (length uses) most then uses ++ place ∷ [] else uses

-- these are the identifiers of a text up to these tokens, which are left, by their first tokens, and what these
-- declarations say of them
pub record AreRead (text : List ℕ) (left : List Row) (ds : List Declared) (found : Identifiers) : Type 0 where
  pub tokens : List Row
  pub names : found.names ≡ map (name_at text) tokens
  pub whole : tokens_of_nets text ≡ tokens ++ first_tokens text found.names left
  pub all : found.all.items ≡ map (identifier_at text ds) tokens
  pub declared : found.declared.items ≡ map (λ r. is_declared ds (name_at text r)) tokens
  pub froms : found.froms.items ≡ map (λ r. r.from) tokens
  pub only : DeclareOnly ds found.names
  pub uses : All (IsUse text found.names) found.uses.items

-- reading these tokens, which declare these, leads from some identifiers to others
abbrev pub Reads : List ℕ → List Row → List Declared → Identifiers → Identifiers → Type 0
Reads text rows more old new =
    (left : List Row) (ds : List Declared) → AreRead text (rows ++ left) ds old → AreRead text left (ds ++ more) new

-- the same of one token, where nothing is said of what it declares
abbrev pub ReadsOne : List ℕ → Row → Identifiers → Identifiers → Type 0
ReadsOne text r old new =
    (left : List Row) (ds : List Declared) → AreRead text (r ∷ left) ds old → AreRead text left ds new

-- these are the identifiers of a text
pub record AreIdentifiers (text : List ℕ) (found : Identifiers) : Type 0 where
  pub names : found.names ≡ identifiers_of text
  pub all : found.all.items ≡ map (identifier_at text (declared_of text)) (tokens_of_nets text)
  pub froms : found.froms.items ≡ froms_of text
  pub only : DeclareOnly (declared_of text) found.names
  pub uses : All (IsUse text found.names) found.uses.items

-- ---- nets

abbrev pub names_of : List Net → List (List ℕ)
names_of nets = map (λ net. net.name) nets

-- this is the table of the nets of a text
pub record IsNetTable (text : List ℕ) (table : NetTable) : Type 0 where
  pub names : table.names ≡ identifiers_of text
  pub identifiers : table.identifiers ≡ map (identifier_at text (declared_of text)) (tokens_of_nets text)
  pub only : DeclareOnly (declared_of text) (identifiers_of text)
