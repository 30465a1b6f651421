-- The words of a changed netlist.
use Rattle.std.specs.Prelude.{ℕ, Bool, true, false, not, List, [], ◌∷◌, ◌++◌, Option, Some, None, codes, map}
use Rattle.std.specs.Fmt.{decimal}
use Rattle.std.specs.List.{flat_map}
use Rattle.ver_text.specs.declared.kind.Kind.{Kind}
use Rattle.ver_text.specs.declared.kind.Kind.TheVariants.{Wire, Identifier, Open, Close, OpenSquare, CloseSquare, Comma, Semicolon, Dot}
use Rattle.ver_text.specs.Kinds.{digits_kind}
use Rattle.ver_text.specs.Names.{is_simple}
use Rattle.ver_module.specs.Netlists.{Net, Netlist}
use Rattle.ver_patch.specs.Pins.{span_at}
use Rattle.ver_patch.specs.NewCells.{NewCell}
use Rattle.ver_patch.specs.Rewires.{Rewire}
use Rattle.ver_patch_text_laws.specs.Words.{Word, WordEdit, words_of}

abbrev pub word : Kind → List ℕ → Word
word kind bytes = record { kind = kind; bytes = bytes }

-- ---- names and nets

-- the bytes of an identifier that gives this name, escaped or as it is
abbrev pub identifier_bytes : Bool → List ℕ → List ℕ
identifier_bytes true name = 92 ∷ name
identifier_bytes false name = name

-- the identifier that a name is printed as
abbrev pub printed_word : List ℕ → Word
printed_word name = word Identifier (identifier_bytes (not (is_simple name)) name)

-- the number of a bit in its brackets
abbrev pub select_words : Option ℕ → List Word
select_words None = []
select_words (Some bit) =
    word OpenSquare (codes "[") ∷ word (digits_kind (decimal bit)) (decimal bit) ∷ word CloseSquare (codes "]") ∷ []

-- a net: its identifier, and for a bit its number in brackets
abbrev pub net_words : Net → List Word
net_words net = word Identifier (identifier_bytes net.escaped net.base) ∷ select_words net.bit

-- ---- what is put in

-- the declaration of a wire
abbrev pub wire_words : List ℕ → List Word
wire_words name = word Wire (codes "wire") ∷ word Identifier name ∷ word Semicolon (codes ";") ∷ []

-- a connection by name
abbrev pub pin_words : List ℕ → List Word → List Word
pin_words pin net =
    word Dot (codes ".") ∷ printed_word pin ∷ word Open (codes "(") ∷ (net ++ word Close (codes ")") ∷ [])

-- an instance with its two connections
abbrev pub cell_words : NewCell → List Word
cell_words c =
    printed_word c.cell ∷ word Identifier c.name ∷ word Open (codes "(")
    ∷ (pin_words c.input (words_of c.from) ++ word Comma (codes ",")
    ∷ (pin_words c.output (words_of c.to) ++ word Close (codes ")") ∷ word Semicolon (codes ";") ∷ []))

-- ---- the changes

-- the connection of a pin is the words of the new net
abbrev pub rewired_words : Netlist → Rewire → WordEdit
rewired_words netlist rewire =
    record { from = (span_at netlist rewire.at).from; to = (span_at netlist rewire.at).to; words = words_of rewire.net }

-- words that are put in at a place
abbrev pub inserted_words : ℕ → List Word → WordEdit
inserted_words at words = record { from = at; to = at; words = words }

-- the declarations of the new wires behind the module's head, the new connections, and the new instances before
-- `endmodule`
abbrev pub changes_of : Netlist → List Rewire → List NewCell → List (List ℕ) → List WordEdit
changes_of netlist rewires cells wires =
    inserted_words netlist.head_end (flat_map wire_words wires)
    ∷ (map (rewired_words netlist) rewires ++ inserted_words netlist.end_at (flat_map cell_words cells) ∷ [])
