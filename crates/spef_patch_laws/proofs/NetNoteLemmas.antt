-- The notes of nets that are read from a text.
use Rattle.std.proofs.Common.{◌≡◌, ℕ, zero, suc, Bool, true, false, cond, List, [], ◌∷◌, length, drop, get_or, map, refl, sym, ap, arith, subst, Option, Some, None, Ok, Err, All}
use Rattle.std.specs.Prelude.{unwrap_or}
use Rattle.std.specs.Option.{option_or}
use Rattle.std.proofs.lemmas.List.Elements.{All-head, All-tail, All-map}
use Rattle.std.proofs.lemmas.Option.{same_Some}
use Rattle.std.specs.Str.Lines.{lines}
use Rattle.vg_scan.specs.Comments.{without_comments}
use Rattle.vg_scan.specs.declared.comments.Comments.TheVariants.{Spef}
use Rattle.vg_scan.specs.declared.name.NodeName.{NodeName}
use Rattle.vg_scan.specs.Nodes.{same_node, node_value}
use Rattle.vg_scan.proofs.AgainLemmas.{without_again}
use Rattle.spef_file.specs.Files.{File}
use Rattle.spef_file.specs.Indexes.{lines_after}
use Rattle.spef_nodes.specs.Nodes.{ParNode}
use Rattle.spef_net.specs.Denoted.{described, all_nodes}
use Rattle.spef_net.specs.Rows.{joined_in, starred_in, joined_of, starred_of}
use Rattle.spef_net.specs.Sections.{statements_in}
use Rattle.spef_net.specs.Statements.{Stated, Opens, Nothing, Connects, Star, Ground, Coupling, Resistor, statements}
use Rattle.spef_net.proofs.SizeLemmas.{all_filter_map}
use Rattle.spef_net.proofs.StatementLemmas.{Fine, statements_fine}
use Rattle.spef_write.specs.Texts.{IsQuietLine}
use Rattle.spef_patch_laws.specs.NoteLaws.{ReadNotesAreQuiet, NamedNotesAreQuiet}
use Rattle.spef_patch_laws.proofs.WrittenLemmas.{all_none}
use Rattle.spef_patch_laws.proofs.HeadLemmas.{all_take}
use Rattle.spef_patch_laws.proofs.CalmLemmas.{calm, stays_calm, calm_line_stays}
use Rattle.spef_patch_laws.proofs.LineNoteLemmas.{IsCalmNote, any_node, lines_calm, line_is}

-- ---- the lines of a net

all_drop : {A : Type 0} (P : A → Type 0) (n : ℕ) (xs : List A) → All P xs → All P (drop n xs)
all_drop P zero xs h = h
all_drop P (suc n) [] h = h
all_drop P (suc n) (x ∷ xs) h = all_drop P n xs (All-tail P x xs h)

net_lines_calm : (text : List ℕ) (line : ℕ) → All (λ l. calm false l ≡ true) (lines_after text line)
net_lines_calm text line =
    let clear = without_comments Spef text in
    let whole = stays_calm (length clear) clear (omega arith) (without_again Spef text) in
    all_take (λ l. calm false l ≡ true) (drop line (lines clear)) _ (all_drop (λ l. calm false l ≡ true) line (lines clear) (lines_calm (length clear) clear (omega arith) whole))

-- ---- what they say

abbrev IsFineLine : File → Stated → Type 0
IsFineLine file = Fine any_node IsCalmNote file

joined_note : (file : File) (line : Stated) (row : NodeName × List ℕ) → IsFineLine file line → joined_in line ≡ Some row → IsCalmNote row.1
joined_note file (Err kind) row h e = absurd (cc)
joined_note file (Ok (Opens part)) row h e = absurd (cc)
joined_note file (Ok Nothing) row h e = absurd (cc)
joined_note file (Ok (Connects kind way node note)) row h e = subst IsCalmNote (ap (λ (r : NodeName × List ℕ). r.1) (same_Some _ _ e)) h.fine.2
joined_note file (Ok (Star node note)) row h e = absurd (cc)
joined_note file (Ok (Ground node value)) row h e = absurd (cc)
joined_note file (Ok (Coupling a b value)) row h e = absurd (cc)
joined_note file (Ok (Resistor a b value)) row h e = absurd (cc)

starred_note : (file : File) (line : Stated) (row : NodeName × List ℕ) → IsFineLine file line → starred_in line ≡ Some row → IsCalmNote row.1
starred_note file (Err kind) row h e = absurd (cc)
starred_note file (Ok (Opens part)) row h e = absurd (cc)
starred_note file (Ok Nothing) row h e = absurd (cc)
starred_note file (Ok (Connects kind way node note)) row h e = absurd (cc)
starred_note file (Ok (Star node note)) row h e = subst IsCalmNote (ap (λ (r : NodeName × List ℕ). r.1) (same_Some _ _ e)) h.fine.1
starred_note file (Ok (Ground node value)) row h e = absurd (cc)
starred_note file (Ok (Coupling a b value)) row h e = absurd (cc)
starred_note file (Ok (Resistor a b value)) row h e = absurd (cc)

value_step : (t : Bool) (here : List ℕ) (later : Option (List ℕ)) (note : List ℕ) → IsCalmNote here → (later ≡ Some note → IsCalmNote note)
    → cond t (Some here) later ≡ Some note → IsCalmNote note
value_step true here later note h k e = subst IsCalmNote (same_Some _ _ e) h
value_step false here later note h k e = k e

value_note : (rows : List (NodeName × List ℕ)) (node : NodeName) (note : List ℕ) → All (λ (row : NodeName × List ℕ). IsCalmNote row.1) rows → node_value rows node ≡ Some note → IsCalmNote note
value_note [] node note h e = absurd (cc)
value_note (row ∷ rows) node note h e =
    value_step (same_node node row.0) row.1 (node_value rows node) note (All-head (λ (r : NodeName × List ℕ). IsCalmNote r.1) row rows h)
    (value_note rows node note (All-tail (λ (r : NodeName × List ℕ). IsCalmNote r.1) row rows h)) e

no_note : IsCalmNote []
unfolding calm
no_note = refl

note_from : (j s : Option (List ℕ)) → ((note : List ℕ) → j ≡ Some note → IsCalmNote note) → ((note : List ℕ) → s ≡ Some note → IsCalmNote note) → IsCalmNote (unwrap_or (option_or j s) [])
note_from None None f g = no_note
note_from None (Some note) f g = g note refl
note_from (Some note) s f g = f note refl

-- the notes of a net that such lines denote
module _ (file : File) (all : List Stated) (fine : All (IsFineLine file) all) where
  joined_notes : All (λ (row : NodeName × List ℕ). IsCalmNote row.1) (joined_of all)
  joined_notes = all_filter_map (λ (row : NodeName × List ℕ). IsCalmNote row.1) (IsFineLine file) joined_in all (joined_note file) fine

  starred_notes : All (λ (row : NodeName × List ℕ). IsCalmNote row.1) (starred_of all)
  starred_notes = all_filter_map (λ (row : NodeName × List ℕ). IsCalmNote row.1) (IsFineLine file) starred_in all (starred_note file) fine

  described_quiet : (nodes : List NodeName) → All (λ (node : ParNode). IsQuietLine node.note) (map (described (joined_of all) (starred_of all)) nodes)
  described_quiet nodes = All-map (λ (node : ParNode). IsQuietLine node.note) (described (joined_of all) (starred_of all)) nodes (λ k d l.
      let name = get_or nodes k d in
      calm_line_stays (described (joined_of all) (starred_of all) name).note
      (note_from (node_value (joined_of all) name) (node_value (starred_of all) name)
      (λ note e. value_note (joined_of all) name note joined_notes e) (λ note e. value_note (starred_of all) name note starred_notes e)))

said_fine : (text : List ℕ) (file : File) (line : ℕ) (reduced : Bool) → All (IsFineLine file) (cond reduced [] (statements file (lines_after text line)))
said_fine text file line true = all_none (IsFineLine file)
said_fine text file line false =
    let ls = lines_after text line in
    (statements_fine any_node IsCalmNote file ls (λ k d l. line_is file (get_or ls k d) (net_lines_calm text line k d l))).lines

pub read_notes : ReadNotesAreQuiet
read_notes text file head net is =
    let all = statements_in text file head in
    subst (All (λ (node : ParNode). IsQuietLine node.note)) (sym is.denoted.nodes)
    (described_quiet file all (said_fine text file head.line head.reduced) (all_nodes head.name all))

pub named_notes : NamedNotesAreQuiet
named_notes text name net is = read_notes text is.file is.head net is.read
