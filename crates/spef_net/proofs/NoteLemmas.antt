-- The notes of a net are on one line, and have no blank and no carriage return at their ends.
use Rattle.std.proofs.Common.{◌≡◌, ℕ, zero, suc, ◌+◌, ◌-◌, ◌<◌, ◌≤◌, Bool, true, false, cond, not, List, [], ◌∷◌, reverse, length, take, drop, get_or, refl, sym, ap, ◌∙◌, arith, subst, length-take-le, length-drop, Option, Some, None, Ok, Err}
use Rattle.std.proofs.lemmas.List.{get_or-reverse, length-reverse, get_or-take, get_or-drop}
use Rattle.std.proofs.lemmas.List.Sums.{prefix_len_stops}
use Rattle.std.proofs.lemmas.Option.{same_Some}
use Rattle.std.specs.List.{All, AllPass, position_or_len, suffix_len}
use Rattle.vg_scan.specs.Lines.{words, is_blank, is_ink}
use Rattle.vg_scan.specs.Nodes.{same_node, node_value}
use Rattle.vg_scan.specs.declared.name.NodeName.{NodeName}
use Rattle.spef_file.specs.Files.{File}
use Rattle.spef_nodes.specs.Nodes.{ParNode, text_of, noted_all}
use Rattle.spef_net.specs.Lines.{is_space, is_solid, after_word, after_words, trimmed, note_after}
use Rattle.spef_net.specs.Statements.{Stated, Opens, Nothing, Connects, Star, Ground, Coupling, Resistor, statements}
use Rattle.spef_net.specs.Rows.{joined_in, starred_in, joined_of, starred_of, connected_of}
use Rattle.spef_net.specs.Builders.{PartialNet, IsPartialNet, note_from}
use Rattle.spef_net.specs.Nets.{in_line, IsNote}
use Rattle.spef_net.proofs.SizeLemmas.{all_nil, all_cons, all_head, all_tail, all_filter_map}
use Rattle.spef_net.proofs.StatementLemmas.{Fine, IsLine, statements_fine}
use Rattle.spef_net.proofs.JoinedLemmas.{all_from, noted_at}

line_take : (n : ℕ) (text : List ℕ) → AllPass in_line text → AllPass in_line (take n text)
line_take zero text h = all_nil _
line_take (suc n) [] h = all_nil _
line_take (suc n) (b ∷ bs) h = all_cons (λ b. in_line b ≡ true) b (take n bs) (all_head (λ b. in_line b ≡ true) b bs h) (line_take n bs (all_tail (λ b. in_line b ≡ true) b bs h))

line_drop : (n : ℕ) (text : List ℕ) → AllPass in_line text → AllPass in_line (drop n text)
line_drop zero text h = h
line_drop (suc n) [] h = h
line_drop (suc n) (b ∷ bs) h = line_drop n bs (all_tail (λ b. in_line b ≡ true) b bs h)

line_word : (text : List ℕ) → AllPass in_line text → AllPass in_line (after_word text)
unfolding after_word
line_word text h =
    line_drop (position_or_len is_blank (drop (position_or_len is_ink text) text)) (drop (position_or_len is_ink text) text) (line_drop (position_or_len is_ink text) text h)

line_words : (n : ℕ) (text : List ℕ) → AllPass in_line text → AllPass in_line (after_words n text)
line_words zero text h = h
line_words (suc n) text h = line_words n (after_word text) (line_word text h)

line_trimmed : (text : List ℕ) → AllPass in_line text → AllPass in_line (trimmed text)
unfolding trimmed
line_trimmed text h =
    let rest = drop (position_or_len is_solid text) text in
    line_take (length rest - suffix_len is_space rest) rest (line_drop (position_or_len is_solid text) text h)

no_space : (b : Bool) → not (not b) ≡ false → b ≡ false
no_space true e = absurd (cc)
no_space false e = refl

record HasEnds (text : List ℕ) : Type 0 where
  begins : 0 < length text → is_space (get_or text 0 0) ≡ false
  ends : 0 < length text → is_space (get_or text (length text - 1) 0) ≡ false

-- the first m bytes after the first n
module _ (text : List ℕ) (n m : ℕ) (l : m ≤ length (drop n text)) where
  cut_begins : (n < length text → is_space (get_or text n 0) ≡ false) → 0 < length (take m (drop n text)) → is_space (get_or (take m (drop n text)) 0 0) ≡ false
  cut_begins h some =
      let size : length (take m (drop n text)) ≡ m = length-take-le m (drop n text) l in
      let at : get_or (take m (drop n text)) 0 0 ≡ get_or text n 0 =
      get_or-take m (drop n text) 0 0 (omega (arith, size, some)) ∙ get_or-drop n text 0 0 ∙ ap (λ k. get_or text k 0) (let x : n + 0 ≡ n = omega arith in x) in
      ap is_space at ∙ h (omega (arith, size, some, l, length-drop n text))

  cut_ends : (0 < m → is_space (get_or (drop n text) (m - 1) 0) ≡ false) → 0 < length (take m (drop n text)) → is_space (get_or (take m (drop n text)) (length (take m (drop n text)) - 1) 0) ≡ false
  cut_ends h some =
      let size : length (take m (drop n text)) ≡ m = length-take-le m (drop n text) l in
      let low : 0 < m = omega (arith, size, some) in
      ap (λ k. is_space (get_or (take m (drop n text)) (k - 1) 0)) size ∙ ap is_space (get_or-take m (drop n text) (m - 1) 0 (omega (arith, low))) ∙ h low

last_stops : (text : List ℕ) → 0 < length text - suffix_len is_space text → is_space (get_or text (length text - suffix_len is_space text - 1) 0) ≡ false
last_stops text some =
    let s = suffix_len is_space text in
    let low : s < length text = omega (arith, some) in
    let size : length (reverse text) ≡ length text = length-reverse text in
    let stops : is_space (get_or (reverse text) s 0) ≡ false = prefix_len_stops is_space (reverse text) 0 (omega (arith, size, low)) in
    ap is_space (sym (get_or-reverse text s 0 low ∙ ap (λ k. get_or text k 0) (let x : length text - 1 - s ≡ length text - s - 1 = omega arith in x))) ∙ stops

trimmed_ends : (text : List ℕ) → HasEnds (trimmed text)
unfolding trimmed
trimmed_ends text =
    let n = position_or_len is_solid text in
    let rest = drop n text in
    let m = length rest - suffix_len is_space rest in
    let l : m ≤ length rest = omega arith in
    record {
      begins = cut_begins text n m l (λ low. no_space (is_space (get_or text n 0)) (prefix_len_stops (λ b. not (is_solid b)) text 0 low));
      ends = cut_ends text n m l (λ low. last_stops rest low);
    }

-- the note of a line
note_is : (n : ℕ) (line : List ℕ) → AllPass in_line line → IsNote (note_after n line)
note_is n line h =
    let e = trimmed_ends (after_words n line) in
    record { one_line = line_trimmed (after_words n line) (line_words n line h); begins = e.begins; ends = e.ends }

no_note : IsNote []
no_note = record { one_line = all_nil _; begins = λ l. absurd (omega arith); ends = λ l. absurd (omega arith) }

abbrev any_node : NodeName → Type 0
any_node node = Unit {0}

joined_note : (file : File) (line : Stated) (row : NodeName × List ℕ) → Fine any_node IsNote file line → joined_in line ≡ Some row → IsNote row.1
joined_note file (Err kind) row h e = absurd (cc)
joined_note file (Ok (Opens part)) row h e = absurd (cc)
joined_note file (Ok Nothing) row h e = absurd (cc)
joined_note file (Ok (Connects kind way node note)) row h e = subst IsNote (ap (λ (r : NodeName × List ℕ). r.1) (same_Some _ _ e)) h.fine.2
joined_note file (Ok (Star node note)) row h e = absurd (cc)
joined_note file (Ok (Ground node value)) row h e = absurd (cc)
joined_note file (Ok (Coupling a b value)) row h e = absurd (cc)
joined_note file (Ok (Resistor a b value)) row h e = absurd (cc)

starred_note : (file : File) (line : Stated) (row : NodeName × List ℕ) → Fine any_node IsNote file line → starred_in line ≡ Some row → IsNote row.1
starred_note file (Err kind) row h e = absurd (cc)
starred_note file (Ok (Opens part)) row h e = absurd (cc)
starred_note file (Ok Nothing) row h e = absurd (cc)
starred_note file (Ok (Connects kind way node note)) row h e = absurd (cc)
starred_note file (Ok (Star node note)) row h e = subst IsNote (ap (λ (r : NodeName × List ℕ). r.1) (same_Some _ _ e)) h.fine.1
starred_note file (Ok (Ground node value)) row h e = absurd (cc)
starred_note file (Ok (Coupling a b value)) row h e = absurd (cc)
starred_note file (Ok (Resistor a b value)) row h e = absurd (cc)

value_step : (t : Bool) (here : List ℕ) (later : Option (List ℕ)) (note : List ℕ) → IsNote here → (later ≡ Some note → IsNote note) → cond t (Some here) later ≡ Some note → IsNote note
value_step true here later note h k e = subst IsNote (same_Some _ _ e) h
value_step false here later note h k e = k e

value_note : (rows : List (NodeName × List ℕ)) (node : NodeName) (note : List ℕ) → All (λ row. IsNote row.1) rows → node_value rows node ≡ Some note → IsNote note
value_note [] node note h e = absurd (cc)
value_note (row ∷ rows) node note h e =
    value_step (same_node node row.0) row.1 (node_value rows node) note (h 0 row (omega arith)) (value_note rows node note (λ k d l. h (suc k) d (omega arith))) e

from_note : (j s : Option (List ℕ)) → ((note : List ℕ) → j ≡ Some note → IsNote note) → ((note : List ℕ) → s ≡ Some note → IsNote note) → IsNote (text_of (note_from j s))
from_note None None f g = no_note
from_note None (Some note) f g = g note refl
from_note (Some note) s f g = f note refl

-- the notes of a builder
pub notes_are : (net : List ℕ) (file : File) (ls : List (List ℕ)) (builder : PartialNet) → All (AllPass in_line) ls
    → IsPartialNet (connected_of (statements file ls)) net (statements file ls) builder → All (λ node. IsNote node.note) (noted_all builder.nodes builder.notes)
notes_are net file ls builder inside s =
    let here : (line : List ℕ) → AllPass in_line line → IsLine any_node IsNote file line (words line) = λ line h. record {
      names = λ k d l. record { name = λ node e. tt };
      notes = record { conn = λ tag node direction rest name way e f g i. note_is 3 line h; star = λ tag node rest name e f g. note_is 2 line h };
    } in
    let fine = (statements_fine any_node IsNote file ls (λ k d l. here (get_or ls k d) (inside k d l))).lines in
    let js = all_filter_map (λ (row : NodeName × List ℕ). IsNote row.1) (Fine any_node IsNote file) joined_in (statements file ls) (joined_note file) fine in
    let ss = all_filter_map (λ (row : NodeName × List ℕ). IsNote row.1) (Fine any_node IsNote file) starred_in (statements file ls) (starred_note file) fine in
    all_from (λ (node : ParNode). IsNote node.note) (noted_all builder.nodes builder.notes) (λ i node at.
    let n = noted_at builder.nodes builder.notes i node at in
    let h = from_note (node_value (joined_of (statements file ls)) n.name) (node_value (starred_of (statements file ls)) n.name) (λ note e. value_note (joined_of (statements file ls)) n.name note js e) (λ note e. value_note (starred_of (statements file ls)) n.name note ss e) in
    subst IsNote (sym (ap (λ (m : ParNode). m.note) n.is ∙ ap text_of (s.noted.here i n.name n.at))) h)
