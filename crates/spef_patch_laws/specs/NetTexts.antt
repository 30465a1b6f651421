-- The nets of a text, each as its lines, and parts of a file's lines in which nets are replaced.
use Rattle.std.specs.Prelude.{ℕ, ◌<◌, Bool, false, List, [], ◌∷◌, ◌++◌, length, take, drop, map, unwrap_or}
use Rattle.std.specs.List.{All, flat_map}
use Rattle.vg_scan.specs.Lines.{Line, words}
use Rattle.spef_file.specs.Nets.{NetHead, end_at}
use Rattle.spef_file.specs.Statements.{listed, net_in}
use Rattle.spef_patch_laws.specs.Runs.{NetLines, AreNetLines, IsHeadOf, MayBegin}

-- a net of a text: its name, whether it is reduced, and the lines between its head and its end
pub record NetText : Type 0 where
  pub name : List ℕ
  pub reduced : Bool
  pub lines : List (List ℕ)

-- lines up to the end of a net
abbrev pub up_to_end : List (List ℕ) → List (List ℕ)
up_to_end later = take (unwrap_or (end_at (map words later)) 0) later

-- the net of a head, behind which these lines stand
abbrev pub text_before : List (List ℕ) → NetHead → NetText
text_before later head = record { name = head.name; reduced = head.reduced; lines = up_to_end later }

-- the net of a head among all lines
abbrev pub text_at : List (List ℕ) → NetHead → NetText
text_at lines head = text_before (drop head.line lines) head

-- the nets that lines add after some lines and before others
abbrev pub texts_in : List Line → List (List ℕ) → List (List ℕ) → List NetText
texts_in before [] later = []
texts_in before (line ∷ lines) later =
    map (text_before (lines ++ later)) (listed (net_in before (words line)))
    ++ texts_in (before ++ words line ∷ []) lines later

abbrev pub text_names : List NetText → List (List ℕ)
text_names texts = map (λ text. text.name) texts

-- the lines of a net: its head, those between, and its end
pub record LinesOfNet : Type 0 where
  pub head : List ℕ
  pub inner : List (List ℕ)
  pub end : List ℕ

abbrev pub whole : LinesOfNet → List (List ℕ)
whole net = net.head ∷ (net.inner ++ net.end ∷ [])

-- the same, each as its words
abbrev pub as_words : LinesOfNet → NetLines
as_words net = record { head = words net.head; inner = map words net.inner; end = words net.end }

-- a net that is written, by its name
pub record NewNet : Type 0 where
  pub name : List ℕ
  pub lines : LinesOfNet

abbrev pub new_text : NewNet → NetText
new_text net = record { name = net.name; reduced = false; lines = net.lines.inner }

abbrev pub new_lines : List NewNet → List (List ℕ)
new_lines nets = flat_map (λ net. whole net.lines) nets

-- it may stand after these lines
pub record IsNew (before : List Line) (net : NewNet) : Type 0 where
  pub lines : AreNetLines (as_words net.lines)
  pub head : IsHeadOf before (words net.lines.head) net.name

-- a net that others replace, and the lines behind it, which stay
pub record Splice : Type 0 where
  pub old : LinesOfNet
  pub new : List NewNet
  pub kept : List (List ℕ)

abbrev pub old_lines : List Splice → List (List ℕ)
old_lines splices = flat_map (λ s. whole s.old ++ s.kept) splices

abbrev pub spliced_lines : List Splice → List (List ℕ)
spliced_lines splices = flat_map (λ s. new_lines s.new ++ s.kept) splices

-- how many lines there are from each of these nets' heads on
abbrev pub lines_from : List Splice → List ℕ
lines_from [] = []
lines_from (s ∷ splices) = length (old_lines (s ∷ splices)) ∷ lines_from splices

-- the net may begin after these lines, and one or more others may stand there
pub record IsSplice (before : List Line) (s : Splice) : Type 0 where
  pub may : MayBegin before
  pub old : AreNetLines (as_words s.old)
  pub new : All (IsNew before) s.new
  pub some : 0 < length s.new

-- so it is of each, one after another
abbrev pub AreSplices : List Line → List Splice → Type 0
AreSplices before [] = Unit {0}
AreSplices before (s ∷ splices) = IsSplice before s × AreSplices (before ++ map words (whole s.old ++ s.kept)) splices

-- a net of a text, and those that stand in its place
pub record Place : Type 0 where
  pub old : NetText
  pub new : List NetText

abbrev pub stays : NetText → Place
stays text = record { old = text; new = text ∷ [] }

-- the places of the nets that splices have, after these lines
abbrev pub places : List Line → List Splice → List Place
places before [] = []
places before (s ∷ splices) =
    let passed = before ++ map words (whole s.old) in
    map (λ text. record { old = text; new = map new_text s.new })
    (texts_in before (whole s.old) (s.kept ++ old_lines splices))
    ++ (map stays (texts_in passed s.kept (old_lines splices))
    ++ places (before ++ map words (whole s.old ++ s.kept)) splices)

-- and those of all nets, where these lines stand before the first splice
abbrev pub all_places : List (List ℕ) → List Splice → List Place
all_places front splices = map stays (texts_in [] front (old_lines splices)) ++ places (map words front) splices

-- the nets that stand at places
abbrev pub new_texts : List Place → List NetText
new_texts all = flat_map (λ place. place.new) all

-- the nets that stood there
abbrev pub old_texts : List Place → List NetText
old_texts all = map (λ place. place.old) all
