-- The lines of a certificate, one node after another.
use Rattle.std.proofs.Common.{◌≡◌, ℕ, suc, ◌+◌, ◌<◌, ◌≤◌, Bool, true, false, List, [], ◌∷◌, ◌++◌, map, length, get_or, refl, ap, ◌∙◌, arith, append_assoc, ℤ, Option, Some, None, is_some}
use Rattle.std.specs.Prelude.{flat_map, ⊤, codes, IfSome}
use Rattle.std.specs.List.{All, range_with_len, count_by}
use Rattle.std.proofs.lemmas.List.Elements.{All-head, All-tail}
use Rattle.std.proofs.lemmas.List.Sums.{count_by-le-length}
use Rattle.elmore.specs.declared.pair.Pair.{Pair}
use Rattle.elmore.specs.declared.problem.Problem.{Problem}
use Rattle.vg_scan.specs.declared.name.NetNames.{NetNames}
use Rattle.vg_cert.specs.declared.certificate.Certificate.{Certificate}
use Rattle.vg_cert.specs.Denoted.{Lists, both}
use Rattle.vg_cert.specs.Fits.{IsTime, IsEntry, IsList}
use Rattle.vg_cert.specs.Lines.{Line}
use Rattle.vg_cert.specs.Names.{IsWord, IsNodeWord}
use Rattle.vg_cert.specs.Written.{net_line, slack_line, count_line, cell_lines, pair_line, node_line, node_lines, lines_written}
use Rattle.vg_cert.proofs.TextLemmas.{Each, each_append, AreWords}
use Rattle.vg_cert.proofs.TextWordLemmas.{decimal_word, signed_word, node_at_word}
use Rattle.vg_cert.proofs.LineClearLemmas.{at_words}

-- the lines of the cells from the node v on, and what follows them
abbrev pub cells_onto : NetNames → ℕ → List (Option ℕ) → List Line → List Line
cells_onto names v [] rest = rest
cells_onto names v (None ∷ cells) rest = cells_onto names (suc v) cells rest
cells_onto names v (Some b ∷ cells) rest = at_words names v b ∷ cells_onto names (suc v) cells rest

-- the sections from the node v on, and what follows them
abbrev pub lists_onto : NetNames → ℕ → List Bool → List Lists → List Line → List Line
lists_onto names v [] xs rest = rest
lists_onto names v (b ∷ live) [] rest = rest
lists_onto names v (false ∷ live) (x ∷ xs) rest = lists_onto names (suc v) live xs rest
lists_onto names v (true ∷ live) (x ∷ xs) rest = node_line names v x ∷ (map pair_line x.0 ++ (map pair_line x.1 ++ lists_onto names (suc v) live xs rest))

abbrev pub end_line : Line
end_line = codes "end" ∷ []

abbrev pub lines_onto : NetNames → Option ℤ → List (Option ℕ) → List Bool → List Lists → List Line → List Line
lines_onto names slack cells live xs rest =
    (codes "vgcert" ∷ codes "1" ∷ []) ∷ net_line names ∷ slack_line slack ∷ count_line cells ∷ cells_onto names 0 cells (lists_onto names 0 live xs (end_line ∷ rest))

-- the same lines as they are defined

cells_step : (names : NetNames) (v : ℕ) (cell : Option ℕ) (cells : List (Option ℕ)) (rest : List Line) → cell_lines names v cell ++ cells_onto names (suc v) cells rest ≡ cells_onto names v (cell ∷ cells) rest
cells_step names v None cells rest = refl
cells_step names v (Some b) cells rest = refl

cells_are : (g : ℕ → List Line) (names : NetNames) (v : ℕ) (cells : List (Option ℕ)) (rest : List Line) → ((k : ℕ) → k < length cells → g (v + k) ≡ cell_lines names (v + k) (get_or cells k None))
    → flat_map g (range_with_len v (length cells)) ++ rest ≡ cells_onto names v cells rest
cells_are g names v [] rest h = refl
cells_are g names v (c ∷ cs) rest h =
    let here : g v ≡ cell_lines names v c = ap g (let e : v ≡ v + 0 = omega arith in e) ∙ h 0 (omega arith) ∙ ap (λ w. cell_lines names w c) (let e : v + 0 ≡ v = omega arith in e) in
    let later : (k : ℕ) → k < length cs → g (suc v + k) ≡ cell_lines names (suc v + k) (get_or cs k None) = λ k l.
    ap g (let e : suc v + k ≡ v + suc k = omega arith in e) ∙ h (suc k) (omega (arith, l)) ∙ ap (λ w. cell_lines names w (get_or cs k None)) (let e : v + suc k ≡ suc v + k = omega arith in e) in
    append_assoc (g v) (flat_map g (range_with_len (v + 1) (length cs))) rest
    ∙ ap (λ x. x ++ (flat_map g (range_with_len (v + 1) (length cs)) ++ rest)) here
    ∙ ap (λ w. cell_lines names v c ++ (flat_map g (range_with_len w (length cs)) ++ rest)) (let e : v + 1 ≡ suc v = omega arith in e)
    ∙ ap (λ x. cell_lines names v c ++ x) (cells_are g names (suc v) cs rest later)
    ∙ cells_step names v c cs rest

lists_step : (names : NetNames) (v : ℕ) (b : Bool) (live : List Bool) (x : Lists) (xs : List Lists) (rest : List Line)
    → node_lines names v b x ++ lists_onto names (suc v) live xs rest ≡ lists_onto names v (b ∷ live) (x ∷ xs) rest
lists_step names v false live x xs rest = refl
lists_step names v true live x xs rest = ap (λ r. node_line names v x ∷ r) (append_assoc (map pair_line x.0) (map pair_line x.1) (lists_onto names (suc v) live xs rest))

lists_are : (g : ℕ → List Line) (names : NetNames) (v : ℕ) (live : List Bool) (xs : List Lists) (rest : List Line) → length xs ≡ length live
    → ((k : ℕ) → k < length live → g (v + k) ≡ node_lines names (v + k) (get_or live k false) (get_or xs k ([], []))) → flat_map g (range_with_len v (length live)) ++ rest ≡ lists_onto names v live xs rest
lists_are g names v [] xs rest e h = refl
lists_are g names v (b ∷ live) [] rest e h = absurd (omega (arith, e))
lists_are g names v (b ∷ live) (x ∷ xs) rest e h =
    let here : g v ≡ node_lines names v b x = ap g (let e : v ≡ v + 0 = omega arith in e) ∙ h 0 (omega arith) ∙ ap (λ w. node_lines names w b x) (let e : v + 0 ≡ v = omega arith in e) in
    let later : (k : ℕ) → k < length live → g (suc v + k) ≡ node_lines names (suc v + k) (get_or live k false) (get_or xs k ([], [])) = λ k l.
    ap g (let e : suc v + k ≡ v + suc k = omega arith in e) ∙ h (suc k) (omega (arith, l)) ∙ ap (λ w. node_lines names w (get_or live k false) (get_or xs k ([], []))) (let e : v + suc k ≡ suc v + k = omega arith in e) in
    append_assoc (g v) (flat_map g (range_with_len (v + 1) (length live))) rest
    ∙ ap (λ y. y ++ (flat_map g (range_with_len (v + 1) (length live)) ++ rest)) here
    ∙ ap (λ w. node_lines names v b x ++ (flat_map g (range_with_len w (length live)) ++ rest)) (let e : v + 1 ≡ suc v = omega arith in e)
    ∙ ap (λ y. node_lines names v b x ++ y) (lists_are g names (suc v) live xs rest (omega (arith, e)) later)
    ∙ lists_step names v b live x xs rest

from_none : (k : ℕ) → 0 + k ≡ k
from_none k = omega arith

pub lines_are : (p : Problem) (names : NetNames) (cert : Certificate) (rest : List Line) → length (map both cert.lists.items) ≡ length p.live
    → lines_written p names cert ++ rest ≡ lines_onto names cert.slack cert.placement.cells p.live (map both cert.lists.items) rest
unfolding lines_written
lines_are p names cert rest e =
    let cells = cert.placement.cells in
    let xs = map both cert.lists.items in
    let f : ℕ → List Line = λ v. cell_lines names v (get_or cells v None) in
    let g : ℕ → List Line = λ v. node_lines names v (get_or p.live v false) (get_or xs v ([], [])) in
    let lists : (flat_map g (range_with_len 0 (length p.live)) ++ end_line ∷ []) ++ rest ≡ lists_onto names 0 p.live xs (end_line ∷ rest)
    = append_assoc (flat_map g (range_with_len 0 (length p.live))) (end_line ∷ []) rest ∙ lists_are g names 0 p.live xs (end_line ∷ rest) e (λ k l. ap (λ j. node_lines names (0 + k) (get_or p.live j false) (get_or xs j ([], []))) (from_none k)) in
    let all : (flat_map f (range_with_len 0 (length cells)) ++ (flat_map g (range_with_len 0 (length p.live)) ++ end_line ∷ [])) ++ rest ≡ cells_onto names 0 cells (lists_onto names 0 p.live xs (end_line ∷ rest))
    = append_assoc (flat_map f (range_with_len 0 (length cells))) (flat_map g (range_with_len 0 (length p.live)) ++ end_line ∷ []) rest
    ∙ ap (λ r. flat_map f (range_with_len 0 (length cells)) ++ r) lists ∙ cells_are f names 0 cells (lists_onto names 0 p.live xs (end_line ∷ rest)) (λ k l. ap (λ j. cell_lines names (0 + k) (get_or cells j None)) (from_none k)) in
    ap (λ r. (codes "vgcert" ∷ codes "1" ∷ []) ∷ net_line names ∷ slack_line cert.slack ∷ count_line cells ∷ r) all

-- what is written of the lists
pub record IsWritten (live : Bool) (x : Lists) : Type 0 where
  pub evens : IsList x.0
  pub odds : IsList x.1
  pub dead : live ≡ false → x ≡ ([], [])

abbrev pub AreWritten : List Bool → List Lists → Type 0
AreWritten [] [] = ⊤
AreWritten [] (x ∷ xs) = ⊥
AreWritten (b ∷ live) [] = ⊥
AreWritten (b ∷ live) (x ∷ xs) = IsWritten b x × AreWritten live xs

pub all_written : (live : List Bool) (xs : List Lists) → length xs ≡ length live → ((v : ℕ) → v < length live → IsWritten (get_or live v false) (get_or xs v ([], []))) → AreWritten live xs
all_written [] [] e h = tt
all_written [] (x ∷ xs) e h = absurd (omega (arith, e))
all_written (b ∷ live) [] e h = absurd (omega (arith, e))
all_written (b ∷ live) (x ∷ xs) e h = (h 0 (omega arith), all_written live xs (omega (arith, e)) (λ v l. h (suc v) (omega (arith, l))))

-- all lines have words alone

pairs_words : (xs : List Pair) → All IsEntry xs → Each AreWords (map pair_line xs)
pairs_words [] h = tt
pairs_words (x ∷ xs) h =
    let e = All-head IsEntry x xs h in
    ((signed_word x.q e.time, (decimal_word x.c (omega (arith, e.load)), tt)), pairs_words xs (All-tail IsEntry x xs h))

net_word : IsWord (codes "net")
net_word = record { some = refl; solid = refl }

at_word : IsWord (codes "at")
at_word = record { some = refl; solid = refl }

node_first : IsWord (codes "node")
node_first = record { some = refl; solid = refl }

end_words : AreWords end_line
end_words = (record { some = refl; solid = refl }, tt)

heading_words : AreWords (codes "vgcert" ∷ codes "1" ∷ [])
heading_words = (record { some = refl; solid = refl }, (record { some = refl; solid = refl }, tt))

slack_words : (slack : Option ℤ) → IfSome slack IsTime → AreWords (slack_line slack)
slack_words None t = (record { some = refl; solid = refl }, (record { some = refl; solid = refl }, tt))
slack_words (Some z) t = (record { some = refl; solid = refl }, (signed_word z t, tt))

count_words : (cells : List (Option ℕ)) → length cells ≤ 65536 → AreWords (count_line cells)
count_words cells l = (record { some = refl; solid = refl }, (decimal_word (count_by is_some cells) (omega (arith, l, count_by-le-length is_some cells)), tt))

module _ (names : NetNames) (nodes : All IsNodeWord names.nodes) (cell_names : All IsWord names.cells) where
  cells_words : (v : ℕ) (cells : List (Option ℕ)) (rest : List Line) → v + length cells ≤ length names.nodes → ((k b : ℕ) → get_or cells k None ≡ Some b → b < length names.cells) → Each AreWords rest
      → Each AreWords (cells_onto names v cells rest)
  cells_words v [] rest l h r = r
  cells_words v (None ∷ cells) rest l h r = cells_words (suc v) cells rest (omega (arith, l)) (λ k b e. h (suc k) b e) r
  cells_words v (Some b ∷ cells) rest l h r = (
    (at_word, (node_at_word names.nodes v nodes (omega (arith, l)), (cell_names b [] (h 0 b refl), tt))),
    cells_words (suc v) cells rest (omega (arith, l)) (λ k b e. h (suc k) b e) r,
  )

  lists_words : (v : ℕ) (live : List Bool) (xs : List Lists) (rest : List Line) → v + length live ≤ length names.nodes → AreWritten live xs → Each AreWords rest → Each AreWords (lists_onto names v live xs rest)
  lists_words v [] xs rest l h r = r
  lists_words v (b ∷ live) [] rest l h r = r
  lists_words v (false ∷ live) (x ∷ xs) rest l h r = lists_words (suc v) live xs rest (omega (arith, l)) h.1 r
  lists_words v (true ∷ live) (x ∷ xs) rest l h r = (
    (
      node_first,
      (
        node_at_word names.nodes v nodes (omega (arith, l)),
        (decimal_word (length x.0) (omega (arith, h.0.evens.few)), (decimal_word (length x.1) (omega (arith, h.0.odds.few)), tt)),
      ),
    ),
    each_append AreWords (map pair_line x.0) (map pair_line x.1 ++ lists_onto names (suc v) live xs rest) (pairs_words x.0 h.0.evens.entries)
        (each_append AreWords (map pair_line x.1) (lists_onto names (suc v) live xs rest) (pairs_words x.1 h.0.odds.entries)
        (lists_words (suc v) live xs rest (omega (arith, l)) h.1 r)),
  )

  pub lines_words : (slack : Option ℤ) (cells : List (Option ℕ)) (live : List Bool) (xs : List Lists) → IsWord names.net → IfSome slack IsTime → length cells ≤ 65536 → length cells ≤ length names.nodes
      → length live ≤ length names.nodes → ((k b : ℕ) → get_or cells k None ≡ Some b → b < length names.cells) → AreWritten live xs → Each AreWords (lines_onto names slack cells live xs [])
  lines_words slack cells live xs net t few l m h w = (
    heading_words,
    (
      (net_word, (net, tt)),
      (
        slack_words slack t,
        (
          count_words cells few,
          cells_words 0 cells (lists_onto names 0 live xs (end_line ∷ [])) (omega (arith, l)) h (lists_words 0 live xs (end_line ∷ []) (omega (arith, m)) w (end_words, tt)),
        ),
      ),
    ),
  )
