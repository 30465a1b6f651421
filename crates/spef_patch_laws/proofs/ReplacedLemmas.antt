-- A text of which sections are replaced is read again.
use Rattle.std.proofs.Common.{◌≡◌, ℕ, ◌+◌, ◌-◌, true, List, [], ◌∷◌, ◌++◌, length, take, drop, get_or, map, refl, sym, ap, ◌∙◌, arith, subst, append_assoc, length-append, length-drop, All}
use Rattle.std.specs.Prelude.{ℤ, pos, negsuc, ◌≤ℤ◌, unsigned_abs}
use Rattle.std.proofs.lemmas.List.{append-nil, map-append, take_at, length-map}
use Rattle.std.proofs.lemmas.Int.{ints}
use Rattle.std.proofs.lemmas.List.Elements.{All-head, All-tail, All-append, All-contains, Contains-get_or}
use Rattle.std.specs.List.{Contains}
use Rattle.std.specs.Str.Lines.{lines}
use Rattle.name_tables.specs.Distinct.{AreNew}
use Rattle.vg_scan.specs.Comments.{without_comments}
use Rattle.vg_scan.specs.declared.comments.Comments.TheVariants.{Spef}
use Rattle.vg_scan.specs.Lines.{Line, words, lines_of}
use Rattle.spef_file.specs.declared.header.Header.{Header}
use Rattle.spef_file.specs.declared.spef_index.SpefIndex.{SpefIndex}
use Rattle.spef_file.specs.Files.{File, file_lines}
use Rattle.spef_file.specs.Indexes.{IsIndexOf}
use Rattle.spef_file.specs.IndexFiles.{file_of}
use Rattle.spef_file.specs.Nets.{NetHead}
use Rattle.spef_file.specs.Statements.{nets_of}
use Rattle.spef_file.specs.Tables.{NetRow, is_section, names_of as row_names}
use Rattle.spef_file.specs.Views.{heads_in}
use Rattle.spef_net.specs.declared.net.ParNet.{ParNet}
use Rattle.spef_write.specs.SectionLaws.{IsMeantBy}
use Rattle.spef_patch_laws.specs.Runs.{head_in, names_of}
use Rattle.spef_patch_laws.specs.NetTexts.{NetText, text_at, texts_in, text_names, whole, new_text, Splice, old_lines, lines_from, AreSplices, stays as place_of, places, all_places, new_texts}
use Rattle.spef_patch_laws.specs.FileLaws.{IsFileWith, lines_in}
use Rattle.spef_patch_laws.specs.SectionLaws.{HasChanges}
use Rattle.spef_patch_laws.specs.Sections.{Change, written_text}
use Rattle.spef_patch_laws.specs.Replacements.{Replacement, IsQuietNet, IsReplacement, AreReplacements, change_of, replaced}
use Rattle.spef_patch_laws.specs.ReplacementLaws.{written_nets, written_names, replaced_names, HaveFreeNames, IsReadAgain, HasReplacements, ReplacementsAreRead}
use Rattle.spef_patch_laws.proofs.TextLemmas.{text_of, texts_both, texts_of_net}
use Rattle.spef_patch_laws.proofs.SpliceLemmas.{places_new, flat_both, flat_stays}
use Rattle.spef_patch_laws.proofs.SectionLemmas.{words_are}
use Rattle.spef_patch_laws.proofs.FileLemmas.{texts_all, file_is, files_are_spliced as are_spliced}
use Rattle.spef_patch_laws.proofs.ChangeLemmas.{texts_have_changes as have_changes}
use Rattle.spef_patch_laws.proofs.WrittenLemmas.{all_none}
use Rattle.spef_patch_laws.proofs.ApartLemmas.{In, Apart, in_map, in_contains, contains_in, in_any, new_apart, apart_new}
use Rattle.spef_patch_laws.proofs.ItemLemmas.{Item, kept, swapped, olds, news, puts, gones, all_apart}
use Rattle.spef_patch_laws.proofs.NamedLemmas.{texts_of, names_apart}
use Rattle.spef_patch_laws.proofs.SameNetLemmas.{same_net, gone_net, written_net}
use Rattle.spef_patch_laws.proofs.IndexLemmas.{span_at, row_at, sections_may}

-- ---- the nets of a text with splices

abbrev items_of : List Line → List Splice → List Item
items_of before [] = []
items_of before (s ∷ splices) =
    swapped (text_of before s.old) (map new_text s.new)
    ∷ (map kept (texts_in (before ++ map words (whole s.old)) s.kept (old_lines splices)) ++ items_of (before ++ map words (whole s.old ++ s.kept)) splices)

abbrev all_items : List (List ℕ) → List Splice → List Item
all_items front splices = map kept (texts_in [] front (old_lines splices)) ++ items_of (map words front) splices

old_kept : (texts : List NetText) (items : List Item) → olds (map kept texts ++ items) ≡ texts ++ olds items
old_kept [] items = refl
old_kept (t ∷ texts) items = ap (λ ts. t ∷ ts) (old_kept texts items)

new_kept : (texts : List NetText) (items : List Item) → news (map kept texts ++ items) ≡ texts ++ news items
new_kept [] items = refl
new_kept (t ∷ texts) items = ap (λ ts. t ∷ ts) (new_kept texts items)

put_kept : (texts : List NetText) (items : List Item) → puts (map kept texts ++ items) ≡ puts items
put_kept [] items = refl
put_kept (t ∷ texts) items = put_kept texts items

gone_kept : (texts : List NetText) (items : List Item) → gones (map kept texts ++ items) ≡ gones items
gone_kept [] items = refl
gone_kept (t ∷ texts) items = gone_kept texts items

-- those that stood there
olds_are : (before : List Line) (splices : List Splice) → AreSplices before splices → texts_in before (old_lines splices) [] ≡ olds (items_of before splices)
olds_are before [] are = refl
olds_are before (s ∷ splices) are =
    let ol = old_lines splices in
    let next = before ++ map words (whole s.old ++ s.kept) in
    let here = texts_in (before ++ map words (whole s.old)) s.kept ol in
    let items = items_of next splices in
    texts_both before (whole s.old ++ s.kept) ol []
    ∙ ap (λ t. texts_in before (whole s.old ++ s.kept) t ++ texts_in next ol []) (append-nil ol)
    ∙ ap (λ ts. ts ++ texts_in next ol []) (texts_both before (whole s.old) s.kept ol ∙ ap (λ ts. ts ++ here) (texts_of_net before s.old (s.kept ++ ol) are.0.may are.0.old))
    ∙ ap (λ ts. (text_of before s.old ∷ here) ++ ts) (olds_are next splices are.1)
    ∙ ap (λ ts. text_of before s.old ∷ ts) (sym (old_kept here items))

-- those that stand there then
news_are : (before : List Line) (splices : List Splice) → AreSplices before splices → new_texts (places before splices) ≡ news (items_of before splices)
news_are before [] are = refl
news_are before (s ∷ splices) are =
    let next = before ++ map words (whole s.old ++ s.kept) in
    let here = texts_in (before ++ map words (whole s.old)) s.kept (old_lines splices) in
    places_new before s splices are.0
    ∙ ap (λ ts. map new_text s.new ++ ts) (ap (λ ts. here ++ ts) (news_are next splices are.1) ∙ sym (new_kept here (items_of next splices)))

all_news : (front : List (List ℕ)) (splices : List Splice) → AreSplices (map words front) splices → new_texts (all_places front splices) ≡ news (all_items front splices)
all_news front splices are =
    let first = texts_in [] front (old_lines splices) in
    flat_both (map place_of first) (places (map words front) splices)
    ∙ ap (λ ts. ts ++ new_texts (places (map words front) splices)) (flat_stays first)
    ∙ ap (λ ts. first ++ ts) (news_are (map words front) splices are)
    ∙ sym (new_kept first (items_of (map words front) splices))

-- those that are written
joined : List (List NetText) → List NetText
joined [] = []
joined (ts ∷ rest) = ts ++ joined rest

puts_are : (before : List Line) (splices : List Splice) → puts (items_of before splices) ≡ joined (map (λ (s : Splice). map new_text s.new) splices)
unfolding joined
puts_are before [] = refl
puts_are before (s ∷ splices) =
    let here = texts_in (before ++ map words (whole s.old)) s.kept (old_lines splices) in
    let next = before ++ map words (whole s.old ++ s.kept) in
    ap (λ ts. map new_text s.new ++ ts) (put_kept here (items_of next splices) ∙ puts_are next splices)

joined_written : (header : Header) (rs : List Replacement) → joined (map (λ (c : Change). map (written_text header) c.nets) (map change_of rs)) ≡ map (written_text header) (written_nets rs)
unfolding joined
joined_written header [] = refl
joined_written header (r ∷ rs) =
    ap (λ ts. map (written_text header) r.nets ++ ts) (joined_written header rs) ∙ sym (map-append (written_text header) r.nets (written_nets rs))

names_written : (header : Header) (nets : List ParNet) → text_names (map (written_text header) nets) ≡ map (λ (net : ParNet). net.name) nets
names_written header [] = refl
names_written header (net ∷ nets) = ap (λ ns. net.name ∷ ns) (names_written header nets)

names_at : (ls : List (List ℕ)) (heads : List NetHead) → text_names (map (text_at ls) heads) ≡ names_of heads
names_at ls [] = refl
names_at ls (h ∷ heads) = ap (λ ns. h.name ∷ ns) (names_at ls heads)

pub names_rows : (rows : List NetRow) → names_of (heads_in rows) ≡ row_names rows
names_rows [] = refl
names_rows (r ∷ rows) = ap (λ ns. r.0 ∷ ns) (names_rows rows)

-- those that are replaced
gones_are : (text : List ℕ) (index : SpefIndex) (is : IsIndexOf text index) (before : List Line) (splices : List Splice) (rs : List Replacement)
    → file_lines text ≡ before ++ map words (old_lines splices) → AreSplices before splices → All (IsReplacement index) rs
    → lines_from splices ≡ map (λ (c : Change). length (lines (drop c.from (without_comments Spef text)))) (map change_of rs)
    → text_names (gones (items_of before splices)) ≡ replaced_names rs
gones_are text index is before [] [] split are each e = refl
gones_are text index is before [] (r ∷ rs) split are each e = absurd (cc)
gones_are text index is before (s ∷ splices) [] split are each e = absurd (cc)
gones_are text index is before (s ∷ splices) (r ∷ rs) split are each e =
    let here : IsReplacement index r = All-head (IsReplacement index) r rs each in
    let all = file_lines text in
    let clear = without_comments Spef text in
    let span = span_at text index is r.number r.row here.at in
    let row = row_at text index is r.number r.row here.at in
    let old = old_lines (s ∷ splices) in
    let rest = map words old in
    let count : length old ≡ length (lines (drop r.row.1.from clear)) = ap (λ ns. get_or ns 0 0) e in
    let left : length (lines (drop r.row.1.from clear)) ≡ length all - (r.row.1.line - 1) =
    sym (count_lines (drop r.row.1.from clear)) ∙ ap length span.line ∙ length-drop (r.row.1.line - 1) all in
    let total : length all ≡ length before + length rest = ap length split ∙ length-append before rest in
    let n : r.row.1.line - 1 ≡ length before = omega (arith, count, left, total, row.lines, length-map old words) in
    let front : take (r.row.1.line - 1) all ≡ before = ap (λ m. take m all) n ∙ ap (take (length before)) split ∙ take_at before rest (length before) refl in
    let line : get_or all (r.row.1.line - 1) [] ≡ words s.old.head = ap (λ m. get_or all m []) n ∙ ap (λ ls. get_or ls (length before) []) split ∙ get_behind before (words s.old.head) _ in
    let name : (head_in before (words s.old.head)).name ≡ r.row.0 =
    (λ i. (head_in (sym front i) (sym line i)).name) ∙ ap (λ (h : NetHead). h.name) row.head in
    let next = before ++ map words (whole s.old ++ s.kept) in
    let split_next : all ≡ next ++ map words (old_lines splices) =
    split ∙ ap (λ ls. before ++ ls) (map-append words (whole s.old ++ s.kept) (old_lines splices)) ∙ sym (append_assoc before (map words (whole s.old ++ s.kept)) (map words (old_lines splices))) in
    (λ i. name i ∷ text_names (gone_kept (texts_in (before ++ map words (whole s.old)) s.kept (old_lines splices)) (items_of next splices) i))
    ∙ ap (λ ns. r.row.0 ∷ ns) (gones_are text index is next splices rs split_next are.1 (All-tail (IsReplacement index) r rs each) (ap (drop 1) e))
  where
    get_behind : (front : List Line) (x : Line) (more : List Line) → get_or (front ++ x ∷ more) (length front) [] ≡ x
    get_behind [] x more = refl
    get_behind (y ∷ front) x more = get_behind front x more

    count_lines : (text : List ℕ) → length (lines_of text) ≡ length (lines text)
    count_lines text = ap length (words_are text) ∙ length-map (lines text) words

-- the nets that are written can be
all_nets : (index : SpefIndex) (rs : List Replacement) → All (IsReplacement index) rs → All IsQuietNet (written_nets rs)
all_nets index [] each = all_none IsQuietNet
all_nets index (r ∷ rs) each =
    All-append IsQuietNet r.nets (written_nets rs) (All-head (IsReplacement index) r rs each).nets (all_nets index rs (All-tail (IsReplacement index) r rs each))

meant_by : (index : SpefIndex) → IsMeantBy index.header (file_of index)
meant_by index = record { chars = refl; c_places = not_less index.header.c_places index.header.c_low; r_places = not_less index.header.r_places index.header.r_low }
  where
    not_less : (z : ℤ) → pos 0 ≤ℤ z → z ≡ pos (unsigned_abs z)
    not_less (pos n) l = refl
    not_less (negsuc n) l = absurd (omega (arith, ints, l))

module _ (text : List ℕ) (index : SpefIndex) (rs : List Replacement) (is : IsIndexOf text index) (are : AreReplacements index rs) (free : HaveFreeNames index rs)
    (has : HasChanges text (replaced text index rs) index.header (map change_of rs)) where
  abbrev new : List ℕ
  new = replaced text index rs

  abbrev file : File
  file = file_of index

  abbrev items : List Item
  items = all_items has.front has.splices

  split : file_lines text ≡ map words has.front ++ map words (old_lines has.splices)
  split = file_is text ∙ ap (map words) has.has.old_are ∙ map-append words has.front (old_lines has.splices)

  were : texts_of text file ≡ olds items
  were =
      let first = texts_in [] has.front (old_lines has.splices) in
      let before = map words has.front in
      ap (λ (f : File). map (text_at (lines_in text)) f.nets) is.said.says
      ∙ ap (λ ls. map (text_at (lines_in text)) (nets_of ls)) (file_is text)
      ∙ texts_all (lines_in text)
      ∙ ap (λ ls. texts_in [] ls []) has.has.old_are
      ∙ texts_both [] has.front (old_lines has.splices) []
      ∙ ap (λ t. texts_in [] has.front t ++ texts_in before (old_lines has.splices) []) (append-nil (old_lines has.splices))
      ∙ ap (λ ts. first ++ ts) (olds_are before has.splices has.has.splices_are)
      ∙ sym (old_kept first (items_of before has.splices))

  put_texts : puts items ≡ map (written_text index.header) (written_nets rs)
  put_texts =
      put_kept (texts_in [] has.front (old_lines has.splices)) (items_of (map words has.front) has.splices)
      ∙ puts_are (map words has.front) has.splices ∙ ap joined has.nets ∙ joined_written index.header rs

  put_names : text_names (puts items) ≡ written_names rs
  put_names = ap text_names put_texts ∙ names_written index.header (written_nets rs)

  gone_names : text_names (gones items) ≡ replaced_names rs
  gone_names =
      ap text_names (gone_kept (texts_in [] has.front (old_lines has.splices)) (items_of (map words has.front) has.splices))
      ∙ gones_are text index is (map words has.front) has.splices rs split has.has.splices_are are.each has.heads

  old_names : text_names (olds items) ≡ names_of file.nets
  old_names = ap text_names (sym were) ∙ names_at (lines_in text) file.nets

  apart : Apart (text_names (olds items))
  apart = subst Apart (sym old_names) (names_apart text file is.said)

  only_gone : (name : List ℕ) → In name (text_names (puts items)) → In name (text_names (olds items)) → In name (text_names (gones items))
  only_gone name put old =
      let section : is_section index.sections name ≡ true = in_any name (row_names index.sections) (subst (In name) (old_names ∙ names_rows index.sections) old) in
      subst (In name) (sym gone_names)
      (contains_in name (replaced_names rs)
      (All-contains (λ n. is_section index.sections n ≡ true → Contains (replaced_names rs) n) (written_names rs) name free.free (in_contains name (written_names rs) (subst (In name) put_names put)) section))

  new_names : AreNew [] (text_names (new_texts (all_places has.front has.splices)))
  new_names =
      subst (λ ts. AreNew [] (text_names ts)) (sym (all_news has.front has.splices has.has.splices_are))
      (apart_new [] (text_names (news items)) (all_apart items apart only_gone (subst Apart (sym put_names) (new_apart [] (written_names rs) free.apart).0)) (λ x a b. a))

  spliced : IsFileWith text new file (all_places has.front has.splices)
  spliced = are_spliced text new file has.front has.splices is.said has.has new_names

  now : texts_of new (record file { nets = spliced.nets }) ≡ news items
  now = spliced.are ∙ all_news has.front has.splices has.has.splices_are

  has_replacements : HasReplacements text new index rs
  has_replacements = record {
    nets = spliced.nets;
    said = spliced.said;
    written = λ k d l.
        let net = get_or (written_nets rs) k d in
        let there : In net (written_nets rs) = contains_in net (written_nets rs) (Contains-get_or (written_nets rs) k d l) in
        written_net text new file spliced.nets items is.said spliced.said were now index.header net (meant_by index) (all_nets index rs are.each k d l).writable
        (subst (In (written_text index.header net)) (sym put_texts) (in_map (written_text index.header) net (written_nets rs) there));
    kept = λ name none_gone none_put.
        same_net text new file spliced.nets items is.said spliced.said were now name
        (λ gone. none_gone (in_contains name (replaced_names rs) (subst (In name) gone_names gone)))
        (λ put. none_put (in_contains name (written_names rs) (subst (In name) put_names put)));
    gone = λ name gone none_put.
        gone_net text new file spliced.nets items is.said spliced.said were now name apart
        (subst (In name) (sym gone_names) (contains_in name (replaced_names rs) gone))
        (λ put. none_put (in_contains name (written_names rs) (subst (In name) put_names put)));
  }

-- where nothing is replaced
nothing_replaced : (text : List ℕ) (index : SpefIndex) → IsIndexOf text index → HasReplacements text text index []
nothing_replaced text index is = record {
  nets = (file_of index).nets;
  said = is.said;
  written = all_none (IsReadAgain text);
  kept = λ name none_gone none_put. record { stays = λ net h. h; stood = λ net h. h; missing = λ h. h; was_missing = λ h. h };
  gone = λ name gone none_put. absurd (contains_in name [] gone);
}

pub replacements_read : ReplacementsAreRead
replacements_read text index [] is are free = nothing_replaced text index is
replacements_read text index (r ∷ rs) is are free =
    has_replacements text index (r ∷ rs) is are free (have_changes text index.header (map change_of (r ∷ rs)) (sections_may text index (r ∷ rs) is are (omega arith)))
