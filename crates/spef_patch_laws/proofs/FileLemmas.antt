-- A file of which nets are replaced.
use Rattle.std.proofs.Common.{◌≡◌, ℕ, zero, suc, ◌+◌, ◌<◌, ◌≤◌, false, ◌&&◌, not, List, [], ◌∷◌, ◌++◌, length, take, drop, get_or, map, refl, sym, ap, ◌∙◌, arith, subst, append_assoc, None, is_some, pos}
use Rattle.std.proofs.lemmas.List.{append-nil, map-append}
use Rattle.std.specs.Str.Lines.{lines}
use Rattle.vg_scan.specs.Lines.{Line, words, lines_of}
use Rattle.vg_scan.specs.Faults.{IsClear}
use Rattle.spef_file.specs.Nets.{end_at}
use Rattle.spef_file.specs.HeaderLines.{spoken, in_header}
use Rattle.spef_file.specs.Regions.{is_net_head}
use Rattle.spef_file.specs.Statements.{gathered, net_in, nets_of}
use Rattle.spef_file.specs.Faults.{fault_of, fault_at}
use Rattle.spef_file.specs.Files.{File, file_lines, said_by}
use Rattle.name_tables.specs.Distinct.{AreNew}
use Rattle.spef_patch_laws.specs.Runs.{IsRun, SaysSame, IsAlike, names_of}
use Rattle.spef_patch_laws.specs.NetTexts.{NetText, text_at, texts_in, text_names, Splice, old_lines, spliced_lines, AreSplices, Place, stays, places, all_places, new_texts, old_texts}
use Rattle.spef_patch_laws.specs.FileLaws.{lines_in, FilesAreSpliced}
use Rattle.spef_patch_laws.proofs.StepLemmas.{over_is}
use Rattle.spef_patch_laws.proofs.FaultLemmas.{has_none, none}
use Rattle.spef_patch_laws.proofs.PassLemmas.{run_both, run_parts}
use Rattle.spef_patch_laws.proofs.KeptLemmas.{new_after, ends_alike}
use Rattle.spef_patch_laws.proofs.TextLemmas.{texts_are, texts_both, names_in, texts_ends}
use Rattle.spef_patch_laws.proofs.SpliceLemmas.{spliced, old_ends, new_ends, flat_both, flat_stays, map_stays}

-- ---- runs and lines without a fault

pub run_of : (before lines : List Line) → ((i : ℕ) → i < length lines → fault_of (before ++ take i lines) (get_or lines i []) (drop (i + 1) lines) ≡ None) → IsRun before lines []
run_of before [] h = tt
run_of before (line ∷ lines) h = (
  ap (fault_of before line) (append-nil lines) ∙ ap (λ front. fault_of front line lines) (sym (append-nil before)) ∙ h 0 (omega arith),
  run_of (before ++ line ∷ []) lines
      (λ i l. ap (λ front. fault_of front (get_or lines i []) (drop (i + 1) lines)) (append_assoc before (line ∷ []) (take i lines))
      ∙ ap (λ n. fault_of (before ++ line ∷ take i lines) (get_or lines i []) (drop n (line ∷ lines))) (let e : suc (i + 1) ≡ suc i + 1 = omega arith in e)
      ∙ h (suc i) (omega arith)),
)

clear_of : (before lines : List Line) → IsRun before lines [] → (i : ℕ) → i < length lines → fault_of (before ++ take i lines) (get_or lines i []) (drop (i + 1) lines) ≡ None
clear_of before [] run i l = absurd (omega arith)
clear_of before (line ∷ lines) run zero l =
    ap (λ front. fault_of front line lines) (append-nil before) ∙ ap (fault_of before line) (sym (append-nil lines)) ∙ run.0
clear_of before (line ∷ lines) run (suc i) l =
    ap (λ n. fault_of (before ++ line ∷ take i lines) (get_or lines i []) (drop n (line ∷ lines))) (let e : suc i + 1 ≡ suc (i + 1) = omega arith in e)
    ∙ ap (λ front. fault_of front (get_or lines i []) (drop (i + 1) lines)) (sym (append_assoc before (line ∷ []) (take i lines)))
    ∙ clear_of (before ++ line ∷ []) lines run.1 i (omega arith)

-- lines before others that begin a net, or before none
run_ends : (before lines later other : List Line) → end_at other ≡ end_at later → IsRun before lines later → IsRun before lines other
run_ends before [] later other e run = tt
run_ends before (line ∷ lines) later other e run =
    let h = has_none before line (lines ++ later) run.0 in (
      none before line (lines ++ other) (record {
        header = h.header;
        unit = h.unit;
        twice = h.twice;
        unmapped = h.unmapped;
        unended = ap (λ o. is_net_head before line && not (is_some o)) (ends_alike lines later other e) ∙ h.unended;
        stray = h.stray;
        taken = h.taken;
        foreign = h.foreign;
      }),
      run_ends (before ++ line ∷ []) lines later other e run.1,
    )

-- ---- all nets of a text

pub texts_all : (all : List (List ℕ)) → map (text_at all) (nets_of (map words all)) ≡ texts_in [] all []
unfolding nets_of
texts_all all = sym (texts_are [] all)

nets_gathered : (all : List Line) → nets_of all ≡ gathered net_in [] all
unfolding nets_of
nets_gathered all = refl

pub lines_are : (text : List ℕ) (front more : List (List ℕ)) → lines_in text ≡ front ++ more → file_lines text ≡ map words front ++ map words more
unfolding lines_of
lines_are text front more e = ap (map words) e ∙ map-append words front more

pub file_is : (text : List ℕ) → file_lines text ≡ map words (lines_in text)
unfolding lines_of
file_is text = refl

-- a file that says the same but for its nets
same_file : (old new : List Line) (file : File) → file ≡ said_by old → SaysSame old new → record file { nets = nets_of new } ≡ said_by new
same_file old new file e s = λ i. record {
  chars = (ap (λ (f : File). f.chars) e ∙ sym s.chars) i;
  c_places = (ap (λ (f : File). f.c_places) e ∙ ap (λ n. pos n) (sym s.c_places)) i;
  r_places = (ap (λ (f : File). f.r_places) e ∙ ap (λ n. pos n) (sym s.r_places)) i;
  names = (ap (λ (f : File). f.names) e ∙ sym s.rows) i;
  nets = nets_of new;
}

-- before the first splice the header is over
front_over : (front : List Line) (splices : List Splice) → 0 < length splices → AreSplices front splices → in_header front ≡ false
front_over front [] some are = absurd (omega arith)
front_over front (s ∷ splices) some are = are.0.may.over

pub files_are_spliced : FilesAreSpliced
files_are_spliced text new file front splices is has names =
    let f = map words front in
    let ol = map words (old_lines splices) in
    let nl = map words (spliced_lines splices) in
    let old_is : file_lines text ≡ f ++ ol = lines_are text front (old_lines splices) has.old_are in
    let new_is : file_lines new ≡ f ++ nl = lines_are new front (spliced_lines splices) has.new_are in
    let over = front_over f splices has.some has.splices_are in
    let alike : IsAlike f f = record { says = record { old_over = over; over = over; chars = refl; c_places = refl; r_places = refl; rows = refl }; place = refl } in
    let run : IsRun [] (f ++ ol) [] = run_of [] (f ++ ol) (subst (λ ls. IsClear (fault_at ls) (length ls)) old_is is.clear) in
    let parts = run_parts [] f ol [] run in
    let before : IsRun [] f ol = subst (IsRun [] f) (append-nil ol) parts.0 in
    let none_old : end_at ol ≡ None = old_ends f splices has.splices_are in
    let none_new : end_at nl ≡ None = new_ends f splices has.splices_are in
    let first = texts_in [] front (old_lines splices) in
    let rest = new_texts (places f splices) in
    let all_new : new_texts (all_places front splices) ≡ first ++ rest = flat_both (map stays first) (places f splices) ∙ ap (λ ts. ts ++ rest) (flat_stays first) in
    let named : text_names (new_texts (all_places front splices)) ≡ text_names first ++ text_names rest =
    ap text_names all_new ∙ map-append (λ (text : NetText). text.name) first rest in
    let first_names : text_names first ≡ names_of (nets_of f) = names_in [] front (old_lines splices) ∙ ap names_of (sym (nets_gathered f)) in
    let free : AreNew (names_of (nets_of f)) (text_names rest) =
    subst (λ ns. AreNew ns (text_names rest)) first_names (new_after [] (text_names first) (text_names rest) (subst (AreNew []) named names)) in
    let s = spliced f f splices alike has.splices_are parts.1 free in
    let new_run : IsRun [] (f ++ nl) [] = run_both [] f nl [] (subst (IsRun [] f) (sym (append-nil nl)) (run_ends [] f ol nl (none_new ∙ sym none_old) before)) s.run in
    record {
      nets = nets_of (file_lines new);
      said = record {
        clear = subst (λ ls. IsClear (fault_at ls) (length ls)) (sym new_is) (clear_of [] (f ++ nl) new_run);
        headed = subst (λ ls. 14 ≤ length (spoken ls)) (sym new_is) (over_is (f ++ nl) s.says.over);
        says = same_file (file_lines text) (file_lines new) file is.says (subst (SaysSame (file_lines text)) (sym new_is) (subst (λ ls. SaysSame ls (f ++ nl)) (sym old_is) s.says));
      };
      were =
          ap (λ (g : File). map (text_at (lines_in text)) g.nets) is.says
          ∙ ap (λ ls. map (text_at (lines_in text)) (nets_of ls)) (file_is text)
          ∙ texts_all (lines_in text)
          ∙ ap (λ ls. texts_in [] ls []) has.old_are
          ∙ texts_both [] front (old_lines splices) []
          ∙ ap (λ t. texts_in [] front t ++ texts_in f (old_lines splices) []) (append-nil (old_lines splices))
          ∙ ap (λ ts. first ++ ts) s.old_texts
          ∙ ap (λ ts. ts ++ old_texts (places f splices)) (sym (map_stays first))
          ∙ sym (map-append (λ (p : Place). p.old) (map stays first) (places f splices));
      are =
          ap (λ ls. map (text_at (lines_in new)) (nets_of ls)) (file_is new)
          ∙ texts_all (lines_in new)
          ∙ ap (λ ls. texts_in [] ls []) has.new_are
          ∙ texts_both [] front (spliced_lines splices) []
          ∙ ap (λ t. texts_in [] front t ++ texts_in f (spliced_lines splices) []) (append-nil (spliced_lines splices))
          ∙ ap (λ ts. ts ++ texts_in f (spliced_lines splices) []) (texts_ends [] front (old_lines splices) (spliced_lines splices) before none_old none_new)
          ∙ ap (λ ts. first ++ ts) s.texts
          ∙ sym all_new;
    }
