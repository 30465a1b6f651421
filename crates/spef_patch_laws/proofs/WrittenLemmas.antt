-- The lines of written sections.
use Rattle.std.proofs.Common.{◌≡◌, ℕ, zero, suc, ◌<◌, true, not, List, [], ◌∷◌, ◌++◌, length, drop, get_or, map, codes, refl, sym, ap, ◌∙◌, arith, subst, append_assoc, All}
use Rattle.std.specs.List.{AllPass}
use Rattle.std.specs.Str.Lines.{lines}
use Rattle.std.proofs.lemmas.List.{append-nil}
use Rattle.std.proofs.lemmas.List.Elements.{All-head, All-tail}
use Rattle.vg_scan.specs.Lines.{Line, words, is_newline}
use Rattle.vg_scan.specs.Names.{canonical}
use Rattle.vg_scan.specs.Printed.{printed}
use Rattle.vg_scan.specs.References.{is_reference}
use Rattle.spef_file.specs.HeaderLines.{chars_of}
use Rattle.spef_file.specs.Nets.{is_end, is_head}
use Rattle.spef_file.specs.Words.{first_word, second_word}
use Rattle.spef_file.specs.declared.header.Header.{Header}
use Rattle.spef_net.specs.declared.net.ParNet.{ParNet}
use Rattle.spef_write.specs.Sections.{head_line, inner_lines, section_text}
use Rattle.spef_write.specs.Texts.{IsLineText}
use Rattle.spef_write.proofs.ShapeLemmas.{sections_are_lines, heads_name_nets}
use Rattle.spef_write.proofs.WordLemmas.{line_again}
use Rattle.spef_patch_laws.specs.Runs.{IsHeadOf}
use Rattle.spef_patch_laws.specs.NetTexts.{NewNet, new_text, new_lines, IsNew}
use Rattle.spef_patch_laws.specs.Sections.{sections_text, written_text, IsWrittenNet}
use Rattle.spef_patch_laws.proofs.FaultLemmas.{written_head}

-- the lines of written nets, the last of which ends with this line
abbrev pub written : Header → List ParNet → List ℕ → List NewNet
written header [] end = []
written header (net ∷ []) end =
    record { name = net.name; lines = record { head = head_line header net; inner = inner_lines header net; end = end } } ∷ []
written header (net ∷ next ∷ nets) end =
    record { name = net.name; lines = record { head = head_line header net; inner = inner_lines header net; end = codes "*END" } } ∷ written header (next ∷ nets) end

pub written-texts : (header : Header) (nets : List ParNet) (end : List ℕ) → map new_text (written header nets end) ≡ map (written_text header) nets
written-texts header [] end = refl
written-texts header (net ∷ []) end = refl
written-texts header (net ∷ next ∷ nets) end = ap (λ ts. written_text header net ∷ ts) (written-texts header (next ∷ nets) end)

pub written-some : (header : Header) (nets : List ParNet) (end : List ℕ) → 0 < length nets → 0 < length (written header nets end)
written-some header [] end l = absurd (omega arith)
written-some header (net ∷ []) end l = omega arith
written-some header (net ∷ next ∷ nets) end l = omega arith

-- ---- they are new nets

pub all_none : {X : Type 0} (P : X → Type 0) → All P []
all_none P k d l = absurd (omega arith)

pub all_more : {X : Type 0} (P : X → Type 0) (x : X) (xs : List X) → P x → All P xs → All P (x ∷ xs)
all_more P x xs p h zero d l = p
all_more P x xs p h (suc k) d l = h k d (omega arith)

is_new_net : (before : List Line) (header : Header) (net : ParNet) (end : List ℕ) → chars_of before ≡ header.chars → IsWrittenNet header net → is_end (words end) ≡ true
    → IsNew before (record { name = net.name; lines = record { head = head_line header net; inner = inner_lines header net; end = end } })
is_new_net before header net end same is ends =
    let h = heads_name_nets header net is.writable in
    let head : IsHeadOf before (words (head_line header net)) net.name = record {
      opens = ap first_word h.says;
      plain = ap (λ ws. is_reference (second_word ws)) h.says ∙ h.plain;
      named = ap (λ ws. canonical (chars_of before) (second_word ws)) h.says ∙ ap (λ chars. canonical chars (printed header.chars net.name)) same ∙ h.named;
    } in
    record { lines = record { head = written_head before (words (head_line header net)) net.name head; inner = is.inner; end = ends }; head = head }

pub written-new : (before : List Line) (header : Header) (nets : List ParNet) (end : List ℕ) → chars_of before ≡ header.chars → All (IsWrittenNet header) nets → is_end (words end) ≡ true
    → All (IsNew before) (written header nets end)
unfolding words
written-new before header [] end same all ends = all_none (IsNew before)
written-new before header (net ∷ []) end same all ends =
    all_more (IsNew before) _ [] (is_new_net before header net end same (All-head (IsWrittenNet header) net [] all) ends) (all_none (IsNew before))
written-new before header (net ∷ next ∷ nets) end same all ends =
    all_more (IsNew before) _ (written header (next ∷ nets) end)
    (is_new_net before header net (codes "*END") same (All-head (IsWrittenNet header) net (next ∷ nets) all) refl)
    (written-new before header (next ∷ nets) end same (All-tail (IsWrittenNet header) net (next ∷ nets) all) ends)

-- ---- their text

end_line : IsLineText (codes "*END")
end_line = record { whole = whole_is; last = refl }
  where
    whole_is : AllPass (λ b. not (is_newline b)) (codes "*END")
    whole_is zero d l = refl
    whole_is (suc zero) d l = refl
    whole_is (suc (suc zero)) d l = refl
    whole_is (suc (suc (suc zero))) d l = refl
    whole_is (suc (suc (suc (suc k)))) d l = absurd (omega arith)

pub written-lines : (header : Header) (nets : List ParNet) (rest end : List ℕ) (more : List (List ℕ)) → 0 < length nets → All (IsWrittenNet header) nets
    → lines (codes "*END" ++ rest) ≡ end ∷ more → lines (sections_text header nets ++ rest) ≡ new_lines (written header nets end) ++ more
written-lines header [] rest end more some all e = absurd (omega arith)
written-lines header (net ∷ []) rest end more some all e =
    let is : IsWrittenNet header net = All-head (IsWrittenNet header) net [] all in
    let front = head_line header net ∷ inner_lines header net in
    sections_are_lines header net rest is.writable
    ∙ ap (λ ls. front ++ ls) e
    ∙ sym (append_assoc front (end ∷ []) more)
    ∙ ap (λ ls. ls ++ more) (sym (append-nil (front ++ end ∷ [])))
written-lines header (net ∷ next ∷ nets) rest end more some all e =
    let is : IsWrittenNet header net = All-head (IsWrittenNet header) net (next ∷ nets) all in
    let front = head_line header net ∷ inner_lines header net in
    let others = sections_text header (next ∷ nets) in
    let new = new_lines (written header (next ∷ nets) end) in
    ap lines (append_assoc (section_text header net) (10 ∷ others) rest)
    ∙ sections_are_lines header net (10 ∷ (others ++ rest)) is.writable
    ∙ ap (λ ls. front ++ ls) (line_again (codes "*END") (others ++ rest) end_line
    ∙ ap (λ ls. codes "*END" ∷ ls) (written-lines header (next ∷ nets) rest end more (omega arith) (All-tail (IsWrittenNet header) net (next ∷ nets) all) e))
    ∙ sym (append_assoc front (codes "*END" ∷ []) (new ++ more))
    ∙ sym (append_assoc (front ++ codes "*END" ∷ []) new more)

-- ---- another first line of the same words

abbrev pub with_head : List ℕ → List NewNet → List NewNet
with_head head [] = []
with_head head (net ∷ nets) = record { name = net.name; lines = record { head = head; inner = net.lines.inner; end = net.lines.end } } ∷ nets

pub with_head-texts : (head : List ℕ) (nets : List NewNet) → map new_text (with_head head nets) ≡ map new_text nets
with_head-texts head [] = refl
with_head-texts head (net ∷ nets) = refl

pub with_head-some : (head : List ℕ) (nets : List NewNet) → 0 < length nets → 0 < length (with_head head nets)
with_head-some head [] l = l
with_head-some head (net ∷ nets) l = omega arith

pub with_head-lines : (head bare : List ℕ) (nets : List NewNet) (rest more : List (List ℕ)) → 0 < length nets → bare ∷ rest ≡ new_lines nets ++ more → head ∷ rest ≡ new_lines (with_head head nets) ++ more
with_head-lines head bare [] rest more some e = absurd (omega arith)
with_head-lines head bare (net ∷ nets) rest more some e = ap (λ ls. head ∷ drop 1 ls) e

pub with_head-new : (before : List Line) (head bare : List ℕ) (nets : List NewNet) (rest more : List (List ℕ)) → bare ∷ rest ≡ new_lines nets ++ more → words head ≡ words bare
    → All (IsNew before) nets → All (IsNew before) (with_head head nets)
with_head-new before head bare [] rest more e same all = all
with_head-new before head bare (net ∷ nets) rest more e same all =
    let is : IsNew before net = All-head (IsNew before) net nets all in
    let w : words net.lines.head ≡ words head = ap (λ ls. words (get_or ls 0 [])) (sym e) ∙ sym same in
    all_more (IsNew before) _ nets
    (record {
      lines = record { head = subst (λ ws. is_head ws ≡ true) w is.lines.head; inner = is.lines.inner; end = is.lines.end };
      head = subst (λ ws. IsHeadOf before ws net.name) w is.head;
    })
    (All-tail (IsNew before) net nets all)
