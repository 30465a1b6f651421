-- Lines in which nets are replaced.
use Rattle.std.proofs.Common.{◌≡◌, ℕ, ◌<◌, true, List, [], ◌∷◌, ◌++◌, length, drop, map, refl, sym, ap, ◌∙◌, arith, subst, append_assoc, Some, None, All}
use Rattle.std.specs.List.{flat_map}
use Rattle.std.proofs.lemmas.List.{append-nil, map-append}
use Rattle.std.proofs.lemmas.List.Elements.{All-head, All-tail}
use Rattle.vg_scan.specs.Lines.{Line, words}
use Rattle.vg_scan.specs.Names.{canonical}
use Rattle.spef_file.specs.Words.{second_word}
use Rattle.spef_file.specs.Nets.{NetHead, end_at, is_head}
use Rattle.spef_file.specs.HeaderLines.{chars_of}
use Rattle.spef_file.specs.Regions.{outside, is_net, place_of}
use Rattle.spef_file.specs.Statements.{gathered, net_in, nets_of}
use Rattle.name_tables.specs.Distinct.{AreNew}
use Rattle.spef_patch_laws.specs.Runs.{IsRun, SaysSame, IsAlike, MayBegin, head_in, all_of, names_of, shifted}
use Rattle.spef_patch_laws.specs.RunLaws.{IsPassed, head_behind}
use Rattle.spef_patch_laws.specs.NetTexts.{NetText, texts_in, text_names, whole, as_words, NewNet, new_text, new_lines, IsNew, Splice, old_lines, spliced_lines, IsSplice, AreSplices, Place, stays, places}
use Rattle.spef_patch_laws.proofs.StepLemmas.{opens}
use Rattle.spef_patch_laws.proofs.PassLemmas.{run_both, run_parts, says_both, net_passed, same_head, nets_are_read}
use Rattle.spef_patch_laws.proofs.KeptLemmas.{lines_kept, names-shifted, new_after}
use Rattle.spef_patch_laws.proofs.TextLemmas.{nets_both, texts_both, names_in, texts_kept, texts_of_net, words_whole}

-- ---- written nets, one after another

record AreRead (before : List Line) (nets : List NewNet) : Type 0 where
  says : SaysSame before (before ++ map words (new_lines nets))
  stays_out : place_of before ≡ outside → place_of (before ++ map words (new_lines nets)) ≡ outside
  place : 0 < length nets → place_of (before ++ map words (new_lines nets)) ≡ outside
  names : names_of (nets_of (before ++ map words (new_lines nets))) ≡ names_of (nets_of before) ++ text_names (map new_text nets)
  run : (later : List Line) → AreNew (names_of (nets_of before)) (text_names (map new_text nets)) → IsRun before (map words (new_lines nets)) later
  texts : (later : List (List ℕ)) → texts_in before (new_lines nets) later ≡ map new_text nets

pub is_new : (before after : List Line) (net : NewNet) → chars_of after ≡ chars_of before → IsNew before net → IsNew after net
is_new before after net same is = record {
  lines = is.lines;
  head = record {
    opens = is.head.opens;
    plain = is.head.plain;
    named = subst (λ chars. canonical chars (second_word (words net.lines.head)) ≡ Some net.name) (sym same) is.head.named;
  };
}

none_read : (before : List Line) → MayBegin before → AreRead before []
none_read before may = record {
  says = subst (SaysSame before) (sym (append-nil before)) (record { old_over = may.over; over = may.over; chars = refl; c_places = refl; r_places = refl; rows = refl });
  stays_out = λ e. ap place_of (append-nil before) ∙ e;
  place = λ l. absurd (omega arith);
  names = ap (λ ls. names_of (nets_of ls)) (append-nil before) ∙ sym (append-nil (names_of (nets_of before)));
  run = λ later h. tt;
  texts = λ later. refl;
}

more_read : (before : List Line) (net : NewNet) (nets : List NewNet) → MayBegin before → IsNew before net
    → IsPassed before (before ++ map words (whole net.lines)) (head_behind before net.name)
    → AreRead (before ++ map words (whole net.lines)) nets → AreRead before (net ∷ nets)
more_read before net nets may is passed rest =
    let first = map words (whole net.lines) in
    let middle = before ++ first in
    let more = map words (new_lines nets) in
    let whole_is : middle ++ more ≡ before ++ map words (new_lines (net ∷ nets)) =
    append_assoc before first more ∙ ap (λ ls. before ++ ls) (sym (map-append words (whole net.lines) (new_lines nets))) in
    let named : names_of (nets_of middle) ≡ names_of (nets_of before) ++ net.name ∷ [] =
    ap names_of passed.nets ∙ map-append (λ (head : NetHead). head.name) (nets_of before) (head_behind before net.name ∷ []) in
    let out = ap place_of (sym whole_is) ∙ rest.stays_out passed.place in
    record {
      says = subst (SaysSame before) whole_is (says_both before middle (middle ++ more) passed.says rest.says);
      stays_out = λ e. out;
      place = λ l. out;
      names =
          ap (λ ls. names_of (nets_of ls)) (sym whole_is) ∙ rest.names ∙ ap (λ ns. ns ++ text_names (map new_text nets)) named
          ∙ append_assoc (names_of (nets_of before)) (net.name ∷ []) (text_names (map new_text nets));
      run = λ later h.
          subst (λ ls. IsRun before ls later) (sym (map-append words (whole net.lines) (new_lines nets)))
          (run_both before first more later
          (subst (λ ls. IsRun before ls (more ++ later)) (sym (words_whole net.lines))
          (nets_are_read before (more ++ later) (as_words net.lines) net.name may is.lines is.head h.0).0)
          (rest.run later (subst (λ ns. AreNew ns (text_names (map new_text nets))) (sym named) h.1)));
      texts = λ later.
          texts_both before (whole net.lines) (new_lines nets) later
          ∙ ap (λ ts. ts ++ texts_in middle (new_lines nets) later) (texts_of_net before net.lines (new_lines nets ++ later) may is.lines)
          ∙ ap (λ (h : NetHead). record { name = h.name; reduced = h.reduced; lines = net.lines.inner } ∷ texts_in middle (new_lines nets) later)
          (same_head before (words net.lines.head) net.name is.head)
          ∙ ap (λ ts. new_text net ∷ ts) (rest.texts later);
    }

new_read : (before : List Line) (nets : List NewNet) → MayBegin before → All (IsNew before) nets → AreRead before nets
new_read before [] may all = none_read before may
new_read before (net ∷ nets) may all =
    let is : IsNew before net = All-head (IsNew before) net nets all in
    let passed : IsPassed before (before ++ map words (whole net.lines)) (head_behind before net.name) =
    subst (λ ls. IsPassed before (before ++ ls) (head_behind before net.name)) (sym (words_whole net.lines))
    (subst (IsPassed before (before ++ all_of (as_words net.lines))) (same_head before (words net.lines.head) net.name is.head) (net_passed before (as_words net.lines) may is.lines)) in
    let middle = before ++ map words (whole net.lines) in
    more_read before net nets may is passed
    (new_read middle nets (record { over = passed.says.over; out = ap is_net passed.place })
    (λ k d l. is_new before middle _ passed.says.chars (All-tail (IsNew before) net nets all k d l)))

-- ---- what follows

begins_head : (head : Line) (later : List Line) → is_head head ≡ true → end_at (head ∷ later) ≡ None
begins_head head later e = let o = opens head e in rw (o.no_end, e) refl

pub old_ends : (before : List Line) (splices : List Splice) → AreSplices before splices → end_at (map words (old_lines splices)) ≡ None
old_ends before [] are = refl
old_ends before (s ∷ splices) are = begins_head (words s.old.head) (map words (((s.old.inner ++ s.old.end ∷ []) ++ s.kept) ++ old_lines splices)) are.0.old.head

first_ends : (before : List Line) (nets : List NewNet) (more : List (List ℕ)) → All (IsNew before) nets → 0 < length nets → end_at (map words (new_lines nets ++ more)) ≡ None
first_ends before [] more all some = absurd (omega arith)
first_ends before (net ∷ nets) more all some = let is : IsNew before net = All-head (IsNew before) net nets all in begins_head (words net.lines.head) (map words (((net.lines.inner ++ net.lines.end ∷ []) ++ new_lines nets) ++ more)) is.lines.head

pub new_ends : (before : List Line) (splices : List Splice) → AreSplices before splices → end_at (map words (spliced_lines splices)) ≡ None
new_ends before [] are = refl
new_ends before (s ∷ splices) are =
    ap (λ ls. end_at (map words ls)) (append_assoc (new_lines s.new) s.kept (spliced_lines splices)) ∙ first_ends before s.new (s.kept ++ spliced_lines splices) are.0.new are.0.some

-- ---- names

new_front : (before names later : List (List ℕ)) → AreNew before (names ++ later) → AreNew before names
new_front before [] later h = tt
new_front before (x ∷ names) later h = (h.0, new_front (before ++ x ∷ []) names later h.1)

pub cancel : {A : Type 0} (xs ys zs : List A) → xs ++ ys ≡ xs ++ zs → ys ≡ zs
cancel [] ys zs e = e
cancel (x ∷ xs) ys zs e = cancel xs ys zs (ap (drop 1) e)

-- ---- places

pub flat_both : (xs ys : List Place) → flat_map (λ (p : Place). p.new) (xs ++ ys) ≡ flat_map (λ (p : Place). p.new) xs ++ flat_map (λ (p : Place). p.new) ys
flat_both [] ys = refl
flat_both (x ∷ xs) ys = ap (λ ts. x.new ++ ts) (flat_both xs ys) ∙ sym (append_assoc x.new (flat_map (λ (p : Place). p.new) xs) (flat_map (λ (p : Place). p.new) ys))

pub flat_stays : (texts : List NetText) → flat_map (λ (p : Place). p.new) (map stays texts) ≡ texts
flat_stays [] = refl
flat_stays (t ∷ texts) = ap (λ ts. t ∷ ts) (flat_stays texts)

pub map_stays : (texts : List NetText) → map (λ (p : Place). p.old) (map stays texts) ≡ texts
map_stays [] = refl
map_stays (t ∷ texts) = ap (λ ts. t ∷ ts) (map_stays texts)

-- ---- splices, one after another

-- what is read where nets are replaced
pub record AreSpliced (old new : List Line) (splices : List Splice) : Type 0 where
  pub run : IsRun new (map words (spliced_lines splices)) []
  pub says : SaysSame (old ++ map words (old_lines splices)) (new ++ map words (spliced_lines splices))
  pub texts : texts_in new (spliced_lines splices) [] ≡ flat_map (λ (p : Place). p.new) (places old splices)
  pub old_texts : texts_in old (old_lines splices) [] ≡ map (λ (p : Place). p.old) (places old splices)

none_spliced : (old new : List Line) → IsAlike old new → AreSpliced old new []
none_spliced old new a = record {
  run = tt;
  says = subst (λ front. SaysSame front (new ++ [])) (sym (append-nil old)) (subst (SaysSame old) (sym (append-nil new)) a.says);
  texts = refl;
  old_texts = refl;
}

-- lines behind a net and behind those that replace it
behind : (old new : List Line) (s : Splice) → IsAlike old new → IsSplice old s → AreRead new s.new → IsAlike (old ++ map words (whole s.old)) (new ++ map words (new_lines s.new))
behind old new s a is w =
    let passed : IsPassed old (old ++ map words (whole s.old)) (head_in old (words s.old.head)) =
    subst (λ ls. IsPassed old (old ++ ls) (head_in old (words s.old.head))) (sym (words_whole s.old)) (net_passed old (as_words s.old) is.may is.old) in
    record {
      says = record {
        old_over = passed.says.over;
        over = w.says.over;
        chars = w.says.chars ∙ a.says.chars ∙ sym passed.says.chars;
        c_places = w.says.c_places ∙ a.says.c_places ∙ sym passed.says.c_places;
        r_places = w.says.r_places ∙ a.says.r_places ∙ sym passed.says.r_places;
        rows = w.says.rows ∙ a.says.rows ∙ sym passed.says.rows;
      };
      place = w.place is.some ∙ sym passed.place;
    }

-- the names of kept lines
names_kept : (before later : List Line) (lines tail : List (List ℕ)) (heads : List NetHead) → nets_of (before ++ map words lines) ≡ nets_of before ++ map (shifted (length before)) heads
    → text_names (texts_in before lines tail) ≡ names_of heads
names_kept before later lines tail heads e =
    names_in before lines tail
    ∙ ap names_of (cancel (nets_of before) (gathered net_in before (map words lines)) (map (shifted (length before)) heads) (sym (nets_both before (map words lines)) ∙ e))
    ∙ names-shifted (length before) heads

map_swaps : (new texts : List NetText) → map (λ (p : Place). p.old) (map (λ text. record { old = text; new = new }) texts) ≡ texts
map_swaps new [] = refl
map_swaps new (t ∷ texts) = ap (λ ts. t ∷ ts) (map_swaps new texts)

module _ (old : List Line) (s : Splice) (splices : List Splice) where
  -- all places, by those of the first splice
  pub places_new : IsSplice old s → flat_map (λ (p : Place). p.new) (places old (s ∷ splices))
      ≡ map new_text s.new ++ (texts_in (old ++ map words (whole s.old)) s.kept (old_lines splices)
      ++ flat_map (λ (p : Place). p.new) (places (old ++ map words (whole s.old ++ s.kept)) splices))
  places_new is =
      let kept = texts_in (old ++ map words (whole s.old)) s.kept (old_lines splices) in
      let more = places (old ++ map words (whole s.old ++ s.kept)) splices in
      ap (λ ts. flat_map (λ (p : Place). p.new) (map (λ text. record { old = text; new = map new_text s.new }) ts ++ (map stays kept ++ more)))
      (texts_of_net old s.old (s.kept ++ old_lines splices) is.may is.old)
      ∙ ap (λ ts. map new_text s.new ++ ts) (flat_both (map stays kept) more ∙ ap (λ ts. ts ++ flat_map (λ (p : Place). p.new) more) (flat_stays kept))

  places_old : map (λ (p : Place). p.old) (places old (s ∷ splices))
      ≡ texts_in old (whole s.old) (s.kept ++ old_lines splices) ++ (texts_in (old ++ map words (whole s.old)) s.kept (old_lines splices)
      ++ map (λ (p : Place). p.old) (places (old ++ map words (whole s.old ++ s.kept)) splices))
  places_old =
      let first = texts_in old (whole s.old) (s.kept ++ old_lines splices) in
      let kept = texts_in (old ++ map words (whole s.old)) s.kept (old_lines splices) in
      let more = places (old ++ map words (whole s.old ++ s.kept)) splices in
      map-append (λ (p : Place). p.old) (map (λ text. record { old = text; new = map new_text s.new }) first) (map stays kept ++ more)
      ∙ ap (λ ts. ts ++ map (λ (p : Place). p.old) (map stays kept ++ more)) (map_swaps (map new_text s.new) first)
      ∙ ap (λ ts. first ++ ts) (map-append (λ (p : Place). p.old) (map stays kept) more ∙ ap (λ ts. ts ++ map (λ (p : Place). p.old) more) (map_stays kept))

more_spliced : (old new : List Line) (s : Splice) (splices : List Splice) → IsAlike old new → IsSplice old s → AreSplices (old ++ map words (whole s.old ++ s.kept)) splices
    → IsRun (old ++ map words (whole s.old)) (map words s.kept) (map words (old_lines splices))
    → AreNew (names_of (nets_of new)) (text_names (flat_map (λ (p : Place). p.new) (places old (s ∷ splices))))
    → ((next : List Line) → IsAlike (old ++ map words (whole s.old ++ s.kept)) next
    → AreNew (names_of (nets_of next)) (text_names (flat_map (λ (p : Place). p.new) (places (old ++ map words (whole s.old ++ s.kept)) splices)))
    → AreSpliced (old ++ map words (whole s.old ++ s.kept)) next splices)
    → AreSpliced old new (s ∷ splices)
more_spliced old new s splices a is are run names later =
    let all : All (IsNew new) s.new = λ k d l. is_new old new _ a.says.chars (is.new k d l) in
    let w = new_read new s.new (record { over = a.says.over; out = ap is_net a.place ∙ is.may.out }) all in
    let o = old ++ map words (whole s.old) in
    let n = new ++ map words (new_lines s.new) in
    let ol = old_lines splices in
    let nl = spliced_lines splices in
    let k = map words s.kept in
    let alike = behind old new s a is w in
    let ends : end_at (map words nl) ≡ end_at (map words ol) = new_ends _ splices are ∙ sym (old_ends _ splices are) in
    let kept = lines_kept o n k (map words ol) (map words nl) alike run ends in
    let whole_old : o ++ k ≡ old ++ map words (whole s.old ++ s.kept) =
    append_assoc old (map words (whole s.old)) k ∙ ap (λ ls. old ++ ls) (sym (map-append words (whole s.old) s.kept)) in
    let here = texts_in o s.kept ol in
    let rest = flat_map (λ (p : Place). p.new) (places (old ++ map words (whole s.old ++ s.kept)) splices) in
    let named : text_names (map new_text s.new ++ (here ++ rest)) ≡ text_names (map new_text s.new) ++ (text_names here ++ text_names rest) =
    map-append (λ (text : NetText). text.name) (map new_text s.new) (here ++ rest) ∙ ap (λ ns. text_names (map new_text s.new) ++ ns) (map-append (λ (text : NetText). text.name) here rest) in
    let h : AreNew (names_of (nets_of new)) (text_names (map new_text s.new) ++ (text_names here ++ text_names rest)) =
    subst (AreNew (names_of (nets_of new))) (ap text_names (places_new old s splices is) ∙ named) names in
    let h_kept : AreNew (names_of (nets_of n)) (text_names here ++ text_names rest) =
    subst (λ ns. AreNew ns (text_names here ++ text_names rest)) (sym w.names) (new_after (names_of (nets_of new)) (text_names (map new_text s.new)) (text_names here ++ text_names rest) h) in
    let heads_are : text_names here ≡ names_of kept.heads = names_kept o [] s.kept ol kept.heads kept.old_nets in
    let run_kept : IsRun n k (map words nl) = kept.run (subst (AreNew (names_of (nets_of n))) heads_are (new_front (names_of (nets_of n)) (text_names here) (text_names rest) h_kept)) in
    let after : names_of (nets_of n) ++ text_names here ≡ names_of (nets_of (n ++ k)) =
    ap (λ ns. names_of (nets_of n) ++ ns) (heads_are ∙ sym (names-shifted (length n) kept.heads))
    ∙ sym (map-append (λ (head : NetHead). head.name) (nets_of n) (map (shifted (length n)) kept.heads)) ∙ ap names_of (sym kept.nets) in
    let r = later (n ++ k) (subst (λ front. IsAlike front (n ++ k)) whole_old kept.alike)
    (subst (λ ns. AreNew ns (text_names rest)) after (new_after (names_of (nets_of n)) (text_names here) (text_names rest) h_kept)) in
    let new_first = new_lines s.new ++ s.kept in
    let new_whole : n ++ k ≡ new ++ map words new_first =
    append_assoc new (map words (new_lines s.new)) k ∙ ap (λ ls. new ++ ls) (sym (map-append words (new_lines s.new) s.kept)) in
    let run_first : IsRun new (map words new_first) (map words nl ++ []) =
    subst (λ ls. IsRun new ls (map words nl ++ [])) (sym (map-append words (new_lines s.new) s.kept))
    (run_both new (map words (new_lines s.new)) k (map words nl ++ [])
    (w.run (k ++ (map words nl ++ [])) (new_front (names_of (nets_of new)) (text_names (map new_text s.new)) (text_names here ++ text_names rest) h))
    (subst (IsRun n k) (sym (append-nil (map words nl))) run_kept)) in
    record {
      run =
          subst (λ ls. IsRun new ls []) (sym (map-append words new_first nl))
          (run_both new (map words new_first) (map words nl) [] run_first (subst (λ front. IsRun front (map words nl) []) new_whole r.run));
      says =
          subst (λ front. SaysSame front (new ++ map words (new_first ++ nl)))
          (append_assoc old (map words (whole s.old ++ s.kept)) (map words ol) ∙ ap (λ ls. old ++ ls) (sym (map-append words (whole s.old ++ s.kept) ol)))
          (subst (SaysSame ((old ++ map words (whole s.old ++ s.kept)) ++ map words ol))
          (ap (λ front. front ++ map words nl) new_whole ∙ append_assoc new (map words new_first) (map words nl) ∙ ap (λ ls. new ++ ls) (sym (map-append words new_first nl)))
          r.says);
      texts =
          texts_both new new_first nl []
          ∙ ap (λ t. texts_in new new_first t ++ texts_in (new ++ map words new_first) nl []) (append-nil nl)
          ∙ ap (λ ts. ts ++ texts_in (new ++ map words new_first) nl [])
          (texts_both new (new_lines s.new) s.kept nl ∙ ap (λ ts. ts ++ texts_in n s.kept nl) (w.texts (s.kept ++ nl))
          ∙ ap (λ ts. map new_text s.new ++ ts) (texts_kept o n s.kept ol nl alike run (old_ends _ splices are) (new_ends _ splices are)))
          ∙ ap (λ ts. (map new_text s.new ++ here) ++ ts) (ap (λ front. texts_in front nl []) (sym new_whole) ∙ r.texts)
          ∙ append_assoc (map new_text s.new) here rest
          ∙ sym (places_new old s splices is);
      old_texts =
          texts_both old (whole s.old ++ s.kept) ol []
          ∙ ap (λ t. texts_in old (whole s.old ++ s.kept) t ++ texts_in (old ++ map words (whole s.old ++ s.kept)) ol []) (append-nil ol)
          ∙ ap (λ ts. ts ++ texts_in (old ++ map words (whole s.old ++ s.kept)) ol []) (texts_both old (whole s.old) s.kept ol)
          ∙ ap (λ ts. (texts_in old (whole s.old) (s.kept ++ ol) ++ here) ++ ts) r.old_texts
          ∙ append_assoc (texts_in old (whole s.old) (s.kept ++ ol)) here (map (λ (p : Place). p.old) (places (old ++ map words (whole s.old ++ s.kept)) splices))
          ∙ sym (places_old old s splices);
    }

pub spliced : (old new : List Line) (splices : List Splice) → IsAlike old new → AreSplices old splices → IsRun old (map words (old_lines splices)) []
    → AreNew (names_of (nets_of new)) (text_names (flat_map (λ (p : Place). p.new) (places old splices))) → AreSpliced old new splices
spliced old new [] a are run names = none_spliced old new a
spliced old new (s ∷ splices) a are run names =
    let first = map words (whole s.old) in
    let k = map words s.kept in
    let ol = map words (old_lines splices) in
    let parts = run_parts old (map words (whole s.old ++ s.kept)) ol [] (subst (λ ls. IsRun old ls []) (map-append words (whole s.old ++ s.kept) (old_lines splices)) run) in
    let two = run_parts old first k (ol ++ []) (subst (λ ls. IsRun old ls (ol ++ [])) (map-append words (whole s.old) s.kept) parts.0) in
    more_spliced old new s splices a are.0 are.1 (subst (IsRun (old ++ first) k) (append-nil ol) two.1) names
    (λ next alike free. spliced (old ++ map words (whole s.old ++ s.kept)) next splices alike are.1 parts.1 free)
