-- The heads of a file's nets, and where their sections stand.
use Rattle.std.proofs.Common.{◌≡◌, ℕ, zero, suc, ◌+◌, ◌-◌, ◌<◌, ◌≤◌, inl, inr, Bool, true, false, cond, not, List, [], ◌∷◌, ◌++◌, length, take, drop, get_or, map, codes, refl, sym, ap, ◌∙◌, arith, subst, append_assoc, length-append, length-take, Some, None, is_some, All}
use Rattle.std.proofs.lemmas.Bool.{cases_lt}
use Rattle.std.proofs.lemmas.Int.{clamps}
use Rattle.std.proofs.lemmas.List.{append-nil, map-append}
use Rattle.std.proofs.lemmas.Option.{same_Some}
use Rattle.std.specs.List.{slice_get}
use Rattle.std.specs.Str.{bytes_eq}
use Rattle.std.specs.Str.Lines.{lines}
use Rattle.vg_scan.specs.Lines.{Line, words, lines_of, part}
use Rattle.vg_scan.specs.Faults.{IsClear}
use Rattle.spef_file.specs.declared.section.Section.{Section}
use Rattle.spef_file.specs.Words.{first_word}
use Rattle.spef_file.specs.Keywords.{keyword_of, is_passed, is_foreign}
use Rattle.spef_file.specs.Nets.{NetHead, is_head, end_at}
use Rattle.spef_file.specs.HeaderLines.{in_header}
use Rattle.spef_file.specs.Regions.{is_net, place_of, is_net_head, opens_net}
use Rattle.spef_file.specs.Statements.{listed, gathered, net_in}
use Rattle.spef_file.specs.Faults.{fault_at}
use Rattle.spef_file.proofs.TextLemmas.{get_drop, lines_split}
use Rattle.spef_write.proofs.WordLemmas.{both_true}
use Rattle.spef_patch_laws.specs.Runs.{MayBegin, IsInner, head_in}
use Rattle.spef_patch_laws.specs.Sections.{SectionLines}
use Rattle.spef_patch_laws.proofs.FaultLemmas.{has_none}
use Rattle.spef_patch_laws.proofs.StepLemmas.{over_more, head_place}
use Rattle.spef_patch_laws.proofs.PassLemmas.{inner_stays}
use Rattle.spef_patch_laws.proofs.SectionLemmas.{words_front, words_are}
use Rattle.spef_patch_laws.proofs.SpanLemmas.{IsPlaced, ten_no_blank}
use Rattle.spef_patch_laws.proofs.TextLemmas.{and_not, take_front}

-- ---- a head

not_true : (b : Bool) → not b ≡ true → b ≡ false
not_true true e = absurd (cc)
not_true false e = refl

third : {K : Type 0} (opens : K → Bool) (a b c d : Bool) (z : K) {x y u v : K} → opens x ≡ false → opens y ≡ false → opens u ≡ false → opens v ≡ false
    → opens (cond a x (cond b y (cond c z (cond d u v)))) ≡ true → c ≡ true
third opens true b c d z p q r s e = absurd (cc)
third opens false true c d z p q r s e = absurd (cc)
third opens false false true d z p q r s e = refl
third opens false false false true z p q r s e = absurd (cc)
third opens false false false false z p q r s e = absurd (cc)

opens_head : (line : Line) → opens_net (keyword_of (first_word line)) ≡ true → is_head line ≡ true
unfolding keyword_of
opens_head line e =
    third opens_net (bytes_eq (first_word line) (codes "*NAME_MAP")) (is_passed (first_word line)) (is_head line) (is_foreign (first_word line)) _ refl refl refl refl e

-- a net may begin with this head after these lines
pub record Begins (before : List Line) (line : Line) : Type 0 where
  pub may : MayBegin before
  pub opens : is_head line ≡ true

pub begins : (before : List Line) (line : Line) → is_net_head before line ≡ true → Begins before line
begins before line e =
    let h = both_true _ (opens_net (keyword_of (first_word line))) e in
    let free = both_true (not (in_header before)) (not (is_net (place_of before))) h.0 in
    record {
      may = record { over = not_true (in_header before) free.0; out = not_true (is_net (place_of before)) free.1 };
      opens = opens_head line h.1;
    }

some_then : {A : Type 0} (t : Bool) (x h : A) → cond t (Some x) None ≡ Some h → (t ≡ true) × (x ≡ h)
some_then true x h e = (refl, same_Some x h e)
some_then false x h e = absurd (cc)

-- ---- the heads that lines add

-- where a head stands among lines after others
pub record IsHeadAt (before lines : List Line) (h : NetHead) : Type 0 where
  pub at : ℕ
  pub within : at < length lines
  pub head : is_net_head (before ++ take at lines) (get_or lines at []) ≡ true
  pub is : head_in (before ++ take at lines) (get_or lines at []) ≡ h
  pub line : h.line ≡ length before + at + 1

later_head : (before lines : List Line) (line : Line) (h : NetHead) → IsHeadAt (before ++ line ∷ []) lines h → IsHeadAt before (line ∷ lines) h
later_head before lines line h there =
    let e : (before ++ line ∷ []) ++ take there.at lines ≡ before ++ (line ∷ take there.at lines) = append_assoc before (line ∷ []) (take there.at lines) in
    record {
      at = suc there.at;
      within = omega (arith, there.within);
      head = ap (λ front. is_net_head front (get_or lines there.at [])) (sym e) ∙ there.head;
      is = ap (λ front. head_in front (get_or lines there.at [])) (sym e) ∙ there.is;
      line = omega (arith, there.line, length-append before (line ∷ []));
    }

first_head : (before lines : List Line) (line : Line) (h : NetHead) → is_net_head before line ≡ true → head_in before line ≡ h → IsHeadAt before (line ∷ lines) h
first_head before lines line h t e = record {
  at = 0;
  within = omega arith;
  head = ap (λ front. is_net_head front line) (append-nil before) ∙ t;
  is = ap (λ front. head_in front line) (append-nil before) ∙ e;
  line = (let l = ap (λ (x : NetHead). x.line) e in omega (arith, l));
}

-- one line more, by whether it is a head
head_step : (before lines : List Line) (line : Line) (t : Bool) (k : ℕ) (h : NetHead) → is_net_head before line ≡ t
    → slice_get (listed (cond t (Some (head_in before line)) None) ++ gathered net_in (before ++ line ∷ []) lines) k ≡ Some h
    → ((m : ℕ) → slice_get (gathered net_in (before ++ line ∷ []) lines) m ≡ Some h → IsHeadAt (before ++ line ∷ []) lines h) → IsHeadAt before (line ∷ lines) h
head_step before lines line true zero h e f more = first_head before lines line h e (same_Some (head_in before line) h f)
head_step before lines line true (suc k) h e f more = later_head before lines line h (more k f)
head_step before lines line false k h e f more = later_head before lines line h (more k f)

pub head_at : (before lines : List Line) (k : ℕ) (h : NetHead) → slice_get (gathered net_in before lines) k ≡ Some h → IsHeadAt before lines h
head_at before [] k h e = absurd (cc)
head_at before (line ∷ lines) k h e = head_step before lines line (is_net_head before line) k h refl e (λ m. head_at (before ++ line ∷ []) lines m h)

-- heads stand in the order of their lines
rise_step : (before lines : List Line) (line : Line) (t : Bool) (i j : ℕ) (a b : NetHead)
    → slice_get (listed (cond t (Some (head_in before line)) None) ++ gathered net_in (before ++ line ∷ []) lines) i ≡ Some a
    → slice_get (listed (cond t (Some (head_in before line)) None) ++ gathered net_in (before ++ line ∷ []) lines) j ≡ Some b → i < j
    → ((m n : ℕ) → slice_get (gathered net_in (before ++ line ∷ []) lines) m ≡ Some a → slice_get (gathered net_in (before ++ line ∷ []) lines) n ≡ Some b → m < n → a.line < b.line) → a.line < b.line
rise_step before lines line true i zero a b e f l more = absurd (omega arith)
rise_step before lines line true zero (suc j) a b e f l more =
    let first : length before + 1 ≡ a.line = ap (λ (x : NetHead). x.line) (same_Some (head_in before line) a e) in
    let there = head_at (before ++ line ∷ []) lines j b f in
    omega (arith, first, there.line, length-append before (line ∷ []))
rise_step before lines line true (suc i) (suc j) a b e f l more = more i j e f (omega arith)
rise_step before lines line false i j a b e f l more = more i j e f l

pub heads_rise : (before lines : List Line) (i j : ℕ) (a b : NetHead) → slice_get (gathered net_in before lines) i ≡ Some a → slice_get (gathered net_in before lines) j ≡ Some b
    → i < j → a.line < b.line
heads_rise before [] i j a b e f l = absurd (cc)
heads_rise before (line ∷ lines) i j a b e f l =
    rise_step before lines line (is_net_head before line) i j a b e f l (λ m n. heads_rise (before ++ line ∷ []) lines m n a b)

-- the end of a head's net, where no line has a fault
pub head_ends : (all : List Line) (n : ℕ) → IsClear (fault_at all) (length all) → n < length all → is_net_head (take n all) (get_or all n []) ≡ true
    → is_some (end_at (drop (n + 1) all)) ≡ true
head_ends all n clear l e =
    let h = has_none (take n all) (get_or all n []) (drop (n + 1) all) (clear n l) in
    and_not (is_net_head (take n all) (get_or all n [])) (end_at (drop (n + 1) all)) h.unended e

-- ---- two sections

take_more : {A : Type 0} (xs ys : List A) (n : ℕ) → take (length xs + n) (xs ++ ys) ≡ xs ++ take n ys
take_more [] ys n = ap (λ k. take k ys) (let e : 0 + n ≡ n = omega arith in e)
take_more (x ∷ xs) ys n = ap (λ k. take k (x ∷ (xs ++ ys))) (let e : suc (length xs) + n ≡ suc (length xs + n) = omega arith in e) ∙ ap (λ zs. x ∷ zs) (take_more xs ys n)

pub all_take : {A : Type 0} (P : A → Type 0) (xs : List A) (n : ℕ) → All P xs → All P (take n xs)
all_take {A = A} P xs n h = λ k d l.
    let len = length-take n xs in
    subst P (sym (get_take n xs k d (omega (arith, l, len, clamps)))) (h k d (omega (arith, l, len, clamps)))
  where
    get_take : (n : ℕ) (xs : List A) (k : ℕ) (d : A) → k < n → get_or (take n xs) k d ≡ get_or xs k d
    get_take zero xs k d l = absurd (omega arith)
    get_take (suc n) [] k d l = refl
    get_take (suc n) (x ∷ xs) zero d l = refl
    get_take (suc n) (x ∷ xs) (suc k) d l = get_take n xs k d (omega arith)

-- where a net may begin there stands no line of another net
module _ (before : List Line) (head : Line) (inner rest all : List Line) (may : MayBegin before) (opens : is_head head ≡ true) (is_inner : All IsInner inner)
    (is : all ≡ before ++ (head ∷ (inner ++ rest))) where
  inside_at : (j : ℕ) → j ≤ length inner → is_net (place_of (take (length before + suc j) all)) ≡ true
  inside_at j l =
      let front = before ++ head ∷ [] in
      let stays = inner_stays front (take j inner) (over_more before head may.over) (head_place before head may opens) (all_take IsInner inner j is_inner) in
      ap (λ ls. is_net (place_of ls))
      (ap (take (length before + suc j)) is ∙ take_more before (head ∷ (inner ++ rest)) (suc j)
      ∙ ap (λ ls. before ++ (head ∷ ls)) (take_front j inner rest l) ∙ sym (append_assoc before (head ∷ []) (take j inner)))
      ∙ ap is_net stays.place

  pub begins_later : (n : ℕ) → MayBegin (take n all) → length before < n → length before + 1 + length inner < n
  begins_later n there l = elim (cases_lt (length before + 1 + length inner) n) [
    | inl past ↦ past
    | inr near ↦ absurd (
        let j = n - length before - 1 in
        let e : length before + suc j ≡ n = omega (arith, l) in
        let t : is_net (place_of (take n all)) ≡ true = ap (λ m. is_net (place_of (take m all))) (sym e) ∙ inside_at j (omega (arith, near, l)) in
        let f : true ≡ false = sym t ∙ there.out in
        cc)
  ]

end_byte : (rest : List ℕ) (i : ℕ) → i < 4 → get_or (codes "*END" ++ rest) i 0 ≡ 10 → ⊥
end_byte rest zero l e = omega (arith, e)
end_byte rest (suc zero) l e = omega (arith, e)
end_byte rest (suc (suc zero)) l e = omega (arith, e)
end_byte rest (suc (suc (suc zero))) l e = omega (arith, e)
end_byte rest (suc (suc (suc (suc i)))) l e = absurd (omega arith)

-- a later line than the last of a section begins behind it
line_behind : (text : List ℕ) (from to start : ℕ) (at : SectionLines text from to) → at.last < start → get_or text (start - 1) 0 ≡ 10 → to < start
line_behind text from to start at l ten = elim (cases_lt to start) [
  | inl past ↦ past
  | inr near ↦ elim (cases_lt (start - 1) (to - 4)) [
    | inl low ↦ absurd (ten_no_blank (get_or text (start - 1) 0) ten (at.blank.1 (start - 1) (omega (arith, l)) low))
    | inr high ↦ absurd (
        let i = start - 1 - (to - 4) in
        let four = at.order.2 in
        end_byte (drop to text) i (omega (arith, near, l, four))
        (ap (λ xs. get_or xs i 0) (sym at.word) ∙ get_drop text (to - 4) i ∙ ap (λ k. get_or text k 0) (let x : to - 4 + i ≡ start - 1 = omega (arith, high) in x) ∙ ten))
  ]
]

-- a section whose head stands on a later line than another's stands behind it
pub section_behind : (clear : List ℕ) (all : List Line) (a b : Section) → all ≡ lines_of clear → IsPlaced clear all a → IsPlaced clear all b
    → a.line < b.line → 1 ≤ a.line → b.line ≤ length all → a.to ≤ b.from
section_behind clear all a b split pa pb l some within =
    let at = pa.section_at.at in
    let bt = pb.section_at.at in
    let order = at.order in
    let order_b = bt.order in
    let front = lines_of (take at.start clear) in
    let inner = map words at.inner in
    let front_len : length front ≡ a.line - 1 = ap length pa.front ∙ omega (arith, length-take (a.line - 1) all, clamps, l, within) in
    let other_len : length (lines_of (take bt.start clear)) ≡ b.line - 1 = ap length pb.front ∙ omega (arith, length-take (b.line - 1) all, clamps, within) in
    let up_to : lines_of (take at.last clear) ≡ front ++ (words at.head ∷ inner) =
    words_front clear at.start at.last (at.head ∷ at.inner) (omega (arith, order)) (omega (arith, order)) at.begins at.lines_are in
    let rest = lines_of (drop at.last clear) in
    let is : all ≡ front ++ (words at.head ∷ (inner ++ rest)) =
    split ∙ words_are clear
    ∙ ap (map words) (lines_split at.last clear at.last (omega arith) (omega (arith, order)) (λ z. at.ends))
    ∙ map-append words (lines (take at.last clear)) (lines (drop at.last clear))
    ∙ (λ i. sym (words_are (take at.last clear)) i ++ sym (words_are (drop at.last clear)) i)
    ∙ ap (λ ls. ls ++ rest) up_to ∙ append_assoc front (words at.head ∷ inner) rest in
    let later = begins_later front (words at.head) inner rest all pa.section_at.may pa.section_at.head pa.section_at.inner is
    (b.line - 1) (subst MayBegin pb.front pb.section_at.may) (omega (arith, front_len, l, some)) in
    let past : at.last < bt.start = elim (cases_lt at.last bt.start) [
      | inl p ↦ p
      | inr near ↦ absurd (
          let more = words_front clear bt.start at.last (lines (part clear bt.start at.last)) (omega (arith, near)) (omega (arith, order)) bt.begins refl in
          let m = ap length (sym more ∙ up_to) in
          omega (
            arith,
            m,
            later,
            front_len,
            other_len,
            length-append front (words at.head ∷ inner),
            length-append (lines_of (take bt.start clear)) (map words (lines (part clear bt.start at.last))),
          ))
    ] in
    let behind = line_behind clear a.from a.to bt.start at past (bt.begins (omega (arith, past))) in
    omega (arith, behind, order_b)
