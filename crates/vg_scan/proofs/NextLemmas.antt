-- The first piece of a text, and the next comment.
use Rattle.std.proofs.Common.{◌≡◌, ℕ, zero, suc, ◌+◌, ◌-◌, ◌<◌, ◌≤◌, Bool, true, false, cond, not, List, [], ◌∷◌, ◌++◌, map, length, take, take_all, drop, refl, sym, ap, ◌∙◌, arith, length-drop, drop-drop, append_assoc, min, get_or, subst}
use Rattle.std.specs.List.{position_or_len}
use Rattle.std.proofs.lemmas.List.{drop_all, append-nil, take_min}
use Rattle.std.proofs.Math.Seq.{take-add}
use Rattle.vg_scan.specs.declared.comments.Comments.{Comments}
use Rattle.vg_scan.specs.declared.comments.Comments.TheVariants.{Spef, Liberty}
use Rattle.vg_scan.specs.Lines.{part}
use Rattle.vg_scan.specs.Comments.{piece_length, uncommented, is_comment, without_comments, blanked}
use Rattle.vg_scan.specs.LibertyComments.{liberty_piece_length, is_block, without_liberty_comments}
use Rattle.vg_scan.specs.Pieces.{is_mark, first_length, begins_comment}
use Rattle.vg_scan.specs.Next.{IsNextComment}
use Rattle.vg_scan.proofs.ClearedLemmas.{one}
use Rattle.vg_scan.proofs.FoundLemmas.{next_within}
use Rattle.vg_scan.proofs.LibertyLemmas as liberty
use Rattle.vg_scan.proofs.PieceLemmas as spef

-- ---- the first piece

-- a piece, blank where it is a comment
abbrev shown : Bool → List ℕ → List ℕ
shown comment piece = cond comment (map blanked piece) piece

-- a text without comments begins with its first piece, as it is shown
abbrev BeginsShown : Comments → List ℕ → Type 0
BeginsShown kind text =
    without_comments kind text
    ≡ shown (begins_comment kind text) (take (first_length kind text) text) ++ without_comments kind (drop (first_length kind text) text)

spef_begins : (text : List ℕ) → begins_comment Spef text ≡ is_comment text
spef_begins [] = refl
spef_begins (b ∷ []) = refl
spef_begins (b ∷ c ∷ bs) = refl

liberty_begins : (text : List ℕ) → begins_comment Liberty text ≡ is_block text
liberty_begins [] = refl
liberty_begins (b ∷ []) = refl
liberty_begins (b ∷ c ∷ bs) = refl

spef_shown : (b : ℕ) (bs : List ℕ) → BeginsShown Spef (b ∷ bs)
spef_shown b bs =
    let k = piece_length (b ∷ bs) in
    let piece = take k (b ∷ bs) in
    sym (spef.cleared_is (b ∷ bs)) ∙ spef.first_piece b bs
    ∙ ap (λ xs. uncommented piece ++ xs) (spef.cleared_is (drop k (b ∷ bs)))
    ∙ ap (λ t. shown t piece ++ without_comments Spef (drop k (b ∷ bs))) (spef.by_mark b bs ∙ sym (spef_begins (b ∷ bs)))

liberty_shown : (b : ℕ) (bs : List ℕ) → BeginsShown Liberty (b ∷ bs)
unfolding without_comments
liberty_shown b bs =
    let k = liberty_piece_length (b ∷ bs) in
    let piece = take k (b ∷ bs) in
    liberty.first_piece b bs k refl
    ∙ ap (λ t. shown t piece ++ without_liberty_comments (drop k (b ∷ bs))) (liberty.by_mark b bs ∙ sym (liberty_begins (b ∷ bs)))

first_shown : (kind : Comments) (text : List ℕ) → 0 < length text → BeginsShown kind text
first_shown kind [] h = absurd (omega arith)
first_shown Spef (b ∷ bs) h = spef_shown b bs
first_shown Liberty (b ∷ bs) h = liberty_shown b bs

some : (kind : Comments) (text : List ℕ) → 0 < length text → 0 < first_length kind text
some kind [] h = absurd (omega arith)
some Spef (b ∷ bs) h = spef.some b bs
some Liberty (b ∷ bs) h = liberty.some b bs

-- ---- bytes that are pieces of their own

plain_length : (kind : Comments) (b : ℕ) (bs : List ℕ) → is_mark b ≡ false → first_length kind (b ∷ bs) ≡ 1
plain_length Spef b bs e = spef.plain_length b bs e
plain_length Liberty b bs e = sym (liberty.plain_length b bs e)

plain_begins : (kind : Comments) (b : ℕ) (bs : List ℕ) → is_mark b ≡ false → begins_comment kind (b ∷ bs) ≡ false
plain_begins kind b [] e = refl
plain_begins Spef b (c ∷ bs) e = spef.no_comment b (c ∷ bs) (spef.no_slash b e)
plain_begins Liberty b (c ∷ bs) e = rw (spef.no_slash b e) refl

no_library : without_comments Liberty [] ≡ []
unfolding without_comments
no_library = liberty.nothing

nothing : (kind : Comments) → without_comments kind [] ≡ []
nothing Spef = sym (spef.cleared_is []) ∙ spef.nothing_cleared
nothing Liberty = no_library

plain_shown : (kind : Comments) (b : ℕ) (bs : List ℕ) → is_mark b ≡ false → without_comments kind (b ∷ bs) ≡ b ∷ without_comments kind bs
plain_shown kind b bs e = (rw (plain_length kind b bs e, plain_begins kind b bs e) at (first_shown kind (b ∷ bs) (omega arith)))

stays_step : (t : Bool) (kind : Comments) (b p : ℕ) (bs : List ℕ) → is_mark b ≡ t
    → without_comments kind bs ≡ take p bs ++ without_comments kind (drop p bs)
    → without_comments kind (b ∷ bs) ≡ take (cond (not t) (1 + p) 0) (b ∷ bs) ++ without_comments kind (drop (cond (not t) (1 + p) 0) (b ∷ bs))
stays_step true kind b p bs s e = refl
stays_step false kind b p bs s e =
    let k : 1 + p ≡ suc p = omega arith in
    rw k (plain_shown kind b bs s ∙ ap (λ (xs : List ℕ). b ∷ xs) e)

stay : (kind : Comments) (text : List ℕ)
    → without_comments kind text ≡ take (position_or_len is_mark text) text ++ without_comments kind (drop (position_or_len is_mark text) text)
stay kind [] = refl
stay kind (b ∷ bs) = stays_step (is_mark b) kind b (position_or_len is_mark bs) bs refl (stay kind bs)

-- ---- from place to place

-- from a place on, a text without comments is the bytes up to another place as they are, then the rest without comments
pub record StaysTo (kind : Comments) (text : List ℕ) (at to : ℕ) : Type 0 where
  pub on : at ≤ to
  pub within : to ≤ length text
  pub same : without_comments kind (drop at text) ≡ part text at to ++ without_comments kind (drop to text)

part_on : (text : List ℕ) (a b c : ℕ) → a ≤ b → b ≤ c → part text a c ≡ part text a b ++ part text b c
part_on text a b c l h =
    ap (λ n. take n (drop a text)) (let x : c - a ≡ (b - a) + (c - b) = omega arith in x)
    ∙ take-add (b - a) (c - b) (drop a text)
    ∙ ap (λ xs. part text a b ++ take (c - b) xs) (drop-drop (b - a) a text ∙ ap (λ n. drop n text) (let y : a + (b - a) ≡ b = omega arith in y))

-- bytes that stay, before what becomes of the rest
before : (text : List ℕ) (a b c : ℕ) (all shown rest : List ℕ) → a ≤ b → b ≤ c → all ≡ part text a b ++ shown → shown ≡ part text b c ++ rest
    → all ≡ part text a c ++ rest
before text a b c all shown rest l h e f =
    e ∙ ap (λ xs. part text a b ++ xs) f ∙ sym (append_assoc (part text a b) (part text b c) rest) ∙ ap (λ xs. xs ++ rest) (sym (part_on text a b c l h))

pub further : {kind : Comments} {text : List ℕ} {a b c : ℕ} → StaysTo kind text a b → StaysTo kind text b c → StaysTo kind text a c
further {kind} {text} {a} {b} {c} h k = record {
  on = omega arith;
  within = k.within;
  same = before text a b c _ _ _ h.on k.on h.same k.same;
}

pub plain_stays : (kind : Comments) (text : List ℕ) (at to : ℕ) → at ≤ length text → to ≡ at + position_or_len is_mark (drop at text)
    → StaysTo kind text at to
plain_stays kind text at to l e =
    let n = position_or_len is_mark (drop at text) in
    record {
      on = omega arith;
      within = next_within is_mark text at to l e;
      same =
          stay kind (drop at text)
          ∙ ap (λ k. take k (drop at text) ++ without_comments kind (drop n (drop at text))) (let k : n ≡ to - at = omega arith in k)
          ∙ ap (λ xs. part text at to ++ without_comments kind xs) (drop-drop n at text ∙ ap (λ k. drop k text) (sym e));
    }

-- ---- the piece that begins at a place

module _ (kind : Comments) (text : List ℕ) (at to : ℕ) (inside : at < length text)
    (e : to ≡ min (at + first_length kind (drop at text)) (length text)) where
  here : 0 < length (drop at text)
  here = omega (arith, length-drop at text)

  pub on : at < to
  on = omega (arith, some kind (drop at text) here)

  pub within : to ≤ length text
  within = omega arith

  piece : part text at to ≡ take (first_length kind (drop at text)) (drop at text)
  piece =
      let k : to - at ≡ min (first_length kind (drop at text)) (length (drop at text)) = omega (arith, length-drop at text) in
      ap (λ n. take n (drop at text)) k
      ∙ take_min (first_length kind (drop at text)) (drop at text)

  rest : drop to text ≡ drop (first_length kind (drop at text)) (drop at text)
  rest =
      let n = first_length kind (drop at text) in
      ap (λ k. drop k text) e ∙ drop_min (at + n) text ∙ sym (drop-drop n at text)
    where
      drop_min : (k : ℕ) (xs : List ℕ) → drop (min k (length xs)) xs ≡ drop k xs
      drop_min zero xs = ap (λ k. drop k xs) (let k : min 0 (length xs) ≡ 0 = omega arith in k)
      drop_min (suc k) [] = drop_all (min (suc k) 0) [] (omega arith)
      drop_min (suc k) (x ∷ xs) =
          ap (λ n. drop n (x ∷ xs)) (let n : min (suc k) (suc (length xs)) ≡ suc (min k (length xs)) = omega arith in n) ∙ drop_min k xs

  first : without_comments kind (drop at text) ≡ shown (begins_comment kind (drop at text)) (part text at to) ++ without_comments kind (drop to text)
  first = rw (piece, rest) (first_shown kind (drop at text) here)

  pub piece_stays : begins_comment kind (drop at text) ≡ false → StaysTo kind text at to
  piece_stays t = record { on = omega (arith, on); within = within; same = rw t at first }

  pub comment_next : (start : ℕ) → begins_comment kind (drop at text) ≡ true → StaysTo kind text start at → IsNextComment kind text start at to
  comment_next start t h = record {
    after = h.on;
    some = on;
    within = within;
    begins = t;
    whole = piece;
    clear = h.same ∙ ap (λ xs. part text start at ++ xs) (rw t at first);
  }

-- no comment comes
pub none_next : (kind : Comments) (text : List ℕ) (at to : ℕ) → StaysTo kind text at to → length text ≤ to
    → without_comments kind (drop at text) ≡ drop at text
none_next kind text at to h l =
    h.same
    ∙ ap (λ xs. xs ++ without_comments kind (drop to text)) (take_all (to - at) (drop at text) (omega (arith, length-drop at text)))
    ∙ ap (λ xs. drop at text ++ without_comments kind xs) (drop_all to text l) ∙ ap (λ xs. drop at text ++ xs) (nothing kind) ∙ append-nil (drop at text)

-- ---- the last byte of a text

abbrev OfOne : (List ℕ → Type 0) → Type 0
OfOne P = (b : ℕ) → P (b ∷ [])

one_left : (P : List ℕ → Type 0) (text : List ℕ) (at : ℕ) → at + 1 ≡ length text → OfOne P → P (drop at text)
one_left P text at e h =
    subst P (sym (one text at (omega arith) ∙ ap (λ xs. get_or text at 0 ∷ xs) (drop_all (at + 1) text (omega arith)))) (h (get_or text at 0))

pub last_begins : (kind : Comments) (text : List ℕ) (at : ℕ) → at + 1 ≡ length text → begins_comment kind (drop at text) ≡ false
last_begins kind text at e = one_left (λ xs. begins_comment kind xs ≡ false) text at e (λ b. refl)

pub last_length : (kind : Comments) (text : List ℕ) (at : ℕ) → at + 1 ≡ length text → first_length kind (drop at text) ≡ 1
last_length Spef text at e = one_left (λ xs. piece_length xs ≡ 1) text at e (λ b. refl)
last_length Liberty text at e = one_left (λ xs. liberty_piece_length xs ≡ 1) text at e (λ b. refl)
