-- Notes and their texts.
use Rattle.std.proofs.Common.{◌≡◌, ℕ, zero, suc, ◌≤◌, Bool, true, false, cond, List, [], ◌∷◌, ◌++◌, length, get_or, map, refl, sym, ap, ◌∙◌, subst, arith, eqb}
use Rattle.std.proofs.Math.ListN.{get_or-append}
use Rattle.std.proofs.Math.Seq.{get_or-append_seam}
use Rattle.spef_nodes.specs.declared.notes.Mark.{Mark}
use Rattle.spef_nodes.specs.declared.notes.Mark.TheVariants.{Fresh, Joined, Starred}
use Rattle.spef_nodes.specs.Nodes.{Note, joined, starred, note_at}
use Rattle.spef_nodes.specs.Notes.{note_in, IsMark, AreMarks}

-- what is noted at a number, by its mark
pub note_of_mark : (texts : List (List ℕ)) (marks : List Mark) (i : ℕ) → note_at (map (note_in texts) marks) i ≡ note_in texts (get_or marks i Fresh)
note_of_mark texts [] i = refl
note_of_mark texts (m ∷ ms) zero = refl
note_of_mark texts (m ∷ ms) (suc i) = note_of_mark texts ms i

-- a mark, with one text more
pub mark_stays : (texts : List (List ℕ)) (text : List ℕ) (m : Mark) → IsMark (length texts) m → note_in (texts ++ text ∷ []) m ≡ note_in texts m
mark_stays texts text Fresh h = refl
mark_stays texts text (Joined id) h = ap joined (get_or-append texts (text ∷ []) [] id h)
mark_stays texts text (Starred id) h = ap starred (get_or-append texts (text ∷ []) [] id h)

mark_more : (n m : ℕ) (mark : Mark) → n ≤ m → IsMark n mark → IsMark m mark
mark_more n m Fresh l h = tt
mark_more n m (Joined id) l h = omega (arith, h)
mark_more n m (Starred id) l h = omega (arith, h)

-- marks that stay, with one text more or the same texts
pub marks_more : (n m : ℕ) (old new : List Mark) → n ≤ m → ((i : ℕ) → get_or new i Fresh ≡ get_or old i Fresh) → AreMarks n old → AreMarks m new
marks_more n m old new l same h = λ i. subst (λ k. IsMark m k) (sym (same i)) (mark_more n m (get_or old i Fresh) l (h i))

mark_if : (n m : ℕ) (b : Bool) (mark other : Mark) → IsMark m mark → IsMark n other → n ≤ m → IsMark m (cond b mark other)
mark_if n m true mark other h k l = h
mark_if n m false mark other h k l = mark_more n m other l k

pub marks_put : (n m at : ℕ) (old new : List Mark) (mark : Mark) → n ≤ m → ((i : ℕ) → get_or new i Fresh ≡ cond (eqb i at) mark (get_or old i Fresh)) → IsMark m mark → AreMarks n old → AreMarks m new
marks_put n m at old new mark l put k h = λ i. subst (λ x. IsMark m x) (sym (put i)) (mark_if n m (eqb i at) mark (get_or old i Fresh) k (h i) l)

note_if : (texts : List (List ℕ)) (text : List ℕ) (b : Bool) (mark other : Mark) → IsMark (length texts) other → note_in (texts ++ text ∷ []) (cond b mark other) ≡ cond b (note_in (texts ++ text ∷ []) mark) (note_in texts other)
note_if texts text true mark other h = refl
note_if texts text false mark other h = mark_stays texts text other h

-- what is noted after a mark was put
pub notes_put : (texts new_texts : List (List ℕ)) (text : List ℕ) (old new : List Mark) (at : ℕ) (mark : Mark) (note : Note) → new_texts ≡ texts ++ text ∷ []
    → ((i : ℕ) → get_or new i Fresh ≡ cond (eqb i at) mark (get_or old i Fresh)) → AreMarks (length texts) old → note_in (texts ++ text ∷ []) mark ≡ note
    → (notes : List Note) → map (note_in texts) old ≡ notes → (i : ℕ) → note_at (map (note_in new_texts) new) i ≡ cond (eqb i at) note (note_at notes i)
notes_put texts new_texts text old new at mark note e put h is notes v i =
    ap (λ ts. note_at (map (note_in ts) new) i) e ∙ note_of_mark (texts ++ text ∷ []) new i ∙ ap (note_in (texts ++ text ∷ [])) (put i)
    ∙ note_if texts text (eqb i at) mark (get_or old i Fresh) (h i)
    ∙ ap (λ n. cond (eqb i at) n (note_in texts (get_or old i Fresh))) is
    ∙ ap (λ n. cond (eqb i at) note n) (sym (note_of_mark texts old i) ∙ ap (λ ns. note_at ns i) v)

-- what is noted after a text was added and no mark
pub notes_same : (texts new_texts : List (List ℕ)) (text : List ℕ) (old new : List Mark) → new_texts ≡ texts ++ text ∷ []
    → ((i : ℕ) → get_or new i Fresh ≡ get_or old i Fresh) → AreMarks (length texts) old
    → (notes : List Note) → map (note_in texts) old ≡ notes → (i : ℕ) → note_at (map (note_in new_texts) new) i ≡ note_at notes i
notes_same texts new_texts text old new e same h notes v i =
    ap (λ ts. note_at (map (note_in ts) new) i) e ∙ note_of_mark (texts ++ text ∷ []) new i ∙ ap (note_in (texts ++ text ∷ [])) (same i)
    ∙ mark_stays texts text (get_or old i Fresh) (h i)
    ∙ sym (note_of_mark texts old i) ∙ ap (λ ns. note_at ns i) v

pub text_is : (texts : List (List ℕ)) (text : List ℕ) (id : ℕ) → id ≡ length texts → get_or (texts ++ text ∷ []) id [] ≡ text
text_is texts text id e = ap (λ k. get_or (texts ++ text ∷ []) k []) e ∙ get_or-append_seam texts text [] []
