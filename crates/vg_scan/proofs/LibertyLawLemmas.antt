-- The laws of comments in libraries.
use Rattle.std.proofs.Common.{◌≡◌, ℕ, zero, suc, ◌≤◌, Bool, true, false, ◌⊎◌, inl, List, [], ◌∷◌, ◌++◌, map, length, take, drop, refl, ap, subst, ◌∙◌, arith, length-drop, cond}
use Rattle.std.specs.List.{flat_map, concat, AllZip}
use Rattle.std.proofs.lemmas.List.{take-append-drop}
use Rattle.std.proofs.lemmas.Bool.Decides.{nat_tests}
use Rattle.vg_scan.specs.Comments.{blanked, StaysOrBlanks}
use Rattle.vg_scan.specs.LibertyComments.{liberty_piece_length, some_liberty_pieces, liberty_pieces, is_block, unblocked, without_liberty_comments}
use Rattle.vg_scan.proofs.LibertyLemmas.{some}

some_joined : (n : ℕ) (text : List ℕ) → length text ≤ n → concat (some_liberty_pieces n text) ≡ text
unfolding some_liberty_pieces
some_joined zero [] l = refl
some_joined zero (b ∷ bs) l = absurd (omega arith)
some_joined (suc n) [] l = refl
some_joined (suc n) (b ∷ bs) l =
    let k = liberty_piece_length (b ∷ bs) in
    ap (λ xs. take k (b ∷ bs) ++ xs) (some_joined n (drop k (b ∷ bs)) (omega (arith, length-drop k (b ∷ bs), some b bs))) ∙ take-append-drop k (b ∷ bs)

-- a text is its pieces, one after another
pub concat-liberty_pieces : (text : List ℕ) → concat (liberty_pieces text) ≡ text
unfolding liberty_pieces
concat-liberty_pieces text = some_joined (length text) text (omega arith)

blanked_fits : (b : ℕ) → (blanked b ≡ b) ⊎ ((b ≡ 10 → ⊥) × (blanked b ≡ 32))
blanked_fits b = grind (arith, nat_tests)

all_fit : (bs : List ℕ) → AllZip StaysOrBlanks bs (map blanked bs)
all_fit [] = tt
all_fit (b ∷ bs) = (blanked_fits b, all_fit bs)

all_stay : (bs : List ℕ) → AllZip StaysOrBlanks bs bs
all_stay [] = tt
all_stay (b ∷ bs) = (inl refl, all_stay bs)

piece_fits : (piece : List ℕ) → AllZip StaysOrBlanks piece (unblocked piece)
piece_fits piece = by_test (is_block piece)
  where
    by_test : (t : Bool) → AllZip StaysOrBlanks piece (cond t (map blanked piece) piece)
    by_test true = all_fit piece
    by_test false = all_stay piece

zip_append : (xs us ys vs : List ℕ) → AllZip StaysOrBlanks xs us → AllZip StaysOrBlanks ys vs → AllZip StaysOrBlanks (xs ++ ys) (us ++ vs)
zip_append [] [] ys vs h k = k
zip_append [] (u ∷ us) ys vs h k = absurd h
zip_append (x ∷ xs) [] ys vs h k = absurd h
zip_append (x ∷ xs) (u ∷ us) ys vs h k = (h.0, zip_append xs us ys vs h.1 k)

some_fit : (n : ℕ) (text : List ℕ) → length text ≤ n → AllZip StaysOrBlanks text (flat_map unblocked (some_liberty_pieces n text))
unfolding some_liberty_pieces
some_fit zero [] l = tt
some_fit zero (b ∷ bs) l = absurd (omega arith)
some_fit (suc n) [] l = tt
some_fit (suc n) (b ∷ bs) l =
    let k = liberty_piece_length (b ∷ bs) in
    let rest = flat_map unblocked (some_liberty_pieces n (drop k (b ∷ bs))) in
    subst (λ xs. AllZip StaysOrBlanks xs (unblocked (take k (b ∷ bs)) ++ rest)) (take-append-drop k (b ∷ bs))
    (zip_append (take k (b ∷ bs)) (unblocked (take k (b ∷ bs))) (drop k (b ∷ bs)) rest (piece_fits (take k (b ∷ bs)))
    (some_fit n (drop k (b ∷ bs)) (omega (arith, length-drop k (b ∷ bs), some b bs))))

-- only bytes of comments become another
pub comments_blank_alone : (text : List ℕ) → AllZip StaysOrBlanks text (without_liberty_comments text)
unfolding without_liberty_comments liberty_pieces
comments_blank_alone text = some_fit (length text) text (omega arith)

pub zip_length : (xs us : List ℕ) → AllZip StaysOrBlanks xs us → length us ≡ length xs
zip_length [] [] h = refl
zip_length [] (u ∷ us) h = absurd h
zip_length (x ∷ xs) [] h = absurd h
zip_length (x ∷ xs) (u ∷ us) h = ap suc (zip_length xs us h.1)
