-- Texts that stand one after another.
use Rattle.std.proofs.Common.{◌≡◌, ℕ, zero, suc, ◌+◌, ◌-◌, ◌<◌, ◌≤◌, List, [], ◌∷◌, ◌++◌, length, take, drop, get_or, arith, refl, sym, subst, ap, ◌∙◌, length-drop, length-take}
use Rattle.std.proofs.lemmas.List.{take-append-le, drop-append-le, take-append-drop}
use Rattle.std.proofs.Math.Seq.{drop-append_seam, take-length}
use Rattle.vg_scan.specs.Lines.{part}
use Rattle.name_tables.specs.Texts.{texts_of, start_of, AreEnds}

pub length-texts_of : (bytes : List ℕ) (from : ℕ) (ends : List ℕ) → length (texts_of bytes from ends) ≡ length ends
unfolding texts_of
length-texts_of bytes from [] = refl
length-texts_of bytes from (end ∷ ends) = ap suc (length-texts_of bytes end ends)

pub first_end : (from : ℕ) (ends : List ℕ) (whole : ℕ) → AreEnds from ends whole → from ≤ whole
unfolding AreEnds
first_end from [] whole h = omega (arith, h)
first_end from (end ∷ ends) whole h = let more = first_end end ends whole h.1 in omega (arith, h.0, more)

-- a text begins before it ends, and ends within all bytes
pub ordered : (from : ℕ) (ends : List ℕ) (whole at : ℕ) → AreEnds from ends whole → at < length ends → (start_of from ends at ≤ get_or ends at 0) × (get_or ends at 0 ≤ whole)
unfolding AreEnds
ordered from [] whole at h l = absurd (omega (arith, l))
ordered from (end ∷ ends) whole zero h l = (h.0, first_end end ends whole h.1)
ordered from (end ∷ ends) whole (suc zero) h l = ordered end ends whole zero h.1 (omega (arith, l))
ordered from (end ∷ ends) whole (suc (suc at)) h l = ordered end ends whole (suc at) h.1 (omega (arith, l))

pub get-texts_of : (bytes : List ℕ) (from : ℕ) (ends : List ℕ) (at : ℕ) → at < length ends → get_or (texts_of bytes from ends) at [] ≡ part bytes (start_of from ends at) (get_or ends at 0)
unfolding texts_of
get-texts_of bytes from [] at l = absurd (omega (arith, l))
get-texts_of bytes from (end ∷ ends) zero l = refl
get-texts_of bytes from (end ∷ ends) (suc zero) l = get-texts_of bytes end ends zero (omega (arith, l))
get-texts_of bytes from (end ∷ ends) (suc (suc at)) l = get-texts_of bytes end ends (suc at) (omega (arith, l))

-- a part stays where bytes are appended
part_stays : (bytes more : List ℕ) (from to : ℕ) → from ≤ to → to ≤ length bytes → part (bytes ++ more) from to ≡ part bytes from to
part_stays bytes more from to low high =
    ap (take (to - from)) (drop-append-le from bytes more (omega arith))
    ∙ take-append-le (to - from) (drop from bytes) more (omega (arith, length-drop from bytes))

-- the bytes that are appended are the last text
part_new : (bytes more : List ℕ) → part (bytes ++ more) (length bytes) (length bytes + length more) ≡ more
part_new bytes more =
    let count : length bytes + length more - length bytes ≡ length more = omega arith in
    ap (λ n. take n (drop (length bytes) (bytes ++ more))) count ∙ ap (take (length more)) (drop-append_seam bytes more) ∙ take-length more

pub texts_more : (bytes more : List ℕ) (from : ℕ) (ends : List ℕ) → AreEnds from ends (length bytes) → texts_of (bytes ++ more) from (ends ++ (length bytes + length more) ∷ []) ≡ texts_of bytes from ends ++ more ∷ []
unfolding texts_of AreEnds
texts_more bytes more from [] h = ap (λ m. part (bytes ++ more) m (length bytes + length more) ∷ []) h ∙ ap (λ t. t ∷ []) (part_new bytes more)
texts_more bytes more from (end ∷ ends) h =
    ap (λ t. t ∷ texts_of (bytes ++ more) end (ends ++ (length bytes + length more) ∷ [])) (part_stays bytes more from end h.0 (first_end end ends (length bytes) h.1))
    ∙ ap (λ ts. part bytes from end ∷ ts) (texts_more bytes more end ends h.1)

pub ends_more : (from : ℕ) (ends : List ℕ) (whole more : ℕ) → AreEnds from ends whole → AreEnds from (ends ++ (whole + more) ∷ []) (whole + more)
unfolding AreEnds
ends_more from [] whole more h = (omega (arith, h), refl)
ends_more from (end ∷ ends) whole more h = (h.0, ends_more end ends whole more h.1)

-- the first texts, of the bytes up to their end

ends_front : (from : ℕ) (ends : List ℕ) (whole n : ℕ) → AreEnds from ends whole → n ≤ length ends → AreEnds from (take n ends) (start_of from ends n)
unfolding AreEnds
ends_front from ends whole zero h l = refl
ends_front from [] whole (suc n) h l = absurd (omega (arith, l))
ends_front from (end ∷ ends) whole (suc zero) h l = (h.0, refl)
ends_front from (end ∷ ends) whole (suc (suc n)) h l = (h.0, ends_front end ends whole (suc n) h.1 (omega (arith, l)))

texts_stay : (bytes more : List ℕ) (from : ℕ) (ends : List ℕ) (whole : ℕ) → AreEnds from ends whole → whole ≤ length bytes → texts_of (bytes ++ more) from ends ≡ texts_of bytes from ends
unfolding texts_of AreEnds
texts_stay bytes more from [] whole h l = refl
texts_stay bytes more from (end ∷ ends) whole h l =
    ap (λ t. t ∷ texts_of (bytes ++ more) end ends) (part_stays bytes more from end h.0 (let last = first_end end ends whole h.1 in omega (arith, last, l)))
    ∙ ap (λ ts. part bytes from end ∷ ts) (texts_stay bytes more end ends whole h.1 l)

texts_take : (bytes : List ℕ) (from : ℕ) (ends : List ℕ) (n : ℕ) → texts_of bytes from (take n ends) ≡ take n (texts_of bytes from ends)
unfolding texts_of
texts_take bytes from ends zero = refl
texts_take bytes from [] (suc n) = refl
texts_take bytes from (end ∷ ends) (suc n) = ap (λ ts. part bytes from end ∷ ts) (texts_take bytes end ends n)

-- where the text of this number begins is within all bytes
pub start_within : (ends : List ℕ) (whole n : ℕ) → AreEnds 0 ends whole → n < length ends → start_of 0 ends n ≤ whole
start_within ends whole n h l = (let o = ordered 0 ends whole n h l in omega (arith, o.0, o.1))

pub texts_front : (bytes ends : List ℕ) (n : ℕ) → AreEnds 0 ends (length bytes) → n < length ends
    → AreEnds 0 (take n ends) (length (take (start_of 0 ends n) bytes)) × (texts_of (take (start_of 0 ends n) bytes) 0 (take n ends) ≡ take n (texts_of bytes 0 ends))
texts_front bytes ends n h l =
    let m = start_of 0 ends n in
    let within : m ≤ length bytes = start_within ends (length bytes) n h l in
    let count : length (take m bytes) ≡ m = omega (arith, length-take m bytes, within) in
    let front : AreEnds 0 (take n ends) m = ends_front 0 ends (length bytes) n h (omega (arith, l)) in (
      subst (λ k. AreEnds 0 (take n ends) k) (sym count) front,
      sym (texts_stay (take m bytes) (drop m bytes) 0 (take n ends) m front (omega (arith, count)))
          ∙ ap (λ bs. texts_of bs 0 (take n ends)) (take-append-drop m bytes)
          ∙ texts_take bytes 0 ends n,
    )
