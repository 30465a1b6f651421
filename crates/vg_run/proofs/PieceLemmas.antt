-- Pieces that are appended to a draft one after another.
use Rattle.std.proofs.Common.{◌≡◌, ◌+◌, ◌≤◌, ℕ, List, [], ◌++◌, length, take, Option, Some, None, option_map, refl, sym, ap, subst, ◌∙◌, arith, append_assoc, length-append}
use Rattle.std.proofs.Math.Seq.{take-append-add}
use Rattle.std.proofs.lemmas.Grind.{common_steps}
use Rattle.std.proofs.lemmas.List.{take-append-le}
use Rattle.vg_store.specs.States.{FilesState}
use Rattle.vg_store.specs.Writing.{DraftGains, DraftGainsPrefix}

appended_two : (old mid new : Option (List ℕ)) (xs ys : List ℕ) → mid ≡ option_map (λ held. held ++ xs) old → new ≡ option_map (λ held. held ++ ys) mid
    → new ≡ option_map (λ held. held ++ (xs ++ ys)) old
appended_two None None new xs ys first second = second
appended_two None (Some mid) new xs ys first second = absurd (cc)
appended_two (Some old) None new xs ys first second = absurd (cc)
appended_two (Some old) (Some mid) new xs ys first second = let regroup = append_assoc old xs ys in cc

-- a draft that gains these bytes and then those gains both
pub gains_both : (old mid new : FilesState) (xs ys : List ℕ) → DraftGains old mid xs → DraftGains mid new ys → DraftGains old new (xs ++ ys)
gains_both old mid new xs ys first second = record {
  appended = appended_two old.draft mid.draft new.draft xs ys first.appended second.appended;
  kept = λ file. second.kept file ∙ first.kept file;
  same_drafts = second.same_drafts ∙ first.same_drafts;
}

front_of : (xs ys rest : List ℕ) (k : ℕ) → k ≤ length ys → xs ++ take k ys ≡ take (length xs + k) (xs ++ (ys ++ rest))
front_of xs ys rest k short = ap (λ (zs : List ℕ). xs ++ zs) (sym (take-append-le k ys rest short)) ∙ sym (take-append-add xs (ys ++ rest) k)

-- one that gains these bytes and then some first ones of those, which come next in a text, gains some first bytes of
-- the text
pub gains_front : (old mid new : FilesState) (xs ys rest text : List ℕ) → xs ++ (ys ++ rest) ≡ text → DraftGains old mid xs
    → DraftGainsPrefix mid new ys → DraftGainsPrefix old new text
gains_front old mid new xs ys rest text is first (k, short, second) =
    let long = ap length is in
    let longer = length-append xs (ys ++ rest) in
    let more = length-append ys rest in (
      length xs + k,
      omega (arith, long, longer, more),
      subst (DraftGains old new) (front_of xs ys rest k short ∙ ap (take (length xs + k)) is) (gains_both old mid new xs (take k ys) first second),
    )

-- one that gains these bytes and then some first ones of the last, gains some first bytes of both
pub gains_last : (old mid new : FilesState) (xs ys : List ℕ) → DraftGains old mid xs → DraftGainsPrefix mid new ys → DraftGainsPrefix old new (xs ++ ys)
gains_last old mid new xs ys first second =
    let ends : ys ++ [] ≡ ys = grind (arith, common_steps) in
    gains_front old mid new xs ys [] (xs ++ ys) (ap (λ (zs : List ℕ). xs ++ zs) ends) first second

-- a draft gains nothing at first
pub gains_none : (files : FilesState) → DraftGains files files []
gains_none files = record { appended = nothing files.draft; kept = λ file. refl; same_drafts = refl }
  where
    nothing : (file : Option (List ℕ)) → file ≡ option_map (λ held. held ++ []) file
    nothing None = refl
    nothing (Some held) = grind (arith, common_steps)

-- what was written, what waits and what is left make the same text, where a piece is gathered and more is written
pub moved_on : (done more waiting piece waits left : List ℕ) → waiting ++ piece ≡ more ++ waits → (done ++ more) ++ (waits ++ left) ≡ done ++ (waiting ++ (piece ++ left))
moved_on done more waiting piece waits left same =
    let first = append_assoc done more (waits ++ left) in
    let second = append_assoc more waits left in
    let third = append_assoc waiting piece left in
    let fourth = ap (λ (front : List ℕ). done ++ (front ++ left)) same in
    cc
