-- Pieces that are written to a draft one after another, and drafts that are published.
use Rattle.std.proofs.Common.{◌≡◌, ◌≢◌, ◌+◌, ◌≤◌, ℕ, List, [], ◌++◌, length, take, drop, Option, Some, None, IfSome, IsSome, option_map, refl, sym, ap, subst, ◌∙◌, arith, append_assoc, length-drop}
use Rattle.std.proofs.Math.Seq.{take-add}
use Rattle.std.proofs.lemmas.Grind.{common_steps}
use Rattle.vg_store.specs.States.{Draft, FilesState, KeepsReading, this_draft}
use Rattle.vg_store.specs.Writing.{BeginsWriting, DraftGains, DraftGainsPrefix, FilesStay, IsDraftOf, Publishes}
use Rattle.vg_store.proofs.PieceLemmas.{rest_of, rest_of-drop}

appended_none : (file : Option (List ℕ)) (bytes : List ℕ) → file ≡ option_map (λ held. held ++ take 0 bytes) file
appended_none None bytes = refl
appended_none (Some held) bytes = let f : held ≡ held ++ take 0 bytes = grind (arith, common_steps) in ap (λ l. Some l) f

appended_two : (old mid new : Option (List ℕ)) (n k : ℕ) (bytes : List ℕ) → mid ≡ option_map (λ held. held ++ take n bytes) old
    → new ≡ option_map (λ held. held ++ take k (drop n bytes)) mid → new ≡ option_map (λ held. held ++ take (n + k) bytes) old
appended_two None None new n k bytes first second = second
appended_two None (Some mid) new n k bytes first second = absurd (cc)
appended_two (Some old) None new n k bytes first second = absurd (cc)
appended_two (Some old) (Some mid) new n k bytes first second =
    let split : take (n + k) bytes ≡ take n bytes ++ take k (drop n bytes) = take-add n k bytes in
    let regroup = append_assoc old (take n bytes) (take k (drop n bytes)) in
    cc

-- a file gains nothing at first
pub gains_none : (files : FilesState) (bytes : List ℕ) → DraftGains files files (take 0 bytes)
gains_none files bytes = record {
  appended = appended_none files.draft bytes;
  kept = λ file. refl;
  same_drafts = refl;
}

-- where the draft, all files and the drafts that wait stay, it has gained a prefix
pub gains_nothing : (old new : FilesState) (bytes : List ℕ) → new.draft ≡ old.draft → FilesStay old new → new.drafts ≡ old.drafts → DraftGainsPrefix old new bytes
gains_nothing old new bytes same kept waiting = (
  0,
  omega arith,
  record { appended = same ∙ appended_none old.draft bytes; kept = kept; same_drafts = waiting },
)

-- what two pieces in a row gain
pub gains_next : (old mid new : FilesState) (n k : ℕ) (bytes : List ℕ) → DraftGains old mid (take n bytes) → DraftGains mid new (take k (rest_of n bytes))
    → DraftGains old new (take (n + k) bytes)
gains_next old mid new n k bytes first second = record {
  appended = appended_two old.draft mid.draft new.draft n k bytes first.appended (rw (rest_of-drop n bytes) at second.appended);
  kept = λ file. second.kept file ∙ first.kept file;
  same_drafts = second.same_drafts ∙ first.same_drafts;
}

-- a prefix of the second piece
pub gains_then_prefix : (old mid new : FilesState) (n : ℕ) (bytes : List ℕ) → n ≤ length bytes → DraftGains old mid (take n bytes)
    → DraftGainsPrefix mid new (rest_of n bytes) → DraftGainsPrefix old new bytes
gains_then_prefix old mid new n bytes within first (k, short, second) =
    let length_same = ap length (rest_of-drop n bytes) in
    (n + k, omega (arith, length-drop n bytes), gains_next old mid new n k bytes first second)

-- reading stays in two calls in a row
pub keeps_two : (old mid new : FilesState) → KeepsReading old mid → KeepsReading mid new → KeepsReading old new
keeps_two old mid new first second = record {
  same_faults = second.same_faults ∙ first.same_faults;
  same_blame = second.same_blame ∙ first.same_blame;
  same_source = second.same_source ∙ first.same_source;
  same_taken = second.same_taken ∙ first.same_taken;
  same_reading = second.same_reading ∙ first.same_reading;
}

-- a file of another name is not the one that is written
other_file : (target : Option (List ℕ)) (name other : List ℕ) → IfSome target (λ told. told ≡ name) → other ≢ name → target ≢ Some other
other_file None name other named differs = λ e. absurd (cc)
other_file (Some told) name other named differs = λ e. differs (let same : told ≡ other = cc in sym same ∙ named)

only_these : (bytes : List ℕ) (old new : Option (List ℕ)) → IfSome old (λ held. held ≡ []) → new ≡ option_map (λ held. held ++ bytes) old → IfSome new (λ held. held ≡ bytes)
only_these bytes None new empty gained = subst (λ (o : Option (List ℕ)). IfSome o (λ held. held ≡ bytes)) (sym gained) tt
only_these bytes (Some held) new empty gained = subst (λ (o : Option (List ℕ)). IfSome o (λ l. l ≡ bytes)) (sym gained) (ap (λ l. l ++ bytes) empty)

-- a draft that was begun and then gained these bytes is one of this file with them
pub draft_of_these : (name bytes : List ℕ) (old begun mid : FilesState) → BeginsWriting name begun → FilesStay old begun → mid.target ≡ begun.target → DraftGains begun mid bytes
    → IsDraftOf old name bytes (this_draft mid)
draft_of_these name bytes old begun mid is kept same gained = record {
  named = subst (λ (o : Option (List ℕ)). IfSome o (λ told. told ≡ name)) (sym same) is.named;
  told = λ told. subst (λ (o : Option (List ℕ)). IsSome o) (sym same) (is.told (subst (λ (o : Option (List ℕ)). IsSome o) (sym (kept name)) told));
  whole = only_these bytes begun.draft mid.draft is.empty gained.appended;
}

-- a file of which a draft was published holds what was drafted, where it is told
pub published_holds : (name bytes : List ℕ) (mid old new : FilesState) (draft : Draft) → IsDraftOf mid name bytes draft → old.holds name ≡ mid.holds name → Publishes old new draft
    → IfSome (new.holds name) (λ held. held ≡ bytes)
published_holds name bytes mid old new draft is same published =
    by draft.name refl
  where
    if_told : (file : Option (List ℕ)) → (IsSome file → ⊥) → IfSome file (λ held. held ≡ bytes)
    if_told None never = tt
    if_told (Some held) never = absurd (never refl)

    none_named : draft.name ≡ None → IsSome (new.holds name) → ⊥
    none_named none told =
        let stays : new.holds name ≡ mid.holds name = published.others name (λ e. absurd (cc)) ∙ same in
        let named : IsSome draft.name = is.told (subst (λ (o : Option (List ℕ)). IsSome o) stays told) in
        absurd (cc)

    by : (o : Option (List ℕ)) → draft.name ≡ o → IfSome (new.holds name) (λ held. held ≡ bytes)
    by None none = if_told (new.holds name) (none_named none)
    by (Some told) some =
        let its : told ≡ name = subst (λ (o : Option (List ℕ)). IfSome o (λ told. told ≡ name)) some is.named in
        let holds : new.holds name ≡ draft.bytes = published.whole name (some ∙ ap (λ l. Some l) its) in
        subst (λ (o : Option (List ℕ)). IfSome o (λ held. held ≡ bytes)) (sym holds) is.whole

-- and other files stay
pub published_others : (name bytes : List ℕ) (mid old new : FilesState) (draft : Draft) → IsDraftOf mid name bytes draft → Publishes old new draft
    → (other : List ℕ) → other ≢ name → new.holds other ≡ old.holds other
published_others name bytes mid old new draft is published other differs = published.others other (other_file draft.name name other is.named differs)

-- what is blamed is the file of this name
pub blamed_by_name : (target blame : Option (List ℕ)) (name : List ℕ) → IfSome target (λ told. told ≡ name) → IfSome blame (λ blamed. target ≡ Some blamed) → IfSome blame (λ blamed. blamed ≡ name)
blamed_by_name target None name named is = tt
blamed_by_name None (Some blamed) name named is = absurd (cc)
blamed_by_name (Some told) (Some blamed) name named is = let same : told ≡ blamed = cc in sym same ∙ named
