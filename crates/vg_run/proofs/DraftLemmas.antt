-- Drafts that are made one after another, and then published.
use Rattle.std.proofs.Common.{◌≡◌, ◌≢◌, ℕ, ◌<◌, List, [], ◌∷◌, ◌++◌, length, refl, sym, ap, ◌∙◌, subst, arith, Option, Some, None, IfSome, IsSome}
use Rattle.vg_store.specs.States.{Draft, FilesState, first_name}
use Rattle.vg_store.specs.Writing.{FilesStay, IsDraftOf}
use Rattle.vg_store.proofs.FileLemmas.{blamed_by_name, published_holds, published_others}
use Rattle.vg_words.specs.declared.ask.Ask.{Ask}
use Rattle.vg_answer.specs.Answers.{Written}
use Rattle.vg_run.specs.Drafts.{AreDrafts, FirstIsFor, PublishesFor, WaitsFor}
use Rattle.vg_run.specs.Run.{HoldsAt, StaysAt, output_name}

-- a draft of a file is one still where the file stayed
still_draft : (old new : FilesState) (name text : List ℕ) (draft : Draft) → new.holds name ≡ old.holds name → IsDraftOf old name text draft → IsDraftOf new name text draft
still_draft old new name text draft same is = record {
  named = is.named;
  told = λ told. is.told (subst (λ (o : Option (List ℕ)). IsSome o) same told);
  whole = is.whole;
}

first_still : (old new : FilesState) (name : Option (List ℕ)) (text : List ℕ) (Behind More : List Draft → Type 0) (drafts : List Draft) → FilesStay old new
    → ((behind : List Draft) → Behind behind → More behind) → FirstIsFor old name text Behind drafts → FirstIsFor new name text More drafts
first_still old new None text Behind More drafts kept more first = more drafts first
first_still old new (Some name) text Behind More drafts kept more (draft, behind, are, is, rest) =
    (draft, behind, are, still_draft old new name text draft (kept name) is, more behind rest)

-- they are drafts still where all files stayed
pub still_drafts : (old new : FilesState) (ask : Ask) (said : List Written) (drafts : List Draft) → FilesStay old new → AreDrafts old ask said drafts → AreDrafts new ask said drafts
still_drafts old new ask [] drafts kept are = are
still_drafts old new ask (w ∷ said) drafts kept are =
    first_still old new (output_name ask w.output) w.text (λ behind. AreDrafts old ask said behind) (λ behind. AreDrafts new ask said behind) drafts kept
    (λ behind rest. still_drafts old new ask said behind kept rest) are

first_then : (files : FilesState) (name : Option (List ℕ)) (text : List ℕ) (Behind More : List Draft → Type 0) (drafts more : List Draft) → ((behind : List Draft) → Behind behind → More (behind ++ more))
    → FirstIsFor files name text Behind drafts → FirstIsFor files name text More (drafts ++ more)
first_then files None text Behind More drafts more then first = then drafts first
first_then files (Some name) text Behind More drafts more then (draft, behind, are, is, rest) =
    (draft, behind ++ more, ap (λ (ds : List Draft). ds ++ more) are, is, then behind rest)

-- drafts of a list and of one more file
drafts_then : (files : FilesState) (ask : Ask) (w : Written) (said : List Written) (drafts more : List Draft) → AreDrafts files ask said drafts → AreDrafts files ask (w ∷ []) more
    → AreDrafts files ask (said ++ w ∷ []) (drafts ++ more)
drafts_then files ask w [] drafts more none one = subst (λ (ds : List Draft). AreDrafts files ask (w ∷ []) (ds ++ more)) (sym none) one
drafts_then files ask w (v ∷ said) drafts more are one =
    first_then files (output_name ask v.output) v.text (λ behind. AreDrafts files ask said behind) (λ behind. AreDrafts files ask (said ++ w ∷ []) behind) drafts more
    (λ behind rest. drafts_then files ask w said behind more rest one) are

append_none : (drafts : List Draft) → drafts ++ [] ≡ drafts
append_none [] = refl
append_none (draft ∷ drafts) = ap (λ (ds : List Draft). draft ∷ ds) (append_none drafts)

-- what waits after one more file
one_more : (start mid new : FilesState) (name : Option (List ℕ)) (text : List ℕ) → FilesStay start mid → WaitsFor (mid, new) name text
    → (more : List Draft) × (new.drafts ≡ mid.drafts ++ more) × FirstIsFor start name text (λ behind. behind ≡ []) more
one_more start mid new None text kept same = ([], same ∙ sym (append_none mid.drafts), refl)
one_more start mid new (Some name) text kept (draft, are, is) =
    (draft ∷ [], are, (draft, [], refl, still_draft mid start name text draft (sym (kept name)) is, refl))

pub drafts_more : (start mid new : FilesState) (ask : Ask) (said : List Written) (w : Written) → FilesStay start mid → AreDrafts start ask said mid.drafts
    → WaitsFor (mid, new) (output_name ask w.output) w.text → AreDrafts start ask (said ++ w ∷ []) new.drafts
drafts_more start mid new ask said w kept are waits =
    let (more, same, one) = one_more start mid new (output_name ask w.output) w.text kept waits in
    subst (AreDrafts start ask (said ++ w ∷ [])) (sym same) (drafts_then start ask w said mid.drafts more are one)

-- a file has a draft first where it has a name
pub first_waits : (start : FilesState) (name : Option (List ℕ)) (text : List ℕ) (Behind : List Draft → Type 0) (drafts : List Draft) → FirstIsFor start name text Behind drafts → IsSome name → 0 < length drafts
first_waits start None text Behind drafts first named = absurd (cc)
first_waits start (Some name) text Behind drafts (draft, behind, are, is, rest) named = subst (λ (ds : List Draft). 0 < length ds) (sym are) (omega arith)

-- and what is blamed is that file
pub first_blamed : (start : FilesState) (name : Option (List ℕ)) (text : List ℕ) (Behind : List Draft → Type 0) (drafts : List Draft) (blame : Option (List ℕ)) → FirstIsFor start name text Behind drafts → IsSome name
    → IfSome blame (λ blamed. first_name drafts ≡ Some blamed) → IfSome blame (λ blamed. name ≡ Some blamed)
first_blamed start None text Behind drafts blame first named is = absurd (cc)
first_blamed start (Some name) text Behind drafts None first named is = tt
first_blamed start (Some name) text Behind drafts (Some blamed) (draft, behind, are, is_draft, rest) named is =
    let its : first_name drafts ≡ draft.name = ap first_name are in
    ap (λ (l : List ℕ). Some l) (sym (blamed_by_name draft.name (Some blamed) name is_draft.named (sym its ∙ is)))

module _ (start mid new : FilesState) (text : List ℕ) (Behind : List Draft → Type 0) where
  -- one is published: it holds its text, the others stay, and those behind it wait
  pub published_one : (name : Option (List ℕ)) → StaysAt (start, mid) name → FirstIsFor start name text Behind mid.drafts → PublishesFor (mid, new) name
      → HoldsAt new name text × ((file : List ℕ) → name ≢ Some file → new.holds file ≡ mid.holds file) × Behind new.drafts
  published_one None stays first (same, kept) = (tt, λ file _. kept file, subst Behind (sym same) first)
  published_one (Some name) stays (draft, behind, are, is, rest) (its, published) =
      let lists : draft ∷ behind ≡ its ∷ new.drafts = sym are ∙ published.oldest in
      let one : draft ≡ its = cc in
      let left : behind ≡ new.drafts = cc in
      let is_its : IsDraftOf start name text its = subst (λ (d : Draft). IsDraftOf start name text d) one is in (
        published_holds name text start mid new its is_its (stays name refl) published,
        λ file differs. published_others name text start mid new its is_its published file (λ e. differs (ap (λ (l : List ℕ). Some l) (sym e))),
        subst Behind left rest,
      )
