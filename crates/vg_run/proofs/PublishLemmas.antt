-- One of the files of an answer, by its place: its draft, and what holds once it is published.
use Rattle.std.proofs.Common.{◌≡◌, ℕ, ◌+◌, ◌<◌, ◌≤◌, List, [], ◌∷◌, ◌++◌, get_or, length, map, suc, take, ap, sym, ◌∙◌, subst, arith, IsSome, Some}
use Rattle.std.specs.Prelude.{Contains, drop}
use Rattle.std.proofs.Math.ListN.{get_or-map}
use Rattle.std.proofs.Math.Seq.{drop-cons, take-suc}
use Rattle.std.proofs.lemmas.List.{length-map}
use Rattle.vg_store.specs.States.{FilesState, first_name}
use Rattle.vg_store.specs.Writing.{FilesStay, WriteFaultAt}
use Rattle.vg_words.specs.declared.ask.Ask.{Ask}
use Rattle.vg_answer.specs.Answers.{Written, written_by}
use Rattle.vg_answer.specs.NewTexts.{text_of}
use Rattle.vg_answer.specs.declared.answer.NewFile.{NewFile}
use Rattle.vg_run.specs.Drafts.{AreDrafts, FirstIsFor, PublishesFor, WaitsFor}
use Rattle.vg_run.specs.Run.{AreApartIn, AreHeld, FailsAt, HoldAfter, OthersStay, output_name}
use Rattle.vg_run.proofs.DraftLemmas.{drafts_more, first_blamed, first_waits, published_one}
use Rattle.vg_run.proofs.WriteLemmas.{one_failed, one_stayed, one_written}

module _ (files : List NewFile) (at : ℕ) (file : NewFile) (low : at < length files) (is : file ≡ get_or files at file) where
  -- it is at this place of those that are written
  low_here : at < length (map written_by files)
  low_here = omega (arith, low, length-map files written_by)

  is_here : get_or (map written_by files) at (written_by file) ≡ written_by file
  is_here = get_or-map written_by files at file ∙ ap written_by (sym is)

  -- it is among them
  pub is_among : Contains (map (λ w. w.output) (map written_by files)) file.output
  is_among =
      let said = map written_by files in (
        at,
        omega (arith, low_here, length-map said (λ (w : Written). w.output)),
        get_or-map (λ (w : Written). w.output) said at (written_by file) ∙ ap (λ (w : Written). w.output) is_here,
      )

  -- those up to it, and those from it on
  up_to_it : take (at + 1) (map written_by files) ≡ take at (map written_by files) ++ written_by file ∷ []
  up_to_it =
      let said = map written_by files in
      let next : at + 1 ≡ suc at = omega arith in
      ap (λ n. take n said) next ∙ take-suc said at (written_by file) low_here ∙ ap (λ (w : Written). take at said ++ w ∷ []) is_here

  from_it_on : drop at (map written_by files) ≡ written_by file ∷ drop (at + 1) (map written_by files)
  from_it_on =
      let said = map written_by files in
      let next : suc at ≡ at + 1 = omega arith in
      drop-cons said at (written_by file) low_here ∙ ap (λ (w : Written). w ∷ drop (suc at) said) is_here ∙ ap (λ n. written_by file ∷ drop n said) next

  module _ (ask : Ask) (start mid new : FilesState) where
    -- one more draft waits
    pub drafted_here : FilesStay start mid → AreDrafts start ask (take at (map written_by files)) mid.drafts → WaitsFor (mid, new) (output_name ask file.output) (text_of file.text)
        → AreDrafts start ask (take (at + 1) (map written_by files)) new.drafts
    drafted_here kept are waits =
        subst (λ (list : List Written). AreDrafts start ask list new.drafts) (sym up_to_it)
        (drafts_more start mid new ask (take at (map written_by files)) (written_by file) kept are waits)

    module _ (waiting : AreDrafts start ask (drop at (map written_by files)) mid.drafts) where
      -- the first draft that waits is its own
      first_here : FirstIsFor start (output_name ask file.output) (text_of file.text) (AreDrafts start ask (drop (at + 1) (map written_by files))) mid.drafts
      first_here = subst (λ (list : List Written). AreDrafts start ask list mid.drafts) from_it_on waiting

      pub waits_here : IsSome (output_name ask file.output) → 0 < length mid.drafts
      waits_here =
          first_waits start (output_name ask file.output) (text_of file.text) (AreDrafts start ask (drop (at + 1) (map written_by files))) mid.drafts first_here

      -- publishing it failed, and it is blamed
      pub fails_at_it : start.write_faults ≤ mid.write_faults → IsSome (output_name ask file.output) → WriteFaultAt mid new (λ blamed. first_name mid.drafts ≡ Some blamed)
          → FailsAt (start, new) ask file.output
      fails_at_it later named (rose, blamed) = (
        omega (arith, later, rose),
        first_blamed start (output_name ask file.output) (text_of file.text) (AreDrafts start ask (drop (at + 1) (map written_by files))) mid.drafts new.write_blame first_here named blamed,
      )

    module _ (apart : AreApartIn ask (map written_by files)) (held : AreHeld (start, mid) ask (take at (map written_by files))) (others : OthersStay (start, mid) ask (take at (map written_by files))) where
      pub failed_here : FilesStay mid new → HoldAfter (start, new) ask (map written_by files) file.output
      failed_here kept = one_failed ask (map written_by files) at (written_by file) (written_by file) low_here apart is_here start mid new held others kept

      -- it is published: those up to it hold their texts, and those behind it wait
      pub published_here : AreDrafts start ask (drop at (map written_by files)) mid.drafts → PublishesFor (mid, new) (output_name ask file.output)
          → AreHeld (start, new) ask (take (at + 1) (map written_by files)) × OthersStay (start, new) ask (take (at + 1) (map written_by files))
          × AreDrafts start ask (drop (at + 1) (map written_by files)) new.drafts
      published_here waiting published =
          let said = map written_by files in
          let item = written_by file in
          let stays = one_stayed ask said at item item low_here apart is_here start mid new others in
          let (holds, kept, behind) =
          published_one start mid new item.text (AreDrafts start ask (drop (at + 1) said)) (output_name ask item.output) stays (first_here waiting) published in
          let (all, rest) = one_written ask said at item item low_here apart is_here start mid new kept held others holds in
          (all, rest, behind)
