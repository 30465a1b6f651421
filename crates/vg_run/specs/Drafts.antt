-- The drafts of the files of an answer.
use Rattle.std.specs.Prelude.{◌≡◌, List, [], ◌∷◌, ℕ, Option, Some, None}
use Rattle.vg_store.specs.States.{Draft, FilesState}
use Rattle.vg_store.specs.Writing.{FilesStay, IsDraftOf, OneWaits, Publishes}
use Rattle.vg_words.specs.declared.ask.Ask.{Ask}
use Rattle.vg_answer.specs.Answers.{Written}
use Rattle.vg_run.specs.Inputs.{Change}
use Rattle.vg_run.specs.Run.{output_name}

-- one more draft waits, of the file of this name with this text; without a name no more than before
abbrev pub WaitsFor : Change FilesState → Option (List ℕ) → List ℕ → Type 0
WaitsFor files None text = files.1.drafts ≡ files.0.drafts
WaitsFor files (Some name) text = OneWaits files.0 files.1 name text

-- the oldest draft was published; without a name none was, and all files stay
abbrev pub PublishesFor : Change FilesState → Option (List ℕ) → Type 0
PublishesFor files None = (files.1.drafts ≡ files.0.drafts) × FilesStay files.0 files.1
PublishesFor files (Some name) = (draft : Draft) × Publishes files.0 files.1 draft

-- the first of these drafts is one of the file of this name with this text, and this holds of those behind it; without
-- a name this holds of all of them
abbrev pub FirstIsFor : FilesState → Option (List ℕ) → List ℕ → (List Draft → Type 0) → List Draft → Type 0
FirstIsFor files None text Behind drafts = Behind drafts
FirstIsFor files (Some name) text Behind drafts =
    (draft : Draft) × (behind : List Draft) × (drafts ≡ draft ∷ behind) × IsDraftOf files name text draft
    × Behind behind

-- these are drafts of the files of a list, in its order, as far as the words name the files
abbrev pub AreDrafts : FilesState → Ask → List Written → List Draft → Type 0
AreDrafts files ask [] drafts = drafts ≡ []
AreDrafts files ask (w ∷ said) drafts =
    FirstIsFor files (output_name ask w.output) w.text (λ behind. AreDrafts files ask said behind) drafts
