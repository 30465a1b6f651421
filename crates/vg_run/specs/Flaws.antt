-- The first flaw of the inputs of a request.
use Rattle.std.specs.Prelude.{◌≡◌, ℕ, List}
use Rattle.vg_store.specs.Reading.{FilesState, ReadFaultAt}
use Rattle.vg_words.specs.declared.ask.Ask.{Ask}
use Rattle.vg_answer.specs.declared.input.Input.{Input}
use Rattle.vg_run.specs.declared.inputs.Flaw.{Flaw}
use Rattle.vg_run.specs.declared.inputs.Flaw.TheVariants.{Failed, TooLong, Faulty}
use Rattle.vg_answer.specs.Faults.{IsFirst}
use Rattle.vg_run.specs.Inputs.{inputs, name_of, told, IsLong, IsRead, AreRead, Change}
use Rattle.vg_run.specs.Modes.{IsFaultFor}

-- the first flaw: an input could not be read or is too long, and those before it were read; or all were read, one has a
-- fault, and those before it are in their form
abbrev pub IsFirstFlaw : FilesState → Ask → (Input → List ℕ) → Flaw → Input → Type 0
IsFirstFlaw files ask texts Failed input =
    IsFirst (λ i. IsRead (told files ask i) (texts i)) (λ i. Unit {0}) (inputs ask.mode) input
IsFirstFlaw files ask texts TooLong input =
    IsFirst (λ i. IsRead (told files ask i) (texts i)) (λ i. IsLong (told files ask i)) (inputs ask.mode) input
IsFirstFlaw files ask texts (Faulty line) input = AreRead files ask texts × IsFaultFor ask texts line input

-- where the input could not be read, a fault rose, and that input is blamed
abbrev pub IsCaused : Change FilesState → List ℕ → Flaw → Type 0
IsCaused files name Failed = ReadFaultAt files.0 files.1 (λ blamed. blamed ≡ name)
IsCaused files name TooLong = Unit {0}
IsCaused files name (Faulty line) = Unit {0}

-- this input has the first flaw
pub record IsFlawed (ask : Ask) (files : Change FilesState) (input : Input) (flaw : Flaw) : Type 0 where
  pub texts : Input → List ℕ
  pub first : IsFirstFlaw files.0 ask texts flaw input
  pub caused : IsCaused files (name_of ask input) flaw
