-- What a run of the program promises.
use Rattle.std.specs.Prelude.{◌≡◌, ◌≢◌, ◌⊎◌, ℕ, ◌≤◌, List, [], ◌∷◌, ◌++◌, ◌==◌, Bool, true, codes, Contains, map, Option, Some, IfSome, slice_get, unwrap_or}
use Rattle.std.specs.List.{All, AllPairs, list_any}
use Rattle.vg_store.specs.Causes.{Rose}
use Rattle.vg_store.specs.Reading.{FilesState}
use Rattle.vg_store.specs.States.{KeepsWriting}
use Rattle.vg_store.specs.Writing.{OutState, FilesStay, Gains, GainsPrefix, WriteFaultAt}
use Rattle.vg_words.specs.Options.{name_of as option_name}
use Rattle.vg_words.specs.Request.{parts_of, size_of, IsRequest, IsRefused}
use Rattle.vg_words.specs.declared.ask.Mode.TheVariants.{Gen, Segment}
use Rattle.vg_words.specs.declared.ask.Ask.{Ask}
use Rattle.vg_words.specs.declared.ask.WordFault.{WordFault}
use Rattle.vg_words.specs.declared.ask.WordFault.TheVariants.{Unread, Missing, Excluded, BadValue, Equal, Memory as NoRoom}
use Rattle.vg_run.specs.Modes.{IsAnswerFor, IsTakenFor, IsFaultFor}
use Rattle.vg_answer.specs.declared.kind.AnswerKind.{AnswerKind}
use Rattle.vg_run.specs.Inputs.{inputs, name_of, told, written_cert, Change, AreRead}
use Rattle.vg_answer.specs.Faults.{IsShort}
use Rattle.vg_run.specs.Flaws.{IsFlawed}
use Rattle.vg_answer.specs.Answers.{Said, Written}
use Rattle.vg_answer.specs.declared.input.Input.{Input}
use Rattle.vg_answer.specs.declared.output.Output.{Output}
use Rattle.vg_answer.specs.declared.output.Output.TheVariants.{Netlist, Parasitics, Certificate}
use Rattle.vg_run.specs.declared.inputs.Flaw.{Flaw}
use Rattle.vg_run.specs.declared.inputs.Flaw.TheVariants.{Failed, TooLong, Faulty}
use Rattle.vg_answer.specs.Verdicts.{status_for}

-- the words are a request, and this holds of it
abbrev pub ForRequest : List (List ℕ) → (Ask → Type 0) → Type 0
ForRequest words P = (ask : Ask) × IsRequest words ask × P ask

-- an output gained all of these bytes, or some first ones and a fault
abbrev pub Says : OutState → OutState → List ℕ → Type 0
Says old new line = Gains old new line ⊎ (Rose old.faults new.faults × GainsPrefix old new line)

-- `vginsert: FILE: KIND`
abbrev pub file_line : List ℕ → List ℕ → List ℕ
file_line name kind = codes "vginsert: " ++ (name ++ (codes ": " ++ (kind ++ codes "\n")))

-- `vginsert: read failed: FILE`
abbrev pub read_failed_line : List ℕ → List ℕ
read_failed_line name = codes "vginsert: read failed: " ++ (name ++ codes "\n")

-- the line that tells a flaw of the file of this name
abbrev pub flaw_line : List ℕ → Flaw → List ℕ
flaw_line name Failed = read_failed_line name
flaw_line name TooLong = file_line name (codes "TooLong")
flaw_line name (Faulty line) = file_line name line

-- the status where an input has a flaw
abbrev pub flaw_status : Flaw → ℕ
flaw_status Failed = 5
flaw_status TooLong = 4
flaw_status (Faulty line) = 4

-- `vginsert: words refused`, and the reason
abbrev pub refused_line : WordFault → List ℕ
refused_line Unread = codes "vginsert: words refused\n"
refused_line (Missing option) = codes "vginsert: words refused: missing option " ++ (option_name option ++ codes "\n")
refused_line (Excluded option) = codes "vginsert: words refused: excluded option " ++ (option_name option ++ codes "\n")
refused_line (BadValue option) = codes "vginsert: words refused: bad value " ++ (option_name option ++ codes "\n")
refused_line (Equal one other) =
    codes "vginsert: words refused: equal names " ++ (option_name one
    ++ (codes " " ++ (option_name other ++ codes "\n")))
refused_line NoRoom = codes "vginsert: out of memory\n"

-- the words name this file as one that is written
abbrev pub IsOutput : Ask → List ℕ → Type 0
IsOutput ask file = (ask.out_spef ≡ Some file) ⊎ (ask.out_verilog ≡ Some file) ⊎ (written_cert ask ≡ Some file)

-- no file is written twice
pub record AreApart (ask : Ask) : Type 0 where
  pub design : (file : List ℕ) → ask.out_verilog ≡ Some file → ask.out_spef ≡ Some file → ⊥
  pub netlist : (file : List ℕ) → ask.out_verilog ≡ Some file → written_cert ask ≡ Some file → ⊥
  pub parasitics : (file : List ℕ) → ask.out_spef ≡ Some file → written_cert ask ≡ Some file → ⊥

-- a design that is to be made up has a size that it can have, and resistors are cut into a number of parts that they can
-- have
abbrev pub IsSized : Ask → Type 0
IsSized ask =
    (ask.mode ≡ Gen → (1 ≤ size_of ask) × (size_of ask ≤ 4000))
    × (ask.mode ≡ Segment → (1 ≤ parts_of ask) × (parts_of ask ≤ 64))

-- where the words name a file, and files tell what it holds, it holds this text
abbrev pub HoldsAt : FilesState → Option (List ℕ) → List ℕ → Type 0
HoldsAt files name text = IfSome name (λ file. IfSome (files.holds file) (λ bytes. bytes ≡ text))

-- where the words name a file, it holds what it held
abbrev pub StaysAt : Change FilesState → Option (List ℕ) → Type 0
StaysAt files name = (file : List ℕ) → name ≡ Some file → files.1.holds file ≡ files.0.holds file

-- the name of a file that is written
abbrev pub output_name : Ask → Output → Option (List ℕ)
output_name ask Netlist = ask.out_verilog
output_name ask Parasitics = ask.out_spef
output_name ask Certificate = written_cert ask

-- the files of a list hold their texts, as far as the words name them
abbrev pub AreHeld : Change FilesState → Ask → List Written → Type 0
AreHeld files ask said = All (λ w. HoldsAt files.1 (output_name ask w.output) w.text) said

-- no two of them have one name
abbrev pub AreApartIn : Ask → List Written → Type 0
AreApartIn ask said =
    AllPairs (λ one other. (file : List ℕ) → output_name ask one.output ≡ Some file
    → output_name ask other.output ≡ Some file → ⊥) said

-- a file that is none of them holds what it held
abbrev pub OthersStay : Change FilesState → Ask → List Written → Type 0
OthersStay files ask said =
    (file : List ℕ) → All (λ w. output_name ask w.output ≢ Some file) said → files.1.holds file ≡ files.0.holds file

-- the files of a list were written, and no other; where there are none, none was created
pub record AreWritten (files : Change FilesState) (ask : Ask) (said : List Written) : Type 0 where
  pub whole : AreHeld files ask said
  pub others : OthersStay files ask said
  pub none : said ≡ [] → KeepsWriting files.0 files.1

-- of the texts that were read an output gained an answer of this kind, and its files were written
abbrev pub Prints : AnswerKind → Change FilesState → (List ℕ → Type 0) → Ask → Type 0
Prints kind files Gained ask =
    (texts : Input → List ℕ) × AreRead files.0 ask texts
    × ((said : Said) × IsAnswerFor ask texts kind said × Gained said.text × AreWritten files ask said.files)

abbrev pub PrintsSome : Change FilesState → (List ℕ → Type 0) → Ask → Type 0
PrintsSome files Gained ask = (kind : AnswerKind) × Prints kind files Gained ask

-- ---- faults of writing
-- writing failed, and the file that is blamed, where it is told, is the one of this output
abbrev pub FailsAt : Change FilesState → Ask → Output → Type 0
FailsAt files ask output = WriteFaultAt files.0 files.1 (λ blamed. output_name ask output ≡ Some blamed)

-- Of a list of files writing the one of this output failed: no file changed, or those before it hold their texts; it
-- and those behind it, and all files that are none of them, are as they were.
pub record HoldAfter (files : Change FilesState) (ask : Ask) (said : List Written) (output : Output) : Type 0 where
  pub before : List Written
  pub behind : List Written
  pub said_are : said ≡ before ++ behind
  pub whole : AreHeld files ask before
  pub unwritten : Contains (map (λ w. w.output) behind) output
  pub none_or_up_to_it : (before ≡ []) ⊎ (slice_get (map (λ w. w.output) behind) 0 ≡ Some output)
  pub later : All (λ w. StaysAt files (output_name ask w.output)) behind
  pub others : OthersStay files ask said

-- the files of an answer were to be written, and writing this one failed
pub record FailsToWrite (ask : Ask) (files : Change FilesState) (output : Output) : Type 0 where
  pub texts : Input → List ℕ
  pub read : AreRead files.0 ask texts
  pub kind : AnswerKind
  pub said : Said
  pub is : IsAnswerFor ask texts kind said
  pub hold : HoldAfter files ask said.files output
  pub fault : FailsAt files ask output

-- all files hold what they held, and none was created
pub record AreUntouched (files : Change FilesState) : Type 0 where
  pub stay : FilesStay files.0 files.1
  pub none_created : KeepsWriting files.0 files.1

-- `vginsert: write failed: FILE`
abbrev pub write_failed_line : List ℕ → List ℕ
write_failed_line name = codes "vginsert: write failed: " ++ (name ++ codes "\n")

-- `vginsert: prefix taken: NAME`
abbrev pub taken_line : List ℕ → List ℕ
taken_line name = codes "vginsert: prefix taken: " ++ (name ++ codes "\n")

-- an input has the first flaw, its flaw gives this status, and a line tells it
abbrev pub TellsFlaw : ℕ → Change FilesState → (List ℕ → Type 0) → Ask → Type 0
TellsFlaw status files Said ask =
    (input : Input) × (flaw : Flaw) × (flaw_status flaw ≡ status) × IsFlawed ask files input flaw
    × Said (flaw_line (name_of ask input) flaw)

-- of the texts that were read this name begins with the prefix, which modes `best` and `repair` refuse, and so does
-- mode `total` where it is to write files
abbrev pub TakesName : FilesState → Ask → List ℕ → Type 0
TakesName files ask name = (texts : Input → List ℕ) × AreRead files ask texts × IsTakenFor ask texts name

-- an input has the first flaw, with status 4, or a name begins with the prefix, and a line tells it
abbrev pub TellsRefusedInput : Change FilesState → (List ℕ → Type 0) → Ask → Type 0
TellsRefusedInput files Said ask =
    TellsFlaw 4 files Said ask ⊎ ((name : List ℕ) × TakesName files.0 ask name × Said (taken_line name))

-- writing standard output failed, after the files were written, or writing one of these did, and a line tells it
abbrev pub TellsWriteFault : Change FilesState → Change OutState → (List ℕ → Type 0) → Ask → Type 0
TellsWriteFault files out Said ask =
    (Rose out.0.faults out.1.faults × PrintsSome files (GainsPrefix out.0 out.1) ask
    × Said (codes "vginsert: write failed: standard output\n"))
    ⊎ ((output : Output) × FailsToWrite ask files output × (out.1.written ≡ out.0.written)
    × Said (write_failed_line (unwrap_or (output_name ask output) [])))

-- the words are a request, and an answer of this kind to it was printed whole, with its files written
abbrev pub Answered : AnswerKind → List (List ℕ) → Change FilesState → Change OutState → Type 0
Answered kind words files out = ForRequest words (Prints kind files (Gains out.0 out.1))

-- the words are a request, one of its inputs has the first flaw, with this status, and standard error gained the line
-- that tells it
abbrev pub EndsFlawed : ℕ → List (List ℕ) → Change FilesState → Change OutState → Type 0
EndsFlawed status words files err = ForRequest words (TellsFlaw status files (Says err.0 err.1))

-- the words are no request, for this first reason, and a line tells it
abbrev pub AreRefused : List (List ℕ) → (List ℕ → Type 0) → Type 0
AreRefused words Said = (fault : WordFault) × IsRefused words fault × Said (refused_line fault)

-- the texts are those of the files
abbrev pub AreTold : FilesState → Ask → (Input → List ℕ) → Type 0
AreTold files ask texts = All (λ input. told files ask input ≡ Some (texts input)) (inputs ask.mode)

abbrev pub AreShort : Ask → (Input → List ℕ) → Type 0
AreShort ask texts = All (λ input. IsShort (texts input)) (inputs ask.mode)

-- the status that the texts and the request ask for, where nothing fails
pub record IsStatusFor (ask : Ask) (texts : Input → List ℕ) (status : ℕ) : Type 0 where
  pub too_long : (AreShort ask texts → ⊥) → status ≡ 4
  pub faulty : AreShort ask texts → (line : List ℕ) (input : Input) → IsFaultFor ask texts line input → status ≡ 4
  pub taken : AreShort ask texts → (name : List ℕ) → IsTakenFor ask texts name → status ≡ 4
  pub answer : AreShort ask texts → (kind : AnswerKind) (said : Said) → IsAnswerFor ask texts kind said
      → status ≡ status_for kind

-- where nothing failed, the status is exactly the one that the files and the request ask for
abbrev pub IsExact : List (List ℕ) → FilesState → ℕ → Type 0
IsExact words files status =
    (ask : Ask) → IsRequest words ask → (texts : Input → List ℕ) → AreTold files ask texts
    → status ≢ 5 → status ≢ 6 → status ≢ 7 → IsStatusFor ask texts status

-- a run ends with one of these
abbrev pub is_status : ℕ → Bool
is_status status = list_any (λ s. s == status) (0 ∷ 1 ∷ 2 ∷ 3 ∷ 4 ∷ 5 ∷ 6 ∷ 7 ∷ 8 ∷ [])

-- with these an answer was printed
abbrev pub is_answer : ℕ → Bool
is_answer status = list_any (λ s. s == status) (0 ∷ 1 ∷ 2 ∷ 8 ∷ [])

-- after these nothing was printed
abbrev pub prints_nothing : ℕ → Bool
prints_nothing status = list_any (λ s. s == status) (3 ∷ 4 ∷ 5 ∷ 7 ∷ [])

-- after these no file was created: nothing was printed, or that a certificate is not valid
abbrev pub creates_nothing : ℕ → Bool
creates_nothing status = list_any (λ s. s == status) (3 ∷ 4 ∷ 5 ∷ 7 ∷ 8 ∷ [])

-- the fixed lines of standard error, and that it stays as it is after a printed answer
pub record ErrorLine (status : ℕ) (SaysLine : List ℕ → Type 0) (Same : Type 0) : Type 0 where
  pub printed : is_answer status ≡ true → Same
  pub memory : status ≡ 7 → SaysLine (codes "vginsert: out of memory\n")
