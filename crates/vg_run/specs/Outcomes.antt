-- How a request ends, and what there is to tell of it.
use Rattle.std.specs.Prelude.{◌≡◌, ◌⊎◌, ℕ, List, [], ◌++◌, codes, unwrap_or}
use Rattle.vg_store.specs.Causes.{Rose}
use Rattle.vg_store.specs.Reading.{FilesState}
use Rattle.vg_store.specs.Writing.{OutState, Gains, GainsPrefix}
use Rattle.vg_store.specs.declared.read.ReadAll.{ReadAll}
use Rattle.vg_store.specs.declared.read.ReadAll.TheVariants.{Failed as ReadFailed, TooLong as ReadTooLong, Memory as ReadMemory}
use Rattle.vg_words.specs.declared.ask.Ask.{Ask}
use Rattle.vg_words.specs.declared.ask.WordFault.{WordFault}
use Rattle.vg_words.specs.declared.ask.WordFault.TheVariants.{Unread, Missing, Excluded, BadValue, Equal, Memory as NoRoom}
use Rattle.vg_answer.specs.Answers.{said_by}
use Rattle.vg_run.specs.Inputs.{Change, name_of}
use Rattle.vg_run.specs.Flaws.{IsFlawed}
use Rattle.vg_run.specs.Run.{AreUntouched, AreWritten, FailsAt, FailsToWrite, HoldAfter, Prints, PrintsSome, Says, TakesName, flaw_line, flaw_status, output_name, taken_line, write_failed_line}
use Rattle.vg_answer.specs.Verdicts.{status_for}
use Rattle.vg_answer.specs.declared.answer.Answer.{Answer}
use Rattle.vg_answer.specs.declared.input.Input.{Input}
use Rattle.vg_run.specs.declared.inputs.Flaw.TheVariants.{Failed, TooLong}
use Rattle.vg_run.specs.declared.outcome.Outcome.{Outcome}
use Rattle.vg_answer.specs.declared.output.Output.{Output}
use Rattle.vg_run.specs.declared.outcome.Outcome.TheVariants.{Printed, Flawed, Taken, Unwritten, WriteFault, Memory}

-- writing this file of an answer failed
pub record IsUnwritten (ask : Ask) (files : Change FilesState) (answer : Answer) (output : Output) : Type 0 where
  pub hold : HoldAfter files ask (said_by answer).files output
  pub fault : FailsAt files ask output

-- how printing ends
abbrev pub IsPrinted : Change OutState → List ℕ → Outcome → Outcome → Type 0
IsPrinted out text wanted outcome =
    (outcome ≡ wanted × Gains out.0 out.1 text)
    ⊎ (outcome ≡ WriteFault × Rose out.0.faults out.1.faults × GainsPrefix out.0 out.1 text)

-- how delivering an answer ends: its files were written, and it was printed; or writing a file or printing failed
abbrev pub IsDelivered : Ask → Change FilesState → Change OutState → Answer → Outcome → Type 0
IsDelivered ask files out answer outcome =
    (IsPrinted out answer.text.items (Printed answer.kind) outcome × AreWritten files ask (said_by answer).files)
    ⊎ ((output : Output) × (outcome ≡ Unwritten output) × (out.1.written ≡ out.0.written)
    × IsUnwritten ask files answer output)

-- why the inputs were not read, and at which of them reading ended
abbrev pub IsUnread : Ask → Change FilesState → Input × ReadAll → Type 0
IsUnread ask files (input, ReadFailed) = IsFlawed ask files input Failed
IsUnread ask files (input, ReadTooLong) = IsFlawed ask files input TooLong
IsUnread ask files (input, ReadMemory) = Unit {0}

-- what an outcome says of the files and of standard output
abbrev pub Ends : Ask → Change FilesState → Change OutState → Outcome → Type 0
Ends ask files out (Printed kind) = Prints kind files (Gains out.0 out.1) ask
Ends ask files out (Flawed input flaw) =
    IsFlawed ask files input flaw × AreUntouched files × (out.1.written ≡ out.0.written)
Ends ask files out (Taken name) = TakesName files.0 ask name × AreUntouched files × (out.1.written ≡ out.0.written)
Ends ask files out (Unwritten output) = FailsToWrite ask files output × (out.1.written ≡ out.0.written)
Ends ask files out WriteFault = Rose out.0.faults out.1.faults × PrintsSome files (GainsPrefix out.0 out.1) ask
Ends ask files out Memory = AreUntouched files × (out.1.written ≡ out.0.written)

-- its status
abbrev pub status_of : Outcome → ℕ
status_of (Printed kind) = status_for kind
status_of (Flawed input flaw) = flaw_status flaw
status_of (Taken name) = 4
status_of (Unwritten output) = 6
status_of WriteFault = 6
status_of Memory = 7

-- the status where words ask for nothing
abbrev pub fault_status : WordFault → ℕ
fault_status Unread = 3
fault_status (Missing option) = 3
fault_status (Excluded option) = 3
fault_status (BadValue option) = 3
fault_status (Equal one other) = 3
fault_status NoRoom = 7

-- a line that is told in five pieces
abbrev pub in_five : List ℕ → List ℕ → List ℕ → List ℕ → List ℕ → List ℕ
in_five front name middle kind back = front ++ (name ++ (middle ++ (kind ++ (back ++ []))))

-- what standard error gained for an outcome
abbrev pub Tells : Ask → Change OutState → Outcome → Type 0
Tells ask err (Printed kind) = err.1.written ≡ err.0.written
Tells ask err (Flawed input flaw) = Says err.0 err.1 (flaw_line (name_of ask input) flaw)
Tells ask err (Taken name) = Says err.0 err.1 (taken_line name)
Tells ask err (Unwritten output) = Says err.0 err.1 (write_failed_line (unwrap_or (output_name ask output) []))
Tells ask err WriteFault = Says err.0 err.1 (codes "vginsert: write failed: standard output\n")
Tells ask err Memory = Says err.0 err.1 (codes "vginsert: out of memory\n")

-- the status is that of an outcome of which all this is true
pub record IsStatusOf (ask : Ask) (files : Change FilesState) (out err : Change OutState) (status : ℕ) : Type 0 where
  pub outcome : Outcome
  pub ends : Ends ask files out outcome
  pub tells : Tells ask err outcome
  pub status_is : status ≡ status_of outcome
