-- What a mode answers.
use Rattle.std.specs.Prelude.{◌≡◌, ℕ, List, [], Result, Ok, Err, map}
use Rattle.spef_file.specs.Indexes.{IsIndexOf}
use Rattle.spef_file.specs.declared.spef_index.SpefIndex.{SpefIndex}
use Rattle.design_read.specs.Designs.{Texts, texts_of as design_of}
use Rattle.design_read.specs.declared.design_fault.DesignFault.{DesignFault}
use Rattle.design_read.specs.declared.design_fault.DesignFault.TheVariants.{Spef as SpefFaulty, Lib as LibFaulty, Ver as VerFaulty, Cons as ConsFaulty, Memory as NoRoom}
use Rattle.vg_scan.specs.Comments.{without_comments}
use Rattle.vg_scan.specs.declared.comments.Comments.TheVariants.{Spef as SpefComments}
use Rattle.vg_report.specs.Faults.{cons_fault, lib_fault, spef_fault, ver_fault}
use Rattle.vg_answer.specs.Faults.{IsSpefFault, IsDesignFault}
use Rattle.vg_answer.specs.NewTexts.{text_of}
use Rattle.vg_answer.specs.declared.input.Input.{Input}
use Rattle.vg_answer.specs.declared.input.Input.TheVariants.{Spef, Lib, Verilog, Cons, Cert, Widths}
use Rattle.vg_answer.specs.declared.texts.DesignTexts.{DesignTexts}
use Rattle.vg_answer.specs.declared.answer.Answer.{Answer}
use Rattle.vg_answer.specs.declared.kind.AnswerKind.{AnswerKind}
use Rattle.vg_answer.specs.declared.kind.AnswerKind.TheVariants.{Refusal}
use Rattle.vg_answer.specs.declared.answer.NoAnswer.{NoAnswer}
use Rattle.vg_answer.specs.declared.answer.NoAnswer.TheVariants.{Faulty, Taken, Memory}
use Rattle.vg_answer.specs.declared.answer.NewFile.{NewFile}
use Rattle.vg_answer.specs.declared.output.Output.{Output}

-- A file that is written: which one, and its text.
pub record Written : Type 0 where
  pub output : Output
  pub text : List ℕ

-- What is said: a text that is printed, and the files that are written, in the order of writing.
pub record Said : Type 0 where
  pub text : List ℕ
  pub files : List Written

-- nothing but the text is said
abbrev pub IsText : (List ℕ → Type 0) → Said → Type 0
IsText P said = P said.text × (said.files ≡ [])

abbrev pub written_by : NewFile → Written
written_by file = record { output = file.output; text = text_of file.text }

abbrev pub said_by : Answer → Said
said_by answer = record { text = answer.text.items; files = map written_by answer.files.items }

-- What judging the texts of a mode may answer: an answer of a kind, the line of the first fault and its input, a name
-- that begins with the prefix, or out of memory.
abbrev pub AnswersBy : (AnswerKind → Said → Type 0) → (List ℕ → Input → Type 0) → (List ℕ → Type 0)
    → Result Answer NoAnswer → Type 0
AnswersBy Says Fails Takes (Ok answer) = Says answer.kind (said_by answer)
AnswersBy Says Fails Takes (Err (Faulty input line)) = Fails line input
AnswersBy Says Fails Takes (Err (Taken name)) = Takes name
AnswersBy Says Fails Takes (Err Memory) = Unit {0}

-- no name is taken, in a mode that makes none
abbrev pub NoneTaken : List ℕ → Type 0
NoneTaken name = ⊥

-- the answer is of this kind, with this text, and without files
pub record IsAnswerWith (kind : AnswerKind) (text : List ℕ) (answer : Answer) : Type 0 where
  pub kind_is : answer.kind ≡ kind
  pub text_is : answer.text.items ≡ text
  pub no_files : answer.files.items ≡ []

abbrev pub IsRefusedWith : List ℕ → Answer → Type 0
IsRefusedWith text answer = IsAnswerWith Refusal text answer

-- what indexing a text may answer
abbrev pub Indexes : Result SpefIndex NoAnswer → List ℕ → Type 0
Indexes (Ok index) file = IsIndexOf file index
Indexes (Err (Faulty Spef line)) file = IsSpefFault file line
Indexes (Err (Faulty Lib line)) file = ⊥
Indexes (Err (Faulty Verilog line)) file = ⊥
Indexes (Err (Faulty Cons line)) file = ⊥
Indexes (Err (Faulty Cert line)) file = ⊥
Indexes (Err (Faulty Widths line)) file = ⊥
Indexes (Err (Taken name)) file = ⊥
Indexes (Err Memory) file = Unit {0}

-- why four texts are no design, as an answer tells it
abbrev pub IsNoDesign : Texts → NoAnswer → Type 0
IsNoDesign texts (Faulty input line) = IsDesignFault texts line input
IsNoDesign texts (Taken name) = ⊥
IsNoDesign texts Memory = Unit {0}

-- the same, of every SPEF text that is this without its comments
abbrev pub IsNoDesignOf : List ℕ → List ℕ → List ℕ → List ℕ → NoAnswer → Type 0
IsNoDesignOf clear lib verilog cons answer =
    (spef : List ℕ) → clear ≡ without_comments SpefComments spef → IsNoDesign (design_of spef lib verilog cons) answer

-- the answer tells this fault, or it is out of memory
abbrev pub Tells : DesignFault → NoAnswer → Type 0
Tells fault Memory = Unit {0}
Tells fault (Taken name) = ⊥
Tells (SpefFaulty fault) (Faulty input line) = (input ≡ Spef) × (line ≡ spef_fault fault)
Tells (LibFaulty fault) (Faulty input line) = (input ≡ Lib) × (line ≡ lib_fault fault)
Tells (VerFaulty fault) (Faulty input line) = (input ≡ Verilog) × (line ≡ ver_fault fault)
Tells (ConsFaulty fault) (Faulty input line) = (input ≡ Cons) × (line ≡ cons_fault fault)
Tells NoRoom (Faulty input line) = ⊥

-- the texts of the four files of a design
abbrev pub texts_in : DesignTexts → Texts
texts_in texts = record {
  spef = texts.spef.bytes.items;
  lib = texts.lib.bytes.items;
  verilog = texts.verilog.bytes.items;
  cons = texts.cons.bytes.items;
}
