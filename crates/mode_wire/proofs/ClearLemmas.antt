-- What is said of a text without its comments is said of the text.
use Rattle.std.proofs.Common.{◌≡◌, ℕ, ◌+◌, List, [], subst, ap, Ok, Err, Result}
use Rattle.std.specs.Prelude.{if◌then◌else◌}
use Rattle.vg_scan.specs.Lines.{lines_of}
use Rattle.vg_scan.specs.Comments.{without_comments}
use Rattle.vg_scan.specs.declared.comments.Comments.TheVariants.{Spef}
use Rattle.vg_scan.specs.declared.fault.LineFault.{LineFault}
use Rattle.spef_net.specs.declared.fault.NetKind.{NetKind}
use Rattle.spef_file.specs.declared.fault.SpefKind.{SpefKind}
use Rattle.spef_file.specs.Nets.{NetHead}
use Rattle.spef_file.specs.Files.{File, IsFileOf, IsFileFault}
use Rattle.spef_file.proofs.LawLemmas.{file_along, fault_along, lines_along}
use Rattle.spef_file.specs.Indexes.{lines_after}
use Rattle.spef_net.specs.Sections.{statements_in, IsNetOf, IsFaultOf}
use Rattle.spef_net.specs.Statements.{statements}
use Rattle.spef_net.specs.Faults.{IsFaultless, IsFirstFaultIn}
use Rattle.spef_net.specs.Denoted.{IsNet}
use Rattle.spef_net.specs.declared.net.ParNet.{ParNet}
use Rattle.spef_wire.specs.Nets.{IsHeadOf, IsNetNamed, IsNetRefused, IsRefusalOf}
use Rattle.spef_wire.specs.Wires.{IsWireOf}
use Rattle.spef_wire.specs.declared.refusal.Refusal.{Refusal}
use Rattle.spef_wire.specs.declared.refusal.Refusal.TheVariants.{UnknownNet, Section as Faulty, Reduced, Inductive, Bidirectional, NoDriver, ManyDrivers, Mismatch, Tied, NoDrive, NoLoad, Floating, Loop, NoSink, Unconstrained, TooLarge}
use Rattle.spef_wire.specs.declared.wire.WireNet.{WireNet}
use Rattle.vg_answer.specs.Answers.{said_by, Said, AnswersBy, NoneTaken}
use Rattle.vg_answer.specs.Faults.{IsSpefFault}
use Rattle.vg_answer.specs.declared.answer.Answer.{Answer}
use Rattle.vg_answer.specs.declared.kind.AnswerKind.{AnswerKind}
use Rattle.vg_answer.specs.declared.kind.AnswerKind.TheVariants.{Report, NoneGood, Refusal as Refused, Invalid}
use Rattle.vg_answer.specs.declared.answer.NoAnswer.{NoAnswer}
use Rattle.vg_answer.specs.declared.answer.NoAnswer.TheVariants.{Faulty as FaultyInput, Taken, Memory}
use Rattle.mode_wire.specs.Answers.{IsWireAnswer, IsWireFault}

module _ (raw clear : List ℕ) (same : without_comments Spef clear ≡ without_comments Spef raw) where
  file_same : (file : File) → IsFileOf clear file → IsFileOf raw file
  file_same file = file_along clear raw file (ap lines_of same)

  fault_of_file_same : (fault : LineFault SpefKind) → IsFileFault clear fault → IsFileFault raw fault
  fault_of_file_same fault = fault_along clear raw fault (ap lines_of same)

  after_same : (line : ℕ) → lines_after clear line ≡ lines_after raw line
  after_same line = lines_along clear raw line same

  says_same : (file : File) (head : NetHead) → statements_in clear file head ≡ statements_in raw file head
  says_same file head = ap (λ ls. if head.reduced then [] else statements file ls) (after_same head.line)

  net_same : (file : File) (head : NetHead) (net : ParNet) → IsNetOf clear file head net → IsNetOf raw file head net
  net_same file head net h = record {
    faultless = subst (IsFaultless head.name) (says_same file head) h.faultless;
    denoted = subst (λ said. IsNet head.name head.reduced said net) (says_same file head) h.denoted;
  }

  fault_same : (file : File) (head : NetHead) (fault : LineFault NetKind) → IsFaultOf clear file head fault → IsFaultOf raw file head fault
  fault_same file head fault h = subst (λ said. IsFirstFaultIn head.name said (head.line + 1) fault) (says_same file head) h

  head_same : (name : List ℕ) (file : File) (head : NetHead) → IsHeadOf clear name file head → IsHeadOf raw name file head
  head_same name file head h = record { said = file_same file h.said; named = h.named }

  pub named_same : (name : List ℕ) (net : ParNet) → IsNetNamed clear name net → IsNetNamed raw name net
  named_same name net h = record { file = h.file; head = h.head; head_of = head_same name h.file h.head h.head_of; read = net_same h.file h.head net h.read }

  refused_same : (name : List ℕ) (refusal : Refusal) → IsNetRefused clear name refusal → IsNetRefused raw name refusal
  refused_same name refusal h = record { net = h.net; named = named_same name h.net h.named; refused = h.refused }

  pub refusal_same : (name : List ℕ) (refusal : Refusal) → IsRefusalOf clear name refusal → IsRefusalOf raw name refusal
  refusal_same name Mismatch h = h
  refusal_same name Tied h = h
  refusal_same name NoDrive h = h
  refusal_same name (NoLoad node) h = h
  refusal_same name (Unconstrained node) h = h
  refusal_same name UnknownNet h = record { file = h.file; said = file_same h.file h.said; none = h.none }
  refusal_same name (Faulty fault) h = record { file = h.file; head = h.head; head_of = head_same name h.file h.head h.head_of; first = fault_same h.file h.head fault h.first }
  refusal_same name Reduced h = refused_same name Reduced h
  refusal_same name Inductive h = refused_same name Inductive h
  refusal_same name Bidirectional h = refused_same name Bidirectional h
  refusal_same name NoDriver h = refused_same name NoDriver h
  refusal_same name ManyDrivers h = refused_same name ManyDrivers h
  refusal_same name (Floating node) h = refused_same name (Floating node) h
  refusal_same name Loop h = refused_same name Loop h
  refusal_same name NoSink h = refused_same name NoSink h
  refusal_same name TooLarge h = refused_same name TooLarge h

  wire_same : (name : List ℕ) (wire : WireNet) → IsWireOf clear name wire → IsWireOf raw name wire
  wire_same name wire h = record { net = h.net; named = named_same name h.net h.named; accepted = h.accepted; wire_is = h.wire_is }

  spef_same : (line : List ℕ) → IsSpefFault clear line → IsSpefFault raw line
  spef_same line h = record { fault = h.fault; found = fault_of_file_same h.fault h.found; text_is = h.text_is }

  -- an answer of the one is an answer of the other
  wire_kind : (name : List ℕ) (said : Said) (kind : AnswerKind) → IsWireAnswer clear name kind said → IsWireAnswer raw name kind said
  wire_kind name said Report (h, none) = (record { wire = h.wire; wire_of = wire_same name h.wire h.wire_of; text_is = h.text_is }, none)
  wire_kind name said NoneGood h = h
  wire_kind name said Invalid h = h
  wire_kind name said Refused (h, none) = (record { refusal = h.refusal; refused = refusal_same name h.refusal h.refused; text_is = h.text_is }, none)

  pub wire_answers : (name : List ℕ) (result : Result Answer NoAnswer) → AnswersBy (IsWireAnswer clear name) (IsWireFault clear) NoneTaken result
      → AnswersBy (IsWireAnswer raw name) (IsWireFault raw) NoneTaken result
  wire_answers name (Ok answer) h = wire_kind name (said_by answer) answer.kind h
  wire_answers name (Err (FaultyInput input line)) (is, fault) = (is, spef_same line fault)
  wire_answers name (Err (Taken taken)) h = absurd h
  wire_answers name (Err Memory) h = tt
