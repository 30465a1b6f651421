-- Answers without files, and faults that are handed on.
use Rattle.std.proofs.Common.{◌≡◌, ℕ, List, [], inl, inr, sym, subst, Result, Ok, Err, map}
use Rattle.std.specs.Result.{IsErrAnd}
use Rattle.vg_design.specs.Designs.{Design}
use Rattle.design_read.specs.Designs.{Texts, IsDesign, IsDesignOf, IsFirstFault, texts_of as texts_in_files}
use Rattle.design_read.specs.declared.design_fault.DesignFault.{DesignFault}
use Rattle.design_read.specs.declared.design_fault.DesignFault.TheVariants.{Spef as SpefFaulty, Lib as LibFaulty, Ver as VerFaulty, Cons as ConsFaulty, Memory as NoRoom}
use Rattle.vg_scan.specs.Comments.{without_comments}
use Rattle.vg_scan.specs.declared.comments.Comments.TheVariants.{Spef as SpefComments}
use Rattle.vg_answer.specs.Answers.{IsAnswerWith, IsNoDesign, said_by, Said, written_by, AnswersBy, Tells}
use Rattle.vg_answer.specs.declared.answer.Answer.{Answer}
use Rattle.vg_answer.specs.declared.kind.AnswerKind.{AnswerKind}
use Rattle.vg_answer.specs.declared.answer.NoAnswer.{NoAnswer}
use Rattle.vg_answer.specs.declared.answer.NoAnswer.TheVariants.{Faulty, Taken, Memory}
use Rattle.vg_answer.specs.Faults.{IsDesignFault}
use Rattle.vg_answer.specs.declared.answer.NewFile.{NewFile}

-- an answer of this kind with this text, and without files
pub answer_with : (Says : AnswerKind → Said → Type 0) (kind : AnswerKind) (text : List ℕ) (answer : Answer) → Says kind (record { text = text; files = [] })
    → IsAnswerWith kind text answer → Says answer.kind (said_by answer)
answer_with Says kind text answer is with =
    subst (λ (k : AnswerKind). Says k (said_by answer)) (sym with.kind_is)
    (subst (λ (t : List ℕ). Says kind (record { text = t; files = map written_by answer.files.items })) (sym with.text_is)
    (subst (λ (files : List NewFile). Says kind (record { text = text; files = map written_by files })) (sym with.no_files) is))

-- a design of three texts, and of every SPEF text that is, without its comments, this one
pub design_of_texts : (clear spef l lib v verilog k cons : List ℕ) (d : Design) → IsDesignOf clear l v k d → clear ≡ without_comments SpefComments spef → l ≡ lib → v ≡ verilog
    → k ≡ cons → IsDesign (texts_in_files spef lib verilog cons) d
design_of_texts clear spef l lib v verilog k cons d of is same_lib same_verilog same_cons =
    subst (λ (text : List ℕ). IsDesign (texts_in_files spef text verilog cons) d) same_lib
    (subst (λ (text : List ℕ). IsDesign (texts_in_files spef l text cons) d) same_verilog
    (subst (λ (text : List ℕ). IsDesign (texts_in_files spef l v text) d) same_cons (of spef is)))

-- the first fault of four texts, told as an answer
pub told_fault : (texts : Texts) (fault : DesignFault) (answer : NoAnswer) → IsFirstFault texts fault → Tells fault answer → IsNoDesign texts answer
told_fault texts fault Memory first tells = tt
told_fault texts (SpefFaulty fault) (Faulty input line) first (is, text) = inl (sym is, record { fault = fault; found = first; text_is = text })
told_fault texts (LibFaulty fault) (Faulty input line) first (is, text) = inr (first.0, inl (sym is, record { fault = fault; found = first.1; text_is = text }))
told_fault texts (VerFaulty fault) (Faulty input line) first (is, text) = inr (first.0, inr (first.1.0, inl (sym is, record { fault = fault; found = first.1.1; text_is = text })))
told_fault texts (ConsFaulty fault) (Faulty input line) first (is, text) =
    inr (first.0, inr (first.1.0, inr (first.1.1.0, inl (sym is, record { fault = fault; found = first.1.1.1; text_is = text }))))
told_fault texts NoRoom (Faulty input line) first tells = absurd tells
told_fault texts fault (Taken name) first tells = absurd tells

-- a fault of the design is the answer of each mode that reads one
pub no_design : (Says : AnswerKind → Said → Type 0) (Takes : List ℕ → Type 0) (texts : Texts) (fault : NoAnswer) → IsNoDesign texts fault
    → AnswersBy Says (IsDesignFault texts) Takes (Err fault)
no_design Says Takes texts (Faulty input line) is = is
no_design Says Takes texts (Taken name) is = absurd is
no_design Says Takes texts Memory is = tt

-- a fault that is handed on
pub handed : (P : Result Answer NoAnswer → Type 0) (answered : Result Answer NoAnswer) (fault : NoAnswer) → IsErrAnd answered (λ f. f ≡ fault) → P (Err fault) → P answered
handed P (Ok answer) fault is answers = absurd is
handed P (Err f) fault is answers = subst (λ (x : NoAnswer). P (Err x)) (sym is) answers
