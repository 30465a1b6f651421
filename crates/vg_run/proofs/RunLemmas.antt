-- What a status tells of a run.
use Rattle.std.proofs.Common.{◌≡◌, ◌≢◌, ◌⊎◌, inl, inr, ℕ, ◌^◌, ◌<◌, ◌≤◌, List, [], length, refl, sym, ap, ◌∙◌, subst, arith, Option, Some, IfSome, Err, true}
use Rattle.std.specs.List.{All}
use Rattle.std.proofs.Math.ListN.{get_or}
use Rattle.std.proofs.lemmas.List.Elements.{All-nil}
use Rattle.vg_store.specs.Causes.{Rose}
use Rattle.vg_store.specs.Reading.{FilesState}
use Rattle.vg_store.specs.Writing.{OutState, Gains}
use Rattle.vg_words.specs.Request.{IsRequest, IsRefused, ReadsWords, parts_of, prefix_of, cap_of}
use Rattle.vg_words.specs.declared.ask.Ask.{Ask}
use Rattle.vg_words.specs.declared.ask.Mode.{Mode}
use Rattle.vg_words.specs.declared.ask.Mode.TheVariants.{Wire, Time, Best, Frontier, Check, Gen, Sta, Segment, Repair, Total, Width}
use Rattle.vg_words.specs.declared.ask.WordFault.{WordFault}
use Rattle.vg_words.specs.declared.ask.WordFault.TheVariants.{Unread, Missing, Excluded, BadValue, Equal, Memory as NoRoom}
use Rattle.vg_words.proofs.JudgeLemmas.{refused_none, one}
use Rattle.vg_run.specs.Modes.{IsAnswerFor, IsTakenFor, IsFaultFor, design_texts, one_net, best_asked, repair_asked, total_asked, IsAnswerIn, IsFaultIn, IsTakenIn}
use Rattle.vg_answer.specs.Faults.{design_inputs, IsShort, IsDesignFault}
use Rattle.vg_run.specs.Inputs.{inputs, told, Change, IsLong, IsRead}
use Rattle.vg_answer.specs.Answers.{Said, Written}
use Rattle.vg_run.specs.Run.{AreUntouched, AreTold, ErrorLine, AreShort, IsExact, IsStatusFor, Prints, Says, TellsFlaw, TellsRefusedInput, TellsWriteFault, creates_nothing, is_status, output_name, prints_nothing}
use Rattle.vg_answer.specs.Verdicts.{status_for}
use Rattle.vg_run.specs.Outcomes.{Ends, IsStatusOf, Tells, status_of, fault_status}
use Rattle.vg_answer.specs.declared.kind.AnswerKind.{AnswerKind}
use Rattle.vg_answer.specs.declared.kind.AnswerKind.TheVariants.{Report, NoneGood, Refusal, Invalid}
use Rattle.vg_answer.specs.declared.input.Input.{Input}
use Rattle.vg_answer.specs.declared.input.Input.TheVariants.{Spef, Lib, Verilog, Cons, Cert, Widths}
use Rattle.vg_run.specs.declared.inputs.Flaw.TheVariants.{Failed, TooLong, Faulty}
use Rattle.vg_run.specs.declared.outcome.Outcome.{Outcome}
use Rattle.vg_run.specs.declared.outcome.Outcome.TheVariants.{Printed, Flawed, Taken, Unwritten, WriteFault, Memory}
use Rattle.vg_run.proofs.ApartLemmas.{not_faulty, not_taken, one_kind}
use Rattle.vg_run.proofs.InputLemmas.{all_one, all_four, all_five, none_first}
use Rattle.vg_run.proofs.KindLemmas.{no_files_invalid}
use Rattle.mode_wire.specs.Answers.{IsWireAnswer, IsWireFault}
use Rattle.mode_time.specs.Answers.{IsTimeAnswer}
use Rattle.vg_place.specs.Placings.{IsTaken}
use Rattle.mode_best.specs.Answers.{IsBestAnswer}
use Rattle.mode_frontier.specs.Answers.{IsFrontAnswer}
use Rattle.mode_check.specs.Answers.{IsCheckAnswer}
use Rattle.mode_repair.specs.Answers.{IsRepairAnswer}
use Rattle.mode_segment.specs.Answers.{IsSegmentAnswer, IsSegmentFault}
use Rattle.mode_sta.specs.Answers.{IsStaAnswer}
use Rattle.mode_total.specs.Answers.{IsTotalAnswer, IsTotalTaken}
use Rattle.mode_width.specs.Answers.{IsWidthAnswer, IsWidthFault}
use Rattle.design_read.specs.Designs.{Texts}

abbrev Bytes : Type 0
Bytes = List ℕ

-- refused words
pub fault_is : (words : List Bytes) (fault : WordFault) → ReadsWords (Err fault) words → (fault_status fault ≡ 3 → IsRefused words fault) × ((fault_status fault ≡ 7) ⊎ IsRefused words fault)
fault_is words Unread reads = (λ _. reads, inr reads)
fault_is words (Missing o) reads = (λ _. reads, inr reads)
fault_is words (Excluded o) reads = (λ _. reads, inr reads)
fault_is words (BadValue o) reads = (λ _. reads, inr reads)
fault_is words (Equal a b) reads = (λ _. reads, inr reads)
fault_is words NoRoom reads = (λ seven. absurd (omega arith), inl refl)

pub fault_two : (fault : WordFault) → (fault_status fault ≡ 3) ⊎ (fault_status fault ≡ 7)
fault_two Unread = inl refl
fault_two (Missing o) = inl refl
fault_two (Excluded o) = inl refl
fault_two (BadValue o) = inl refl
fault_two (Equal a b) = inl refl
fault_two NoRoom = inr refl

module _ (ask : Ask) (texts : Input → Bytes) where
  answer_status : AreShort ask texts → (kind : AnswerKind) (t : Said) → IsAnswerFor ask texts kind t → IsStatusFor ask texts (status_for kind)
  answer_status short kind t is = record {
    too_long = λ long. absurd (long short);
    faulty = λ _ line input f. absurd (not_faulty ask.mode ask texts kind t line input is f);
    taken = λ _ name r. absurd (not_taken ask.mode ask texts kind t name is r);
    answer = λ _ other u r. ap status_for (one_kind ask.mode ask texts kind other t u is r);
  }

  faulty_status : (line : Bytes) (input : Input) → IsFaultFor ask texts line input → IsStatusFor ask texts 4
  faulty_status line input is = record {
    too_long = λ _. refl;
    faulty = λ _ _ _ _. refl;
    taken = λ _ _ _. refl;
    answer = λ _ kind t r. absurd (not_faulty ask.mode ask texts kind t line input r is);
  }

  taken_status : (name : Bytes) → IsTakenFor ask texts name → IsStatusFor ask texts 4
  taken_status name is = record {
    too_long = λ _. refl;
    faulty = λ _ _ _ _. refl;
    taken = λ _ _ _. refl;
    answer = λ _ kind t r. absurd (not_taken ask.mode ask texts kind t name r is);
  }

  long_status : (AreShort ask texts → ⊥) → IsStatusFor ask texts 4
  long_status long = record {
    too_long = λ _. refl;
    faulty = λ _ _ _ _. refl;
    taken = λ _ _ _. refl;
    answer = λ short _ _ _. absurd (long short);
  }

-- texts that were read are those that are told, as far as the mode reads them
abbrev Agree : Mode → (Input → Bytes) → (Input → Bytes) → Type 0
Agree Wire a b = a Spef ≡ b Spef
Agree Time a b = design_texts a ≡ design_texts b
Agree Best a b = design_texts a ≡ design_texts b
Agree Frontier a b = design_texts a ≡ design_texts b
Agree Check a b = (design_texts a ≡ design_texts b) × (a Cert ≡ b Cert)
Agree Gen a b = Unit {0}
Agree Sta a b = design_texts a ≡ design_texts b
Agree Segment a b = a Spef ≡ b Spef
Agree Repair a b = design_texts a ≡ design_texts b
Agree Total a b = design_texts a ≡ design_texts b
Agree Width a b = (design_texts a ≡ design_texts b) × (a Widths ≡ b Widths)

told_is : (file : Option Bytes) (a b : Bytes) → IsRead file a → file ≡ Some b → a ≡ b
told_is file a b read is = subst (λ (o : Option Bytes). IfSome o (λ bytes. a ≡ bytes)) is read.is_file

agree_on_all : (tell : Input → Option Bytes) (a b : Input → Bytes) → All (λ i. IsRead (tell i) (a i)) design_inputs → All (λ i. tell i ≡ Some (b i)) design_inputs
    → design_texts a ≡ design_texts b
agree_on_all tell a b read told =
    let s : a Spef ≡ b Spef = told_is (tell Spef) (a Spef) (b Spef) (read 0 Spef (omega arith)) (told 0 Spef (omega arith)) in
    let l : a Lib ≡ b Lib = told_is (tell Lib) (a Lib) (b Lib) (read 1 Spef (omega arith)) (told 1 Spef (omega arith)) in
    let v : a Verilog ≡ b Verilog = told_is (tell Verilog) (a Verilog) (b Verilog) (read 2 Spef (omega arith)) (told 2 Spef (omega arith)) in
    let c : a Cons ≡ b Cons = told_is (tell Cons) (a Cons) (b Cons) (read 3 Spef (omega arith)) (told 3 Spef (omega arith)) in
    λ i. record { spef = s i; lib = l i; verilog = v i; cons = c i }

agree_to_check : (tell : Input → Option Bytes) (a b : Input → Bytes) → All (λ i. IsRead (tell i) (a i)) (inputs Check) → All (λ i. tell i ≡ Some (b i)) (inputs Check)
    → design_texts a ≡ design_texts b
agree_to_check tell a b read told =
    let s : a Spef ≡ b Spef = told_is (tell Spef) (a Spef) (b Spef) (read 0 Spef (omega arith)) (told 0 Spef (omega arith)) in
    let l : a Lib ≡ b Lib = told_is (tell Lib) (a Lib) (b Lib) (read 1 Spef (omega arith)) (told 1 Spef (omega arith)) in
    let v : a Verilog ≡ b Verilog = told_is (tell Verilog) (a Verilog) (b Verilog) (read 2 Spef (omega arith)) (told 2 Spef (omega arith)) in
    let c : a Cons ≡ b Cons = told_is (tell Cons) (a Cons) (b Cons) (read 3 Spef (omega arith)) (told 3 Spef (omega arith)) in
    λ i. record { spef = s i; lib = l i; verilog = v i; cons = c i }

agree_to_width : (tell : Input → Option Bytes) (a b : Input → Bytes) → All (λ i. IsRead (tell i) (a i)) (inputs Width) → All (λ i. tell i ≡ Some (b i)) (inputs Width)
    → design_texts a ≡ design_texts b
agree_to_width tell a b read told =
    let s : a Spef ≡ b Spef = told_is (tell Spef) (a Spef) (b Spef) (read 0 Spef (omega arith)) (told 0 Spef (omega arith)) in
    let l : a Lib ≡ b Lib = told_is (tell Lib) (a Lib) (b Lib) (read 1 Spef (omega arith)) (told 1 Spef (omega arith)) in
    let v : a Verilog ≡ b Verilog = told_is (tell Verilog) (a Verilog) (b Verilog) (read 2 Spef (omega arith)) (told 2 Spef (omega arith)) in
    let c : a Cons ≡ b Cons = told_is (tell Cons) (a Cons) (b Cons) (read 3 Spef (omega arith)) (told 3 Spef (omega arith)) in
    λ i. record { spef = s i; lib = l i; verilog = v i; cons = c i }

pub agree : (mode : Mode) (tell : Input → Option Bytes) (a b : Input → Bytes) → All (λ i. IsRead (tell i) (a i)) (inputs mode) → All (λ i. tell i ≡ Some (b i)) (inputs mode) → Agree mode a b
agree Wire tell a b read told = told_is (tell Spef) (a Spef) (b Spef) (read 0 Spef (omega arith)) (told 0 Spef (omega arith))
agree Time tell a b read told = agree_on_all tell a b read told
agree Best tell a b read told = agree_on_all tell a b read told
agree Frontier tell a b read told = agree_on_all tell a b read told
agree Check tell a b read told =
    (agree_to_check tell a b read told, told_is (tell Cert) (a Cert) (b Cert) (read 4 Spef (omega arith)) (told 4 Spef (omega arith)))
agree Gen tell a b read told = tt
agree Sta tell a b read told = agree_on_all tell a b read told
agree Segment tell a b read told = told_is (tell Spef) (a Spef) (b Spef) (read 0 Spef (omega arith)) (told 0 Spef (omega arith))
agree Repair tell a b read told = agree_on_all tell a b read told
agree Total tell a b read told = agree_on_all tell a b read told
agree Width tell a b read told =
    (agree_to_width tell a b read told, told_is (tell Widths) (a Widths) (b Widths) (read 4 Spef (omega arith)) (told 4 Spef (omega arith)))

-- what is said of the ones is said of the others
pub answer_as : (mode : Mode) (ask : Ask) (a b : Input → Bytes) (kind : AnswerKind) (t : Said) → Agree mode a b → IsAnswerIn mode ask a kind t → IsAnswerIn mode ask b kind t
answer_as Wire ask a b kind t e is = subst (λ (text : Bytes). IsWireAnswer text (one_net ask) kind t) e is
answer_as Time ask a b kind t e is = subst (λ (texts : Texts). IsTimeAnswer texts ask.net (prefix_of ask) kind t) e is
answer_as Best ask a b kind t e is = subst (λ (texts : Texts). IsBestAnswer texts (best_asked ask) kind t) e is
answer_as Frontier ask a b kind t e is = subst (λ (texts : Texts). IsFrontAnswer texts ask.net (cap_of ask) kind t) e is
answer_as Check ask a b kind t (e, same) is =
    subst (λ (texts : Texts). IsCheckAnswer texts (b Cert) (one_net ask) kind t) e (subst (λ (cert : Bytes). IsCheckAnswer (design_texts a) cert (one_net ask) kind t) same is)
answer_as Gen ask a b kind t e is = is
answer_as Sta ask a b kind t e is = subst (λ (texts : Texts). IsStaAnswer texts kind t) e is
answer_as Segment ask a b kind t e is = subst (λ (text : Bytes). IsSegmentAnswer text ask.net (parts_of ask) kind t) e is
answer_as Repair ask a b kind t e is = subst (λ (texts : Texts). IsRepairAnswer texts (repair_asked ask) kind t) e is
answer_as Total ask a b kind t e is = subst (λ (texts : Texts). IsTotalAnswer texts (total_asked ask) kind t) e is
answer_as Width ask a b kind t (e, same) is =
    subst (λ (texts : Texts). IsWidthAnswer texts (b Widths) (one_net ask) kind t) e (subst (λ (file : Bytes). IsWidthAnswer (design_texts a) file (one_net ask) kind t) same is)

pub taken_as : (mode : Mode) (ask : Ask) (a b : Input → Bytes) (name : Bytes) → Agree mode a b → IsTakenIn mode ask a name → IsTakenIn mode ask b name
taken_as Wire ask a b name e is = is
taken_as Time ask a b name e is = is
taken_as Best ask a b name e is = subst (λ (texts : Texts). IsTaken texts (prefix_of ask) name) e is
taken_as Frontier ask a b name e is = is
taken_as Check ask a b name e is = is
taken_as Gen ask a b name e is = is
taken_as Sta ask a b name e is = is
taken_as Segment ask a b name e is = is
taken_as Repair ask a b name e is = subst (λ (texts : Texts). IsTaken texts (prefix_of ask) name) e is
taken_as Total ask a b name e is = subst (λ (texts : Texts). IsTotalTaken texts (total_asked ask) name) e is
taken_as Width ask a b name e is = is

pub faulty_as : (mode : Mode) (ask : Ask) (a b : Input → Bytes) (line : Bytes) (input : Input) → Agree mode a b → IsFaultIn mode ask a line input → IsFaultIn mode ask b line input
faulty_as Wire ask a b line input e is = subst (λ (text : Bytes). IsWireFault text line input) e is
faulty_as Time ask a b line input e is = subst (λ (texts : Texts). IsDesignFault texts line input) e is
faulty_as Best ask a b line input e is = subst (λ (texts : Texts). IsDesignFault texts line input) e is
faulty_as Frontier ask a b line input e is = subst (λ (texts : Texts). IsDesignFault texts line input) e is
faulty_as Check ask a b line input e is = subst (λ (texts : Texts). IsDesignFault texts line input) e.0 is
faulty_as Gen ask a b line input e is = is
faulty_as Sta ask a b line input e is = subst (λ (texts : Texts). IsDesignFault texts line input) e is
faulty_as Segment ask a b line input e is = subst (λ (text : Bytes). IsSegmentFault text line input) e is
faulty_as Repair ask a b line input e is = subst (λ (texts : Texts). IsDesignFault texts line input) e is
faulty_as Total ask a b line input e is = subst (λ (texts : Texts). IsDesignFault texts line input) e is
faulty_as Width ask a b line input (e, same) is =
    subst (λ (texts : Texts). IsWidthFault texts (b Widths) line input) e (subst (λ (file : Bytes). IsWidthFault (design_texts a) file line input) same is)

-- texts that were read are short
module _ (tell : Input → Option Bytes) (a b : Input → Bytes) (list : List Input) (read : All (λ i. IsRead (tell i) (a i)) list) where
  short_at : (at : ℕ) (input : Input) → at < length list → get_or list at Spef ≡ input → a input ≡ b input → IsShort (b input)
  short_at at input low is same =
      subst (λ (text : Bytes). IsShort text) same (subst (λ (i : Input). IsShort (a i)) is (read at Spef low).short)

  pub short_texts : 3 < length list → get_or list 0 Spef ≡ Spef → get_or list 1 Spef ≡ Lib → get_or list 2 Spef ≡ Verilog → get_or list 3 Spef ≡ Cons
      → design_texts a ≡ design_texts b → IsShort (b Spef) × IsShort (b Lib) × IsShort (b Verilog) × IsShort (b Cons)
  short_texts low s l v c e = (
    short_at 0 Spef (omega (arith, low)) s (ap (λ (t : Texts). t.spef) e),
    short_at 1 Lib (omega (arith, low)) l (ap (λ (t : Texts). t.lib) e),
    short_at 2 Verilog (omega (arith, low)) v (ap (λ (t : Texts). t.verilog) e),
    short_at 3 Cons low c (ap (λ (t : Texts). t.cons) e),
  )

all_short : (tell : Input → Option Bytes) (a b : Input → Bytes) → All (λ i. IsRead (tell i) (a i)) design_inputs → design_texts a ≡ design_texts b
    → All (λ i. IsShort (b i)) design_inputs
all_short tell a b read e =
    let (s, l, v, c) = short_texts tell a b design_inputs read (omega arith) refl refl refl refl e in
    all_four (λ i. IsShort (b i)) Spef Lib Verilog Cons s l v c

pub shorts : (mode : Mode) (tell : Input → Option Bytes) (a b : Input → Bytes) → All (λ i. IsRead (tell i) (a i)) (inputs mode) → Agree mode a b → All (λ i. IsShort (b i)) (inputs mode)
shorts Wire tell a b read e = all_one (λ i. IsShort (b i)) Spef (subst (λ (s : Bytes). IsShort s) e (read 0 Spef (omega arith)).short)
shorts Time tell a b read e = all_short tell a b read e
shorts Best tell a b read e = all_short tell a b read e
shorts Frontier tell a b read e = all_short tell a b read e
shorts Check tell a b read e =
    let (s, l, v, c) = short_texts tell a b (inputs Check) read (omega arith) refl refl refl refl e.0 in
    all_five (λ i. IsShort (b i)) Spef Lib Verilog Cons Cert s l v c (subst (λ (text : Bytes). IsShort text) e.1 (read 4 Spef (omega arith)).short)
shorts Gen tell a b read e = λ i d low. absurd (omega (arith, low))
shorts Sta tell a b read e = all_short tell a b read e
shorts Segment tell a b read e = all_one (λ i. IsShort (b i)) Spef (subst (λ (s : Bytes). IsShort s) e (read 0 Spef (omega arith)).short)
shorts Repair tell a b read e = all_short tell a b read e
shorts Total tell a b read e = all_short tell a b read e
shorts Width tell a b read e =
    let (s, l, v, c) = short_texts tell a b (inputs Width) read (omega arith) refl refl refl refl e.0 in
    all_five (λ i. IsShort (b i)) Spef Lib Verilog Cons Widths s l v c (subst (λ (text : Bytes). IsShort text) e.1 (read 4 Spef (omega arith)).short)

-- what is told and short is not too long
pub not_long : (file : Option Bytes) (text : Bytes) → (file ≡ Some text) → IsShort text → IsLong file → ⊥
not_long file text is short long =
    let at : 2 ^ 28 < length text = subst (λ (o : Option Bytes). IsLong o) is long in
    omega (arith, at, short)

pub both : (P Q : Input → Type 0) (list : List Input) → All P list → All Q list → All (λ i. P i × Q i) list
both P Q list p q k d h = (p k d h, q k d h)

-- the status tells the kind
answers_apart : (kind : AnswerKind) (status : ℕ) → 3 ≤ status → status ≤ 7 → status ≡ status_for kind → ⊥
answers_apart Report status low high e = omega (arith, low, e)
answers_apart NoneGood status low high e = omega (arith, low, e)
answers_apart Refusal status low high e = omega (arith, low, e)
answers_apart Invalid status low high e = omega (arith, high, e)

kind_by_status : (a b : AnswerKind) → status_for a ≡ status_for b → a ≡ b
kind_by_status Report Report e = refl
kind_by_status NoneGood NoneGood e = refl
kind_by_status Refusal Refusal e = refl
kind_by_status Invalid Invalid e = refl
kind_by_status Report NoneGood e = absurd (omega (arith, e))
kind_by_status Report Refusal e = absurd (omega (arith, e))
kind_by_status Report Invalid e = absurd (omega (arith, e))
kind_by_status NoneGood Report e = absurd (omega (arith, e))
kind_by_status NoneGood Refusal e = absurd (omega (arith, e))
kind_by_status NoneGood Invalid e = absurd (omega (arith, e))
kind_by_status Refusal Report e = absurd (omega (arith, e))
kind_by_status Refusal NoneGood e = absurd (omega (arith, e))
kind_by_status Refusal Invalid e = absurd (omega (arith, e))
kind_by_status Invalid Report e = absurd (omega (arith, e))
kind_by_status Invalid NoneGood e = absurd (omega (arith, e))
kind_by_status Invalid Refusal e = absurd (omega (arith, e))

-- a request ends with one of the statuses
known_status : (outcome : Outcome) → is_status (status_of outcome) ≡ true
known_status (Printed Report) = refl
known_status (Printed NoneGood) = refl
known_status (Printed Refusal) = refl
known_status (Printed Invalid) = refl
known_status (Flawed input Failed) = refl
known_status (Flawed input TooLong) = refl
known_status (Flawed input (Faulty line)) = refl
known_status (Taken name) = refl
known_status (Unwritten output) = refl
known_status WriteFault = refl
known_status Memory = refl

module _ (ask : Ask) (files : Change FilesState) (out : Change OutState) where
  exact_is : (outcome : Outcome) → Ends ask files out outcome → (b : Input → Bytes) → AreTold files.0 ask b
      → status_of outcome ≢ 5 → status_of outcome ≢ 6 → status_of outcome ≢ 7 → IsStatusFor ask b (status_of outcome)
  exact_is (Printed kind) (a, read, (t, is, _, _)) b tells five six seven =
      let e = agree ask.mode (told files.0 ask) a b read tells in
      answer_status ask b (shorts ask.mode (told files.0 ask) a b read e) kind t (answer_as ask.mode ask a b kind t e is)
  exact_is (Flawed input (Faulty line)) (flawed, _, _) b tells five six seven =
      let e = agree ask.mode (told files.0 ask) flawed.texts b flawed.first.0 tells in
      faulty_status ask b line input (faulty_as ask.mode ask flawed.texts b line input e flawed.first.1)
  exact_is (Flawed input TooLong) (flawed, _, _) b tells five six seven =
      long_status ask b (λ short.
      none_first (λ i. IsRead (told files.0 ask i) (flawed.texts i)) (λ i. IsLong (told files.0 ask i)) (λ i. (told files.0 ask i ≡ Some (b i)) × IsShort (b i)) (inputs ask.mode) input flawed.first
      (both (λ i. told files.0 ask i ≡ Some (b i)) (λ i. IsShort (b i)) (inputs ask.mode) tells short) (λ i fine long. not_long (told files.0 ask i) (b i) fine.0 fine.1 long))
  exact_is (Flawed input Failed) ends b tells five six seven = absurd (five refl)
  exact_is (Taken name) ((a, read, is), _, _) b tells five six seven =
      let e = agree ask.mode (told files.0 ask) a b read tells in
      taken_status ask b name (taken_as ask.mode ask a b name e is)
  exact_is (Unwritten output) ends b tells five six seven = absurd (six refl)
  exact_is WriteFault ends b tells five six seven = absurd (six refl)
  exact_is Memory ends b tells five six seven = absurd (seven refl)

  printed_is : (kind : AnswerKind) (outcome : Outcome) → status_of outcome ≡ status_for kind → Ends ask files out outcome → Prints kind files (Gains out.0 out.1) ask
  printed_is kind (Printed other) e ends = subst (λ (k : AnswerKind). Prints k files (Gains out.0 out.1) ask) (kind_by_status other kind e) ends
  printed_is kind (Flawed input Failed) e ends = absurd (answers_apart kind 5 (omega arith) (omega arith) e)
  printed_is kind (Flawed input TooLong) e ends = absurd (answers_apart kind 4 (omega arith) (omega arith) e)
  printed_is kind (Flawed input (Faulty line)) e ends = absurd (answers_apart kind 4 (omega arith) (omega arith) e)
  printed_is kind (Taken name) e ends = absurd (answers_apart kind 4 (omega arith) (omega arith) e)
  printed_is kind (Unwritten output) e ends = absurd (answers_apart kind 6 (omega arith) (omega arith) e)
  printed_is kind WriteFault e ends = absurd (answers_apart kind 6 (omega arith) (omega arith) e)
  printed_is kind Memory e ends = absurd (answers_apart kind 7 (omega arith) (omega arith) e)

  untouched : (outcome : Outcome) → creates_nothing (status_of outcome) ≡ true → Ends ask files out outcome → AreUntouched files
  untouched (Printed Report) e ends = absurd cc
  untouched (Printed NoneGood) e ends = absurd cc
  untouched (Printed Refusal) e ends = absurd cc
  untouched (Printed Invalid) e (texts, read, (said, says, gained, written)) =
      let none : said.files ≡ [] = no_files_invalid ask.mode ask texts said says in
      record {
        stay = λ file. written.others file (subst (λ (list : List Written). All (λ w. output_name ask w.output ≢ Some file) list) (sym none) (All-nil (λ w. output_name ask w.output ≢ Some file)));
        none_created = written.none none;
      }
  untouched (Flawed input flaw) e (_, stay, _) = stay
  untouched (Taken name) e (_, stay, _) = stay
  untouched (Unwritten output) e ends = absurd cc
  untouched WriteFault e ends = absurd cc
  untouched Memory e (stay, _) = stay

  unprinted : (outcome : Outcome) → prints_nothing (status_of outcome) ≡ true → Ends ask files out outcome → out.1.written ≡ out.0.written
  unprinted (Printed Report) e ends = absurd cc
  unprinted (Printed NoneGood) e ends = absurd cc
  unprinted (Printed Refusal) e ends = absurd cc
  unprinted (Printed Invalid) e ends = absurd cc
  unprinted (Flawed input flaw) e (_, _, same) = same
  unprinted (Taken name) e (_, _, same) = same
  unprinted (Unwritten output) e ends = absurd cc
  unprinted WriteFault e ends = absurd cc
  unprinted Memory e (_, same) = same

  not_three : (outcome : Outcome) → status_of outcome ≡ 3 → ⊥
  not_three (Printed kind) e = answers_apart kind 3 (omega arith) (omega arith) (sym e)
  not_three (Flawed input Failed) e = omega arith
  not_three (Flawed input TooLong) e = omega arith
  not_three (Flawed input (Faulty line)) e = omega arith
  not_three (Taken name) e = omega arith
  not_three (Unwritten output) e = omega arith
  not_three WriteFault e = omega arith
  not_three Memory e = omega arith

  module _ (err : Change OutState) where
    unreadable_is : (outcome : Outcome) → status_of outcome ≡ 4 → Ends ask files out outcome → Tells ask err outcome → TellsRefusedInput files (Says err.0 err.1) ask
    unreadable_is (Flawed input TooLong) e (flawed, _, _) tells = inl (input, TooLong, refl, flawed, tells)
    unreadable_is (Flawed input (Faulty line)) e (flawed, _, _) tells = inl (input, Faulty line, refl, flawed, tells)
    unreadable_is (Flawed input Failed) e ends tells = absurd (omega arith)
    unreadable_is (Taken name) e (takes, _, _) tells = inr (name, takes, tells)
    unreadable_is (Printed kind) e ends tells = absurd (answers_apart kind 4 (omega arith) (omega arith) (sym e))
    unreadable_is (Unwritten output) e ends tells = absurd (omega arith)
    unreadable_is WriteFault e ends tells = absurd (omega arith)
    unreadable_is Memory e ends tells = absurd (omega arith)

    read_fault_is : (outcome : Outcome) → status_of outcome ≡ 5 → Ends ask files out outcome → Tells ask err outcome
        → Rose files.0.read_faults files.1.read_faults × TellsFlaw 5 files (Says err.0 err.1) ask
    read_fault_is (Flawed input Failed) e (flawed, _, _) tells = (flawed.caused.0, (input, Failed, refl, flawed, tells))
    read_fault_is (Flawed input TooLong) e ends tells = absurd (omega arith)
    read_fault_is (Flawed input (Faulty line)) e ends tells = absurd (omega arith)
    read_fault_is (Taken name) e ends tells = absurd (omega arith)
    read_fault_is (Printed kind) e ends tells = absurd (answers_apart kind 5 (omega arith) (omega arith) (sym e))
    read_fault_is (Unwritten output) e ends tells = absurd (omega arith)
    read_fault_is WriteFault e ends tells = absurd (omega arith)
    read_fault_is Memory e ends tells = absurd (omega arith)

    write_fault_is : (outcome : Outcome) → status_of outcome ≡ 6 → Ends ask files out outcome → Tells ask err outcome → TellsWriteFault files out (Says err.0 err.1) ask
    write_fault_is WriteFault e (rose, prints) tells = inl (rose, prints, tells)
    write_fault_is (Unwritten output) e (fails, same) tells = inr (output, fails, same, tells)
    write_fault_is (Printed kind) e ends tells = absurd (answers_apart kind 6 (omega arith) (omega arith) (sym e))
    write_fault_is (Flawed input Failed) e ends tells = absurd (omega arith)
    write_fault_is (Flawed input TooLong) e ends tells = absurd (omega arith)
    write_fault_is (Flawed input (Faulty line)) e ends tells = absurd (omega arith)
    write_fault_is (Taken name) e ends tells = absurd (omega arith)
    write_fault_is Memory e ends tells = absurd (omega arith)

-- standard error has its line, or stays as it is after a printed answer
line_is : (ask : Ask) (err : Change OutState) (outcome : Outcome) → Tells ask err outcome → ErrorLine (status_of outcome) (Says err.0 err.1) (err.1.written ≡ err.0.written)
line_is ask err (Printed kind) tells = record { printed = λ _. tells; memory = λ e. absurd (answers_apart kind 7 (omega arith) (omega arith) (sym e)) }
line_is ask err (Flawed input Failed) tells = record { printed = λ e. absurd cc; memory = λ e. absurd (omega (arith, e)) }
line_is ask err (Flawed input TooLong) tells = record { printed = λ e. absurd cc; memory = λ e. absurd (omega (arith, e)) }
line_is ask err (Flawed input (Faulty line)) tells = record { printed = λ e. absurd cc; memory = λ e. absurd (omega (arith, e)) }
line_is ask err (Taken name) tells = record { printed = λ e. absurd cc; memory = λ e. absurd (omega (arith, e)) }
line_is ask err (Unwritten output) tells = record { printed = λ e. absurd cc; memory = λ e. absurd (omega (arith, e)) }
line_is ask err WriteFault tells = record { printed = λ e. absurd cc; memory = λ e. absurd (omega (arith, e)) }
line_is ask err Memory tells = record { printed = λ e. absurd cc; memory = λ _. tells }

-- the request is the one that the words denote
exact_for : (words : List Bytes) (ask : Ask) (files : Change FilesState) (out : Change OutState) (outcome : Outcome) (status : ℕ)
    → IsRequest words ask → status ≡ status_of outcome → Ends ask files out outcome
    → (other : Ask) → IsRequest words other → (read : Input → Bytes) → AreTold files.0 other read → status ≢ 5 → status ≢ 6 → status ≢ 7 → IsStatusFor other read status
exact_for words ask files out outcome status is e ends other same read told five six seven =
    let r : ask ≡ other = one words ask other is same in
    subst (λ (x : Ask). IsStatusFor x read status) r
    (subst (λ (s : ℕ). IsStatusFor ask read s) (sym e)
    (exact_is ask files out outcome ends read (subst (λ (x : Ask). AreTold files.0 x read) (sym r) told)
    (λ h. five (e ∙ h)) (λ h. six (e ∙ h)) (λ h. seven (e ∙ h))))

-- what the outcome of a request says of it
module _ {ask : Ask} {files : Change FilesState} {out err : Change OutState} {status : ℕ} (run : IsStatusOf ask files out err status) where
  pub run_printed : (kind : AnswerKind) → status ≡ status_for kind → Prints kind files (Gains out.0 out.1) ask
  run_printed kind e = printed_is ask files out kind run.outcome (sym run.status_is ∙ e) run.ends

  pub run_not_three : status ≡ 3 → ⊥
  run_not_three e = not_three ask files out run.outcome (sym run.status_is ∙ e)

  pub run_unreadable : status ≡ 4 → TellsRefusedInput files (Says err.0 err.1) ask
  run_unreadable e = unreadable_is ask files out err run.outcome (sym run.status_is ∙ e) run.ends run.tells

  pub run_read_fault : status ≡ 5 → Rose files.0.read_faults files.1.read_faults × TellsFlaw 5 files (Says err.0 err.1) ask
  run_read_fault e = read_fault_is ask files out err run.outcome (sym run.status_is ∙ e) run.ends run.tells

  pub run_write_fault : status ≡ 6 → TellsWriteFault files out (Says err.0 err.1) ask
  run_write_fault e = write_fault_is ask files out err run.outcome (sym run.status_is ∙ e) run.ends run.tells

  pub run_line : ErrorLine status (Says err.0 err.1) (err.1.written ≡ err.0.written)
  run_line =
      subst (λ (s : ℕ). ErrorLine s (Says err.0 err.1) (err.1.written ≡ err.0.written)) (sym run.status_is) (line_is ask err run.outcome run.tells)

  pub run_status : is_status status ≡ true
  run_status = ap is_status run.status_is ∙ known_status run.outcome

  pub run_unprinted : prints_nothing status ≡ true → out.1.written ≡ out.0.written
  run_unprinted e = unprinted ask files out run.outcome (ap prints_nothing (sym run.status_is) ∙ e) run.ends

  pub run_untouched : creates_nothing status ≡ true → AreUntouched files
  run_untouched e = untouched ask files out run.outcome (ap creates_nothing (sym run.status_is) ∙ e) run.ends

  pub run_exact : (words : List Bytes) → IsRequest words ask → IsExact words files.0 status
  run_exact words is = exact_for words ask files out run.outcome status is run.status_is run.ends

pub fault_exact : (words : List Bytes) (fault : WordFault) → ReadsWords (Err fault) words → fault_status fault ≢ 7 → (request : Ask) → IsRequest words request → ⊥
fault_exact words fault reads seven request is =
    elim (fault_is words fault reads).1 [
      | inl e ↦ seven e
      | inr refused ↦ refused_none words fault refused request is
    ]
