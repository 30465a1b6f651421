-- The table of modes: what each answers, which faults it tells, and which names it refuses.
use Rattle.std.specs.Prelude.{ℕ, List, [], Option, Some, None, Result, unwrap_or, is_some, if◌then◌else◌}
use Rattle.design_read.specs.Designs.{Texts}
use Rattle.vg_words.specs.declared.ask.Mode.{Mode}
use Rattle.vg_words.specs.declared.ask.Mode.TheVariants.{Wire, Time, Best, Frontier, Check, Gen, Sta, Segment, Repair, Total, Width}
use Rattle.mode_gen.specs.Answers.{made_up, IsGenAnswer}
use Rattle.vg_place.specs.Placings.{IsTaken}
use Rattle.mode_best.specs.Answers.{Asked, IsBestAnswer}
use Rattle.vg_answer.specs.Answers.{Said, AnswersBy}
use Rattle.mode_check.specs.Answers.{IsCheckAnswer}
use Rattle.mode_frontier.specs.Answers.{IsFrontAnswer}
use Rattle.mode_repair.specs.Answers.{IsRepairAnswer, Asked as RepairAsked}
use Rattle.mode_repair.specs.declared.outcome.Goal.{Goal}
use Rattle.mode_segment.specs.Answers.{IsSegmentAnswer, IsSegmentFault}
use Rattle.mode_sta.specs.Answers.{IsStaAnswer}
use Rattle.mode_time.specs.Answers.{IsTimeAnswer}
use Rattle.mode_total.specs.Answers.{IsTotalAnswer, IsTotalTaken, Asked as TotalAsked}
use Rattle.mode_width.specs.Answers.{IsWidthAnswer, IsWidthFault}
use Rattle.vg_answer.specs.declared.input.Input.{Input}
use Rattle.vg_answer.specs.declared.input.Input.TheVariants.{Spef, Lib, Verilog, Cons, Cert, Widths}
use Rattle.vg_answer.specs.declared.answer.Answer.{Answer}
use Rattle.vg_answer.specs.declared.kind.AnswerKind.{AnswerKind}
use Rattle.vg_answer.specs.declared.answer.NoAnswer.{NoAnswer}
use Rattle.vg_words.specs.Request.{cap_of, parts_of, prefix_of, size_of, target_of}
use Rattle.vg_words.specs.declared.ask.Ask.{Ask}
use Rattle.vg_answer.specs.Faults.{IsDesignFault}
use Rattle.mode_wire.specs.Answers.{IsWireAnswer, IsWireFault}
use Rattle.vg_run.specs.Inputs.{written_cert}

-- the texts of the four files of a design
abbrev pub design_texts : (Input → List ℕ) → Texts
design_texts texts = record { spef = texts Spef; lib = texts Lib; verilog = texts Verilog; cons = texts Cons }

-- the net that modes `wire`, `check` and `width` are asked for
abbrev pub one_net : Ask → List ℕ
one_net ask = unwrap_or ask.net []

-- what mode `best` is asked
abbrev pub best_asked : Ask → Asked
best_asked ask = record { net = ask.net; prefix = prefix_of ask; certified = is_some (written_cert ask) }

-- which slack is enough in mode `repair`, and the cap
abbrev pub goal_of : Ask → Goal
goal_of ask = record { target = target_of ask; cap = cap_of ask }

-- what mode `repair` is asked
abbrev pub repair_asked : Ask → RepairAsked
repair_asked ask = record { net = ask.net; goal = goal_of ask; prefix = prefix_of ask }

-- what the names of new cells and nets begin with in mode `total`, where it is to write files
abbrev pub written_prefix : Ask → Option (List ℕ)
written_prefix ask = if is_some ask.out_spef then Some (prefix_of ask) else None

-- what mode `total` is asked
abbrev pub total_asked : Ask → TotalAsked
total_asked ask = record { cap = cap_of ask; prefix = written_prefix ask }

-- what is said of the texts that a mode reads
abbrev pub IsAnswerIn : Mode → Ask → (Input → List ℕ) → AnswerKind → Said → Type 0
IsAnswerIn Wire ask texts kind said = IsWireAnswer (texts Spef) (one_net ask) kind said
IsAnswerIn Time ask texts kind said = IsTimeAnswer (design_texts texts) ask.net (prefix_of ask) kind said
IsAnswerIn Best ask texts kind said = IsBestAnswer (design_texts texts) (best_asked ask) kind said
IsAnswerIn Frontier ask texts kind said = IsFrontAnswer (design_texts texts) ask.net (cap_of ask) kind said
IsAnswerIn Check ask texts kind said = IsCheckAnswer (design_texts texts) (texts Cert) (one_net ask) kind said
IsAnswerIn Gen ask texts kind said = IsGenAnswer (size_of ask) kind said
IsAnswerIn Sta ask texts kind said = IsStaAnswer (design_texts texts) kind said
IsAnswerIn Segment ask texts kind said = IsSegmentAnswer (texts Spef) ask.net (parts_of ask) kind said
IsAnswerIn Repair ask texts kind said = IsRepairAnswer (design_texts texts) (repair_asked ask) kind said
IsAnswerIn Total ask texts kind said = IsTotalAnswer (design_texts texts) (total_asked ask) kind said
IsAnswerIn Width ask texts kind said = IsWidthAnswer (design_texts texts) (texts Widths) (one_net ask) kind said

-- the first fault of the texts that it judges: mode `gen` judges those of the design that it makes up, mode `check`
-- judges the certificate when all others are in their form, and mode `width` judges the widths last
abbrev pub IsFaultIn : Mode → Ask → (Input → List ℕ) → List ℕ → Input → Type 0
IsFaultIn Wire ask texts line input = IsWireFault (texts Spef) line input
IsFaultIn Segment ask texts line input = IsSegmentFault (texts Spef) line input
IsFaultIn Gen ask texts line input = IsDesignFault (made_up (size_of ask)) line input
IsFaultIn Width ask texts line input = IsWidthFault (design_texts texts) (texts Widths) line input
IsFaultIn mode ask texts line input = IsDesignFault (design_texts texts) line input

-- a name of the design begins with the prefix, for which modes `best` and `repair` ask, and mode `total` where it is to
-- write files
abbrev pub IsTakenIn : Mode → Ask → (Input → List ℕ) → List ℕ → Type 0
IsTakenIn Best ask texts name = IsTaken (design_texts texts) (prefix_of ask) name
IsTakenIn Repair ask texts name = IsTaken (design_texts texts) (prefix_of ask) name
IsTakenIn Total ask texts name = IsTotalTaken (design_texts texts) (total_asked ask) name
IsTakenIn mode ask texts name = ⊥

-- this is an answer of this kind to a request
abbrev pub IsAnswerFor : Ask → (Input → List ℕ) → AnswerKind → Said → Type 0
IsAnswerFor ask texts kind said = IsAnswerIn ask.mode ask texts kind said

abbrev pub IsFaultFor : Ask → (Input → List ℕ) → List ℕ → Input → Type 0
IsFaultFor ask texts line input = IsFaultIn ask.mode ask texts line input

abbrev pub IsTakenFor : Ask → (Input → List ℕ) → List ℕ → Type 0
IsTakenFor ask texts name = IsTakenIn ask.mode ask texts name

-- what judging the texts of a request may answer
abbrev pub AnswersFor : Ask → (Input → List ℕ) → Result Answer NoAnswer → Type 0
AnswersFor ask texts result = AnswersBy (IsAnswerFor ask texts) (IsFaultFor ask texts) (IsTakenFor ask texts) result
