-- What a mode says, as the answer of a request.
use Rattle.std.proofs.Common.{◌≡◌, ℕ, Bool, List, sym, subst, Option, Result}
use Rattle.std.specs.Prelude.{is_some}
use Rattle.vg_words.specs.Request.{cap_of, parts_of, prefix_of, size_of}
use Rattle.vg_words.specs.declared.ask.Ask.{Ask}
use Rattle.vg_words.specs.declared.ask.Mode.{Mode}
use Rattle.vg_words.specs.declared.ask.Mode.TheVariants.{Wire, Time, Best, Frontier, Check, Gen, Segment, Repair, Total, Width}
use Rattle.vg_answer.specs.Answers.{AnswersBy, NoneTaken}
use Rattle.vg_answer.specs.Faults.{IsDesignFault}
use Rattle.vg_answer.specs.declared.answer.Answer.{Answer}
use Rattle.vg_answer.specs.declared.answer.NoAnswer.{NoAnswer}
use Rattle.vg_answer.specs.declared.input.Input.{Input}
use Rattle.vg_answer.specs.declared.input.Input.TheVariants.{Spef, Cert, Widths}
use Rattle.mode_wire.specs.Answers.{IsWireAnswer, IsWireFault}
use Rattle.mode_time.specs.Answers.{IsTimeAnswer}
use Rattle.vg_place.specs.Placings.{IsTaken}
use Rattle.mode_best.specs.Answers.{Asked, IsBestAnswer}
use Rattle.mode_frontier.specs.Answers.{IsFrontAnswer}
use Rattle.mode_check.specs.Answers.{IsCheckAnswer}
use Rattle.mode_gen.specs.Answers.{IsGenAnswer, made_up}
use Rattle.mode_repair.specs.Answers.{IsRepairAnswer, Asked as RepairAsked}
use Rattle.mode_repair.specs.declared.outcome.Goal.{Goal}
use Rattle.mode_segment.specs.Answers.{IsSegmentAnswer, IsSegmentFault}
use Rattle.mode_total.specs.Answers.{IsTotalAnswer, IsTotalTaken, Asked as TotalAsked}
use Rattle.mode_width.specs.Answers.{IsWidthAnswer, IsWidthFault}
use Rattle.vg_run.specs.Inputs.{written_cert}
use Rattle.vg_run.specs.Modes.{AnswersFor, IsAnswerIn, IsFaultIn, IsTakenIn, best_asked, design_texts, goal_of, one_net, repair_asked, total_asked, written_prefix}

abbrev Bytes : Type 0
Bytes = List ℕ

module _ (ask : Ask) (texts : Input → Bytes) (result : Result Answer NoAnswer) where
  abbrev SaysIn : Mode → Type 0
  SaysIn mode = AnswersBy (IsAnswerIn mode ask texts) (IsFaultIn mode ask texts) (IsTakenIn mode ask texts) result

  in_mode : (mode : Mode) → ask.mode ≡ mode → SaysIn mode → AnswersFor ask texts result
  in_mode mode is says = subst (λ (m : Mode). SaysIn m) (sym is) says

  pub wire_says : ask.mode ≡ Wire → (name : Bytes) → name ≡ one_net ask → AnswersBy (IsWireAnswer (texts Spef) name) (IsWireFault (texts Spef)) NoneTaken result
      → AnswersFor ask texts result
  wire_says is name same says =
      in_mode Wire is (subst (λ (n : Bytes). AnswersBy (IsWireAnswer (texts Spef) n) (IsWireFault (texts Spef)) NoneTaken result) same says)

  pub time_says : ask.mode ≡ Time → (net : Option Bytes) (prefix : Bytes) → net ≡ ask.net → prefix ≡ prefix_of ask
      → AnswersBy (IsTimeAnswer (design_texts texts) net prefix) (IsDesignFault (design_texts texts)) NoneTaken result → AnswersFor ask texts result
  time_says is net prefix same word says =
      in_mode Time is (subst (λ (n : Option Bytes). AnswersBy (IsTimeAnswer (design_texts texts) n (prefix_of ask)) (IsDesignFault (design_texts texts)) NoneTaken result) same
      (subst (λ (p : Bytes). AnswersBy (IsTimeAnswer (design_texts texts) net p) (IsDesignFault (design_texts texts)) NoneTaken result) word says))

  pub best_says : ask.mode ≡ Best → (net : Option Bytes) (prefix : Bytes) (certified : Bool) → net ≡ ask.net → prefix ≡ prefix_of ask → certified ≡ is_some (written_cert ask)
      → AnswersBy (IsBestAnswer (design_texts texts) (record { net = net; prefix = prefix; certified = certified })) (IsDesignFault (design_texts texts))
      (IsTaken (design_texts texts) prefix) result → AnswersFor ask texts result
  best_says is net prefix certified same word wanted says =
      let asked : record { net = net; prefix = prefix; certified = certified } ≡ best_asked ask
      = λ i. record { net = same i; prefix = word i; certified = wanted i } in
      in_mode Best is
      (subst (λ (a : Asked). AnswersBy (IsBestAnswer (design_texts texts) a) (IsDesignFault (design_texts texts)) (IsTaken (design_texts texts) a.prefix) result) asked says)

  pub front_says : ask.mode ≡ Frontier → (net : Option Bytes) (cap : Option ℕ) → net ≡ ask.net → cap ≡ cap_of ask
      → AnswersBy (IsFrontAnswer (design_texts texts) net cap) (IsDesignFault (design_texts texts)) NoneTaken result → AnswersFor ask texts result
  front_says is net cap same bound says =
      in_mode Frontier is (subst (λ (n : Option Bytes). AnswersBy (IsFrontAnswer (design_texts texts) n (cap_of ask)) (IsDesignFault (design_texts texts)) NoneTaken result) same
      (subst (λ (c : Option ℕ). AnswersBy (IsFrontAnswer (design_texts texts) net c) (IsDesignFault (design_texts texts)) NoneTaken result) bound says))

  pub check_says : ask.mode ≡ Check → (name : Bytes) → name ≡ one_net ask
      → AnswersBy (IsCheckAnswer (design_texts texts) (texts Cert) name) (IsDesignFault (design_texts texts)) NoneTaken result → AnswersFor ask texts result
  check_says is name same says =
      in_mode Check is
      (subst (λ (n : Bytes). AnswersBy (IsCheckAnswer (design_texts texts) (texts Cert) n) (IsDesignFault (design_texts texts)) NoneTaken result) same says)

  pub gen_says : ask.mode ≡ Gen → (size : ℕ) → size ≡ size_of ask → AnswersBy (IsGenAnswer size) (IsDesignFault (made_up size)) NoneTaken result
      → AnswersFor ask texts result
  gen_says is size same says =
      in_mode Gen is (subst (λ (n : ℕ). AnswersBy (IsGenAnswer n) (IsDesignFault (made_up n)) NoneTaken result) same says)

  pub segment_says : ask.mode ≡ Segment → (net : Option Bytes) (parts : ℕ) → net ≡ ask.net → parts ≡ parts_of ask
      → AnswersBy (IsSegmentAnswer (texts Spef) net parts) (IsSegmentFault (texts Spef)) NoneTaken result → AnswersFor ask texts result
  segment_says is net parts same few says =
      in_mode Segment is (subst (λ (n : Option Bytes). AnswersBy (IsSegmentAnswer (texts Spef) n (parts_of ask)) (IsSegmentFault (texts Spef)) NoneTaken result) same
      (subst (λ (m : ℕ). AnswersBy (IsSegmentAnswer (texts Spef) net m) (IsSegmentFault (texts Spef)) NoneTaken result) few says))

  pub repair_says : ask.mode ≡ Repair → (net : Option Bytes) (wants : Goal) (prefix : Bytes) → net ≡ ask.net → wants ≡ goal_of ask → prefix ≡ prefix_of ask
      → AnswersBy (IsRepairAnswer (design_texts texts) (record { net = net; goal = wants; prefix = prefix })) (IsDesignFault (design_texts texts))
      (IsTaken (design_texts texts) prefix) result → AnswersFor ask texts result
  repair_says is net wants prefix same enough word says =
      let asked : record { net = net; goal = wants; prefix = prefix } ≡ repair_asked ask
      = λ i. record { net = same i; goal = enough i; prefix = word i } in
      in_mode Repair is
      (subst (λ (a : RepairAsked). AnswersBy (IsRepairAnswer (design_texts texts) a) (IsDesignFault (design_texts texts)) (IsTaken (design_texts texts) a.prefix) result) asked says)

  pub total_says : ask.mode ≡ Total → (cap : Option ℕ) (prefix : Option Bytes) → cap ≡ cap_of ask → prefix ≡ written_prefix ask
      → AnswersBy (IsTotalAnswer (design_texts texts) (record { cap = cap; prefix = prefix })) (IsDesignFault (design_texts texts))
      (IsTotalTaken (design_texts texts) (record { cap = cap; prefix = prefix })) result → AnswersFor ask texts result
  total_says is cap prefix bound word says =
      let asked : record { cap = cap; prefix = prefix } ≡ total_asked ask = λ i. record { cap = bound i; prefix = word i } in
      in_mode Total is
      (subst (λ (a : TotalAsked). AnswersBy (IsTotalAnswer (design_texts texts) a) (IsDesignFault (design_texts texts)) (IsTotalTaken (design_texts texts) a) result) asked says)

  pub width_says : ask.mode ≡ Width → (name : Bytes) → name ≡ one_net ask
      → AnswersBy (IsWidthAnswer (design_texts texts) (texts Widths) name) (IsWidthFault (design_texts texts) (texts Widths)) NoneTaken result
      → AnswersFor ask texts result
  width_says is name same says =
      in_mode Width is
      (subst (λ (n : Bytes). AnswersBy (IsWidthAnswer (design_texts texts) (texts Widths) n) (IsWidthFault (design_texts texts) (texts Widths)) NoneTaken result) same says)
