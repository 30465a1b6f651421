-- What a run promises of each net that is asked for in modes `best`, `repair`, `frontier`, `segment` and `width`, of a
-- design in modes `sta` and `total`, and of certificates.
use Rattle.std.specs.Prelude.{◌≡◌, ◌≢◌, ℕ, ℤ, ◌≤ℤ◌, List, [], ◌++◌, map, Option, Some}
use Rattle.std.specs.List.{All, AllZip, Contains, flat_map}
use Rattle.elmore.specs.Best.{IsBest}
use Rattle.wire_widths.specs.Fits.{Fits}
use Rattle.wire_widths.specs.Widths.{IsWideBest}
use Rattle.wire_widths.specs.declared.width.Width.{Width}
use Rattle.vg_store.specs.Reading.{FilesState}
use Rattle.vg_store.specs.Writing.{OutState, Gains}
use Rattle.vg_words.specs.Request.{cap_of, parts_of, prefix_of}
use Rattle.vg_words.specs.declared.ask.Ask.{Ask}
use Rattle.vg_words.specs.declared.ask.Mode.{Mode}
use Rattle.vg_words.specs.declared.ask.Mode.TheVariants.{Best as BestMode, Frontier, Check, Sta as StaMode, Segment as SegmentMode, Repair as RepairMode, Total as TotalMode, Width as WidthMode}
use Rattle.spef_net.specs.declared.net.ParNet.{ParNet}
use Rattle.spef_patch_laws.specs.ReplacementLaws.{HasSameNet}
use Rattle.spef_wire.specs.declared.refusal.Refusal.{Refusal}
use Rattle.spef_wire.specs.declared.refusal.Refusal.TheVariants.{TooLarge}
use Rattle.vg_design.specs.Designs.{Design, net_names}
use Rattle.vg_design.specs.Nets.{IsNetProblem}
use Rattle.vg_design.specs.Parts.{cells_of}
use Rattle.vg_design.specs.Refusals.{IsFirstRefusal}
use Rattle.vg_design.specs.declared.net_problem.NetProblem.{NetProblem}
use Rattle.vg_sta.specs.Timings.{IsFirstBehindCycle, IsFirstRefused, IsTimed}
use Rattle.vg_sta.specs.declared.answer.Sta.{Sta}
use Rattle.vg_slack.specs.Bests.{HasNoGood, IsFound}
use Rattle.vg_slack.specs.declared.answer.Best.{Best}
use Rattle.vg_repair.specs.Repairs.{IsEnough, IsRepair}
use Rattle.vg_front.specs.Points.{IsFrontierOf}
use Rattle.vg_front.specs.declared.root.Point.{Point}
use Rattle.vg_report.specs.Reports.{best_report, front_report, none_line, refusal_line}
use Rattle.design_read.specs.Designs.{Texts, IsDesign, IsSpef}
use Rattle.change_laws.specs.Laws.{RetimesInTexts}
use Rattle.vg_answer.specs.Answers.{Said}
use Rattle.vg_answer.specs.Faults.{DenotesWidths}
use Rattle.vg_answer.specs.Nets.{nets_for}
use Rattle.vg_answer.specs.declared.input.Input.{Input}
use Rattle.vg_answer.specs.declared.input.Input.TheVariants.{Spef, Widths}
use Rattle.vg_answer.specs.declared.kind.AnswerKind.{AnswerKind}
use Rattle.vg_answer.specs.declared.kind.AnswerKind.TheVariants.{Report}
use Rattle.vg_place.specs.Placings.{Files, kept}
use Rattle.place_laws.specs.Laws.{with_files}
use Rattle.mode_best.specs.Answers.{Certifies}
use Rattle.mode_frontier.specs.Answers.{HasNoneWithin}
use Rattle.mode_check.specs.Answers.{IsCheckAnswer}
use Rattle.mode_repair.specs.Outcomes.{AreTotals, totals_line}
use Rattle.mode_repair.specs.declared.outcome.Goal.{Goal}
use Rattle.mode_repair.specs.declared.outcome.Outcome.{Outcome}
use Rattle.mode_repair.specs.declared.outcome.Outcome.TheVariants.{Met, Short, NoneGood, Refused}
use Rattle.mode_repair.specs.declared.totals.Totals.{Totals}
use Rattle.mode_segment.specs.Answers.{nets_in}
use Rattle.mode_segment.specs.Lines.{segment_line}
use Rattle.mode_sta.specs.Lines.{cycle_line, no_path_line, sta_report}
use Rattle.mode_total.specs.Answers.{IsTotalSaid, last_picked}
use Rattle.mode_total.specs.Choices.{Choice, Standing}
use Rattle.mode_width.specs.Lines.{width_report}
use Rattle.vg_slack.specs.Choices.{HasNoWideGood}
use Rattle.vg_width.specs.declared.wide.WideBest.{WideBest}
use Rattle.vg_run.specs.Inputs.{AreRead, Change}
use Rattle.vg_run.specs.Modes.{design_texts, goal_of}
use Rattle.vg_run.specs.Run.{HoldsAt}
use Rattle.segment_laws.specs.SegmentedDesigns.{IsNoWorseIn}
use Rattle.segment_laws.specs.SegmentedTexts.{IsCutIn}
use Rattle.vg_segment.specs.Texts.{IsFit, IsSegmentRefusal, cut_count}
use Rattle.run_laws.specs.Laws.{IsFoundAndValid, ShowsInFiles}

-- The lines of a net in mode `best`. Either they report a placement of its problem that is legal, gives each sink the
-- polarity that it wants and has exactly this slack, none of these has more, and in the written texts the net re-times
-- to this slack; or they say that no placement is good; or they name the first reason against the net.
pub data BestOf (d : Design) (written : Texts) (prefix name lines : List ℕ) : Type 0 where
  placed : (net : NetProblem) → IsNetProblem d name net → (best : Best) → IsFound net.problem best
      → lines ≡ best_report name (cells_of d.library.repeaters) net best → RetimesInTexts written prefix name best.slack
      → BestOf d written prefix name lines
  none_good : (net : NetProblem) → IsNetProblem d name net → HasNoGood net.problem → lines ≡ none_line name
      → BestOf d written prefix name lines
  refused : (refusal : Refusal) → IsFirstRefusal d name refusal → lines ≡ refusal_line name refusal
      → BestOf d written prefix name lines

-- The lines of a net in mode `frontier`: exactly the pairs of cost and slack of its good placements within the cap that
-- no other such pair dominates, by rising cost, each with such a placement; or that there is none; or the first reason
-- against the net.
pub data FrontOf (d : Design) (cap : Option ℕ) (name lines : List ℕ) : Type 0 where
  points : (net : NetProblem) → IsNetProblem d name net → (points : List Point)
      → IsFrontierOf net.problem cap points → points ≢ []
      → lines ≡ front_report name (cells_of d.library.repeaters) net points → FrontOf d cap name lines
  none_within : (net : NetProblem) → IsNetProblem d name net → HasNoneWithin net.problem cap → lines ≡ none_line name
      → FrontOf d cap name lines
  refused : (refusal : Refusal) → IsFirstRefusal d name refusal → lines ≡ refusal_line name refusal
      → FrontOf d cap name lines

-- The lines of a design in mode `sta`. Either they report the least slack of all paths through its nets and cells, the
-- first endpoint of a path with it, and the least slack of the paths through each net; or they name the first net that
-- is refused, or else the first net on a cycle of nets or behind one, or say that there is no net.
pub data StaOf (d : Design) (lines : List ℕ) : Type 0 where
  timed : (found : Sta) → IsTimed d found → lines ≡ sta_report found → StaOf d lines
  refused : (name : List ℕ) (refusal : Refusal) → IsFirstRefused d name refusal → lines ≡ refusal_line name refusal
      → StaOf d lines
  cycle : (name : List ℕ) → IsFirstBehindCycle d name → lines ≡ cycle_line name → StaOf d lines
  no_path : net_names d.spef ≡ [] → lines ≡ no_path_line → StaOf d lines

-- The line of a net in mode `segment`. Either it tells how many nodes the net has with each resistor cut into parts; in
-- the written text it is read as this net, its wire delays are as they were, and with every library, netlist and
-- constraints no placement is worse there; or it names the first reason against the net, which is as it was.
pub data SegmentOf (old new : List ℕ) (parts : ℕ) (name line : List ℕ) : Type 0 where
  cut : (net : ParNet) → IsFit old parts name net → IsCutIn old new parts name → IsNoWorseIn old new name
      → line ≡ segment_line name parts (cut_count parts net) → SegmentOf old new parts name line
  refused : (refusal : Refusal) → IsSegmentRefusal old parts name refusal → HasSameNet old new name
      → line ≡ refusal_line name refusal → SegmentOf old new parts name line

-- What a net comes to in mode `repair`, and its lines. Either they report a placement of its problem that is legal,
-- gives each sink the polarity that it wants, is within the cap and has exactly this slack: none without a cell where
-- that is enough, else the cheapest that is enough, and else the greatest slack at the least cost; in the written texts
-- the net re-times to it. Or they say that no placement is good and within the cap; or they name the first reason
-- against the net.
pub data RepairOf (d : Design) (goal : Goal) (Retimes : List ℕ → ℤ → Type 0) (name : List ℕ)
    (row : Outcome × List ℕ) : Type 0 where
  met : (net : NetProblem) → IsNetProblem d name net → (best : Best)
      → IsRepair net.problem goal.cap goal.target best.placement.cells best.slack → IsEnough goal.target best.slack
      → row ≡ (Met best.slack, best_report name (cells_of d.library.repeaters) net best) → Retimes name best.slack
      → RepairOf d goal Retimes name row
  short : (net : NetProblem) → IsNetProblem d name net → (best : Best)
      → IsRepair net.problem goal.cap goal.target best.placement.cells best.slack
      → (IsEnough goal.target best.slack → ⊥)
      → row ≡ (Short best.slack, best_report name (cells_of d.library.repeaters) net best) → Retimes name best.slack
      → RepairOf d goal Retimes name row
  none_good : (net : NetProblem) → IsNetProblem d name net → HasNoneWithin net.problem goal.cap
      → row ≡ (NoneGood, none_line name) → RepairOf d goal Retimes name row
  refused : (refusal : Refusal) → IsFirstRefusal d name refusal → row ≡ (Refused, refusal_line name refusal)
      → RepairOf d goal Retimes name row

-- The lines of a net in mode `width`. Either they report a placement of its problem and one of these widths for each
-- wire: by the loads and delays with these, the placement is legal, gives each sink the polarity that it wants and has
-- exactly this slack; no placement with any of the widths has more, and no best placement without widths has. Or they
-- say that no placement is good with any of the widths; or they refuse the net as too large, where its loads do not fit
-- with these widths; or they name the first reason against the net.
pub data WidthOf (d : Design) (widths : List Width) (name lines : List ℕ) : Type 0 where
  widened : (net : NetProblem) → IsNetProblem d name net → Fits net.problem widths → (best : WideBest)
      → IsWideBest net.problem widths best.placement.cells best.chosen best.slack
      → ((cells : List (Option ℕ)) (x : ℤ) → IsBest net.problem cells x → x ≤ℤ best.slack)
      → lines ≡ width_report name (cells_of d.library.repeaters) net best → WidthOf d widths name lines
  none_good : (net : NetProblem) → IsNetProblem d name net → Fits net.problem widths
      → HasNoWideGood net.problem widths → lines ≡ none_line name → WidthOf d widths name lines
  too_large : (net : NetProblem) → IsNetProblem d name net → (Fits net.problem widths → ⊥)
      → lines ≡ refusal_line name TooLarge → WidthOf d widths name lines
  refused : (refusal : Refusal) → IsFirstRefusal d name refusal → lines ≡ refusal_line name refusal
      → WidthOf d widths name lines

-- The four files that were read denote a design, and an output gained the lines of the nets that are asked for, one net
-- after another, each as `Tells` has it.
pub record Reports (files : FilesState) (out : Change OutState) (ask : Ask)
    (Tells : Texts → Design → List ℕ → List ℕ → Type 0) : Type 0 where
  pub texts : Input → List ℕ
  pub read : AreRead files ask texts
  pub design : Design
  pub design_of : IsDesign (design_texts texts) design
  pub lines : List (List ℕ)
  pub each : AllZip (Tells (design_texts texts) design) (nets_for design ask.net) lines
  pub printed : Gains out.0 out.1 (flat_map (λ line. line) lines)

-- Mode `best` has written a netlist and parasitics, and reports each net as `BestOf` has it, for the texts that were
-- read with these two in their places.
pub record BestHeadline (files : Change FilesState) (out : Change OutState) (ask : Ask) : Type 0 where
  pub written : Files
  pub netlist : HoldsAt files.1 ask.out_verilog written.verilog
  pub parasitics : HoldsAt files.1 ask.out_spef written.spef
  pub reports : Reports files.0 out ask (λ texts d name lines.
      BestOf d (with_files texts written) (prefix_of ask) name lines)

-- The four files that were read denote a design, and an output gained its lines in mode `sta`.
pub record StaHeadline (files : FilesState) (out : Change OutState) (ask : Ask) : Type 0 where
  pub texts : Input → List ℕ
  pub read : AreRead files ask texts
  pub design : Design
  pub design_of : IsDesign (design_texts texts) design
  pub lines : List ℕ
  pub lines_of : StaOf design lines
  pub printed : Gains out.0 out.1 lines

-- Mode `segment` has written parasitics, and reports each net as `SegmentOf` has it. Nets that are not asked for are as
-- they were.
pub record SegmentHeadline (files : Change FilesState) (out : Change OutState) (ask : Ask) : Type 0 where
  pub texts : Input → List ℕ
  pub read : AreRead files.0 ask texts
  pub written : List ℕ
  pub parasitics : HoldsAt files.1 ask.out_spef written
  pub is_spef : IsSpef written
  pub lines : List (List ℕ)
  pub each : AllZip (SegmentOf (texts Spef) written (parts_of ask)) (nets_in (texts Spef) ask.net) lines
  pub others : (name : List ℕ) → (Contains (nets_in (texts Spef) ask.net) name → ⊥)
      → HasSameNet (texts Spef) written name
  pub printed : Gains out.0 out.1 (flat_map (λ line. line) lines)

-- Mode `repair` has written a netlist and parasitics, and reports each net as `RepairOf` has it, for the texts that were
-- read with these two in their places; the last line counts what the nets came to, and has their least slack.
pub record RepairHeadline (files : Change FilesState) (out : Change OutState) (ask : Ask) : Type 0 where
  pub written : Files
  pub netlist : HoldsAt files.1 ask.out_verilog written.verilog
  pub parasitics : HoldsAt files.1 ask.out_spef written.spef
  pub texts : Input → List ℕ
  pub read : AreRead files.0 ask texts
  pub design : Design
  pub design_of : IsDesign (design_texts texts) design
  pub rows : List (Outcome × List ℕ)
  pub each : AllZip
      (RepairOf design (goal_of ask) (RetimesInTexts (with_files (design_texts texts) written) (prefix_of ask)))
      (nets_for design ask.net) rows
  pub totals : Totals
  pub totals_of : AreTotals (map (λ row. row.0) rows) totals
  pub printed : Gains out.0 out.1 (flat_map (λ row. row.1) rows ++ totals_line totals)

-- The files that the words name hold a netlist and parasitics: those that were read, where there is no choice. In the
-- texts that were read, with these two in their places, each accepted net re-times to the slack of what the last choice
-- takes for it.
pub record HasTotalFiles (files : FilesState) (ask : Ask) (texts : Texts) (standings : List Standing)
    (choices : List Choice) : Type 0 where
  pub written : Files
  pub netlist : HoldsAt files ask.out_verilog written.verilog
  pub parasitics : HoldsAt files ask.out_spef written.spef
  pub each : All
      (λ picked. RetimesInTexts (with_files texts written) (prefix_of ask) picked.0.name picked.1.slack)
      (last_picked standings choices)
  pub as_read : choices ≡ [] → written ≡ kept texts

-- The four files that were read denote a design, and an output gained its lines in mode `total`: which of its nets are
-- refused, and each cost and slack of a choice of a good placement for each other net, within the cap, that no such
-- choice outdoes, by rising cost, with a choice that comes to it. Where the words name files to write, these hold what
-- `HasTotalFiles` has of them.
pub record TotalHeadline (files : Change FilesState) (out : Change OutState) (ask : Ask) : Type 0 where
  pub texts : Input → List ℕ
  pub read : AreRead files.0 ask texts
  pub design : Design
  pub design_of : IsDesign (design_texts texts) design
  pub kind : AnswerKind
  pub lines : List ℕ
  pub total : IsTotalSaid design (cap_of ask) kind lines
  pub printed : Gains out.0 out.1 lines
  pub written : (file : List ℕ) → ask.out_spef ≡ Some file
      → HasTotalFiles files.1 ask (design_texts texts) total.standings total.choices

-- The files that were read denote a design and widths, and an output gained the lines of the net that is asked for, as
-- `WidthOf` has them.
pub record WidthHeadline (files : FilesState) (out : Change OutState) (ask : Ask) : Type 0 where
  pub texts : Input → List ℕ
  pub read : AreRead files ask texts
  pub design : Design
  pub design_of : IsDesign (design_texts texts) design
  pub widths : List Width
  pub widths_of : DenotesWidths (texts Widths) widths
  pub name : List ℕ
  pub named : ask.net ≡ Some name
  pub lines : List ℕ
  pub lines_of : WidthOf design widths name lines
  pub printed : Gains out.0 out.1 lines

-- what the reports of modes `best`, `repair`, `frontier`, `sta`, `segment`, `total` and `width` say
abbrev pub HeadlineIn : Mode → Change FilesState → Change OutState → Ask → Type 0
HeadlineIn BestMode files out ask = BestHeadline files out ask
HeadlineIn Frontier files out ask = Reports files.0 out ask (λ texts d name lines. FrontOf d (cap_of ask) name lines)
HeadlineIn StaMode files out ask = StaHeadline files.0 out ask
HeadlineIn SegmentMode files out ask = SegmentHeadline files out ask
HeadlineIn RepairMode files out ask = RepairHeadline files out ask
HeadlineIn TotalMode files out ask = TotalHeadline files out ask
HeadlineIn WidthMode files out ask = WidthHeadline files.0 out ask
HeadlineIn mode files out ask = Unit {0}

abbrev pub Headline : Change FilesState → Change OutState → Ask → Type 0
Headline files out ask = HeadlineIn ask.mode files out ask

-- ---- certificates

-- The file that the words name as a certificate holds one of the net asked for, with the placement and the slack
-- that are reported, or with none. Whatever mode `check` answers of it, with the same four files, is that it is valid,
-- with the reported slack, or none.
pub record HasCertificate (files : Change FilesState) (out : Change OutState) (ask : Ask) : Type 0 where
  pub texts : Input → List ℕ
  pub read : AreRead files.0 ask texts
  pub design : Design
  pub design_of : IsDesign (design_texts texts) design
  pub name : List ℕ
  pub named : ask.net ≡ Some name
  pub cert : List ℕ
  pub held : HoldsAt files.1 ask.cert cert
  pub kind : AnswerKind
  pub line : List ℕ
  pub printed : Gains out.0 out.1 line
  pub certifies : Certifies design name kind line cert
  pub checks : (also : AnswerKind) (told : Said) → IsCheckAnswer (design_texts texts) cert name also told
      → (also ≡ Report) × IsFoundAndValid design name line told.text

-- where mode `best` is asked for a certificate, it is there
abbrev pub Certified : Change FilesState → Change OutState → Ask → Type 0
Certified files out ask = ask.mode ≡ BestMode → (file : List ℕ) → ask.cert ≡ Some file → HasCertificate files out ask

-- where mode `check` found a certificate valid, its placement is best, or no placement is good, whoever made it
abbrev pub Shown : Change FilesState → Change OutState → Ask → Type 0
Shown files out ask = ask.mode ≡ Check → ShowsInFiles files.0 out ask
