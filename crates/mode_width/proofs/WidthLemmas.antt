-- What mode `width` says of a net.
use Rattle.std.proofs.Common.{◌≡◌, inl, inr, ℕ, List, length, sym, ap, ◌∙◌, subst, Option, Result, Ok, Err}
use Rattle.std.specs.Prelude.{IfOk, slice_index}
use Rattle.std.proofs.lemmas.List.{length-map}
use Rattle.std.proofs.lemmas.List.FromFn.{length-map-range_with_len}
use Rattle.elmore.specs.Placed.{IsPlacementOf}
use Rattle.elmore.specs.Trees.{node_at}
use Rattle.elmore.specs.declared.problem.Problem.{Problem}
use Rattle.lib_linear.specs.declared.repeater.Repeater.{Repeater}
use Rattle.design_read.specs.Designs.{Texts, IsDesign}
use Rattle.spef_wire.specs.declared.refusal.Refusal.{Refusal}
use Rattle.spef_wire.specs.declared.refusal.Refusal.TheVariants.{TooLarge}
use Rattle.vg_design.specs.Designs.{Design, name_of}
use Rattle.vg_design.specs.Parts.{cells_of, loaded}
use Rattle.vg_design.specs.Refusals.{IsFirstRefusal}
use Rattle.vg_design.specs.declared.net_problem.NetProblem.{NetProblem}
use Rattle.vg_design.proofs.PartLemmas.{order_size, tree_size}
use Rattle.vg_num.specs.declared.memory.Memory.{Memory}
use Rattle.vg_report.specs.Reports.{none_line, refusal_line}
use Rattle.wire_widths.specs.Fits.{Fits}
use Rattle.wire_widths.specs.Widths.{IsWideBest}
use Rattle.wire_widths.specs.declared.width.Width.{Width}
use Rattle.vg_slack.specs.Choices.{HasNoWideGood}
use Rattle.vg_width.specs.declared.wide.WideBest.{WideBest}
use Rattle.vg_answer.specs.Answers.{AnswersBy, IsAnswerWith, IsNoDesign, IsRefusedWith, NoneTaken}
use Rattle.vg_answer.specs.Faults.{IsDesignFault}
use Rattle.vg_answer.specs.Nets.{problem_in}
use Rattle.vg_answer.specs.Verdicts.{bare_verdict}
use Rattle.vg_answer.specs.declared.answer.Answer.{Answer}
use Rattle.vg_answer.specs.declared.answer.NoAnswer.{NoAnswer}
use Rattle.vg_answer.specs.declared.answer.NoAnswer.TheVariants.{Faulty, Taken, Memory as NoRoom}
use Rattle.vg_answer.specs.declared.input.Input.{Input}
use Rattle.vg_answer.specs.declared.kind.AnswerKind.TheVariants.{Report, NoneGood}
use Rattle.mode_width.specs.Answers.{IsPosedIn, IsWidthAnswer, IsWidthFault, IsWidthSaid}
use Rattle.mode_width.specs.Lines.{width_report}
use Rattle.mode_width.specs.Steps.{IsNoWidths, SaysWidths}

-- ---- what is said of a net

module _ (d : Design) (widths : List Width) (name : List ℕ) where
  pub says_refused : (refusal : Refusal) (result : Result Answer Memory) → IsFirstRefusal d name refusal
      → IfOk result (IsRefusedWith (refusal_line name refusal)) → IfOk result (SaysWidths d widths name)
  says_refused refusal (Ok answer) first with = record {
    says = IsWidthSaid.told_refusal refusal first (λ i. bare_verdict (with.kind_is i) (with.text_is i));
    no_files = with.no_files;
  }
  says_refused refusal (Err memory) first with = tt

  module _ (net : NetProblem) (is : IsPosedIn d name net) where
    same_problem : net.problem ≡ is.0.problem
    same_problem = ap (λ (n : NetProblem). n.problem) is.2

    pub says_too_large : (result : Result Answer Memory) → (Fits net.problem widths → ⊥)
        → IfOk result (IsRefusedWith (refusal_line name TooLarge)) → IfOk result (SaysWidths d widths name)
    says_too_large (Ok answer) large with = record {
      says =
          IsWidthSaid.told_too_large is.0 is.1 (λ fits. large (subst (λ (p : Problem). Fits p widths) (sym same_problem) fits))
          (λ i. bare_verdict (with.kind_is i) (with.text_is i));
      no_files = with.no_files;
    }
    says_too_large (Err memory) large with = tt

    pub says_none : (text : List ℕ) (answer : Answer) → Fits net.problem widths → HasNoWideGood net.problem widths → text ≡ none_line name
        → IsAnswerWith NoneGood text answer → SaysWidths d widths name answer
    says_none text answer fits none printed with = record {
      says =
          IsWidthSaid.told_none is.0 is.1 (subst (λ (p : Problem). Fits p widths) same_problem fits) (subst (λ (p : Problem). HasNoWideGood p widths) same_problem none)
          (λ i. bare_verdict (with.kind_is i) ((with.text_is ∙ printed) i));
      no_files = with.no_files;
    }

    pub says_best : (best : WideBest) (text : List ℕ) (answer : Answer) → Fits net.problem widths
        → IsWideBest net.problem widths best.placement.cells best.chosen best.slack → text ≡ width_report name (cells_of d.library.repeaters) net best
        → IsAnswerWith Report text answer → SaysWidths d widths name answer
    says_best best text answer fits found printed with =
        let cells = cells_of d.library.repeaters in
        let line : text ≡ width_report name cells (problem_in is.0) best = printed ∙ ap (λ (n : NetProblem). width_report name cells n best) is.2 in
        record {
          says =
              IsWidthSaid.told_best is.0 is.1 (subst (λ (p : Problem). Fits p widths) same_problem fits) best
              (subst (λ (p : Problem). IsWideBest p widths best.placement.cells best.chosen best.slack) same_problem found)
              (λ i. bare_verdict (with.kind_is i) ((with.text_is ∙ line) i));
          no_files = with.no_files;
        }

-- ---- its names

module _ (d : Design) (name : List ℕ) (net : NetProblem) (is : IsPosedIn d name net) where
  -- each node has a name
  pub nodes_named : length net.problem.tree.nodes ≡ length net.names
  nodes_named =
      let posed = is.0 in
      let ready = posed.ready in
      let tree = ready.tree.nodes in
      let order = ready.order in
      let joined = ready.pinned.net in
      let nodes : length net.problem.tree.nodes ≡ length posed.problem.tree.nodes = ap (λ (n : NetProblem). length n.problem.tree.nodes) is.2 in
      let all : length posed.problem.tree.nodes ≡ length tree =
      ap length is.1.problem.tree_is ∙ length-map-range_with_len (λ i. loaded d joined (node_at tree i) (slice_index order i)) 0 (length tree) in
      let both : length tree ≡ length order =
      tree_size d joined ready.pinned.pins tree order is.1.ready ∙ sym (order_size d joined ready.pinned.pins tree order is.1.ready) in
      let names : length net.names ≡ length order =
      ap (λ (n : NetProblem). length n.names) is.2 ∙ length-map order (name_of joined.par) in
      nodes ∙ all ∙ both ∙ sym names

  reps_named : length net.problem.reps ≡ length d.library.repeaters
  reps_named =
      ap (λ (n : NetProblem). length n.problem.reps) is.2
      ∙ ap length is.1.problem.reps ∙ length-map d.library.repeaters (λ (r : Repeater). r.rep)

  -- the cells of a placement are repeaters of the library, one for each node at most
  pub cells_named : (cells : List (Option ℕ)) → IsPlacementOf (length net.problem.tree.nodes) (length net.problem.reps) cells
      → IsPlacementOf (length net.names) (length d.library.repeaters) cells
  cells_named cells placed =
      subst (λ (n : ℕ). IsPlacementOf n (length d.library.repeaters) cells) nodes_named
      (subst (λ (n : ℕ). IsPlacementOf (length net.problem.tree.nodes) n cells) reps_named placed)

-- ---- faults

-- a fault of the design is the first of the five texts
first_of_five : (texts : Texts) (file line : List ℕ) (input : Input) → IsDesignFault texts line input → IsWidthFault texts file line input
first_of_five texts file line input (inl spef) = inl spef
first_of_five texts file line input (inr (spef, inl lib)) = inr (spef, inl lib)
first_of_five texts file line input (inr (spef, inr (lib, inl verilog))) = inr (spef, inr (lib, inl verilog))
first_of_five texts file line input (inr (spef, inr (lib, inr (verilog, inl cons)))) = inr (spef, inr (lib, inr (verilog, inl cons)))
first_of_five texts file line input (inr (spef, inr (lib, inr (verilog, inr (cons, none))))) = absurd none

pub no_design : (texts : Texts) (file name : List ℕ) (fault : NoAnswer) → IsNoDesign texts fault
    → AnswersBy (IsWidthAnswer texts file name) (IsWidthFault texts file) NoneTaken (Err fault)
no_design texts file name (Faulty input line) is = first_of_five texts file line input is
no_design texts file name (Taken taken) is = absurd is
no_design texts file name NoRoom is = tt

-- a fault of the widths is the first where the others are a design
pub no_widths : (texts : Texts) (file name : List ℕ) (d : Design) (fault : NoAnswer) → IsDesign texts d → IsNoWidths file fault
    → AnswersBy (IsWidthAnswer texts file name) (IsWidthFault texts file) NoneTaken (Err fault)
no_widths texts file name d (Faulty input line) of (is, fault) =
    inr (of.is_spef, inr ((d.library, of.library), inr ((d.netlist, of.netlist), inr (of.rows.faultless, inl (sym is, fault)))))
no_widths texts file name d (Taken taken) of is = absurd is
no_widths texts file name d NoRoom of is = tt
