-- That a run ends with an answer where its inputs are in their form and nothing fails.
use Rattle.std.specs.Prelude.{◌≡◌, ◌⊎◌, ℕ, ◌==◌, List, [], ◌∷◌, Bool, true}
use Rattle.std.specs.List.{list_any}
use Rattle.vg_store.specs.Causes.{Rose}
use Rattle.vg_store.specs.Reading.{FilesState}
use Rattle.vg_store.specs.Writing.{OutState}
use Rattle.vg_words.specs.Request.{size_of, IsRequest}
use Rattle.vg_words.specs.declared.ask.Ask.{Ask}
use Rattle.vg_words.specs.declared.ask.Mode.{Mode}
use Rattle.vg_words.specs.declared.ask.Mode.TheVariants.{Wire, Best, Frontier, Check, Gen, Segment, Repair, Total, Width}
use Rattle.vg_design.specs.Designs.{Design}
use Rattle.vg_design.specs.Nets.{IsPosedNet}
use Rattle.vg_design.specs.declared.net_problem.PosedNet.{PosedNet}
use Rattle.design_read.specs.Designs.{Texts, IsDesign, IsSpef}
use Rattle.mode_gen.specs.Answers.{made_net, made_up}
use Rattle.vg_answer.specs.Faults.{IsInForm}
use Rattle.vg_answer.specs.declared.input.Input.{Input}
use Rattle.vg_answer.specs.declared.input.Input.TheVariants.{Spef, Widths}
use Rattle.vg_run.specs.Inputs.{Change}
use Rattle.vg_run.specs.Modes.{IsTakenFor, design_texts}
use Rattle.vg_run.specs.Run.{AreShort, AreTold}

-- the statuses with which a mode answers: 1 that no placement is good, that there is no choice of one for each net, or
-- that one is short of the target, 2 that a net or the whole design is refused, 8 that a certificate is not valid
abbrev pub answers_of : Mode → List ℕ
answers_of Best = 0 ∷ 1 ∷ 2 ∷ []
answers_of Frontier = 0 ∷ 1 ∷ 2 ∷ []
answers_of Repair = 0 ∷ 1 ∷ 2 ∷ []
answers_of Total = 0 ∷ 1 ∷ 2 ∷ []
answers_of Width = 0 ∷ 1 ∷ 2 ∷ []
answers_of Check = 0 ∷ 2 ∷ 8 ∷ []
answers_of Gen = 0 ∷ []
answers_of mode = 0 ∷ 2 ∷ []

abbrev pub is_answer_of : Mode → ℕ → Bool
is_answer_of mode status = list_any (λ s. s == status) (answers_of mode)

-- four texts are a design
abbrev pub AreADesign : Texts → Type 0
AreADesign texts = (design : Design) × IsDesign texts design

-- the made-up texts of a size are a design whose net nothing refuses
pub record IsAccepted (size : ℕ) : Type 0 where
  pub design : Design
  pub design_of : IsDesign (made_up size) design
  pub net : PosedNet
  pub net_of : IsPosedNet design made_net net

-- The texts that a mode judges are in their form: the parasitics alone in modes `wire` and `segment`, those that are
-- made up in mode `gen`, and else the four of a design, in mode `width` with that of the widths. A certificate need not
-- be.
abbrev pub AreInForm : Mode → Ask → (Input → List ℕ) → Type 0
AreInForm Wire ask texts = IsSpef (texts Spef)
AreInForm Segment ask texts = IsSpef (texts Spef)
AreInForm Gen ask texts = IsAccepted (size_of ask)
AreInForm Width ask texts = AreADesign (design_texts texts) × IsInForm Widths (texts Widths)
AreInForm mode ask texts = AreADesign (design_texts texts)

-- The inputs of a request are told, have at most 2^28 bytes each and are in their form, and no name of the design
-- begins with the prefix where the mode makes new names.
pub record AreFit (files : FilesState) (ask : Ask) (texts : Input → List ℕ) : Type 0 where
  pub told : AreTold files ask texts
  pub short : AreShort ask texts
  pub in_form : AreInForm ask.mode ask texts
  pub free : (name : List ℕ) → IsTakenFor ask texts name → ⊥

-- no count of faults rose, of reading, of writing and of printing
pub record NothingFailed (files : Change FilesState) (out : Change OutState) : Type 0 where
  pub reading : Rose files.0.read_faults files.1.read_faults → ⊥
  pub writing : Rose files.0.write_faults files.1.write_faults → ⊥
  pub printing : Rose out.0.faults out.1.faults → ⊥

-- Where the words are a request, its inputs are fit and nothing fails, a run ends with a status with which its mode
-- answers, or out of memory.
abbrev pub IsComplete : List (List ℕ) → Change FilesState → Change OutState → ℕ → Type 0
IsComplete words files out status =
    (ask : Ask) → IsRequest words ask → (texts : Input → List ℕ) → AreFit files.0 ask texts → NothingFailed files out
    → (is_answer_of ask.mode status ≡ true) ⊎ (status ≡ 7)
