-- The files of an answer have different names, and those that the words do not name stay.
use Rattle.std.proofs.Common.{◌≡◌, ◌≢◌, ℕ, List, [], ◌∷◌, sym, subst, arith, inl, inr, Option, Some, None}
use Rattle.std.specs.List.{All, AllPairs}
use Rattle.std.proofs.Math.ListN.{get_or}
use Rattle.std.proofs.lemmas.List.Elements.{All-cons, All-nil}
use Rattle.std.proofs.lemmas.List.Kept.{AllPairs-cons}
use Rattle.vg_words.specs.Request.{size_of}
use Rattle.vg_words.specs.declared.ask.Ask.{Ask}
use Rattle.vg_words.specs.declared.ask.Mode.{Mode}
use Rattle.vg_words.specs.declared.ask.Mode.TheVariants.{Wire, Time, Best, Frontier, Check, Gen, Sta, Segment, Repair, Total, Width}
use Rattle.vg_answer.specs.Answers.{Said, Written}
use Rattle.vg_answer.specs.declared.input.Input.{Input}
use Rattle.vg_answer.specs.declared.input.Input.TheVariants.{Spef}
use Rattle.vg_answer.specs.declared.kind.AnswerKind.{AnswerKind}
use Rattle.vg_answer.specs.declared.kind.AnswerKind.TheVariants.{Report, NoneGood, Refusal, Invalid}
use Rattle.vg_answer.specs.declared.output.Output.{Output}
use Rattle.vg_answer.specs.declared.output.Output.TheVariants.{Netlist, Parasitics, Certificate}
use Rattle.vg_place.specs.Placings.{Files, changed_files}
use Rattle.mode_best.specs.Answers.{written_files}
use Rattle.mode_gen.specs.Answers.{IsGenAnswer}
use Rattle.mode_total.proofs.ApartLemmas.{files_are}
use Rattle.mode_wire.specs.Answers.{IsWireAnswer}
use Rattle.vg_run.specs.Modes.{IsAnswerIn, design_texts, one_net, total_asked}
use Rattle.vg_run.specs.Run.{AreApart, AreApartIn, IsOutput, output_name}

no_pairs : (R : Written → Written → Type 0) → AllPairs R []
no_pairs R i j d less low = absurd (omega (arith, low))

-- two of them have no name together
abbrev Differ : Ask → Written → Written → Type 0
Differ ask one other = (file : List ℕ) → output_name ask one.output ≡ Some file → output_name ask other.output ≡ Some file → ⊥

none_apart : (ask : Ask) (said : List Written) → said ≡ [] → AreApartIn ask said
none_apart ask said none = subst (λ (list : List Written). AreApartIn ask list) (sym none) (no_pairs (Differ ask))

-- no file is written twice
module _ (ask : Ask) (apart : AreApart ask) where
  abbrev netlist : Files → Written
  netlist files = record { output = Netlist; text = files.verilog }

  abbrev parasitics : Files → Written
  parasitics files = record { output = Parasitics; text = files.spef }

  abbrev certificate : List ℕ → Written
  certificate text = record { output = Certificate; text = text }

  changed_apart : (files : Files) → AreApartIn ask (changed_files files)
  changed_apart files =
      AllPairs-cons (Differ ask) (netlist files) (parasitics files ∷ []) (All-cons (Differ ask (netlist files)) (parasitics files) [] apart.design (All-nil (Differ ask (netlist files))))
      (AllPairs-cons (Differ ask) (parasitics files) [] (All-nil (Differ ask (parasitics files))) (no_pairs (Differ ask)))

  written_apart : (files : Files) (cert : Option (List ℕ)) → AreApartIn ask (written_files files cert)
  written_apart files None = changed_apart files
  written_apart files (Some text) =
      AllPairs-cons (Differ ask) (netlist files) (parasitics files ∷ certificate text ∷ [])
      (All-cons (Differ ask (netlist files)) (parasitics files) (certificate text ∷ []) apart.design
      (All-cons (Differ ask (netlist files)) (certificate text) [] apart.netlist (All-nil (Differ ask (netlist files)))))
      (AllPairs-cons (Differ ask) (parasitics files) (certificate text ∷ [])
      (All-cons (Differ ask (parasitics files)) (certificate text) [] apart.parasitics (All-nil (Differ ask (parasitics files))))
      (AllPairs-cons (Differ ask) (certificate text) [] (All-nil (Differ ask (certificate text))) (no_pairs (Differ ask))))

  -- one file alone
  one_apart : (said : List Written) (w : Written) → said ≡ w ∷ [] → AreApartIn ask said
  one_apart said w is =
      subst (λ (list : List Written). AreApartIn ask list) (sym is) (AllPairs-cons (Differ ask) w [] (All-nil (Differ ask w)) (no_pairs (Differ ask)))

  no_wire_files : (file name : List ℕ) (kind : AnswerKind) (said : Said) → IsWireAnswer file name kind said → said.files ≡ []
  no_wire_files file name Report said is = is.1
  no_wire_files file name NoneGood said is = absurd is
  no_wire_files file name Refusal said is = is.1
  no_wire_files file name Invalid said is = absurd is

  no_gen_files : (size : ℕ) (kind : AnswerKind) (said : Said) → IsGenAnswer size kind said → said.files ≡ []
  no_gen_files size Report said is = is.1
  no_gen_files size NoneGood said is = absurd is
  no_gen_files size Refusal said is = is.1
  no_gen_files size Invalid said is = absurd is

  pub files_apart : (mode : Mode) (texts : Input → List ℕ) (kind : AnswerKind) (said : Said) → IsAnswerIn mode ask texts kind said → AreApartIn ask said.files
  files_apart Wire texts kind said is = none_apart ask said.files (no_wire_files (texts Spef) (one_net ask) kind said is)
  files_apart Time texts kind said is = none_apart ask said.files is.no_files
  files_apart Best texts kind said is =
      subst (λ (list : List Written). AreApartIn ask list) (sym is.best_of.files_are) (written_apart is.best_of.files is.best_of.cert)
  files_apart Frontier texts kind said is = none_apart ask said.files is.no_files
  files_apart Check texts kind said is = none_apart ask said.files is.no_files
  files_apart Gen texts kind said is = none_apart ask said.files (no_gen_files (size_of ask) kind said is)
  files_apart Sta texts kind said is = none_apart ask said.files is.no_files
  files_apart Segment texts kind said is = one_apart said.files _ is.files
  files_apart Repair texts kind said is =
      subst (λ (list : List Written). AreApartIn ask list) (sym is.repair_of.files_are) (changed_apart is.repair_of.files)
  files_apart Total texts kind said is =
      elim (files_are (design_texts texts) (total_asked ask) kind said is) [
        | inl none ↦ none_apart ask said.files none
        | inr (files, are) ↦ subst (λ (list : List Written). AreApartIn ask list) (sym are) (changed_apart files)
      ]
  files_apart Width texts kind said is = none_apart ask said.files is.no_files

not_named : (ask : Ask) (file : List ℕ) → (IsOutput ask file → ⊥) → (output : Output) → output_name ask output ≢ Some file
not_named ask file none Netlist is = none (inr (inl is))
not_named ask file none Parasitics is = none (inl is)
not_named ask file none Certificate is = none (inr (inr is))

-- a file that the words do not name is none of those that are written
pub spared : (ask : Ask) (file : List ℕ) → (IsOutput ask file → ⊥) → (said : List Written) → All (λ w. output_name ask w.output ≢ Some file) said
spared ask file none said k d low = not_named ask file none (get_or said k d).output
