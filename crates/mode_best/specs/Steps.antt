-- What is said of the best placements of nets, one after another, and the certificate of the one net that is asked for:
-- for the functions between.
use Rattle.std.specs.Prelude.{◌≡◌, ℕ, ◌++◌, option_map, Bool, true, false, List, Option, Some, None, Result, Ok, Err, map}
use Rattle.std.specs.declared.alloc.Global.{Global}
use Rattle.std.specs.declared.vec.Vec.{Vec}
use Rattle.ver_file.specs.Modules.{Denotes}
use Rattle.vg_change.specs.Taken.{taken}
use Rattle.vg_design.specs.Designs.{Design}
use Rattle.vg_answer.specs.Answers.{Said, written_by}
use Rattle.vg_answer.specs.NewTexts.{joined}
use Rattle.vg_answer.specs.Nets.{nets_for}
use Rattle.vg_answer.specs.Verdicts.{Verdict}
use Rattle.vg_answer.specs.declared.answer.Answer.{Answer}
use Rattle.vg_answer.specs.declared.answer.NoAnswer.{NoAnswer}
use Rattle.vg_answer.specs.declared.answer.NoAnswer.TheVariants.{Faulty, Taken, Memory}
use Rattle.vg_answer.specs.declared.kind.AnswerKind.TheVariants.{Refusal as Refused}
use Rattle.vg_place.specs.Steps.{AreJudged, FitIn, IsOneMore, files_with}
use Rattle.vg_place.specs.Placings.{Files}
use Rattle.vg_place.specs.declared.judging.Judging.{Judging}
use Rattle.mode_best.specs.Answers.{Asked, Certifies, IsBestOf, IsBestSaid, IsCertFor, cert_files, written_files}
use Rattle.mode_best.specs.declared.best.Finished.{Finished}
use Rattle.mode_best.specs.declared.nets.Certified.{Certified}

-- the text of a certificate, where there is one
abbrev pub cert_in : Option (Vec (Vec ℕ Global) Global) → Option (List ℕ)
cert_in cert = option_map (λ pieces. joined pieces.items) cert

-- a certificate of a net of which this is said, where one is asked for and the net is not refused
pub data IsCertOf (d : Design) (name : List ℕ) (certified : Bool) (said : Verdict)
    (cert : Option (List ℕ)) : Type 0 where
  unasked : certified ≡ false → cert ≡ None → IsCertOf d name certified said cert
  of_refused : said.kind ≡ Refused → cert ≡ None → IsCertOf d name certified said cert
  of_found : certified ≡ true → (text : List ℕ) → cert ≡ Some text → Certifies d name said.kind said.text text
      → IsCertOf d name certified said cert

-- one net more is judged, with a certificate where one is asked for
pub record JudgesOne (d : Design) (name : List ℕ) (certified : Bool) (old : Judging) (made : Certified) : Type 0 where
  pub verdict : Verdict
  pub says : IsBestSaid d name verdict
  pub more : IsOneMore old verdict made.judging
  pub cert : IsCertOf d name certified verdict (cert_in made.cert)

-- these nets are judged, with nothing before
abbrev pub AreBestJudged : Design → List ℕ → List (List ℕ) → Judging → Type 0
AreBestJudged d prefix names all = AreJudged (IsBestSaid d) d prefix names all

-- the nets that are asked for are judged, and a certificate is made where it is asked for
pub record AreCertified (d : Design) (prefix : List ℕ) (asked : Asked) (made : Certified) : Type 0 where
  pub nets : AreBestJudged d prefix (nets_for d asked.net) made.judging
  pub cert : IsCertFor d asked made.judging.kind made.judging.text.items (cert_in made.cert)

-- what is said where these are the texts of the design
abbrev pub finished_with : Finished → Files → Said
finished_with found read = record {
  text = found.judged.text.items;
  files = written_files (files_with found.judged.patches read) (cert_in found.cert);
}

-- the nets that are asked for are judged, whatever the texts of the design are
pub record IsJudged (d : Design) (asked : Asked) (found : Finished) : Type 0 where
  pub fit : FitIn d found.judged.patches
  pub says : (read : Files) → Denotes read.verilog d.netlist
      → IsBestOf read d asked found.judged.kind (finished_with found read)

-- they are, and no name of the design begins with the prefix; or one does, or it is out of memory
abbrev pub Judges : Design → Asked → Result Finished NoAnswer → Type 0
Judges d asked (Ok found) = (taken d asked.prefix ≡ None) × IsJudged d asked found
Judges d asked (Err (Faulty input line)) = ⊥
Judges d asked (Err (Taken name)) = taken d asked.prefix ≡ Some name
Judges d asked (Err Memory) = Unit {0}

-- an answer has a certificate as its last file, where there is one
pub record IsWithCert (cert : Option (List ℕ)) (old new : Answer) : Type 0 where
  pub kind : new.kind ≡ old.kind
  pub text : new.text.items ≡ old.text.items
  pub files : map written_by new.files.items ≡ map written_by old.files.items ++ cert_files cert
