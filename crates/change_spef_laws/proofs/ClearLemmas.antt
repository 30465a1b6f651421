-- What two texts say that are the same without their comments.
use Rattle.std.proofs.Common.{◌≡◌, ℕ, ◌+◌, ◌≤◌, List, [], length, drop, take, map, sym, ap, ◌∙◌, subst, if◌then◌else◌}
use Rattle.std.specs.Prelude.{unwrap_or}
use Rattle.std.specs.Str.Lines.{lines}
use Rattle.vg_scan.specs.Comments.{without_comments}
use Rattle.vg_scan.specs.Faults.{IsClear}
use Rattle.vg_scan.specs.Lines.{lines_of, words}
use Rattle.vg_scan.specs.declared.comments.Comments.TheVariants.{Spef}
use Rattle.vg_scan.specs.declared.fault.LineFault.{LineFault}
use Rattle.spef_file.specs.Faults.{fault_at}
use Rattle.spef_file.specs.Files.{File, IsFileOf, said_by}
use Rattle.spef_file.specs.HeaderLines.{spoken}
use Rattle.spef_file.specs.IndexFiles.{file_of}
use Rattle.spef_file.specs.Indexes.{IsIndexOf}
use Rattle.spef_file.specs.Nets.{NetHead, end_at}
use Rattle.spef_file.specs.NetSpans.{AreSpans}
use Rattle.spef_file.specs.declared.spef_index.SpefIndex.{SpefIndex}
use Rattle.spef_net.specs.Denoted.{IsNet}
use Rattle.spef_net.specs.Faults.{IsFaultless, IsFirstFaultIn}
use Rattle.spef_net.specs.Statements.{Stated, statements}
use Rattle.spef_net.specs.declared.fault.NetKind.{NetKind}
use Rattle.spef_net.specs.declared.net.ParNet.{ParNet}
use Rattle.spef_patch_laws.specs.ReplacementLaws.{HasSameNet}
use Rattle.spef_wire.specs.Nets.{IsFaultNamed, IsMissing, IsNetNamed}

-- what a head's lines say in a text without comments
abbrev said_in : List ℕ → File → NetHead → List Stated
said_in clear file head =
    if head.reduced then [] else statements file (take (unwrap_or (end_at (map words (drop head.line (lines clear)))) 0) (drop head.line (lines clear)))

module _ (a b : List ℕ) (e : without_comments Spef a ≡ without_comments Spef b) where
  pub file_stays : (file : File) → IsFileOf a file → IsFileOf b file
  file_stays file is = record {
    clear = subst (λ t. IsClear (fault_at (lines_of t)) (length (lines_of t))) e is.clear;
    headed = subst (λ t. 14 ≤ length (spoken (lines_of t))) e is.headed;
    says = is.says ∙ ap (λ t. said_by (lines_of t)) e;
  }

  pub index_stays : (index : SpefIndex) → IsIndexOf a index → IsIndexOf b index
  index_stays index is = record {
    said = file_stays (file_of index) is.said;
    spans = subst (λ t. AreSpans t (lines_of t) index.sections) e is.spans;
  }

  pub missing_stays : (name : List ℕ) → IsMissing a name → IsMissing b name
  missing_stays name is = record { file = is.file; said = file_stays is.file is.said; none = is.none }

  pub net_stays : (name : List ℕ) (net : ParNet) → IsNetNamed a name net → IsNetNamed b name net
  net_stays name net is = record {
    file = is.file;
    head = is.head;
    head_of = record { said = file_stays is.file is.head_of.said; named = is.head_of.named };
    read = record {
      faultless = subst (λ t. IsFaultless is.head.name (said_in t is.file is.head)) e is.read.faultless;
      denoted = subst (λ t. IsNet is.head.name is.head.reduced (said_in t is.file is.head) net) e is.read.denoted;
    };
  }

  pub fault_stays : (name : List ℕ) (fault : LineFault NetKind) → IsFaultNamed a name fault → IsFaultNamed b name fault
  fault_stays name fault is = record {
    file = is.file;
    head = is.head;
    head_of = record { said = file_stays is.file is.head_of.said; named = is.head_of.named };
    first = subst (λ t. IsFirstFaultIn is.head.name (said_in t is.file is.head) (is.head.line + 1) fault) e is.first;
  }

-- so two texts have the same net of a name where such texts have
pub same_stays : (a b c d : List ℕ) → without_comments Spef a ≡ without_comments Spef c → without_comments Spef b ≡ without_comments Spef d → (name : List ℕ)
    → HasSameNet a b name → HasSameNet c d name
same_stays a b c d e f name is = record {
  stays = λ net h. net_stays b d f name net (is.stays net (net_stays c a (sym e) name net h));
  stood = λ net h. net_stays a c e name net (is.stood net (net_stays d b (sym f) name net h));
  missing = λ h. missing_stays b d f name (is.missing (missing_stays c a (sym e) name h));
  was_missing = λ h. missing_stays a c e name (is.was_missing (missing_stays d b (sym f) name h));
}
