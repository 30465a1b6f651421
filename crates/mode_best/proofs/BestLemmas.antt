-- What mode `best` says, and the files that it writes.
use Rattle.std.proofs.Common.{◌≡◌, ℕ, List, refl, sym, ap, ◌∙◌, subst, Option}
use Rattle.std.specs.List.{flat_map}
use Rattle.vg_design.specs.Designs.{Design}
use Rattle.vg_answer.specs.Verdicts.{Verdict, put_in}
use Rattle.vg_answer.specs.declared.kind.AnswerKind.{AnswerKind}
use Rattle.vg_place.proofs.FileLemmas.{patches_are}
use Rattle.vg_place.specs.Placings.{IsPutSaid}
use Rattle.vg_place.specs.Steps.{IsFinished, files_with}
use Rattle.vg_place.specs.declared.judged.Judged.{Judged}
use Rattle.mode_best.specs.Answers.{Asked, IsBestSaid, IsCertFor}
use Rattle.mode_best.specs.Steps.{AreCertified, IsJudged, cert_in}
use Rattle.mode_best.specs.declared.nets.Certified.{Certified}

-- what is said of a net puts the cells of a good placement, or nothing
pub best_put : (d : Design) (name : List ℕ) (v : Verdict) → IsBestSaid d name v → IsPutSaid d name v
best_put d name v (IsBestSaid.told_best net of best found is) = IsPutSaid.puts_cells net of best.placement.cells found.best.good (ap put_in is)
best_put d name v (IsBestSaid.told_none net of none is) = IsPutSaid.puts_nothing (ap put_in is)
best_put d name v (IsBestSaid.told_refusal refusal first is) = IsPutSaid.puts_nothing (ap put_in is)

-- a certificate beside what is said again
cert_as : (d : Design) (asked : Asked) (kind other : AnswerKind) (text told : List ℕ) (cert : Option (List ℕ)) → other ≡ kind → told ≡ text → IsCertFor d asked kind text cert
    → IsCertFor d asked other told cert
cert_as d asked kind other text told cert k t is =
    subst (λ (x : AnswerKind). IsCertFor d asked x told cert) (sym k) (subst (λ (x : List ℕ). IsCertFor d asked kind x cert) (sym t) is)

-- the nets that are asked for are judged, with what is to be replaced
pub finished : (d : Design) (asked : Asked) (all : Certified) (found : Judged) → AreCertified d asked.prefix asked all → IsFinished all.judging found
    → IsJudged d asked (record { judged = found; cert = all.cert })
finished d asked all found certified is =
    let are = certified.nets in
    let patches = patches_are d asked.prefix (flat_map put_in are.nets.verdicts) all.judging.changes found.patches all.judging.changed are.put is.patches in
    record {
      fit = patches.fit;
      says = λ read denotes. record {
        nets = record {
          verdicts = are.nets.verdicts;
          each = are.nets.each;
          kind_is = is.kind ∙ are.nets.kind_is;
          text_is = is.text ∙ are.nets.text_is;
        };
        files = files_with found.patches read;
        files_of = patches.make read denotes;
        cert = cert_in all.cert;
        cert_of = cert_as d asked all.judging.kind found.kind all.judging.text.items found.text.items (cert_in all.cert) is.kind is.text certified.cert;
        files_are = refl;
      };
    }
