use Rattle.vg_scan.specs.Lines.{lines_of}
use Rattle.vg_scan.specs.Comments.{without_comments}
use Rattle.vg_scan.specs.declared.comments.Comments.TheVariants.{Spef}
use Rattle.spef_file.specs.NetSpans.{AreSpans}
use Rattle.std.proofs.Common.{◌≡◌, subst, ◌∙◌, sym, inl, inr}
use Rattle.spef_file.specs.declared.fault.SpefKind.TheVariants.{Header}
use Rattle.spef_file.specs.Views.{state_of}
use Rattle.spef_file.specs.Files.{IsFileOf, IsFileFault}
use Rattle.spef_file.proofs.ReadLemmas.{file_fault, file_missing, file_said}
use Rattle.spef_file.proofs.read.index.Goals as goal

pub returns-in-Err-clause-fault : goal.returns-in-Err-clause-fault
returns-in-Err-clause-fault c =
    elim c.in-Err.ensures.fault [
      | inl memory ↦ inl memory
      | inr fault ↦ inr (file_fault c.args.text.now c.as_bytes.result.now (c.as_bytes.ensures.text ∙ sym c.as_bytes.ensures.clear) c.in-Err.fault fault)
    ]

pub returns-then-reader-lt14-clause-fault : goal.returns-then-reader-lt14-clause-fault
returns-then-reader-lt14-clause-fault c =
    let missing = file_missing c.args.text.now c.as_bytes.result.now (c.as_bytes.ensures.text ∙ sym c.as_bytes.ensures.clear) (state_of c.in-Ok.reader) c.in-Ok.ensures.said c.if-reader-lt14.true in
    inr (subst (λ number. IsFileFault c.args.text.now (record { kind = Header; line = number })) (sym c.max.ensures) missing)

pub returns-else-reader-lt14-clause-index : goal.returns-else-reader-lt14-clause-index
returns-else-reader-lt14-clause-index c =
    let text = c.args.text.now in
    let bytes = c.as_bytes.result.now in
    let is : bytes ≡ without_comments Spef text = c.as_bytes.ensures.text ∙ sym c.as_bytes.ensures.clear in
    record {
      said = subst (IsFileOf text) (sym c.finish.ensures.file_of) (file_said text bytes is (state_of c.in-Ok.reader) c.in-Ok.ensures.said c.if-reader-lt14.false);
      spans = subst (λ clear. AreSpans clear (lines_of clear) c.finish.result.sections) is (subst (AreSpans bytes (lines_of bytes)) (sym c.finish.ensures.sections) c.in-Ok.ensures.spans);
    }
