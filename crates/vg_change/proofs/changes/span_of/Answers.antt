use Rattle.std.proofs.Common.{◌≡◌, ℕ, false, Option, Some, None, is_some, sym, ap, ◌∙◌, refl}
use Rattle.std.proofs.lemmas.Bool.{false≢true}
use Rattle.std.specs.Str.{bytes_eq}
use Rattle.spef_file.proofs.TableLemmas.{position_any}
use Rattle.spef_file.specs.Tables.{names_of}
use Rattle.vg_change.proofs.RowLemmas.{row_named}
use Rattle.vg_change.proofs.changes.span_of.Goals as goal

none_left : (o : Option ℕ) → ((x : ℕ) → o ≡ Some x → ⊥) → is_some o ≡ false
none_left None never = refl
none_left (Some x) never = absurd (never x refl)

pub unreachable-requires : goal.unreachable-requires
unreachable-requires c =
    let none = sym (ap (λ (o : Option ℕ). is_some o) c.find.ensures.place) ∙ none_left c.find.result c.in_default.not-Some in
    false≢true (sym none ∙ position_any (bytes_eq c.args.name.now) (names_of c.args.index.now.sections) ∙ c.requires)

pub returns : goal.returns
returns c = (
  c.get-section.result,
  row_named c.args.index.now.sections c.args.name.now c.in-Some.at c.get-section.result (sym (rw c.in-Some.is at c.find.ensures.place)) c.get-section.ensures,
  refl,
)
