use Rattle.std.proofs.Common.{◌∙◌, ap, length, arith, get_or, [], List, ℕ}
use Rattle.name_tables.specs.Texts.{texts_of}
use Rattle.name_tables.proofs.TextsLemmas.{length-texts_of}
use Rattle.name_tables.proofs.texts.Texts.get.Goals as goal

pub text_in-requires : goal.text_in-requires
text_in-requires c = omega (arith, length-texts_of c.self.inside.bytes.items 0 c.self.inside.ends.items, ap length c.self.view_is, ap length c.as_slice-2.ensures.value)

pub returns : goal.returns
returns c = c.text_in.ensures ∙ ap (λ (bs : List ℕ). get_or (texts_of bs 0 c.as_slice-2.result.now) c.args.at []) c.as_slice.ensures.value ∙ ap (λ (es : List ℕ). get_or (texts_of c.self.inside.bytes.items 0 es) c.args.at []) c.as_slice-2.ensures.value ∙ ap (λ (ts : List (List ℕ)). get_or ts c.args.at []) c.self.view_is
