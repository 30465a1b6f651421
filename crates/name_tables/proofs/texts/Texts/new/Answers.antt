use Rattle.name_tables.specs.Texts.{texts_of, AreEnds}
use Rattle.std.proofs.Common.{rules, ap, ◌∙◌, refl, ℕ, List, [], ◌≡◌}
use Rattle.name_tables.proofs.texts.Texts.new.Goals as goal

pub invariant_of-result : goal.invariant_of-result
unfolding AreEnds
invariant_of-result c = search rules

no_texts : (bytes : List ℕ) → texts_of bytes 0 [] ≡ []
unfolding texts_of
no_texts bytes = refl

pub returns : goal.returns
returns c = ap (texts_of c.new.result.items 0) c.new-2.ensures.items ∙ no_texts c.new.result.items
