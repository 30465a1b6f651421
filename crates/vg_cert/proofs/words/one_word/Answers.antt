use Rattle.std.proofs.Common.{◌∙◌, ◌∷◌, [], cond, sym, ap}
use Rattle.vg_cert.proofs.WordLemmas.{words_one, no_one, some_not_one}
use Rattle.vg_cert.proofs.words.one_word.Goals as goal

pub returns-in-Some : goal.returns-in-Some
returns-in-Some c = some_not_one c.args.line.now _ (sym c.blank_at.ensures ∙ c.in-Some.is)

pub returns-in-None : goal.returns-in-None
returns-in-None c =
    no_one c.args.line.now (words_one c.args.line.now (sym c.blank_at.ensures ∙ c.in-None.is) ∙ ap (λ b. cond b [] (c.args.line.now ∷ [])) (sym c.is_empty.ensures ∙ c.if-is_empty.true))

pub returns-in-None-2 : goal.returns-in-None-2
returns-in-None-2 c = words_one c.args.line.now (sym c.blank_at.ensures ∙ c.in-None.is) ∙ ap (λ b. cond b [] (c.args.line.now ∷ [])) (sym c.is_empty.ensures ∙ c.if-is_empty.false)
