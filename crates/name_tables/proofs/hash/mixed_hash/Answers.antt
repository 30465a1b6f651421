use Rattle.std.proofs.Common.{◌∙◌, ap, ap₂}
use Rattle.std.proofs.lemmas.List.{take_all}
use Rattle.name_tables.specs.Hashes.{mixed_hash, words_hash, word_of, hash_with, upper_half}
use Rattle.name_tables.proofs.hash.mixed_hash.Goals as goal

pub returns : goal.returns
unfolding mixed_hash
returns c =
    let words = c.word.invariant ∙ ap words_hash (take_all c.word.word-index c.as_chunks.result.0.now c.word-test.false) ∙ ap words_hash c.as_chunks.ensures.front in
    let rest = c.word_of.ensures ∙ ap word_of c.as_chunks.ensures.back in
    c.upper_half.ensures ∙ ap upper_half (c.hash_with.ensures ∙ ap₂ hash_with words rest)
