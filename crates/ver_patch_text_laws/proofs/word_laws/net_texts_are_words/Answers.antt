use Rattle.ver_patch_text_laws.proofs.TextLemmas.{net_named}
use Rattle.ver_patch_text_laws.proofs.word_laws.net_texts_are_words.Goals as goal

pub returns : goal.returns
returns c = net_named
