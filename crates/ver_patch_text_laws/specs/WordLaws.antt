-- What is true of the words of every net.
use Rattle.std.specs.Prelude.{◌≡◌, ℕ, List}
use Rattle.ver_patch_text_laws.specs.NewWords.{net_words}
use Rattle.ver_patch_text_laws.specs.Texts.{IsNetText}
use Rattle.ver_patch_text_laws.specs.Words.{words_of}

-- the text of a net is its words
abbrev pub NetTextsAreWords : Type 0
NetTextsAreWords = (text : List ℕ) (t : IsNetText text) → words_of text ≡ net_words t.net
