-- The words of a text: of each token its kind and its bytes, wherever it stands.
use Rattle.std.specs.Prelude.{ℕ, List, [], ◌∷◌, ◌++◌, map, filter, nat_le, nat_lt}
use Rattle.vg_scan.specs.Lines.{part}
use Rattle.ver_text.specs.declared.kind.Kind.{Kind}
use Rattle.ver_text.specs.declared.token.Token.{Token}
use Rattle.ver_text.specs.Kinds.{kind_in}
use Rattle.ver_text.specs.Tokens.{tokens_of}

-- A token by its kind and its bytes.
pub record Word : Type 0 where
  pub kind : Kind
  pub bytes : List ℕ

-- the word that a token of a text is
abbrev pub word_in : List ℕ → Token → Word
word_in text t = record { kind = kind_in text t; bytes = part text t.from t.to }

-- the words of a text, in order
abbrev pub words_of : List ℕ → List Word
words_of text = map (word_in text) (tokens_of text)

-- A part of a text, and the words that are to stand there.
pub record WordEdit : Type 0 where
  pub from : ℕ
  pub to : ℕ
  pub words : List Word

-- the words of some tokens of a text, with these parts replaced: tokens that begin in a part give way to its words
abbrev pub words_with : List ℕ → List WordEdit → List Token → List Word
words_with text [] ts = map (word_in text) ts
words_with text (e ∷ edits) ts =
    map (word_in text) (filter (λ t. nat_lt t.from e.from) ts)
    ++ (e.words ++ words_with text edits (filter (λ t. nat_le e.to t.from) ts))
