-- Phrases of tokens that the machine reads at once: for the functions between.
use Rattle.std.specs.Prelude.{◌≡◌, ◌<◌, List, [], ◌∷◌, ◌++◌, length, Option, Some, None}
use Rattle.ver_text.specs.declared.kind.Kind.{Kind}
use Rattle.ver_syntax.specs.declared.state.At.{At}
use Rattle.ver_syntax.specs.declared.state.Brace.{Brace}
use Rattle.ver_syntax.specs.Moves.{State, next}

-- where tokens lead, one after another
abbrev pub moves : Option State → List Kind → Option State
moves found [] = found
moves None (k ∷ ks) = None
moves (Some s) (k ∷ ks) = moves (next s k) ks

-- tokens of these kinds are those of a phrase, which leads from one place to another, and these
pub record IsPhrase (at to : At) (kinds left : List Kind) : Type 0 where
  pub phrase : List Kind
  pub cut : kinds ≡ phrase ++ left
  pub some : 0 < length phrase
  pub leads : (open_braces : List Brace) → moves (Some (record { at = at; open_braces = open_braces })) phrase
      ≡ Some (record { at = to; open_braces = [] })
