-- The first places of a text's flaws, by what they are: for the functions between.
use Rattle.std.specs.Prelude.{◌≡◌, ℕ, List, None}
use Rattle.ver_file.specs.declared.first.Firsts.{Firsts}
use Rattle.ver_file.specs.Firsts.{first_of}
use Rattle.ver_file.specs.Flaws.{clashes, grammar_flaws, instance_flaws}

pub record AreFirsts (text : List ℕ) (firsts : Firsts) : Type 0 where
  pub clash : firsts.clash ≡ first_of None (clashes text)
  pub twice : firsts.twice ≡ first_of None (instance_flaws text)
  pub grammar : firsts.grammar ≡ first_of None (grammar_flaws text)

-- nothing is wrong
pub record IsFlawless (firsts : Firsts) : Type 0 where
  pub clash : firsts.clash ≡ None
  pub twice : firsts.twice ≡ None
  pub grammar : firsts.grammar ≡ None
