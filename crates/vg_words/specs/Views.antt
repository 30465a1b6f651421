-- What the code keeps of the words.
use Rattle.std.specs.Prelude.{◌≡◌, ℕ, List, Result, Ok, Err, if◌then◌else◌}
use Rattle.clap.specs.Words.{first_value, found_of}
use Rattle.vg_words.specs.Command.{long_name}
use Rattle.vg_words.specs.Options.{is_flag}
use Rattle.vg_words.specs.Request.{AreUnread, Setting, Sets, Values, flag_value, value_of}
use Rattle.vg_words.specs.declared.ask.WordFault.{WordFault}
use Rattle.vg_words.specs.declared.ask.WordFault.TheVariants.{Unread, Memory}
use Rattle.vg_words.specs.declared.given.Given.{Given}
use Rattle.vg_words.specs.declared.option.Opt.{Opt}

abbrev pub given_by : Given → Values
given_by given option =
    if is_flag option then flag_value given.all else first_value (found_of given.matches) (long_name option)

-- the words are settings, with these values
pub record AreValues (words : List (List ℕ)) (values : Values) : Type 0 where
  pub settings : List Setting
  pub set : Sets words settings
  pub same : (option : Opt) → values option ≡ value_of option settings

-- what the words give, or that they are no settings, or out of memory
abbrev pub Gives : Result Given WordFault → List (List ℕ) → Type 0
Gives (Ok given) words = AreValues words (given_by given)
Gives (Err Unread) words = AreUnread words
Gives (Err Memory) words = Unit {0}
Gives (Err fault) words = ⊥
