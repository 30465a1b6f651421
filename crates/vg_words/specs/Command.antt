-- The command that `clap` reads: each option with its value or as a flag, and nothing else.
use Rattle.std.specs.Prelude.{ℕ, ◌||◌, Bool, true, not, List, Some, codes, drop, fold, if◌then◌else◌}
use Rattle.std.specs.Str.Parse.{starts_with_minus}
use Rattle.clap.specs.Lexer.{is_long_word}
use Rattle.clap.specs.Simple.{on_top}
use Rattle.clap.specs.Words.{App, Rule, new_app, new_rule, with_rule}
use Rattle.clap.specs.declared.builder.action.ArgAction.{ArgAction}
use Rattle.clap.specs.declared.builder.action.ArgAction.TheVariants.{Set, SetTrue}
use Rattle.clap.specs.declared.error.kind.ErrorKind.{ErrorKind}
use Rattle.clap.specs.declared.error.kind.ErrorKind.TheVariants.{OutOfMemory}
use Rattle.vg_words.specs.Options.{name_of, is_flag, options}
use Rattle.vg_words.specs.declared.ask.WordFault.{WordFault}
use Rattle.vg_words.specs.declared.ask.WordFault.TheVariants.{Unread, Memory}
use Rattle.vg_words.specs.declared.option.Opt.{Opt}

-- the name of an option without its hyphens
abbrev pub long_name : Opt → List ℕ
long_name option = drop 2 (name_of option)

-- what a use of an option does: it sets a value, or tells that the flag is given
abbrev pub action_for : Opt → ArgAction
action_for option = if is_flag option then SetTrue else Set

-- the argument of an option
abbrev pub rule_for : Opt → Rule
rule_for option =
    record (new_rule (long_name option)) { long = Some (long_name option); action = Some (action_for option) }

-- the command without options
abbrev pub bare : App
bare = on_top (λ top. record top { no_binary_name = true; disable_help_flag = true }) (new_app (codes "vginsert"))

abbrev pub with_option : App → Opt → App
with_option command option = with_rule command (rule_for option)

-- the command with these options
abbrev pub with_options : List Opt → App
with_options some = fold with_option bare some

abbrev pub app : App
app = with_options options

-- the word begins with no `-`, or it is `--` with a name or with a name and a value
abbrev pub is_value_or_long : List ℕ → Bool
is_value_or_long word = not (starts_with_minus word) || is_long_word word

-- what an error of this kind says of the words
abbrev pub fault_for : ErrorKind → WordFault
fault_for OutOfMemory = Memory
fault_for kind = Unread
