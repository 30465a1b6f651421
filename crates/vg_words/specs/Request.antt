-- What words ask for, or the first reason why they ask for nothing.
use Rattle.std.specs.Prelude.{◌≡◌, ◌⊎◌, ◌^◌, ℕ, ℤ, pos, nat_lt, nat_le, ◌&&◌, ◌||◌, Bool, true, false, not, List, [], ◌∷◌, ◌++◌, length, codes, Option, Some, None, is_some, unwrap_or, Result, Ok, Err, map, string_bytes, String, if◌then◌else◌}
use Rattle.std.specs.List.{count_by, list_all, list_any, find}
use Rattle.std.specs.Result.{result_ok}
use Rattle.std.specs.Str.{bytes_eq}
use Rattle.std.specs.Str.Parse.{starts_with_minus}
use Rattle.std.specs.declared.alloc.Global.{Global}
use Rattle.vg_num.specs.Number.{are_digits, signed_scaled, value_of as number_of}
use Rattle.vg_scan.specs.Prefixes.{is_prefix}
use Rattle.vg_words.specs.Options.{name_of, mode_of, mode_name, is_flag, is_same, options, file_options, required, allowed, may_write_nothing}
use Rattle.vg_words.specs.declared.option.Opt.{Opt}
use Rattle.vg_words.specs.declared.option.Opt.TheVariants.{Mode, Spef, Lib, Verilog, Cons, Net, All, OutSpef, OutVerilog, Cert, Cap, Prefix, Size, Parts, Target, Widths}
use Rattle.vg_words.specs.declared.ask.Mode.{Mode as ModeSpec}
use Rattle.vg_words.specs.declared.ask.Ask.{Ask}
use Rattle.vg_words.specs.declared.ask.WordFault.{WordFault}
use Rattle.vg_words.specs.declared.ask.WordFault.TheVariants.{Unread, Missing, Excluded, BadValue, Equal, Memory}

-- the bytes of each word
abbrev pub texts : List (String Global) → List (List ℕ)
texts words = map string_bytes words

-- an option and its value, which is empty for a flag
abbrev pub Setting : Type 0
Setting = Opt × List ℕ

-- the first words are the option and its value: `--name value`, where the value does not begin with `-`, or
-- `--name=value`
abbrev pub SpellsValue : List (List ℕ) → Setting → List (List ℕ) → Type 0
SpellsValue words (option, value) rest =
    ((words ≡ name_of option ∷ value ∷ rest) × (starts_with_minus value ≡ false))
    ⊎ (words ≡ (name_of option ++ (codes "=" ++ value)) ∷ rest)

-- the first word is the flag: `--name`, and its value is empty
abbrev pub SpellsFlag : List (List ℕ) → Setting → List (List ℕ) → Type 0
SpellsFlag words (option, value) rest = (words ≡ name_of option ∷ rest) × (value ≡ [])

-- a flag is one word, and another option comes with its value
abbrev pub Spells : List (List ℕ) → Setting → List (List ℕ) → Type 0
Spells words (option, value) rest =
    ((is_flag option ≡ true) × SpellsFlag words (option, value) rest)
    ⊎ ((is_flag option ≡ false) × SpellsValue words (option, value) rest)

-- the words are these settings, one after another
abbrev pub AreSpelled : List (List ℕ) → List Setting → Type 0
AreSpelled words [] = words ≡ []
AreSpelled words (setting ∷ settings) = (rest : List (List ℕ)) × Spells words setting rest × AreSpelled rest settings

abbrev pub is_of : Opt → Setting → Bool
is_of option (other, value) = is_same other option

-- no option is set twice
abbrev pub are_once : List Setting → Bool
are_once settings = list_all (λ option. nat_lt (count_by (is_of option) settings) 2) options

abbrev pub value_of : Opt → List Setting → Option (List ℕ)
value_of option [] = None
value_of option ((other, value) ∷ settings) = if is_same other option then Some value else value_of option settings

-- the words are these settings, and set each option at most once
pub record Sets (words : List (List ℕ)) (settings : List Setting) : Type 0 where
  pub spelled : AreSpelled words settings
  pub once : are_once settings ≡ true

-- the value of each option, if it has one
abbrev pub Values : Type 0
Values = Opt → Option (List ℕ)

abbrev pub values_in : List Setting → Values
values_in settings option = value_of option settings

abbrev pub is_given : Values → Opt → Bool
is_given values option = is_some (values option)

abbrev pub may_be_given : ModeSpec → Opt → Bool
may_be_given mode option = list_any (is_same option) (allowed mode)

-- an option that is asked for may be left out: `--net` where `--all` is given, in a mode that may be given it, and
-- `--out-spef` and `--out-verilog` together, in a mode that may write nothing
abbrev pub may_be_left : ModeSpec → Values → Opt → Bool
may_be_left mode values Net = is_given values All && may_be_given mode All
may_be_left mode values OutSpef = may_write_nothing mode && not (is_given values OutVerilog)
may_be_left mode values OutVerilog = may_write_nothing mode && not (is_given values OutSpef)
may_be_left mode values option = false

abbrev pub is_missing : ModeSpec → Values → Opt → Bool
is_missing mode values option = not (is_given values option || may_be_left mode values option)

-- `--all` has no use beside `--net`, and `--cert` none beside `--all`
abbrev pub has_no_use_beside : Values → Opt → Bool
has_no_use_beside values All = is_given values Net
has_no_use_beside values Cert = is_given values All
has_no_use_beside values option = false

-- the option is given, and the mode has no use for it, or has none beside what else is given
abbrev pub is_excluded : ModeSpec → Values → Opt → Bool
is_excluded mode values option =
    is_given values option && (not (may_be_given mode option) || has_no_use_beside values option)

-- so many digits at most, which write 1 to `most`
abbrev pub is_count : ℕ → ℕ → List ℕ → Bool
is_count digits most text =
    are_digits text && (nat_le (length text) digits && (nat_le 1 (number_of text) && nat_le (number_of text) most))

-- one to four digits, which write 1 to 4000
abbrev pub is_size : List ℕ → Bool
is_size text = is_count 4 4000 text

-- one or two digits, which write 1 to 64
abbrev pub is_parts : List ℕ → Bool
is_parts text = is_count 2 64 text

-- one to 18 digits
abbrev pub is_cap : List ℕ → Bool
is_cap text = are_digits text && nat_le (length text) 18

-- the time (zs) that a text writes in picoseconds, read as the times of constraints are; none where reading refuses it
abbrev pub target_in : List ℕ → Option ℤ
target_in text = result_ok (signed_scaled (pos 9) (10 ^ 23) text)

-- a number of picoseconds, of at most 10^23 zs in size
abbrev pub is_target : List ℕ → Bool
is_target text = is_some (target_in text)

-- an empty value, or a cap, a prefix, a size, a number of parts or a target of another form; a flag has no bad value
abbrev pub is_bad_value : Opt → List ℕ → Bool
is_bad_value All value = false
is_bad_value Cap value = not (is_cap value)
is_bad_value Prefix value = not (is_prefix value)
is_bad_value Size value = not (is_size value)
is_bad_value Parts value = not (is_parts value)
is_bad_value Target value = not (is_target value)
is_bad_value option value = not (nat_lt 0 (length value))

abbrev pub has_bad_value : Opt → Option (List ℕ) → Bool
has_bad_value option None = false
has_bad_value option (Some value) = is_bad_value option value

abbrev pub is_bad : Values → Opt → Bool
is_bad values option = has_bad_value option (values option)

abbrev pub are_equal : Option (List ℕ) → Option (List ℕ) → Bool
are_equal (Some a) (Some b) = bytes_eq a b
are_equal _ _ = false

abbrev pub or_else : Option WordFault → Option WordFault → Option WordFault
or_else (Some fault) later = Some fault
or_else None later = later

abbrev pub of_first : (Opt → WordFault) → Option Opt → Option WordFault
of_first fault None = None
of_first fault (Some option) = Some (fault option)

abbrev pub of_pair : Option (Opt × Opt) → Option WordFault
of_pair None = None
of_pair (Some (one, other)) = Some (Equal one other)

abbrev pub with_one : Opt → Option Opt → Option (Opt × Opt) → Option (Opt × Opt)
with_one one None later = later
with_one one (Some other) later = Some (one, other)

-- the first two options of a list that have equal values: the first one, and then the first that equals it
unfoldable pub first_equal : Values → List Opt → Option (Opt × Opt)
first_equal values [] = None
first_equal values (one ∷ others) =
    with_one one (find (λ other. are_equal (values one) (values other)) others) (first_equal values others)

-- the first missing option, else the first that is excluded, else the first bad value, else equal names
abbrev pub fault_in : ModeSpec → Values → Option WordFault
fault_in mode values =
    or_else (of_first Missing (find (is_missing mode values) (required mode)))
    (or_else (of_first Excluded (find (is_excluded mode values) options))
    (or_else (of_first BadValue (find (is_bad values) options)) (of_pair (first_equal values file_options))))

abbrev pub fault_of_mode : Values → Option ModeSpec → Option WordFault
fault_of_mode values None = Some (BadValue Mode)
fault_of_mode values (Some mode) = fault_in mode values

-- the mode comes first: whether it is given, and whether there is such a mode
abbrev pub fault_of_name : Values → Option (List ℕ) → Option WordFault
fault_of_name values None = Some (Missing Mode)
fault_of_name values (Some name) = fault_of_mode values (mode_of name)

unfoldable pub fault_of : Values → Option WordFault
fault_of values = fault_of_name values (values Mode)

abbrev pub HasMode : Option (List ℕ) → ModeSpec → Type 0
HasMode None mode = ⊥
HasMode (Some name) mode = mode_of name ≡ Some mode

-- the mode that is asked for where there is no fault, else the first fault
abbrev pub Judges : Result ModeSpec WordFault → Values → Type 0
Judges (Ok mode) values = (fault_of values ≡ None) × HasMode (values Mode) mode
Judges (Err fault) values = fault_of values ≡ Some fault

-- the value of a flag, if it is given
abbrev pub flag_value : Bool → Option (List ℕ)
flag_value given = if given then Some [] else None

-- the value of an option in a request, if it has one
abbrev pub value : Ask → Opt → Option (List ℕ)
value ask Mode = Some (mode_name ask.mode)
value ask Spef = ask.spef
value ask Lib = ask.lib
value ask Verilog = ask.verilog
value ask Cons = ask.cons
value ask Net = ask.net
value ask All = flag_value ask.all
value ask OutSpef = ask.out_spef
value ask OutVerilog = ask.out_verilog
value ask Cert = ask.cert
value ask Cap = ask.cap
value ask Prefix = ask.prefix
value ask Size = ask.size
value ask Parts = ask.parts
value ask Target = ask.target
value ask Widths = ask.widths

-- that value as a text, empty where there is none
abbrev pub text_for : Ask → Opt → List ℕ
text_for ask option = unwrap_or (value ask option) []

-- what the names of cells that are put in begin with
abbrev pub prefix_of : Ask → List ℕ
prefix_of ask = unwrap_or ask.prefix (codes "vgi_")

-- the number that a text writes, if it is a cap
abbrev pub cap_in : List ℕ → Option ℕ
cap_in text = if is_cap text then Some (number_of text) else None

-- the cap on the cost of placements (thousandths), if there is one
abbrev pub cap_of : Ask → Option ℕ
cap_of ask = cap_in (text_for ask Cap)

-- the number that a text writes, if it is such a number
abbrev pub count_in : ℕ → ℕ → List ℕ → Option ℕ
count_in digits most text = if is_count digits most text then Some (number_of text) else None

-- if it is a size, and if it is a number of parts
abbrev pub size_in : List ℕ → Option ℕ
size_in text = count_in 4 4000 text

abbrev pub parts_in : List ℕ → Option ℕ
parts_in text = count_in 2 64 text

-- the size of the design that is to be made up; 0 where there is none
abbrev pub size_of : Ask → ℕ
size_of ask = unwrap_or (size_in (text_for ask Size)) 0

-- the number of parts into which resistors are to be cut; 0 where there is none
abbrev pub parts_of : Ask → ℕ
parts_of ask = unwrap_or (parts_in (text_for ask Parts)) 0

-- the slack (zs) that is enough; 0 where there is no target
abbrev pub target_of : Ask → ℤ
target_of ask = unwrap_or (target_in (text_for ask Target)) (pos 0)

-- the words denote the request: they give each option its value, and no reason is against them
pub record IsRequest (words : List (List ℕ)) (ask : Ask) : Type 0 where
  pub settings : List Setting
  pub set : Sets words settings
  pub faultless : fault_of (values_in settings) ≡ None
  pub values : (option : Opt) → value_of option settings ≡ value ask option

-- the words are no settings, or set some option twice
abbrev pub AreUnread : List (List ℕ) → Type 0
AreUnread words = (settings : List Setting) → Sets words settings → ⊥

-- the words are refused for this first reason
abbrev pub IsRefused : List (List ℕ) → WordFault → Type 0
IsRefused words Unread = AreUnread words
IsRefused words Memory = ⊥
IsRefused words fault = (settings : List Setting) × Sets words settings × (fault_of (values_in settings) ≡ Some fault)

-- what reading the words may answer: the request, why there is none, or out of memory
abbrev pub ReadsWords : Result Ask WordFault → List (List ℕ) → Type 0
ReadsWords (Ok ask) words = IsRequest words ask
ReadsWords (Err Memory) words = Unit {0}
ReadsWords (Err fault) words = IsRefused words fault
