-- Words ask for one thing at most, for as many nets as their mode has a use for, for a size or for parts, for the cap
-- and the target that they write, and name no file twice; those of mode `total` name both outputs or none.
use Rattle.std.specs.Prelude.{◌≡◌, ◌≢◌, ◌≤◌, ◌⊎◌, ℕ, pos, true, false, List, Some, None, is_some}
use Rattle.vg_num.specs.Number.{value_of as number_of}
use Rattle.vg_words.specs.Options.{names_file}
use Rattle.vg_words.specs.Request.{IsRequest, cap_of, parts_of, size_of, target_in, target_of, value}
use Rattle.vg_words.specs.declared.ask.Ask.{Ask}
use Rattle.vg_words.specs.declared.ask.Mode.{Mode}
use Rattle.vg_words.specs.declared.ask.Mode.TheVariants.{Wire, Time, Best, Frontier, Check, Gen, Sta, Segment, Repair, Total, Width}
use Rattle.vg_words.specs.declared.option.Opt.{Opt}

abbrev pub OneRequest : Type 0
OneRequest = (words : List (List ℕ)) (a b : Ask) → IsRequest words a → IsRequest words b → a ≡ b

-- the request names a net, and does not ask for all
abbrev pub AsksForNet : Ask → Type 0
AsksForNet ask = (is_some ask.net ≡ true) × (ask.all ≡ false)

-- the request asks for all nets, and names none
abbrev pub AsksForAll : Ask → Type 0
AsksForAll ask = (ask.net ≡ None) × (ask.all ≡ true)

-- the request names no net, and does not ask for all
abbrev pub AsksForNone : Ask → Type 0
AsksForNone ask = (ask.net ≡ None) × (ask.all ≡ false)

-- as a mode has it: one net, or one or all, or all, or none
abbrev pub AsksAsIn : Mode → Ask → Type 0
AsksAsIn Wire ask = AsksForNet ask
AsksAsIn Time ask = AsksForNet ask ⊎ AsksForAll ask
AsksAsIn Best ask = AsksForNet ask ⊎ AsksForAll ask
AsksAsIn Frontier ask = AsksForNet ask ⊎ AsksForAll ask
AsksAsIn Check ask = AsksForNet ask
AsksAsIn Gen ask = AsksForNone ask
AsksAsIn Sta ask = AsksForNone ask
AsksAsIn Segment ask = AsksForNet ask ⊎ AsksForAll ask
AsksAsIn Repair ask = AsksForNet ask ⊎ AsksForAll ask
AsksAsIn Total ask = AsksForAll ask
AsksAsIn Width ask = AsksForNet ask

-- in modes `wire`, `check` and `width` a request asks for one net, in modes `time`, `best`, `frontier`, `segment` and
-- `repair` for one or for all, in mode `total` for all, and in modes `gen` and `sta` it names none
abbrev pub OneOrAll : Type 0
OneOrAll = (words : List (List ℕ)) (ask : Ask) → IsRequest words ask → AsksAsIn ask.mode ask

-- a request that names a certificate asks for one net
abbrev pub CertsAreOfOneNet : Type 0
CertsAreOfOneNet = (words : List (List ℕ)) (ask : Ask) → IsRequest words ask → ask.cert ≢ None → AsksForNet ask

-- in mode `total` a request names both files that are written, or neither
abbrev pub OutputsArePaired : Type 0
OutputsArePaired = (words : List (List ℕ)) (ask : Ask) → IsRequest words ask → ask.mode ≡ Total
    → is_some ask.out_spef ≡ is_some ask.out_verilog

-- in a request no two options name one file
abbrev pub FilesDiffer : Type 0
FilesDiffer = (words : List (List ℕ)) (ask : Ask) → IsRequest words ask → (one other : Opt) → names_file one ≡ true
    → names_file other ≡ true
    → one ≢ other → (a b : List ℕ) → value ask one ≡ Some a → value ask other ≡ Some b → a ≢ b

-- a request with a cap asks for the number that it writes
abbrev pub CapsAreRead : Type 0
CapsAreRead = (words : List (List ℕ)) (ask : Ask) → IsRequest words ask → (text : List ℕ) → ask.cap ≡ Some text
    → cap_of ask ≡ Some (number_of text)

-- in mode `gen` a request asks for a size of 1 to 4000
abbrev pub SizesAreSmall : Type 0
SizesAreSmall = (words : List (List ℕ)) (ask : Ask) → IsRequest words ask → ask.mode ≡ Gen
    → (1 ≤ size_of ask) × (size_of ask ≤ 4000)

-- in mode `segment` a request asks for 1 to 64 parts
abbrev pub PartsAreFew : Type 0
PartsAreFew = (words : List (List ℕ)) (ask : Ask) → IsRequest words ask → ask.mode ≡ Segment
    → (1 ≤ parts_of ask) × (parts_of ask ≤ 64)

-- a request with a target asks for the time that it writes, and one without for 0
abbrev pub TargetsAreRead : Type 0
TargetsAreRead = (words : List (List ℕ)) (ask : Ask) → IsRequest words ask
    → ((text : List ℕ) → ask.target ≡ Some text → target_in text ≡ Some (target_of ask))
    × (ask.target ≡ None → target_of ask ≡ pos 0)
