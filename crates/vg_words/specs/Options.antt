-- The options of the command line, and the modes.
use Rattle.std.specs.Prelude.{ℕ, ◌==◌, Bool, true, false, List, [], ◌∷◌, ◌++◌, codes, Option, Some, None, if◌then◌else◌}
use Rattle.std.specs.List.{list_any}
use Rattle.std.specs.Str.{bytes_eq}
use Rattle.vg_words.specs.declared.option.Opt.{Opt}
use Rattle.vg_words.specs.declared.option.Opt.TheVariants.{Mode, Spef, Lib, Verilog, Cons, Net, All, OutSpef, OutVerilog, Cert, Cap, Prefix, Size, Parts, Target, Widths}
use Rattle.vg_words.specs.declared.ask.Mode.{Mode as ModeSpec}
use Rattle.vg_words.specs.declared.ask.Mode.TheVariants.{Wire, Time, Best, Frontier, Check, Gen, Sta, Segment, Repair, Total, Width}

abbrev pub name_of : Opt → List ℕ
name_of Mode = codes "--mode"
name_of Spef = codes "--spef"
name_of Lib = codes "--lib"
name_of Verilog = codes "--verilog"
name_of Cons = codes "--cons"
name_of Net = codes "--net"
name_of All = codes "--all"
name_of OutSpef = codes "--out-spef"
name_of OutVerilog = codes "--out-verilog"
name_of Cert = codes "--cert"
name_of Cap = codes "--cap"
name_of Prefix = codes "--prefix"
name_of Size = codes "--size"
name_of Parts = codes "--parts"
name_of Target = codes "--target"
name_of Widths = codes "--widths"

-- the place of an option in the order of options
abbrev pub place_of : Opt → ℕ
place_of Mode = 0
place_of Spef = 1
place_of Lib = 2
place_of Verilog = 3
place_of Cons = 4
place_of Net = 5
place_of All = 6
place_of OutSpef = 7
place_of OutVerilog = 8
place_of Cert = 9
place_of Cap = 10
place_of Prefix = 11
place_of Size = 12
place_of Parts = 13
place_of Target = 14
place_of Widths = 15

abbrev pub is_same : Opt → Opt → Bool
is_same a b = place_of a == place_of b

abbrev pub options : List Opt
options =
    Mode ∷ Spef ∷ Lib ∷ Verilog ∷ Cons ∷ Net ∷ All ∷ OutSpef ∷ OutVerilog ∷ Cert ∷ Cap ∷ Prefix ∷ Size ∷ Parts
    ∷ Target ∷ Widths ∷ []

-- the option has no value: it is given, or it is not
abbrev pub is_flag : Opt → Bool
is_flag All = true
is_flag option = false

-- the options that name files
abbrev pub file_options : List Opt
file_options = Spef ∷ Lib ∷ Verilog ∷ Cons ∷ OutSpef ∷ OutVerilog ∷ Cert ∷ Widths ∷ []

abbrev pub names_file : Opt → Bool
names_file option = list_any (is_same option) file_options

-- the mode that a text names
abbrev pub mode_of : List ℕ → Option ModeSpec
mode_of text =
    if bytes_eq text (codes "wire") then Some Wire
    else (if bytes_eq text (codes "time") then Some Time
    else (if bytes_eq text (codes "best") then Some Best
    else (if bytes_eq text (codes "frontier") then Some Frontier
    else (if bytes_eq text (codes "check") then Some Check
    else (if bytes_eq text (codes "gen") then Some Gen
    else (if bytes_eq text (codes "sta") then Some Sta
    else (if bytes_eq text (codes "segment") then Some Segment
    else (if bytes_eq text (codes "repair") then Some Repair
    else (if bytes_eq text (codes "total") then Some Total
    else (if bytes_eq text (codes "width") then Some Width else None))))))))))

abbrev pub mode_name : ModeSpec → List ℕ
mode_name Wire = codes "wire"
mode_name Time = codes "time"
mode_name Best = codes "best"
mode_name Frontier = codes "frontier"
mode_name Check = codes "check"
mode_name Gen = codes "gen"
mode_name Sta = codes "sta"
mode_name Segment = codes "segment"
mode_name Repair = codes "repair"
mode_name Total = codes "total"
mode_name Width = codes "width"

-- the options that a mode asks for; some of these may be left out (`may_be_left`)
abbrev pub required : ModeSpec → List Opt
required Wire = Spef ∷ Net ∷ []
required Time = Spef ∷ Lib ∷ Verilog ∷ Cons ∷ Net ∷ []
required Best = Spef ∷ Lib ∷ Verilog ∷ Cons ∷ Net ∷ OutSpef ∷ OutVerilog ∷ []
required Frontier = Spef ∷ Lib ∷ Verilog ∷ Cons ∷ Net ∷ []
required Check = Spef ∷ Lib ∷ Verilog ∷ Cons ∷ Net ∷ Cert ∷ []
required Gen = Size ∷ []
required Sta = Spef ∷ Lib ∷ Verilog ∷ Cons ∷ []
required Segment = Spef ∷ Net ∷ OutSpef ∷ Parts ∷ []
required Repair = Spef ∷ Lib ∷ Verilog ∷ Cons ∷ Net ∷ OutSpef ∷ OutVerilog ∷ []
required Total = Spef ∷ Lib ∷ Verilog ∷ Cons ∷ All ∷ OutSpef ∷ OutVerilog ∷ []
required Width = Spef ∷ Lib ∷ Verilog ∷ Cons ∷ Net ∷ Widths ∷ []

-- those that it may be given besides
abbrev pub optional : ModeSpec → List Opt
optional Wire = []
optional Time = All ∷ Prefix ∷ []
optional Best = All ∷ Cert ∷ Prefix ∷ []
optional Frontier = All ∷ Cap ∷ []
optional Check = []
optional Gen = []
optional Sta = []
optional Segment = All ∷ []
optional Repair = All ∷ Cap ∷ Prefix ∷ Target ∷ []
optional Total = Cap ∷ Prefix ∷ []
optional Width = []

-- those that it may be given; it has no use for others
abbrev pub allowed : ModeSpec → List Opt
allowed mode = Mode ∷ (required mode ++ optional mode)

-- the mode prints what it finds also where no file is named that it is to write
abbrev pub may_write_nothing : ModeSpec → Bool
may_write_nothing Total = true
may_write_nothing mode = false
