-- The inputs of a request.
use Rattle.std.specs.Prelude.{◌≡◌, ℕ, ◌^◌, ◌<◌, List, [], ◌∷◌, length, codes, Option, None, IfSome}
use Rattle.std.specs.List.{All}
use Rattle.vg_store.specs.Reading.{FilesState}
use Rattle.vg_words.specs.Request.{text_for}
use Rattle.vg_words.specs.declared.ask.Ask.{Ask}
use Rattle.vg_words.specs.declared.ask.Mode.{Mode}
use Rattle.vg_words.specs.declared.ask.Mode.TheVariants.{Wire, Best, Check, Gen, Segment, Width}
use Rattle.vg_words.specs.declared.option.Opt.{Opt}
use Rattle.vg_words.specs.declared.option.Opt.TheVariants.{Spef as SpefOption, Lib as LibOption, Verilog as VerilogOption, Cons as ConsOption, Cert as CertOption, Widths as WidthsOption}
use Rattle.vg_answer.specs.declared.input.Input.{Input}
use Rattle.vg_answer.specs.declared.input.Input.TheVariants.{Spef, Lib, Verilog, Cons, Cert, Widths}
use Rattle.vg_run.specs.declared.inputs.Texts.{Texts}
use Rattle.vg_answer.specs.Faults.{design_inputs, IsShort}

-- the inputs of a mode, in the order in which they are read
abbrev pub inputs : Mode → List Input
inputs Wire = Spef ∷ []
inputs Segment = Spef ∷ []
inputs Check = Spef ∷ Lib ∷ Verilog ∷ Cons ∷ Cert ∷ []
inputs Gen = []
inputs Width = Spef ∷ Lib ∷ Verilog ∷ Cons ∷ Widths ∷ []
inputs mode = design_inputs

-- the certificate that mode `best` is to write, if it is named; other modes write none
abbrev pub cert_in : Mode → Ask → Option (List ℕ)
cert_in Best ask = ask.cert
cert_in mode ask = None

abbrev pub written_cert : Ask → Option (List ℕ)
written_cert ask = cert_in ask.mode ask

-- the option that names an input
abbrev pub option_of : Input → Opt
option_of Spef = SpefOption
option_of Lib = LibOption
option_of Verilog = VerilogOption
option_of Cons = ConsOption
option_of Cert = CertOption
option_of Widths = WidthsOption

-- the name of an input: that in the words, or, where the design is made up, `gen`
abbrev pub name_in : Mode → Ask → Input → List ℕ
name_in Gen ask input = codes "gen"
name_in mode ask input = text_for ask (option_of input)

abbrev pub name_of : Ask → Input → List ℕ
name_of ask input = name_in ask.mode ask input

-- the bytes of an input, where the files tell them
abbrev pub told : FilesState → Ask → Input → Option (List ℕ)
told files ask input = files.holds (name_of ask input)

-- a longer one is not, where it is told
abbrev pub IsLong : Option (List ℕ) → Type 0
IsLong file = IfSome file (λ bytes. 2 ^ 28 < length bytes)

-- this text was read: it is the file's, where that is told, and short
pub record IsRead (file : Option (List ℕ)) (text : List ℕ) : Type 0 where
  pub is_file : IfSome file (λ bytes. text ≡ bytes)
  pub short : IsShort text

-- the inputs of a mode were read as these texts
abbrev pub AreRead : FilesState → Ask → (Input → List ℕ) → Type 0
AreRead files ask texts = All (λ input. IsRead (told files ask input) (texts input)) (inputs ask.mode)

-- the texts that were read
abbrev pub texts_read : Texts → Input → List ℕ
texts_read texts Spef = texts.design.spef.bytes.items
texts_read texts Lib = texts.design.lib.bytes.items
texts_read texts Verilog = texts.design.verilog.bytes.items
texts_read texts Cons = texts.design.cons.bytes.items
texts_read texts Cert = texts.cert.bytes.items
texts_read texts Widths = texts.widths.bytes.items

-- the states before and after
abbrev pub Change : Type 0 → Type 0
Change S = S × S
