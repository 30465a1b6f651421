-- Names and nets that may be written into a module. Source: IEEE Std 1364-2005, clauses 3.7 (identifiers) and 5.2.1
-- (selects of bits).
use Rattle.std.specs.Prelude.{◌≡◌, ℕ, ◌<◌, ◌≤◌, ◌^◌, true, List, length, IfSome}
use Rattle.std.specs.List.{All, list_all}
use Rattle.ver_text.specs.Bytes.{is_printable}
use Rattle.ver_text.specs.Names.{is_simple}
use Rattle.ver_module.specs.Netlists.{Net}
use Rattle.ver_net.specs.ReadAgain.{IsWritable}
use Rattle.ver_net.specs.Texts.{text_of}
use Rattle.ver_patch.specs.NewCells.{NewCell}
use Rattle.ver_patch.specs.Rewires.{Rewire}

-- a name of bytes that are printed, so that it may stand as an escaped identifier
pub record IsPrinted (name : List ℕ) : Type 0 where
  pub some : 0 < length name
  pub printable : list_all is_printable name ≡ true

-- a text is that of a net: a bit has a number that a module may write
pub record IsNetText (text : List ℕ) : Type 0 where
  pub net : Net
  pub writable : IsWritable net
  pub few : IfSome net.bit (λ bit. bit ≤ 2 ^ 20)
  pub is : text ≡ text_of net

-- an instance may be written
pub record IsNewCell (c : NewCell) : Type 0 where
  pub cell : IsPrinted c.cell
  pub name : is_simple c.name ≡ true
  pub input : IsPrinted c.input
  pub output : IsPrinted c.output
  pub from : IsNetText c.from
  pub to : IsNetText c.to

-- what is put into a netlist may be written
pub record AreWritten (rewires : List Rewire) (cells : List NewCell) (wires : List (List ℕ)) : Type 0 where
  pub linked : All (λ rewire. IsNetText rewire.net) rewires
  pub made : All IsNewCell cells
  pub declared : All (λ name. is_simple name ≡ true) wires
