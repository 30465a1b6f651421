-- Which texts denote a netlist, and the first fault of a text that denotes none.
use Rattle.std.specs.Prelude.{◌≡◌, ℕ, List, []}
use Rattle.vg_scan.specs.declared.fault.LineFault.{LineFault}
use Rattle.ver_syntax.specs.declared.fault.VerKind.{VerKind}
use Rattle.ver_syntax.specs.Syntax.{HasTokens, IsModule, IsFirstFault as IsFirstSyntaxFault}
use Rattle.ver_file.specs.Flaws.{IsFirst, flaws_of}
use Rattle.ver_module.specs.Netlists.{Netlist}
use Rattle.ver_file.specs.Netlists.{netlist_of}

-- a text is a structural module without a flaw, and this is its netlist
pub record Denotes (text : List ℕ) (netlist : Netlist) : Type 0 where
  pub tokens : HasTokens text
  pub grammar : IsModule text
  pub flawless : flaws_of text ≡ []
  pub is : netlist ≡ netlist_of text

-- this is the fault of a text that is told: of its tokens, else of its grammar, else the first of its flaws
pub data IsFirstFault (text : List ℕ) (fault : LineFault VerKind) : Type 0 where
  in_syntax : IsFirstSyntaxFault text fault → IsFirstFault text fault
  in_module : HasTokens text → IsModule text → IsFirst text (flaws_of text) fault → IsFirstFault text fault
