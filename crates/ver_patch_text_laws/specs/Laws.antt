-- What is true of the text of every changed netlist.
use Rattle.std.specs.Prelude.{◌≡◌, ℕ, List}
use Rattle.ver_text.specs.Tokens.{tokens_of}
use Rattle.ver_syntax.specs.Syntax.{HasTokens, IsModule}
use Rattle.ver_module.specs.Netlists.{Netlist}
use Rattle.ver_file.specs.Modules.{Denotes}
use Rattle.ver_patch.specs.Patches.{IsPatched}
use Rattle.ver_patch.specs.Pins.{AreRewirable}
use Rattle.ver_patch.specs.NewCells.{NewCell}
use Rattle.ver_patch.specs.Rewires.{Rewire}
use Rattle.ver_patch_text_laws.specs.NewWords.{changes_of}
use Rattle.ver_patch_text_laws.specs.Texts.{AreWritten}
use Rattle.ver_patch_text_laws.specs.Words.{words_of, words_with}

-- The text of a netlist is changed, by what may be written into it.
pub record IsChanged (text : List ℕ) (netlist : Netlist) (rewires : List Rewire) (cells : List NewCell)
    (wires : List (List ℕ)) (new : List ℕ) : Type 0 where
  pub denotes : Denotes text netlist
  pub rewirable : AreRewirable netlist rewires
  pub written : AreWritten rewires cells wires
  pub patched : IsPatched text netlist rewires cells wires new

-- its words are those of the text with the same changes: no byte that is put in joins with what stands there
abbrev pub WordsArePatched : Type 0
WordsArePatched =
    (text : List ℕ) (netlist : Netlist) (rewires : List Rewire) (cells : List NewCell)
    (wires : List (List ℕ)) (new : List ℕ)
    → (c : IsChanged text netlist rewires cells wires new)
    → words_of new ≡ words_with text (changes_of netlist c.patched.ordered cells wires) (tokens_of text)

-- it is a structural module again
abbrev pub ModulesStay : Type 0
ModulesStay =
    (text : List ℕ) (netlist : Netlist) (rewires : List Rewire) (cells : List NewCell)
    (wires : List (List ℕ)) (new : List ℕ)
    → IsChanged text netlist rewires cells wires new → HasTokens new × IsModule new
