-- What is true of the faults and of the rows of every text.
use Rattle.std.specs.Prelude.{◌≡◌, ◌↔◌, ℕ, ◌<◌, List, [], ◌∷◌, ◌++◌, length, map}
use Rattle.grammar_laws.specs.Grammar.{Begins}
use Rattle.vg_scan.specs.declared.fault.LineFault.{LineFault}
use Rattle.ver_text.specs.declared.kind.Kind.{Kind}
use Rattle.ver_text.specs.declared.kind.Kind.TheVariants.{Assign}
use Rattle.ver_syntax.specs.declared.fault.VerKind.{VerKind}
use Rattle.ver_syntax.specs.declared.row.Place.{Place}
use Rattle.ver_syntax.specs.declared.row.Place.TheVariants.{Start}
use Rattle.ver_syntax.specs.declared.row.Row.{Row}
use Rattle.ver_syntax.specs.Grammar.{rules, module_declaration}
use Rattle.ver_syntax.specs.Rows.{place_after, rows_of}
use Rattle.ver_syntax.specs.Syntax.{HasTokens, IsModule, IsFirstFault}

-- a text has one first fault at most
abbrev pub FaultsOnce : Type 0
FaultsOnce = (text : List ℕ) (f g : LineFault VerKind) → IsFirstFault text f → IsFirstFault text g → f ≡ g

-- a module has none
abbrev pub ModulesAreFaultless : Type 0
ModulesAreFaultless =
    (text : List ℕ) (fault : LineFault VerKind) → HasTokens text → IsModule text → IsFirstFault text fault → ⊥

-- what the token after these stands in, where the first stands in this
abbrev pub place_after_all : Place → List Kind → Place
place_after_all place [] = place
place_after_all place (k ∷ ks) = place_after_all (place_after place k) ks

-- what a row stands in is told by the kinds of those before it
abbrev pub RowsStandByKinds : Type 0
RowsStandByKinds =
    (text : List ℕ) (front back : List Row) (r : Row) → rows_of text ≡ front ++ r ∷ back
    → r.place ≡ place_after_all Start (map (λ q. q.kind) front)

-- after tokens with which a module begins, the next one stands at the start of an item exactly where an item may begin,
-- as an assignment does
abbrev pub ItemsStandAtStart : Type 0
ItemsStandAtStart =
    (before : List Kind) → 0 < length before → Begins rules module_declaration before
    → (place_after_all Start before ≡ Start) ↔ Begins rules module_declaration (before ++ Assign ∷ [])
