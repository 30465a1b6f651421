-- The brackets that end connections: only they have other places behind them.
use Rattle.std.proofs.Common.{◌≡◌, ℕ, Bool, true, false, List, [], ◌∷◌, ◌++◌, refl, sym, ap, ◌∙◌, subst}
use Rattle.std.specs.Prelude.{⊤}
use Rattle.std.specs.List.{before_first}
use Rattle.ver_text.specs.declared.kind.Kind.TheVariants.{Close}
use Rattle.ver_syntax.specs.declared.row.Place.{Place}
use Rattle.ver_syntax.specs.declared.row.Place.TheVariants.{Start, Connection}
use Rattle.ver_syntax.specs.declared.row.Row.{Row}
use Rattle.ver_syntax.specs.Grammar.{is}
use Rattle.ver_syntax.specs.Moves.{State}
use Rattle.ver_syntax.specs.Rows.{rows_of}
use Rattle.ver_syntax.specs.Syntax.{IsModule}
use Rattle.ver_syntax.proofs.PlaceLemmas.{start}
use Rattle.ver_items.specs.Sections.{Section, is_place, items, sections, stands_in}
use Rattle.ver_patch.proofs.StandLemmas.{before_others, no_sections, sections_by}
use Rattle.ver_patch_text_laws.proofs.TextLemmas.{Each}
use Rattle.ver_patch_text_laws.proofs.RunLemmas.{Runs, connection_runs, module_runs, runs_next}
use Rattle.ver_patch_text_laws.proofs.SectionLemmas.{Quits}
use Rattle.ver_patch_laws.proofs.ChangedLemmas.{InOne}

in_place : (p : Place) → is_place Connection p ≡ true → p ≡ Connection
in_place Connection e = refl
in_place p e = absurd (cc)

at_start : (p : Place) → is_place Start p ≡ true → p ≡ Start
at_start Start e = refl
at_start p e = absurd (cc)

-- a token of a connection behind which another place is, is the bracket that ends it
shut_one : (r : Row) (rows : List Row) (s : State) → Runs s (r ∷ rows) → InOne r → Quits rows → is Close r.kind ≡ true
shut_one r rows s h inside quits =
    let c = connection_runs r [] rows s (sym h.follow.0 ∙ in_place r.place inside) (inside, tt) quits h in by_front c.front c.close c.parts c.closes
  where
    by_front : (front : List Row) (close : Row) → r ∷ [] ≡ front ++ close ∷ [] → is Close close.kind ≡ true → is Close r.kind ≡ true
    by_front [] close e t = let same : r ≡ close = cc in ap (λ (q : Row). is Close q.kind) same ∙ t
    by_front (x ∷ []) close e t = absurd (cc)
    by_front (x ∷ y ∷ xs) close e t = absurd (cc)

abbrev pub IsShut : List Row → Type 0
IsShut [] = ⊤
IsShut (r ∷ rows) = (InOne r → Quits rows → is Close r.kind ≡ true) × IsShut rows

shut_rows : (rows : List Row) (s : State) → Runs s rows → IsShut rows
shut_rows [] s h = tt
shut_rows (r ∷ rows) s h = let m = runs_next s r rows h in (shut_one r rows s h, shut_rows rows m.state m.runs)

quits_more : (rows : List Row) → Quits (before_first (stands_in Start) rows) → Quits rows
quits_more [] q = tt
quits_more (r ∷ rows) q = by_test (stands_in Start r) refl
  where
    by_test : (b : Bool) → stands_in Start r ≡ b → stands_in Connection r ≡ false
    by_test true t = ap (is_place Connection) (at_start r.place t)
    by_test false t = subst Quits (before_others (stands_in Start) r rows false t) q

shut_before : (rows : List Row) → IsShut rows → IsShut (before_first (stands_in Start) rows)
shut_before [] h = tt
shut_before (r ∷ rows) h = by_test (stands_in Start r) refl (shut_before rows h.1)
  where
    by_test : (b : Bool) → stands_in Start r ≡ b → IsShut (before_first (stands_in Start) rows) → IsShut (before_first (stands_in Start) (r ∷ rows))
    by_test true t more = subst IsShut (sym (before_others (stands_in Start) r rows true t)) tt
    by_test false t more = subst IsShut (sym (before_others (stands_in Start) r rows false t)) (λ i q. h.0 i (quits_more rows q), more)

abbrev pub IsShutIn : Section → Type 0
IsShutIn s = IsShut s.body

shut_sections : (rows : List Row) → IsShut rows → Each IsShutIn (sections (stands_in Start) rows)
shut_sections [] h = subst (Each IsShutIn) (sym (no_sections (stands_in Start))) tt
shut_sections (r ∷ rows) h = by_test (stands_in Start r) refl (shut_sections rows h.1)
  where
    by_test : (b : Bool) → stands_in Start r ≡ b → Each IsShutIn (sections (stands_in Start) rows) → Each IsShutIn (sections (stands_in Start) (r ∷ rows))
    by_test true t more = subst (Each IsShutIn) (sym (sections_by (stands_in Start) r rows true t)) (shut_before rows h.1, more)
    by_test false t more = subst (Each IsShutIn) (sym (sections_by (stands_in Start) r rows false t)) more

pub shut_items : (text : List ℕ) → IsModule text → Each IsShutIn (items text)
shut_items text h = shut_sections (rows_of text) (shut_rows (rows_of text) start (module_runs text h))
