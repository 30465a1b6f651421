-- The tokens of a module with what each stands in: its first, its last, and those between.
use Rattle.std.proofs.Common.{◌≡◌, ℕ, false, List, [], ◌∷◌, ◌++◌, map, length, refl, sym, ap, ◌∙◌, subst, arith}
use Rattle.std.proofs.lemmas.List.{append-nil}
use Rattle.std.specs.Prelude.{⊤}
use Rattle.grammar_laws.specs.Grammar.{Begins}
use Rattle.ver_text.specs.declared.kind.Kind.{Kind}
use Rattle.ver_text.specs.declared.kind.Kind.TheVariants.{Assign, EndModule, Module}
use Rattle.ver_text.specs.declared.token.Token.{Token}
use Rattle.ver_text.specs.Kinds.{kind_in, kinds_of}
use Rattle.ver_text.specs.Laws.{StandBetween, StandInOrder}
use Rattle.ver_text.specs.Tokens.{tokens_of}
use Rattle.ver_syntax.specs.declared.row.Place.{Place}
use Rattle.ver_syntax.specs.declared.row.Place.TheVariants.{Head, Start}
use Rattle.ver_syntax.specs.declared.row.Row.{Row}
use Rattle.ver_syntax.specs.Grammar.{item, module_declaration, rules}
use Rattle.ver_syntax.specs.Laws.{ItemsStandAtStart, place_after_all}
use Rattle.ver_syntax.specs.Rows.{kinds_in, place_after, rows_from, rows_of}
use Rattle.ver_syntax.specs.Syntax.{IsModule}
use Rattle.ver_patch.proofs.ShapeLemmas.{has_end, item_begins, none_begins, shape}
use Rattle.ver_patch.proofs.StandLemmas.{Stand}

-- ---- rows

-- the first token stands in this, and each other in what follows the one before it
abbrev pub Follow : Place → List Row → Type 0
Follow place [] = ⊤
Follow place (r ∷ rows) = (r.place ≡ place) × Follow (place_after place r.kind) rows

rows_follow : (text : List ℕ) (ts : List Token) (place : Place) → Follow place (rows_from text place ts)
unfolding rows_from
rows_follow text [] place = tt
rows_follow text (t ∷ ts) place = (refl, rows_follow text ts (place_after place (kind_in text t)))

pub rows_stand : (text : List ℕ) (ts : List Token) (place : Place) (from to : ℕ) → StandBetween from to ts → Stand from to (rows_from text place ts)
unfolding rows_from
rows_stand text [] place from to h = h
rows_stand text (t ∷ ts) place from to h = (h.0, h.1, rows_stand text ts (place_after place (kind_in text t)) t.to to h.2)

rows_kinds : (text : List ℕ) (ts : List Token) (place : Place) → kinds_in (rows_from text place ts) ≡ map (kind_in text) ts
unfolding rows_from
rows_kinds text [] place = refl
rows_kinds text (t ∷ ts) place = ap (λ ks. kind_in text t ∷ ks) (rows_kinds text ts (place_after place (kind_in text t)))

follow_front : (front : List Row) (last : Row) (place : Place) → Follow place (front ++ last ∷ [])
    → Follow place front × (last.place ≡ place_after_all place (kinds_in front))
follow_front [] last place h = (tt, h.0)
follow_front (r ∷ rows) last place h = let (f, e) = follow_front rows last (place_after place r.kind) h.1 in ((h.0, f), e)

-- ---- the first, the last, and those between

-- some tokens and a last one, of these kinds
record EndsIn (kinds : List Kind) (kind : Kind) (rows : List Row) : Type 0 where
  front : List Row
  last : Row
  is : rows ≡ front ++ last ∷ []
  kinds_are : kinds_in front ≡ kinds
  kind_is : last.kind ≡ kind

no_rows : (rows : List Row) → kinds_in rows ≡ [] → rows ≡ []
no_rows [] e = refl
no_rows (r ∷ rows) e = absurd (cc)

ends_in : (kinds : List Kind) (kind : Kind) (rows : List Row) → kinds_in rows ≡ kinds ++ kind ∷ [] → EndsIn kinds kind rows
ends_in [] kind [] e = absurd (cc)
ends_in [] kind (r ∷ rows) e =
    let none : kinds_in rows ≡ [] = cc in
    let same : r.kind ≡ kind = cc in
    record { front = []; last = r; is = ap (λ rs. r ∷ rs) (no_rows rows none); kinds_are = refl; kind_is = same }
ends_in (k ∷ kinds) kind [] e = absurd (cc)
ends_in (k ∷ kinds) kind (r ∷ rows) e =
    let rest : kinds_in rows ≡ kinds ++ kind ∷ [] = cc in
    let same : r.kind ≡ k = cc in
    let h = ends_in kinds kind rows rest in
    record {
      front = r ∷ h.front;
      last = h.last;
      is = ap (λ rs. r ∷ rs) h.is;
      kinds_are = λ i. same i ∷ h.kinds_are i;
      kind_is = h.kind_is;
    }

-- ---- a module

-- the tokens of a module
pub record IsFramed (text : List ℕ) : Type 0 where
  pub first : Row
  pub more : List Row
  pub last : Row
  pub is : rows_of text ≡ first ∷ (more ++ last ∷ [])
  pub is_module : first.kind ≡ Module
  pub no_end : has_end (kinds_in more) ≡ false
  pub is_end : last.kind ≡ EndModule
  pub stand : Stand 0 (length text) (first ∷ (more ++ last ∷ []))
  pub begins : first.place ≡ Start
  pub follow : Follow Head more
  pub at_start : last.place ≡ Start

start_after : ItemsStandAtStart → (middle : List Kind) → ((next : List Kind) → Begins rules item next → Begins rules module_declaration (Module ∷ (middle ++ next)))
    → place_after_all Start (Module ∷ middle) ≡ Start
start_after law middle goes_on =
    let none = subst (λ ks. Begins rules module_declaration (Module ∷ ks)) (append-nil middle) (goes_on [] none_begins) in
    (law (Module ∷ middle) (omega arith) none).1 (goes_on (Assign ∷ []) item_begins)

frame : (text : List ℕ) (middle : List Kind) → StandInOrder → ItemsStandAtStart → has_end middle ≡ false
    → ((next : List Kind) → Begins rules item next → Begins rules module_declaration (Module ∷ (middle ++ next)))
    → (front : List Row) (last : Row) → rows_of text ≡ front ++ last ∷ [] → kinds_in front ≡ Module ∷ middle → last.kind ≡ EndModule → IsFramed text
frame text middle order law no_end goes_on [] last is kinds is_end = absurd (cc)
frame text middle order law no_end goes_on (first ∷ more) last is kinds is_end =
    let is_module : first.kind ≡ Module = cc in
    let same : kinds_in more ≡ middle = cc in
    let follow : Follow Start ((first ∷ more) ++ last ∷ []) = subst (Follow Start) is (rows_follow text (tokens_of text) Start) in
    let (front, place) = follow_front (first ∷ more) last Start follow in
    record {
      first = first;
      more = more;
      last = last;
      is = is;
      is_module = is_module;
      no_end = subst (λ ks. has_end ks ≡ false) (sym same) no_end;
      is_end = is_end;
      stand = subst (Stand 0 (length text)) is (rows_stand text (tokens_of text) Start 0 (length text) (order text));
      begins = front.0;
      follow = subst (λ k. Follow (place_after Start k) more) is_module front.1;
      at_start = place ∙ ap (place_after_all Start) kinds ∙ start_after law middle goes_on;
    }

pub framed : StandInOrder → ItemsStandAtStart → (text : List ℕ) → IsModule text → IsFramed text
framed order law text module' =
    let s = shape (kinds_of text) module' in
    let e = ends_in (Module ∷ s.middle) EndModule (rows_of text) (rows_kinds text (tokens_of text) Start ∙ s.is) in
    frame text s.middle order law s.no_end s.goes_on e.front e.last e.is e.kinds_are e.kind_is
