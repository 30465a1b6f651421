-- What the items of a changed netlist declare.
use Rattle.std.proofs.Common.{◌≡◌, ℕ, Bool, true, false, cond, ◌&&◌, ◌||◌, not, List, [], ◌∷◌, ◌++◌, map, Some, None, refl, sym, ap, ◌∙◌, subst}
use Rattle.std.specs.Prelude.{codes, filter, is_some}
use Rattle.std.specs.List.{before_first, flat_map}
use Rattle.std.proofs.lemmas.List.{append-nil, map-append}
use Rattle.ver_text.specs.declared.kind.Kind.{Kind}
use Rattle.ver_text.specs.declared.kind.Kind.TheVariants.{Direction, EndModule, Wire, NetType, Semicolon, Identifier}
use Rattle.ver_syntax.specs.declared.row.Place.{Place}
use Rattle.ver_syntax.specs.declared.row.Place.TheVariants.{Start, Head, Ports, Declaration, Assignment, Instances, Pins, Connection}
use Rattle.ver_syntax.specs.declared.row.Row.{Row}
use Rattle.ver_syntax.specs.declared.state.At.{At}
use Rattle.ver_syntax.specs.declared.state.Brace.{Brace}
use Rattle.ver_syntax.specs.Grammar.{is, is_digits, is_net}
use Rattle.ver_syntax.specs.Moves.{State, move, next}
use Rattle.ver_syntax.specs.Rows.{item_after, place_after, rows_of}
use Rattle.ver_syntax.specs.Syntax.{IsModule}
use Rattle.ver_text.specs.Names.{is_simple, name_of}
use Rattle.ver_syntax.proofs.TableLemmas.{each_kind, each_state}
use Rattle.ver_syntax.proofs.PlaceLemmas.{place_at, start}
use Rattle.ver_items.specs.Declarations.{Declared, begins_declaration, declarations_in, declare, declared_by, declared_in, direction_named, heading_of, is_supply, numbers_in, range_of}
use Rattle.ver_items.specs.Sections.{Section, items, is_net_name, is_net_place, is_place, number_at, sections, stands_in}
use Rattle.ver_patch.proofs.FrameLemmas.{Follow}
use Rattle.ver_patch.proofs.StandLemmas.{before_others, no_sections, sections_by}
use Rattle.ver_patch.specs.NewCells.{NewCell}
use Rattle.ver_patch.specs.Rewires.{Rewire}
use Rattle.ver_module.specs.Netlists.{Netlist}
use Rattle.ver_file.proofs.ListLemmas.{flat_map-append}
use Rattle.ver_patch_text_laws.specs.NewWords.{wire_words, word}
use Rattle.ver_patch_text_laws.specs.Texts.{IsNewCell}
use Rattle.ver_patch_text_laws.proofs.TextLemmas.{Each}
use Rattle.ver_patch_text_laws.proofs.LawLemmas.{each_of, modules_stay}
use Rattle.ver_patch_text_laws.proofs.SectionLemmas.{Next}
use Rattle.ver_patch_laws.proofs.NewRowLemmas.{IsRow, RowsAre, one_section, simple_name}
use Rattle.ver_patch_text_laws.proofs.RunLemmas.{EachRow, Runs, module_runs, runs_next}
use Rattle.ver_patch_text_laws.proofs.StateLemmas.{start_place}
use Rattle.ver_patch_laws.proofs.ChangedLemmas.{InOne, IsSame}
use Rattle.ver_patch_laws.proofs.SectionLemmas.{sections_skip}
use Rattle.ver_patch_laws.specs.Declared.{unplaced, wire_declared}
use Rattle.ver_patch_laws.specs.LinkLaws.{DeclarationsStay}
use Rattle.ver_patch_laws.proofs.RelinkedLemmas.{ArePairs, AreRelinked}
use Rattle.ver_patch_laws.proofs.WalkLemmas.{IsFree, IsNewNet}
use Rattle.ver_patch_laws.proofs.ItemLemmas.{Paired, changed_items}
use Rattle.ver_patch_laws.proofs.CellLemmas.{IsCellSection, cell_sections, starts_next}
use Rattle.ver_patch_laws.proofs.SameLemmas.{AreSame, IsSameSection, filter_same, name_same, number_same, pairs_equal, pairs_flat_equal, sections_same}

pub map-map : {X Y Z : Type 0} (g : Y → Z) (f : X → Y) (xs : List X) → map g (map f xs) ≡ map (λ x. g (f x)) xs
map-map g f [] = refl
map-map g f (x ∷ xs) = ap (λ ys. g (f x) ∷ ys) (map-map g f xs)

pub map-flat : {X Y Z : Type 0} (g : Y → Z) (f : X → List Y) (xs : List X) → map g (flat_map f xs) ≡ flat_map (λ x. map g (f x)) xs
map-flat g f [] = refl
map-flat g f (x ∷ xs) = map-append g (f x) (flat_map f xs) ∙ ap (λ ys. map g (f x) ++ ys) (map-flat g f xs)

both_none : (a b c : Bool) → a ≡ false → b ≡ false → (a || (b && c)) ≡ false
both_none true b c f g = absurd (cc)
both_none false true c f g = absurd (cc)
both_none false false c f g = refl

-- ---- instantiations have no directions

-- a token here is one of an instantiation, behind its first
unfoldable pub is_cell : Place → Bool
is_cell Instances = true
is_cell Pins = true
is_cell Connection = true
is_cell _ = false

direction_leads : (at : At) (bs : List Brace) → (not (is_cell (place_at at)) || not (is_some (move at Direction bs))) ≡ true
unfolding is_cell place_at
direction_leads = each_state (λ at bs. not (is_cell (place_at at)) || not (is_some (move at Direction bs))) (λ bs. refl)

none_moves : (a b : Bool) → (not a || not b) ≡ true → a ≡ true → b ≡ true → ⊥
none_moves true true e f g = absurd (cc)
none_moves true false e f g = absurd (cc)
none_moves false b e f g = absurd (cc)

no_direction : (s t : State) (k : Kind) → is_cell (place_at s.at) ≡ true → next s k ≡ Some t → is Direction k ≡ false
no_direction s t Direction e f =
    let g : is_some (move s.at Direction s.open_braces) ≡ true = ap is_some f in
    absurd (none_moves (is_cell (place_at s.at)) (is_some (move s.at Direction s.open_braces)) (direction_leads s.at s.open_braces) e g)
no_direction s t k e f = refl

-- a token of an instantiation is no direction
abbrev pub IsPlain : Row → Type 0
IsPlain r = is_cell r.place ≡ true → is Direction r.kind ≡ false

pub plain_rows : (rows : List Row) (s : State) → Runs s rows → EachRow IsPlain rows
plain_rows [] s h = tt
plain_rows (r ∷ rows) s h =
    let m = runs_next s r rows h in
    (λ e. no_direction s m.state r.kind (ap is_cell (sym m.place) ∙ e) m.move, plain_rows rows m.state m.runs)

-- ---- items

-- the tokens of an item behind its first, which stand in what follows this
pub record IsBody (p : Place) (rows : List Row) : Type 0 where
  pub follow : Follow p rows
  pub plain : EachRow IsPlain rows
  pub inner : EachRow (λ r. stands_in Start r ≡ false) rows

pub record IsItem (s : Section) : Type 0 where
  pub starts : s.head.place ≡ Start
  pub body : IsBody (item_after s.head.kind) s.body

at_start : (p : Place) → is_place Start p ≡ true → p ≡ Start
at_start Start e = refl
at_start p e = absurd (cc)

body_before : (p : Place) (rows : List Row) → Follow p rows → EachRow IsPlain rows → IsBody p (before_first (stands_in Start) rows)
body_before p [] f g = record { follow = tt; plain = tt; inner = tt }
body_before p (r ∷ rows) f g = by_test (stands_in Start r) refl (body_before (place_after p r.kind) rows f.1 g.1)
  where
    by_test : (b : Bool) → stands_in Start r ≡ b → IsBody (place_after p r.kind) (before_first (stands_in Start) rows)
        → IsBody p (before_first (stands_in Start) (r ∷ rows))
    by_test true t h = subst (IsBody p) (sym (before_others (stands_in Start) r rows true t)) (record { follow = tt; plain = tt; inner = tt })
    by_test false t h =
        subst (IsBody p) (sym (before_others (stands_in Start) r rows false t))
        (record { follow = (f.0, h.follow); plain = (g.0, h.plain); inner = (t, h.inner) })

pub items_are : (p : Place) (rows : List Row) → Follow p rows → EachRow IsPlain rows → Each IsItem (sections (stands_in Start) rows)
items_are p [] f g = subst (Each IsItem) (sym (no_sections (stands_in Start))) tt
items_are p (r ∷ rows) f g = by_test (stands_in Start r) refl (items_are (place_after p r.kind) rows f.1 g.1)
  where
    by_test : (b : Bool) → stands_in Start r ≡ b → Each IsItem (sections (stands_in Start) rows) → Each IsItem (sections (stands_in Start) (r ∷ rows))
    by_test true t h =
        let place : r.place ≡ Start = at_start r.place t in
        subst (Each IsItem) (sym (sections_by (stands_in Start) r rows true t)) (
          record {
            starts = place;
            body = body_before (item_after r.kind) rows (subst (λ q. Follow (place_after q r.kind) rows) (sym f.0 ∙ place) f.1) g.1;
          },
          h,
        )
    by_test false t h = subst (Each IsItem) (sym (sections_by (stands_in Start) r rows false t)) h

-- ---- instantiations declare nothing

cell_after : (p : Place) (k : Kind) → is_cell p ≡ true → (is_cell (place_after p k) || is_place Start (place_after p k)) ≡ true
unfolding is_cell
cell_after Instances k e = by_kind k
  where
    by_kind : (k : Kind) → (is_cell (place_after Instances k) || is_place Start (place_after Instances k)) ≡ true
    by_kind = each_kind (λ k. is_cell (place_after Instances k) || is_place Start (place_after Instances k)) refl
cell_after Pins k e = by_kind k
  where
    by_kind : (k : Kind) → (is_cell (place_after Pins k) || is_place Start (place_after Pins k)) ≡ true
    by_kind = each_kind (λ k. is_cell (place_after Pins k) || is_place Start (place_after Pins k)) refl
cell_after Connection k e = by_kind k
  where
    by_kind : (k : Kind) → (is_cell (place_after Connection k) || is_place Start (place_after Connection k)) ≡ true
    by_kind = each_kind (λ k. is_cell (place_after Connection k) || is_place Start (place_after Connection k)) refl
cell_after p k e = absurd (cc)

other_after : (p : Place) (k : Kind) → is_cell p ≡ false → is_place Start p ≡ false → not (is_cell (place_after p k)) ≡ true
unfolding is_cell
other_after Head k e f = each_kind (λ k. not (is_cell (place_after Head k))) refl k
other_after Ports k e f = each_kind (λ k. not (is_cell (place_after Ports k))) refl k
other_after Declaration k e f = each_kind (λ k. not (is_cell (place_after Declaration k))) refl k
other_after Assignment k e f = each_kind (λ k. not (is_cell (place_after Assignment k))) refl k
other_after p k e f = absurd (cc)

no_cell : (p : Place) → is_cell p ≡ false → is_place Connection p ≡ false
unfolding is_cell
no_cell Connection e = absurd (cc)
no_cell p e = refl

not_true : (b : Bool) → not b ≡ true → b ≡ false
not_true true e = absurd (cc)
not_true false e = refl

or_other : (a b : Bool) → (a || b) ≡ true → b ≡ false → a ≡ true
or_other true b e f = refl
or_other false true e f = absurd (cc)
or_other false false e f = absurd (cc)

-- tokens of an instantiation begin no declaration
none_declared : (p : Place) (rows : List Row) → is_cell p ≡ true → Follow p rows → EachRow IsPlain rows → EachRow (λ r. stands_in Start r ≡ false) rows
    → EachRow (λ r. begins_declaration r ≡ false) rows
none_declared p [] e f g k = tt
none_declared p (r ∷ []) e f g k = (both_none (is Direction r.kind) (stands_in Start r) (is_net r.kind) (g.0 (ap is_cell f.0 ∙ e)) k.0, tt)
none_declared p (r ∷ q ∷ rows) e f g k =
    let off : is_place Start (place_after p r.kind) ≡ false = ap (is_place Start) (sym f.1.0) ∙ k.1.0 in (
      both_none (is Direction r.kind) (stands_in Start r) (is_net r.kind) (g.0 (ap is_cell f.0 ∙ e)) k.0,
      none_declared (place_after p r.kind) (q ∷ rows)
          (or_other (is_cell (place_after p r.kind)) (is_place Start (place_after p r.kind)) (cell_after p r.kind e) off) f.1 g.1 k.1,
    )

-- tokens of another item stand in no connection
no_connection : (p : Place) (rows : List Row) → is_cell p ≡ false → Follow p rows → EachRow (λ r. stands_in Start r ≡ false) rows
    → EachRow (λ r. stands_in Connection r ≡ false) rows
no_connection p [] e f k = tt
no_connection p (r ∷ rows) e f k =
    let off : is_place Start p ≡ false = ap (is_place Start) (sym f.0) ∙ k.0 in (
      ap (is_place Connection) f.0 ∙ no_cell p e,
      no_connection (place_after p r.kind) rows (not_true (is_cell (place_after p r.kind)) (other_after p r.kind e off)) f.1 k.1,
    )

and_none : (b : Bool) → (b && false) ≡ false
and_none true = refl
and_none false = refl

-- the first token of an instantiation begins no declaration
no_head : (k : Kind) (b : Bool) → is_cell (item_after k) ≡ true → (is Direction k || (b && is_net k)) ≡ false
unfolding is_cell
no_head Direction b e = absurd (cc)
no_head Wire b e = absurd (cc)
no_head NetType b e = absurd (cc)
no_head k b e = and_none b

pub nothing_declared : (text : List ℕ) (s : Section) → IsItem s → is_cell (item_after s.head.kind) ≡ true → declared_by text s ≡ []
nothing_declared text s h e =
    let body = none_declared (item_after s.head.kind) s.body e h.body.follow h.body.plain h.body.inner in
    ap (λ rows. flat_map (declared_in text) (sections begins_declaration rows)) (sym (append-nil (s.head ∷ s.body)))
    ∙ ap (flat_map (declared_in text)) (sections_skip begins_declaration (s.head ∷ s.body) [] (no_head s.head.kind (stands_in Start s.head) e, body) ∙ no_sections begins_declaration)

-- ---- other items declare the same

module _ (text new : List ℕ) where
  only_same : (Free : ℕ → Type 0) (Becomes : List Row → List Row → Type 0) → ((old made : List Row) → Becomes old made → old ≡ [] → ⊥)
      → (rows others : List Row) → AreRelinked text new Free Becomes rows others → EachRow (λ r. stands_in Connection r ≡ false) rows → AreSame text new rows others
  only_same Free Becomes some _ _ AreRelinked.none h = ArePairs.done
  only_same Free Becomes some _ _ (AreRelinked.kept {r} {q} {rows} {others} same free more) h =
      ArePairs.pair same (only_same Free Becomes some rows others more h.1)
  only_same Free Becomes some _ _ (AreRelinked.replaced old made rows others i more) h = absurd (no_old old i.before i.becomes h)
    where
      no_old : (us : List Row) → EachRow InOne us → Becomes us made → EachRow (λ r. stands_in Connection r ≡ false) (us ++ rows) → ⊥
      no_old [] f b g = some [] made b refl
      no_old (u ∷ us) f b g = let x = f.0 in let y = g.0 in absurd (cc)

  declares_alike : (r q : Row) → r.place ≡ q.place → r.kind ≡ q.kind → begins_declaration r ≡ begins_declaration q
  declares_alike r q e f = λ i. is Direction (f i) || (is_place Start (e i) && is_net (f i))

  digits_alike : (r q : Row) → r.place ≡ q.place → r.kind ≡ q.kind → is_digits r.kind ≡ is_digits q.kind
  digits_alike r q e f = ap is_digits f

  nets_alike : (r q : Row) → r.place ≡ q.place → r.kind ≡ q.kind → is_net_name r ≡ is_net_name q
  nets_alike r q e f = λ i. is Identifier (f i) && is_net_place (e i)

  heading_same : (s t : Section) → IsSameSection text new s t → heading_of text s ≡ heading_of new t
  heading_same s t h =
      let numbers : numbers_in text s ≡ numbers_in new t
      = pairs_equal (IsSame text new) (number_at text) (number_at new) (number_same text new) (filter (λ r. is_digits r.kind) s.body) (filter (λ r. is_digits r.kind) t.body)
      (filter_same text new (λ r. is_digits r.kind) digits_alike s.body t.body h.body) in
      λ i. record { direction = direction_named (h.head.bytes i); supply = is_supply (h.head.bytes i); range = range_of (numbers i) }

  declaration_same : (s t : Section) → IsSameSection text new s t → map unplaced (declared_in text s) ≡ map unplaced (declared_in new t)
  declaration_same s t h =
      map-map unplaced (declare text (heading_of text s)) (filter is_net_name s.body)
      ∙ pairs_equal (IsSame text new) (λ r. unplaced (declare text (heading_of text s) r)) (λ r. unplaced (declare new (heading_of new t) r))
      (λ r q e. λ i. record { place = 0; name = name_same text new r q e i; heading = heading_same s t h i })
      (filter is_net_name s.body) (filter is_net_name t.body) (filter_same text new is_net_name nets_alike s.body t.body h.body)
      ∙ sym (map-map unplaced (declare new (heading_of new t)) (filter is_net_name t.body))

  pub said_same : (s t : Section) → IsSameSection text new s t → map unplaced (declared_by text s) ≡ map unplaced (declared_by new t)
  said_same s t h =
      map-flat unplaced (declared_in text) (declarations_in s)
      ∙ pairs_flat_equal (IsSameSection text new) (λ d. map unplaced (declared_in text d)) (λ d. map unplaced (declared_in new d)) declaration_same
      (declarations_in s) (declarations_in t)
      (sections_same text new begins_declaration declares_alike (s.head ∷ s.body) (t.head ∷ t.body) (ArePairs.pair h.head h.body))
      ∙ sym (map-flat unplaced (declared_in new) (declarations_in t))

-- ---- lists of items

pub each_split : {X : Type 0} (P : X → Type 0) (xs ys : List X) → Each P (xs ++ ys) → Each P xs × Each P ys
each_split P [] ys h = (tt, h)
each_split P (x ∷ xs) ys h = let (f, g) = each_split P xs ys h.1 in ((h.0, f), g)

some_net : (text new : List ℕ) (netlist : Netlist) (all : List Rewire) (old made : List Row) → IsNewNet text new netlist all old made → old ≡ [] → ⊥
some_net text new netlist all old made h e = let f : h.first ∷ h.more ≡ [] = sym h.old_is ∙ e in absurd (cc)

module _ (text new : List ℕ) (netlist : Netlist) (all : List Rewire) (cells : List NewCell) (wires : List (List ℕ)) where
  item_declared : (s t : Section) → Paired text new netlist all cells wires s t → IsItem s → IsItem t → map unplaced (declared_by text s) ≡ map unplaced (declared_by new t)
  item_declared s t p i j = by_cell (is_cell (item_after s.head.kind)) refl
    where
      by_cell : (b : Bool) → is_cell (item_after s.head.kind) ≡ b → map unplaced (declared_by text s) ≡ map unplaced (declared_by new t)
      by_cell true e =
          ap (map unplaced) (nothing_declared text s i e ∙ sym (nothing_declared new t j (ap (λ k. is_cell (item_after k)) (sym p.head.kind) ∙ e)))
      by_cell false e =
          said_same text new s t (record {
            head = p.head;
            body = only_same text new (IsFree netlist all) (IsNewNet text new netlist all) (some_net text new netlist all) s.body t.body p.body
                (no_connection (item_after s.head.kind) s.body e i.body.follow i.body.inner);
          })

  items_declared : (ss ts : List Section) → ArePairs (Paired text new netlist all cells wires) ss ts → Each IsItem ss → Each IsItem ts
      → map unplaced (flat_map (declared_by text) ss) ≡ map unplaced (flat_map (declared_by new) ts)
  items_declared _ _ ArePairs.done i j = refl
  items_declared _ _ (ArePairs.pair {x = s} {y = t} {xs = ss} {ys = ts} p h) i j =
      map-append unplaced (declared_by text s) (flat_map (declared_by text) ss)
      ∙ (λ k. item_declared s t p i.0 j.0 k ++ items_declared ss ts h i.1 j.1 k)
      ∙ sym (map-append unplaced (declared_by new t) (flat_map (declared_by new) ts))

-- ---- new wires and new instances

module _ (new : List ℕ) where
  wire_said : (name : List ℕ) → is_simple name ≡ true → (a b c : Row) → IsRow new Start (word Wire (codes "wire")) a → IsRow new Declaration (word Identifier name) b
      → IsRow new Declaration (word Semicolon (codes ";")) c
      → map unplaced (declared_by new (record { head = a; body = b ∷ c ∷ [] })) ≡ wire_declared name ∷ []
  wire_said name e a b c ha hb hc =
      let begins : (r : Row) (p : Place) (k : Kind) → r.place ≡ p → r.kind ≡ k → begins_declaration r ≡ (is Direction k || (is_place Start p && is_net k))
      = λ r p k f g. λ i. is Direction (g i) || (is_place Start (f i) && is_net (g i)) in
      let one : sections begins_declaration (a ∷ b ∷ c ∷ []) ≡ record { head = a; body = b ∷ c ∷ [] } ∷ []
      = one_section begins_declaration a (b ∷ c ∷ []) [] (begins a Start Wire ha.place ha.kind)
      (begins b Declaration Identifier hb.place hb.kind, (begins c Declaration Semicolon hc.place hc.kind, tt)) tt
      ∙ ap (λ ss. record { head = a; body = b ∷ c ∷ [] } ∷ ss) (no_sections begins_declaration) in
      let no_digits : filter (λ (r : Row). is_digits r.kind) (b ∷ c ∷ []) ≡ [] = (λ i. cond (is_digits (hb.kind i)) (b ∷ cond (is_digits (hc.kind i)) (c ∷ []) []) (cond (is_digits (hc.kind i)) (c ∷ []) [])) in
      let one_name : filter is_net_name (b ∷ c ∷ []) ≡ b ∷ []
      = (λ i. cond (is Identifier (hb.kind i) && is_net_place (hb.place i)) (b ∷ cond (is Identifier (hc.kind i) && is_net_place (hc.place i)) (c ∷ []) [])
      (cond (is Identifier (hc.kind i) && is_net_place (hc.place i)) (c ∷ []) [])) in
      let heading : heading_of new (record { head = a; body = b ∷ c ∷ [] }) ≡ record { direction = None; supply = false; range = None }
      = λ i. record { direction = direction_named (ha.bytes i); supply = is_supply (ha.bytes i); range = range_of (map (number_at new) (no_digits i)) } in
      ap (λ ss. map unplaced (flat_map (declared_in new) ss)) one
      ∙ ap (λ ds. map unplaced ds) (append-nil (declared_in new (record { head = a; body = b ∷ c ∷ [] })))
      ∙ ap (λ rs. map unplaced (map (declare new (heading_of new (record { head = a; body = b ∷ c ∷ [] }))) rs)) one_name
      ∙ (λ i. record { place = 0; name = (ap name_of hb.bytes ∙ simple_name name e) i; heading = heading i } ∷ [])

  pub wires_declared : (wires : List (List ℕ)) → Each (λ name. is_simple name ≡ true) wires → (rows : List Row) → RowsAre new Start (flat_map wire_words wires) rows
      → map unplaced (flat_map (declared_by new) (sections (stands_in Start) rows)) ≡ map wire_declared wires
  wires_declared [] h rows e = ap (λ rs. map unplaced (flat_map (declared_by new) (sections (stands_in Start) rs))) e
      ∙ ap (λ ss. map unplaced (flat_map (declared_by new) ss)) (no_sections (stands_in Start))
  wires_declared (name ∷ wires) h rows (a, m1, e1, ha, (b, m2, e2, hb, (c, m3, e3, hc, rest))) =
      let whole : rows ≡ a ∷ ((b ∷ c ∷ []) ++ m3) = e1 ∙ ap (λ rs. a ∷ rs) (e2 ∙ ap (λ rs. b ∷ rs) e3) in
      let next = subst (Next (stands_in Start)) (append-nil m3) (starts_next new (flat_map wire_words wires) m3 [] rest tt) in
      let one : sections (stands_in Start) rows ≡ record { head = a; body = b ∷ c ∷ [] } ∷ sections (stands_in Start) m3
      = ap (sections (stands_in Start)) whole
      ∙ one_section (stands_in Start) a (b ∷ c ∷ []) m3 (ap (is_place Start) ha.place) (ap (is_place Start) hb.place, (ap (is_place Start) hc.place, tt)) next in
      ap (λ ss. map unplaced (flat_map (declared_by new) ss)) one
      ∙ map-append unplaced (declared_by new (record { head = a; body = b ∷ c ∷ [] })) (flat_map (declared_by new) (sections (stands_in Start) m3))
      ∙ (λ i. wire_said name h.0 a b c ha hb hc i ++ wires_declared wires h.1 m3 rest i)

  cells_declared : (ss : List Section) (cells : List NewCell) → ArePairs (IsCellSection new) ss cells → Each IsItem ss → flat_map (declared_by new) ss ≡ []
  unfolding is_cell
  cells_declared _ _ ArePairs.done h = refl
  cells_declared _ _ (ArePairs.pair {x = s} {y = c} {xs = ss} {ys = cells} p k) h =
      λ i. nothing_declared new s h.0 (ap (λ q. is_cell (item_after q)) p.kind) i ++ cells_declared ss cells k h.1 i

  end_declared : (r : Row) → r.kind ≡ EndModule → declared_by new (record { head = r; body = [] }) ≡ []
  end_declared r e =
      ap (flat_map (declared_in new)) (sections_skip begins_declaration (r ∷ []) [] ((λ i. is Direction (e i) || (stands_in Start r && is_net (e i))) ∙ and_none (stands_in Start r), tt)
      ∙ no_sections begins_declaration)

-- ---- the law

pub module_items : (text : List ℕ) → IsModule text → Each IsItem (items text)
module_items text h =
    let runs = module_runs text h in
    items_are Start (rows_of text) (subst (λ p. Follow p (rows_of text)) start_place runs.follow) (plain_rows (rows_of text) start runs)

pub declarations_stay : DeclarationsStay
declarations_stay text netlist rewires cells wires new c =
    let all = c.patched.ordered in
    let i = changed_items text netlist rewires cells wires new c in
    let made = each_of IsNewCell cells c.written.made in
    let simple = each_of (λ name. is_simple name ≡ true) wires c.written.declared in
    let put = sections (stands_in Start) i.put in
    let wired = sections (stands_in Start) i.wired in
    let end : Section = record { head = i.end; body = [] } in
    let last : Section = record { head = i.last; body = [] } in
    let olds = subst (Each IsItem) i.items_are (module_items text c.denotes.grammar) in
    let news = subst (Each IsItem) i.items_now (module_items new (modules_stay text netlist rewires cells wires new c).1) in
    let (heads, old_rest) = each_split IsItem i.heads (i.middles ++ last ∷ []) olds in
    let (middles, old_last) = each_split IsItem i.middles (last ∷ []) old_rest in
    let (heads_now, rest1) = each_split IsItem i.heads_now (wired ++ (i.middles_now ++ (put ++ end ∷ []))) news in
    let (wires_now, rest2) = each_split IsItem wired (i.middles_now ++ (put ++ end ∷ [])) rest1 in
    let (middles_now, rest3) = each_split IsItem i.middles_now (put ++ end ∷ []) rest2 in
    let (puts, rest4) = each_split IsItem put (end ∷ []) rest3 in
    let by = declared_by new in
    record {
      front = flat_map (declared_by text) i.heads;
      back = flat_map (declared_by text) i.middles;
      before =
          ap (flat_map (declared_by text)) i.items_are
          ∙ flat_map-append (declared_by text) i.heads (i.middles ++ last ∷ [])
          ∙ ap (λ ds. flat_map (declared_by text) i.heads ++ ds) (flat_map-append (declared_by text) i.middles (last ∷ [])
          ∙ ap (λ ds. flat_map (declared_by text) i.middles ++ (ds ++ [])) (end_declared text i.last i.ends) ∙ append-nil (flat_map (declared_by text) i.middles));
      now =
          ap (λ ss. map unplaced (flat_map by ss)) i.items_now
          ∙ flat_said by i.heads_now (wired ++ (i.middles_now ++ (put ++ end ∷ [])))
          ∙ (λ j. sym (items_declared text new netlist all cells wires i.heads i.heads_now i.heads_paired heads heads_now) j
          ++ (flat_said by wired (i.middles_now ++ (put ++ end ∷ []))
          ∙ (λ k. wires_declared new wires simple i.wired i.wires_are k
          ++ (flat_said by i.middles_now (put ++ end ∷ [])
          ∙ (λ m. sym (items_declared text new netlist all cells wires i.middles i.middles_now i.middles_paired middles middles_now) m
          ++ (flat_said by put (end ∷ [])
          ∙ (λ n. map unplaced (cells_declared new put cells (cell_sections new cells made i.put i.cells_are) puts n) ++ map unplaced (end_declared new i.end i.ends_now n ++ []))) m)
          ∙ append-nil (map unplaced (flat_map (declared_by text) i.middles))) k)) j);
    }
  where
    flat_said : (f : Section → List Declared) (xs ys : List Section) → map unplaced (flat_map f (xs ++ ys)) ≡ map unplaced (flat_map f xs) ++ map unplaced (flat_map f ys)
    flat_said f xs ys = ap (map unplaced) (flat_map-append f xs ys) ∙ map-append unplaced (flat_map f xs) (flat_map f ys)
