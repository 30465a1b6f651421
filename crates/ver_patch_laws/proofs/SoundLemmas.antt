-- A text without flaws: what its items and its tokens are.
use Rattle.std.proofs.Common.{◌≡◌, ℕ, zero, suc, ◌-◌, Bool, true, false, List, [], ◌∷◌, ◌++◌, length, take, refl, sym, ◌∙◌, subst, inl, inr}
use Rattle.std.specs.Prelude.{drop}
use Rattle.std.specs.List.{flat_map, position_or_len, prefix_len}
use Rattle.std.proofs.lemmas.Bool.{and_parts}
use Rattle.std.proofs.lemmas.List.Elements.{All-contains}
use Rattle.ver_syntax.specs.declared.fault.VerKind.TheVariants.{Grammar, InstanceTwice, NameClash}
use Rattle.ver_syntax.specs.declared.row.Place.{Place}
use Rattle.ver_syntax.specs.declared.row.Place.TheVariants.{Start, Assignment, Connection, Instances, Pins}
use Rattle.ver_syntax.specs.declared.row.Row.{Row}
use Rattle.ver_syntax.specs.Rows.{rows_of}
use Rattle.ver_items.specs.Bits.{fits, select_before}
use Rattle.ver_items.specs.Connections.{connection_of, expression_of}
use Rattle.ver_items.specs.Declarations.{declared_by, declared_of}
use Rattle.ver_items.specs.Sections.{Section, instances_in, is_identifier, is_name_in, is_net_name, is_net_place, is_place, items, name_at, pins_in, section_before, sections, stands_in}
use Rattle.ver_file.specs.Flaws.{assignment_flaws, clashes, connection_flaws, direction_flaws, flaws_at, flaws_of, grammar_flaws, instance_flaws, link_flaws, pin_flaws, port_flaws, ports_in, select_flaws, syntax_flaws}
use Rattle.ver_file.specs.Netlists.{identifiers_in, range_at}
use Rattle.ver_file.specs.Said.{identifiers_of}
use Rattle.ver_file.proofs.KnownLemmas.{IsKnown, known_rows}
use Rattle.ver_file.proofs.ListLemmas.{flat_map-flat_map, passes_while}
use Rattle.ver_file.proofs.NetLemmas.{no_left, no_mapped, no_right, passes}
use Rattle.ver_net.specs.declared.pin_ref.PinRef.{PinRef}
use Rattle.ver_patch.proofs.StandLemmas.{no_sections, sections_by}
use Rattle.ver_patch_text_laws.proofs.TextLemmas.{Each}
use Rattle.ver_patch_laws.proofs.PinLemmas.{IsPin, pin_sections, pins_by}
use Rattle.ver_patch_laws.proofs.RelinkedLemmas.{In, each_in}
use Rattle.ver_patch_laws.proofs.SetLemmas.{any_in, each_from, flat_none, get_in, in_contains, in_flattened, in_mapped, none_flat}
use Rattle.ver_patch_laws.proofs.TieLemmas.{IsRight}

-- ---- flaws of items

-- an item has no flaw of its syntax
pub record HasNone (text : List ℕ) (item : Section) : Type 0 where
  pub directions : flat_map (direction_flaws (declared_of text)) (declared_by text item) ≡ []
  pub ports : flat_map (port_flaws text) (ports_in item) ≡ []
  pub assigned : assignment_flaws text item ≡ []
  pub connected : flat_map (connection_flaws text) (instances_in item) ≡ []

module _ (text : List ℕ) where
  item_none : (item : Section) → syntax_flaws text item ≡ [] → HasNone text item
  item_none item none =
      let A = flat_map (direction_flaws (declared_of text)) (declared_by text item) in
      let B = flat_map (port_flaws text) (ports_in item) in
      let C = assignment_flaws text item in
      let D = flat_map (connection_flaws text) (instances_in item) in
      let two = no_right A (B ++ (C ++ D)) none in
      let three = no_right B (C ++ D) two in
      record { directions = no_left A (B ++ (C ++ D)) none; ports = no_left B (C ++ D) two; assigned = no_left C D three; connected = no_right C D three }

  none_item : (item : Section) → HasNone text item → syntax_flaws text item ≡ []
  none_item item h = λ i. h.directions i ++ (h.ports i ++ (h.assigned i ++ h.connected i))

  pub items_none : flaws_of text ≡ [] → (item : Section) → In item (items text) → HasNone text item
  items_none e item i =
      let none = no_mapped (λ place. record { place = place; kind = Grammar }) (grammar_flaws text)
      (no_right (flaws_at InstanceTwice (instance_flaws text)) (flaws_at Grammar (grammar_flaws text))
      (no_right (flaws_at NameClash (clashes text)) (flaws_at InstanceTwice (instance_flaws text) ++ flaws_at Grammar (grammar_flaws text)) e)) in
      item_none item (each_in (λ s. syntax_flaws text s ≡ []) (items text) item (flat_none (syntax_flaws text) (items text) none) i)

  pub none_items : Each (HasNone text) (items text) → grammar_flaws text ≡ []
  none_items h =
      none_flat (syntax_flaws text) (items text)
      (each_from (λ s. syntax_flaws text s ≡ []) (items text) (λ s i. none_item s (each_in (HasNone text) (items text) s h i)))

-- ---- tokens of sections

in_take : {X : Type 0} (n : ℕ) (xs : List X) (x : X) → In x (take n xs) → In x xs
in_take zero [] x i = absurd i
in_take zero (y ∷ ys) x i = absurd i
in_take (suc n) [] x i = absurd i
in_take (suc n) (y ∷ ys) x (inl e) = inl e
in_take (suc n) (y ∷ ys) x (inr i) = inr (in_take n ys x i)

in_drop : {X : Type 0} (n : ℕ) (xs : List X) (x : X) → In x (drop n xs) → In x xs
in_drop zero xs x i = i
in_drop (suc n) [] x i = absurd i
in_drop (suc n) (y ∷ ys) x i = inr (in_drop n ys x i)

-- a section of some tokens has tokens of them, and begins as it should
pub record IsOf (test : Row → Bool) (rows : List Row) (s : Section) : Type 0 where
  pub head : In s.head rows
  pub body : (x : Row) → In x s.body → In x rows
  pub begins : test s.head ≡ true

pub section_of : (test : Row → Bool) (rows : List Row) (s : Section) → In s (sections test rows) → IsOf test rows s
section_of test [] s i = absurd (subst (In s) (no_sections test) i)
section_of test (r ∷ rows) s i = by_test (test r) refl (section_of test rows s)
  where
    more : IsOf test rows s → IsOf test (r ∷ rows) s
    more h = record { head = inr h.head; body = λ x j. inr (h.body x j); begins = h.begins }

    own : test r ≡ true → IsOf test (r ∷ rows) (section_before test r rows)
    own t = record { head = inl refl; body = λ x j. inr (in_take (position_or_len test rows) rows x j); begins = t }

    by_test : (b : Bool) → test r ≡ b → (In s (sections test rows) → IsOf test rows s) → IsOf test (r ∷ rows) s
    by_test true t later =
        elim (subst (In s) (sections_by test r rows true t) i) [
          | inl e ↦ subst (IsOf test (r ∷ rows)) (sym e) (own t)
          | inr j ↦ more (later j)
        ]
    by_test false t later = more (later (subst (In s) (sections_by test r rows false t) i))

-- a token of an expression stands in a connection
pub expression_row : (p : Section) (x : Row) → In x (expression_of p) → In x p.body × (stands_in Connection x ≡ true)
expression_row p x i =
    let inside : In x (connection_of p) = in_take (length (connection_of p) - 1) (connection_of p) x i in
    let among : In x (drop 1 p.body) = in_take (prefix_len (stands_in Connection) (drop 1 p.body)) (drop 1 p.body) x inside in (
      in_drop 1 p.body x among,
      All-contains (λ y. stands_in Connection y ≡ true) (connection_of p) x (passes_while (stands_in Connection) (drop 1 p.body)) (in_contains (connection_of p) x inside),
    )

-- ---- known identifiers

connection_net : (p : Place) → is_place Connection p ≡ true → is_net_place p ≡ true
connection_net Connection e = refl
connection_net _ e = absurd (cc)

assignment_net : (p : Place) → is_place Assignment p ≡ true → is_net_place p ≡ true
assignment_net Assignment e = refl
assignment_net _ e = absurd (cc)

is_net : (r : Row) → is_identifier r ≡ true → is_net_place r.place ≡ true → is_net_name r ≡ true
is_net r a b = rw a b

module _ (text : List ℕ) where
  pub row_known : (x : Row) → In x (rows_of text) → is_net_name x ≡ true → In (name_at text x) (identifiers_of text)
  row_known x i e =
      any_in (identifiers_of text) (name_at text x)
      (All-contains (IsKnown text (identifiers_of text)) (rows_of text) x (known_rows text) (in_contains (rows_of text) x i) e)

  pub item_row : (item : Section) → In item (items text) → (x : Row) → In x item.body → In x (rows_of text)
  item_row item i x j = (section_of (stands_in Start) (rows_of text) item i).body x j

  -- where a pin stands
  pub record PinIn (p : Section) : Type 0 where
    pub item : Section
    pub instance : Section
    pub in_items : In item (items text)
    pub in_item : In instance (instances_in item)
    pub in_instance : In p (pins_in instance)

  pub pin_in : (at : PinRef) (p : Section) → IsPin (pin_sections (items text)) at p → PinIn p
  pin_in at p h =
      let (item, i, j) = in_flattened pins_by (items text) h.pins (get_in (pin_sections (items text)) at.instance h.pins h.instance) in
      let (instance, k, e) = in_mapped pins_in (instances_in item) h.pins j in
      record { item = item; instance = instance; in_items = i; in_item = k; in_instance = subst (In p) e (get_in h.pins at.pin p h.pin) }

  pub pin_row : (p : Section) → PinIn p → (x : Row) → In x p.body → In x (rows_of text)
  pin_row p h x i =
      item_row h.item h.in_items x
      ((section_of (is_name_in Instances) h.item.body h.instance h.in_item).body x ((section_of (is_name_in Pins) h.instance.body p h.in_instance).body x i))

  -- the identifiers in the expressions of pins
  pub pin_known : (p : Section) → PinIn p → (s : Section) → In s (identifiers_in p) → In (name_at text s.head) (identifiers_of text)
  pin_known p h s i =
      let o = section_of is_identifier (expression_of p) s i in
      let (among, place) = expression_row p s.head o.head in
      row_known s.head (pin_row p h s.head among) (is_net s.head o.begins (connection_net s.head.place place))

  -- and those in assignments
  pub assigned_known : (item : Section) → In item (items text) → (s : Section) → In s (sections (is_name_in Assignment) item.body)
      → In (name_at text s.head) (identifiers_of text)
  assigned_known item h s i =
      let o = section_of (is_name_in Assignment) item.body s i in
      let (named, place) = and_parts (is_identifier s.head) (stands_in Assignment s.head) o.begins in
      row_known s.head (item_row item h s.head o.head) (is_net s.head named (assignment_net s.head.place place))

  fit : (s : Section) → select_flaws text s ≡ [] → fits (select_before text s.body) (range_at text s.head) ≡ true
  fit s e = passes (fits (select_before text s.body) (range_at text s.head)) s.head.from e

  pub pin_right : flaws_of text ≡ [] → (p : Section) → PinIn p → Each (IsRight text) (identifiers_in p)
  pin_right none p h =
      let flaws = each_in (λ i. connection_flaws text i ≡ []) (instances_in h.item) h.instance
      (flat_none (connection_flaws text) (instances_in h.item) (items_none text none h.item h.in_items).connected) h.in_item in
      let links : link_flaws text h.instance ≡ [] = no_right (pin_flaws text h.instance) (link_flaws text h.instance) flaws in
      let each = flat_none (λ q. flat_map (select_flaws text) (identifiers_in q)) (pins_in h.instance)
      (sym (flat_map-flat_map (select_flaws text) identifiers_in (pins_in h.instance)) ∙ links) in
      let own = each_in (λ q. flat_map (select_flaws text) (identifiers_in q) ≡ []) (pins_in h.instance) p each h.in_instance in
      each_from (IsRight text) (identifiers_in p)
      (λ s i. record {
        known = pin_known p h s i;
        fit = fit s (each_in (λ q. select_flaws text q ≡ []) (identifiers_in p) s (flat_none (select_flaws text) (identifiers_in p) own) i);
      })

  pub assigned_right : flaws_of text ≡ [] → (item : Section) → In item (items text) → Each (IsRight text) (sections (is_name_in Assignment) item.body)
  assigned_right none item h =
      let ss = sections (is_name_in Assignment) item.body in
      each_from (IsRight text) ss
      (λ s i. record {
        known = assigned_known item h s i;
        fit = fit s (each_in (λ q. select_flaws text q ≡ []) ss s (flat_none (select_flaws text) ss (items_none text none item h).assigned) i);
      })
