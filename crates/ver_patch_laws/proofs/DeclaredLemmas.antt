-- What a changed text says of identifiers is what the text said.
use Rattle.std.proofs.Common.{◌≡◌, ℕ, Bool, true, false, cond, ◌&&◌, ◌||◌, List, [], ◌∷◌, ◌++◌, map, Some, None, refl, sym, ap, ◌∙◌, subst, inl, inr}
use Rattle.std.specs.Prelude.{filter, find, is_some, option_and_then}
use Rattle.std.specs.Str.{bytes_eq}
use Rattle.std.proofs.lemmas.List.{map-append}
use Rattle.ver_syntax.specs.declared.row.Place.TheVariants.{Start}
use Rattle.ver_syntax.specs.declared.row.Row.{Row}
use Rattle.ver_syntax.specs.Rows.{rows_of}
use Rattle.ver_items.specs.declared.heading.Heading.{Heading}
use Rattle.ver_items.specs.Declarations.{Declared, begins_declaration, declarations_in, declare, declared_by, declared_in, declared_of, direction_in, heading_of, is_supply_in, range_in}
use Rattle.ver_items.specs.Sections.{Section, is_net_name, items, name_at, stands_in}
use Rattle.ver_module.specs.declared.direction.PortDir.{PortDir}
use Rattle.ver_file.specs.Said.{identifiers_of}
use Rattle.ver_file.proofs.ListLemmas.{bytes_are}
use Rattle.ver_patch_text_laws.proofs.TextLemmas.{Each}
use Rattle.ver_patch_laws.specs.Declared.{AreDeclared, unplaced, wire_declared}
use Rattle.ver_patch_laws.proofs.DeclareLemmas.{each_split}
use Rattle.ver_patch_laws.proofs.RelinkedLemmas.{In}
use Rattle.ver_patch_laws.proofs.FromLemmas.{and_none}
use Rattle.ver_patch_laws.proofs.SetLemmas.{each_join, each_map, each_mapped, in_flattened, in_mapped}
use Rattle.ver_patch_laws.proofs.SoundLemmas.{row_known, section_of}

-- the name of what is declared
abbrev pub names_said : List Declared → List (List ℕ)
names_said ds = map (λ d. d.name) ds

-- ---- directions

module _ (name : List ℕ) where
  directs : Declared → Bool
  directs d = bytes_eq name d.name && is_some d.heading.direction

  direction_first : (d : Declared) (ds : List Declared) → direction_in (d ∷ ds) name ≡ cond (directs d) d.heading.direction (direction_in ds name)
  unfolding directs
  direction_first d ds = by_test (bytes_eq name d.name && is_some d.heading.direction)
    where
      by_test : (b : Bool) → option_and_then (λ (x : Declared). x.heading.direction) (cond b (Some d) (find (λ x. bytes_eq name x.name && is_some x.heading.direction) ds))
          ≡ cond b d.heading.direction (direction_in ds name)
      by_test true = refl
      by_test false = refl

  direction_unplaced : (ds : List Declared) → direction_in (map unplaced ds) name ≡ direction_in ds name
  unfolding directs
  direction_unplaced [] = refl
  direction_unplaced (d ∷ ds) =
      direction_first (unplaced d) (map unplaced ds) ∙ ap (λ o. cond (directs d) d.heading.direction o) (direction_unplaced ds) ∙ sym (direction_first d ds)

  direction_among : (front : List Declared) (wires : List (List ℕ)) (back : List Declared)
      → direction_in (front ++ (map wire_declared wires ++ back)) name ≡ direction_in (front ++ back) name
  unfolding directs
  direction_among [] [] back = refl
  direction_among [] (w ∷ wires) back =
      direction_first (wire_declared w) (map wire_declared wires ++ back)
      ∙ ap (λ b. cond b None (direction_in (map wire_declared wires ++ back) name)) (and_none (bytes_eq name w)) ∙ direction_among [] wires back
  direction_among (d ∷ front) wires back =
      direction_first d (front ++ (map wire_declared wires ++ back)) ∙ ap (λ o. cond (directs d) d.heading.direction o) (direction_among front wires back)
      ∙ sym (direction_first d (front ++ back))

  pub direction_said : (ds : List Declared) (direction : PortDir) → direction_in ds name ≡ Some direction → In name (names_said ds)
  unfolding directs
  direction_said [] direction e = absurd (cc)
  direction_said (d ∷ ds) direction e = by_test (bytes_eq name d.name) refl (sym (direction_first d ds) ∙ e) (direction_said ds direction)
    where
      by_test : (b : Bool) → bytes_eq name d.name ≡ b → cond (b && is_some d.heading.direction) d.heading.direction (direction_in ds name) ≡ Some direction
          → (direction_in ds name ≡ Some direction → In name (names_said ds)) → In name (names_said (d ∷ ds))
      by_test true t f more = inl (bytes_are name d.name t)
      by_test false t f more = inr (more f)

  -- ---- supplies

  supply_unplaced : (ds : List Declared) → is_supply_in (map unplaced ds) name ≡ is_supply_in ds name
  supply_unplaced [] = refl
  supply_unplaced (d ∷ ds) = ap (λ b. (bytes_eq name d.name && d.heading.supply) || b) (supply_unplaced ds)

  supply_among : (front : List Declared) (wires : List (List ℕ)) (back : List Declared)
      → is_supply_in (front ++ (map wire_declared wires ++ back)) name ≡ is_supply_in (front ++ back) name
  supply_among [] [] back = refl
  supply_among [] (w ∷ wires) back =
      ap (λ b. b || is_supply_in (map wire_declared wires ++ back) name) (and_none (bytes_eq name w)) ∙ supply_among [] wires back
  supply_among (d ∷ front) wires back = ap (λ b. (bytes_eq name d.name && d.heading.supply) || b) (supply_among front wires back)

  pub supply_said : (ds : List Declared) → is_supply_in ds name ≡ true → In name (names_said ds)
  supply_said [] e = absurd (cc)
  supply_said (d ∷ ds) e = by_test (bytes_eq name d.name) refl e (supply_said ds)
    where
      by_test : (b : Bool) → bytes_eq name d.name ≡ b → ((b && d.heading.supply) || is_supply_in ds name) ≡ true
          → (is_supply_in ds name ≡ true → In name (names_said ds)) → In name (names_said (d ∷ ds))
      by_test true t f more = inl (bytes_are name d.name t)
      by_test false t f more = inr (more f)

  -- ---- ranges

  pub range_none : (ds : List Declared) → (In name (names_said ds) → ⊥) → range_in ds name ≡ None
  range_none [] h = refl
  range_none (d ∷ ds) h = by_test (bytes_eq name d.name) refl (range_none ds (λ i. h (inr i)))
    where
      by_test : (b : Bool) → bytes_eq name d.name ≡ b → range_in ds name ≡ None
          → option_and_then (λ (x : Declared). x.heading.range) (cond b (Some d) (find (λ x. bytes_eq name x.name) ds)) ≡ None
      by_test true t more = absurd (h (inl (bytes_are name d.name t)))
      by_test false t more = more

-- ---- a changed text

module _ (text : List ℕ) (wires : List (List ℕ)) (new : List ℕ) (a : AreDeclared text wires new) where
  olds : map unplaced a.front ++ map unplaced a.back ≡ map unplaced (declared_of text)
  olds = sym (map-append unplaced a.front a.back) ∙ ap (map unplaced) (sym a.before)

  pub directions_stay : (name : List ℕ) → direction_in (declared_of new) name ≡ direction_in (declared_of text) name
  directions_stay name =
      sym (direction_unplaced name (declared_of new)) ∙ ap (λ ds. direction_in ds name) a.now ∙ direction_among name (map unplaced a.front) wires (map unplaced a.back)
      ∙ ap (λ ds. direction_in ds name) olds ∙ direction_unplaced name (declared_of text)

  pub supplies_stay : (name : List ℕ) → is_supply_in (declared_of new) name ≡ is_supply_in (declared_of text) name
  supplies_stay name =
      sym (supply_unplaced name (declared_of new)) ∙ ap (λ ds. is_supply_in ds name) a.now ∙ supply_among name (map unplaced a.front) wires (map unplaced a.back)
      ∙ ap (λ ds. is_supply_in ds name) olds ∙ supply_unplaced name (declared_of text)

  -- what holds of each declaration of the text and of those of new wires
  pub each_declared : (P : List ℕ → Heading → Type 0) → Each (λ d. P d.name d.heading) (declared_of text)
      → Each (λ w. P w (wire_declared w).heading) wires → Each (λ d. P d.name d.heading) (declared_of new)
  each_declared P h k =
      let (front, back) = each_split (λ (d : Declared). P d.name d.heading) a.front a.back (subst (Each (λ (d : Declared). P d.name d.heading)) a.before h) in
      each_mapped (λ (d : Declared). P d.name d.heading) unplaced (declared_of new)
      (subst (Each (λ (d : Declared). P d.name d.heading)) (sym a.now)
      (each_join (λ (d : Declared). P d.name d.heading) (map unplaced a.front) (map wire_declared wires ++ map unplaced a.back)
      (each_map (λ (d : Declared). P d.name d.heading) unplaced a.front front)
      (each_join (λ (d : Declared). P d.name d.heading) (map wire_declared wires) (map unplaced a.back)
      (each_map (λ (d : Declared). P d.name d.heading) wire_declared wires k)
      (each_map (λ (d : Declared). P d.name d.heading) unplaced a.back back))))

-- ---- what is declared is an identifier of nets

pub in_filter : {X : Type 0} (p : X → Bool) (xs : List X) (x : X) → In x (filter p xs) → In x xs × (p x ≡ true)
in_filter p [] x i = absurd i
in_filter p (y ∷ ys) x i = by_test (p y) refl i (in_filter p ys x)
  where
    by_test : (b : Bool) → p y ≡ b → In x (cond b (y ∷ filter p ys) (filter p ys)) → (In x (filter p ys) → In x ys × (p x ≡ true)) → In x (y ∷ ys) × (p x ≡ true)
    by_test true t (inl e) more = (inl e, ap p e ∙ t)
    by_test true t (inr j) more = let (k, u) = more j in (inr k, u)
    by_test false t j more = let (k, u) = more j in (inr k, u)

named_known : (text name : List ℕ) (r : Row) → name ≡ name_at text r → In r (rows_of text) → is_net_name r ≡ true → In name (identifiers_of text)
named_known text name r e among net = subst (λ x. In x (identifiers_of text)) (sym e) (row_known text r among net)

-- a declaration of an item
row_of : (text : List ℕ) (item : Section) → In item (items text) → (d : Declared) → In d (declared_by text item)
    → (r : Row) × In r (rows_of text) × (is_net_name r ≡ true) × (d.name ≡ name_at text r)
row_of text item k d l =
    let (s, m, n) = in_flattened (declared_in text) (declarations_in item) d l in
    let (r, o, f) = in_mapped (declare text (heading_of text s)) (filter is_net_name s.body) d n in
    let (p, net) = in_filter is_net_name s.body r o in
    let own = section_of (stands_in Start) (rows_of text) item k in
    let inside = (section_of begins_declaration (item.head ∷ item.body) s m).body r p in
    (r, elim inside [ inl same ↦ subst (λ q. In q (rows_of text)) (sym same) own.head | inr q ↦ own.body r q ], net, ap (λ (x : Declared). x.name) f)

pub declared_known : (text : List ℕ) (name : List ℕ) → In name (names_said (declared_of text)) → In name (identifiers_of text)
declared_known text name i =
    let (d, j, e) = in_mapped (λ (d : Declared). d.name) (declared_of text) name i in
    let (item, k, l) = in_flattened (declared_by text) (items text) d j in
    by_row d e (row_of text item k d l)
  where
    by_row : (d : Declared) → name ≡ d.name → (r : Row) × In r (rows_of text) × (is_net_name r ≡ true) × (d.name ≡ name_at text r) → In name (identifiers_of text)
    by_row d e (r, among, net, f) = named_known text name r (e ∙ f) among net
