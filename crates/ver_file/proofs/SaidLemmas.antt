-- What is said of identifiers.
use Rattle.std.proofs.Common.{◌≡◌, ℕ, ◌+◌, Bool, true, false, ◌&&◌, ◌||◌, List, [], ◌∷◌, ◌++◌, find, Option, Some, None, is_some, option_and_then, refl, ap, ◌∙◌, if◌then◌else◌}
use Rattle.std.specs.List.{list_any}
use Rattle.std.specs.Option.{option_or}
use Rattle.std.specs.Str.{bytes_eq}
use Rattle.std.proofs.lemmas.List.Folds.{find-append, list_any-append}
use Rattle.name_tables.specs.Distinct.{number_in, with_name}
use Rattle.ver_module.specs.declared.direction.PortDir.{PortDir}
use Rattle.ver_module.proofs.NameLemmas.{with_new, with_old}
use Rattle.ver_syntax.specs.declared.row.Row.{Row}
use Rattle.ver_items.specs.Declarations.{Declared, direction_in, first_declared, is_supply_in, range_in}
use Rattle.ver_items.specs.Sections.{name_at}
use Rattle.ver_file.specs.Said.{is_declared, with_heading}
use Rattle.ver_file.specs.Tables.{identifier_at}
use Rattle.ver_file.proofs.ListLemmas.{bytes_same}

-- a name keeps its number where it is put last
pub number_stays : (names : List (List ℕ)) (name : List ℕ) → number_in (with_name names name) name ≡ number_in names name
number_stays names name = by_test (list_any (bytes_eq name) names) refl
  where
    last : (ns : List (List ℕ)) → list_any (bytes_eq name) ns ≡ false → number_in (ns ++ name ∷ []) name ≡ number_in ns name
    last [] t = rw (bytes_same name) refl
    last (n ∷ ns) t = by_first (bytes_eq name n) refl (last ns)
      where
        by_first : (b : Bool) → bytes_eq name n ≡ b → (list_any (bytes_eq name) ns ≡ false → number_in (ns ++ name ∷ []) name ≡ number_in ns name)
            → number_in (n ∷ ns ++ name ∷ []) name ≡ number_in (n ∷ ns) name
        by_first true f rest = let clash : (true || list_any (bytes_eq name) ns) ≡ false = rw f at t in absurd (cc)
        by_first false f rest = let none : (false || list_any (bytes_eq name) ns) ≡ false = rw f at t in rw f (ap (λ k. 1 + k) (rest none))

    by_test : (b : Bool) → list_any (bytes_eq name) names ≡ b → number_in (with_name names name) name ≡ number_in names name
    by_test true t = ap (λ ns. number_in ns name) (with_old names name t)
    by_test false t = ap (λ ns. number_in ns name) (with_new names name t) ∙ last names t

-- ---- a declaration more

or_false : (b : Bool) → (b || false) ≡ b
or_false true = refl
or_false false = refl

or_none : {X : Type 0} (o : Option X) → option_or o None ≡ o
or_none None = refl
or_none (Some x) = refl

module _ (name : List ℕ) (ds : List Declared) (d : Declared) where
  -- of another name it says nothing
  module _ (f : bytes_eq name d.name ≡ false) where
    pub first_stays : first_declared (ds ++ d ∷ []) name ≡ first_declared ds name
    first_stays = find-append (λ (e : Declared). bytes_eq name e.name) ds (d ∷ []) ∙ rw f (or_none (first_declared ds name))

    range_stays : range_in (ds ++ d ∷ []) name ≡ range_in ds name
    range_stays = ap (option_and_then (λ (e : Declared). e.heading.range)) first_stays

    direction_stays : direction_in (ds ++ d ∷ []) name ≡ direction_in ds name
    direction_stays =
        let gives : Declared → Bool = λ e. bytes_eq name e.name && is_some e.heading.direction in
        let same : find gives (ds ++ d ∷ []) ≡ find gives ds = find-append gives ds (d ∷ []) ∙ rw f (or_none (find gives ds)) in
        ap (option_and_then (λ (e : Declared). e.heading.direction)) same

    supply_stays : is_supply_in (ds ++ d ∷ []) name ≡ is_supply_in ds name
    supply_stays =
        list_any-append (λ (e : Declared). bytes_eq name e.name && e.heading.supply) ds (d ∷ [])
        ∙ rw f (or_false (is_supply_in ds name))

  -- of its own name
  module _ (f : bytes_eq name d.name ≡ true) where
    first_more : first_declared (ds ++ d ∷ []) name ≡ option_or (first_declared ds name) (Some d)
    first_more = find-append (λ (e : Declared). bytes_eq name e.name) ds (d ∷ []) ∙ rw f refl

    pub name_declared : is_declared (ds ++ d ∷ []) name ≡ true
    name_declared = ap is_some first_more ∙ some_last (first_declared ds name)
      where
        some_last : (o : Option Declared) → is_some (option_or o (Some d)) ≡ true
        some_last None = refl
        some_last (Some e) = refl

    range_more : range_in (ds ++ d ∷ []) name ≡ (if is_declared ds name then range_in ds name else d.heading.range)
    range_more = ap (option_and_then (λ (e : Declared). e.heading.range)) first_more ∙ by_first (first_declared ds name)
      where
        by_first : (o : Option Declared) → option_and_then (λ (e : Declared). e.heading.range) (option_or o (Some d))
            ≡ (if is_some o then option_and_then (λ (e : Declared). e.heading.range) o else d.heading.range)
        by_first None = refl
        by_first (Some e) = refl

    supply_more : is_supply_in (ds ++ d ∷ []) name ≡ (is_supply_in ds name || d.heading.supply)
    supply_more =
        list_any-append (λ (e : Declared). bytes_eq name e.name && e.heading.supply) ds (d ∷ [])
        ∙ rw f (ap (λ b. is_supply_in ds name || b) (or_false d.heading.supply))

direction_more : (name : List ℕ) (ds : List Declared) (d : Declared) → bytes_eq name d.name ≡ true
    → direction_in (ds ++ d ∷ []) name ≡ option_or (direction_in ds name) d.heading.direction
direction_more name [] d f = only d.heading.direction refl
  where
    only : (o : Option PortDir) → d.heading.direction ≡ o → direction_in (d ∷ []) name ≡ d.heading.direction
    only None e = rw f (rw e refl)
    only (Some a) e = rw f (rw e refl)
direction_more name (e ∷ ds) d f = by_test (bytes_eq name e.name) refl e.heading.direction refl (direction_more name ds d f)
  where
    by_test : (b : Bool) → bytes_eq name e.name ≡ b → (o : Option PortDir) → e.heading.direction ≡ o
        → direction_in (ds ++ d ∷ []) name ≡ option_or (direction_in ds name) d.heading.direction
        → direction_in (e ∷ ds ++ d ∷ []) name ≡ option_or (direction_in (e ∷ ds) name) d.heading.direction
    by_test true t None g rest = rw t (rw g rest)
    by_test true t (Some a) g rest = rw t (rw g refl)
    by_test false t o g rest = rw t rest

-- what holds of an identifier
pub identifier_stays : (text : List ℕ) (ds : List Declared) (d : Declared) (r : Row) → bytes_eq (name_at text r) d.name ≡ false
    → identifier_at text (ds ++ d ∷ []) r ≡ identifier_at text ds r
identifier_stays text ds d r f i =
    let name = name_at text r in
    let at = identifier_at text ds r in
    record {
      range = range_stays name ds d f i;
      escaped = at.escaped;
      port = direction_stays name ds d f i;
      supply = supply_stays name ds d f i;
    }

pub identifier_more : (text : List ℕ) (ds : List Declared) (d : Declared) (r : Row) → bytes_eq (name_at text r) d.name ≡ true
    → identifier_at text (ds ++ d ∷ []) r ≡ with_heading (identifier_at text ds r) (is_declared ds (name_at text r)) d.heading
identifier_more text ds d r f i =
    let name = name_at text r in
    let at = identifier_at text ds r in
    record {
      range = range_more name ds d f i;
      escaped = at.escaped;
      port = direction_more name ds d f i;
      supply = supply_more name ds d f i;
    }

-- ---- nothing is declared

pub no_range_in : (name : List ℕ) (ds : List Declared) → first_declared ds name ≡ None → range_in ds name ≡ None
no_range_in name ds none = ap (option_and_then (λ (e : Declared). e.heading.range)) none

pub no_direction_in : (name : List ℕ) (ds : List Declared) → first_declared ds name ≡ None → direction_in ds name ≡ None
no_direction_in name [] none = refl
no_direction_in name (e ∷ ds) none = by_test (bytes_eq name e.name) refl (no_direction_in name ds)
  where
    by_test : (b : Bool) → bytes_eq name e.name ≡ b → (first_declared ds name ≡ None → direction_in ds name ≡ None) → direction_in (e ∷ ds) name ≡ None
    by_test true t rest = let clash : Some e ≡ None = rw t at none in absurd (cc)
    by_test false t rest = let still : first_declared ds name ≡ None = rw t at none in rw t (rest still)

no_supply_in : (name : List ℕ) (ds : List Declared) → first_declared ds name ≡ None → is_supply_in ds name ≡ false
no_supply_in name [] none = refl
no_supply_in name (e ∷ ds) none = by_test (bytes_eq name e.name) refl (no_supply_in name ds)
  where
    by_test : (b : Bool) → bytes_eq name e.name ≡ b → (first_declared ds name ≡ None → is_supply_in ds name ≡ false) → is_supply_in (e ∷ ds) name ≡ false
    by_test true t rest = let clash : Some e ≡ None = rw t at none in absurd (cc)
    by_test false t rest = let still : first_declared ds name ≡ None = rw t at none in rw t (rest still)

pub undeclared_at : (text : List ℕ) (ds : List Declared) (r : Row) → first_declared ds (name_at text r) ≡ None
    → identifier_at text ds r ≡ identifier_at text [] r
undeclared_at text ds r none i =
    let name = name_at text r in
    let at = identifier_at text ds r in
    record {
      range = no_range_in name ds none i;
      escaped = at.escaped;
      port = no_direction_in name ds none i;
      supply = no_supply_in name ds none i;
    }
