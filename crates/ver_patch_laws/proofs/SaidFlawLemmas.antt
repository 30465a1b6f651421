-- A changed text declares each identifier with one range and one direction, and each listed port with a direction.
use Rattle.std.proofs.Common.{◌≡◌, ℕ, Bool, true, false, not, cond, ◌&&◌, List, [], ◌∷◌, ◌++◌, length, Option, Some, None, refl, sym, ap, ◌∙◌, inl, inr}
use Rattle.std.specs.Prelude.{filter, is_none}
use Rattle.std.specs.List.{flat_map}
use Rattle.std.proofs.lemmas.Bool.{and_parts}
use Rattle.ver_text.specs.declared.kind.Kind.TheVariants.{Identifier}
use Rattle.ver_syntax.specs.declared.fault.VerKind.TheVariants.{NameClash}
use Rattle.ver_syntax.specs.declared.row.Place.{Place}
use Rattle.ver_syntax.specs.declared.row.Place.TheVariants.{Start, Ports}
use Rattle.ver_syntax.specs.declared.row.Row.{Row}
use Rattle.ver_syntax.specs.Grammar.{is}
use Rattle.ver_syntax.specs.Rows.{rows_of}
use Rattle.ver_items.specs.Declarations.{Declared, declared_by, declared_of, direction_in, range_in}
use Rattle.ver_items.specs.Sections.{Section, is_identifier, is_name_in, is_place, items, name_at, stands_in}
use Rattle.ver_module.specs.declared.direction.PortDir.{PortDir}
use Rattle.ver_module.specs.declared.direction.PortDir.TheVariants.{Input, Output, Inout}
use Rattle.ver_file.specs.Flaws.{agrees, clashes, direction_flaws, flaws_at, flaws_of, is_range, name_flaws, port_flaws, ports_in, range_flaws}
use Rattle.ver_file.specs.Netlists.{netlist_of}
use Rattle.ver_file.proofs.NetLemmas.{no_left, no_mapped, no_right, passes}
use Rattle.ver_patch.specs.NewCells.{NewCell}
use Rattle.ver_patch.specs.Rewires.{Rewire}
use Rattle.ver_patch_text_laws.proofs.TextLemmas.{Each}
use Rattle.ver_patch_text_laws.specs.Laws.{IsChanged}
use Rattle.ver_patch_laws.specs.Declared.{AreDeclared}
use Rattle.ver_patch_laws.proofs.DeclareLemmas.{declarations_stay}
use Rattle.ver_patch_laws.proofs.RelinkedLemmas.{In, each_in}
use Rattle.ver_patch_laws.proofs.SameLemmas.{name_same}
use Rattle.ver_patch_laws.specs.Consistent.{IsConsistent}
use Rattle.ver_patch_laws.proofs.CoverLemmas.{row_in}
use Rattle.ver_patch_laws.proofs.DeclaredLemmas.{directions_stay, each_declared, in_filter}
use Rattle.ver_patch_laws.proofs.FromLemmas.{IsFrom}
use Rattle.ver_patch_laws.proofs.NameFlawLemmas.{names_stay_apart, ranges, wires_scalar}
use Rattle.ver_patch_laws.proofs.SetLemmas.{each_from, each_weaker, flat_none, in_flat, in_flattened, none_flat, unless_not}
use Rattle.ver_patch_laws.proofs.SoundLemmas.{items_none, item_row, section_of}
use Rattle.ver_patch_laws.proofs.WholeLemmas.{all_from}

agrees_none : (o : Option PortDir) → agrees o None ≡ true
agrees_none None = refl
agrees_none (Some Input) = refl
agrees_none (Some Output) = refl
agrees_none (Some Inout) = refl

filter_in : {X : Type 0} (p : X → Bool) (xs : List X) (x : X) → In x xs → p x ≡ true → In x (filter p xs)
filter_in p [] x i e = absurd i
filter_in p (y ∷ ys) x i e = by_test (p y) refl i (λ j. filter_in p ys x j e)
  where
    by_test : (b : Bool) → p y ≡ b → In x (y ∷ ys) → (In x ys → In x (filter p ys)) → In x (cond b (y ∷ filter p ys) (filter p ys))
    by_test true t (inl f) more = inl f
    by_test true t (inr j) more = inr (more j)
    by_test false t (inl f) more = let clash : true ≡ false = sym e ∙ ap p f ∙ t in absurd (cc)
    by_test false t (inr j) more = more j

starts : (p : Place) → is_place Start p ≡ true → is_place Ports p ≡ false
starts Start e = refl
starts p e = absurd (cc)

-- each listed port of a text without flaws has a direction
port_directed : (text : List ℕ) → flaws_of text ≡ [] → (r : Row) → In r (rows_of text) → is_name_in Ports r ≡ true
    → not (is_none (direction_in (declared_of text) (name_at text r))) ≡ true
port_directed text none r i t =
    let h = row_in text r i in
    elim h.own [
      | inl e ↦ (let o = section_of (stands_in Start) (rows_of text) h.section h.among in
          let off : stands_in Ports r ≡ false = ap (λ (x : Row). is_place Ports x.place) e ∙ starts h.section.head.place o.begins in
          let on = (and_parts (is_identifier r) (stands_in Ports r) t).1 in
          absurd (cc))
      | inr j ↦ passes (not (is_none (direction_in (declared_of text) (name_at text r)))) (length text)
          (each_in (λ q. port_flaws text q ≡ []) (ports_in h.section) r (flat_none (port_flaws text) (ports_in h.section) (items_none text none h.section h.among).ports)
          (filter_in (is_name_in Ports) h.section.body r j t))
    ]

module _ (text : List ℕ) (rewires : List Rewire) (cells : List NewCell) (wires : List (List ℕ)) (new : List ℕ)
    (c : IsChanged text (netlist_of text) rewires cells wires new) (h : IsConsistent (netlist_of text) rewires cells wires) where
  declared : AreDeclared text wires new
  declared = declarations_stay text (netlist_of text) rewires cells wires new c

  -- ---- ranges

  ranged : Each (λ d. is_range (range_in (declared_of new) d.name) d.heading.range ≡ true) (declared_of new)
  ranged =
      let old : clashes text ≡ [] = no_mapped (λ place. record { place = place; kind = NameClash }) (clashes text) (no_left (flaws_at NameClash (clashes text)) _ c.denotes.flawless) in
      let none = flat_none (range_flaws (declared_of text)) (declared_of text) (no_right (name_flaws text) (flat_map (range_flaws (declared_of text)) (declared_of text)) old) in
      each_declared text wires new declared (λ name heading. is_range (range_in (declared_of new) name) heading.range ≡ true)
      (each_weaker (λ d. range_flaws (declared_of text) d ≡ []) (λ d. is_range (range_in (declared_of new) d.name) d.heading.range ≡ true)
      (λ d e. ap (λ r. is_range r d.heading.range) (sym (ranges text rewires cells wires new c h d.name)) ∙ passes (is_range (range_in (declared_of text) d.name) d.heading.range) d.place e)
      (declared_of text) none)
      (each_weaker (λ w. range_in (declared_of text) w ≡ None) (λ w. is_range (range_in (declared_of new) w) None ≡ true)
      (λ w e. ap (λ r. is_range r None) (sym (ranges text rewires cells wires new c h w) ∙ e)) wires (wires_scalar text rewires cells wires new c h))

  pub no_clashes : clashes new ≡ []
  no_clashes =
      let each = none_flat (range_flaws (declared_of new)) (declared_of new)
      (each_weaker (λ d. is_range (range_in (declared_of new) d.name) d.heading.range ≡ true) (λ d. range_flaws (declared_of new) d ≡ [])
      (λ d e. unless_not (is_range (range_in (declared_of new) d.name) d.heading.range) d.place e) (declared_of new) ranged) in
      λ i. names_stay_apart text rewires cells wires new c h i ++ each i

  -- ---- directions

  directed_text : (d : Declared) → In d (declared_of text) → agrees (direction_in (declared_of text) d.name) d.heading.direction ≡ true
  directed_text d i =
      let (item, j, k) = in_flattened (declared_by text) (items text) d i in
      passes (agrees (direction_in (declared_of text) d.name) d.heading.direction) d.place
      (each_in (λ x. direction_flaws (declared_of text) x ≡ []) (declared_by text item) d
      (flat_none (direction_flaws (declared_of text)) (declared_by text item) (items_none text c.denotes.flawless item j).directions) k)

  directed : Each (λ d. agrees (direction_in (declared_of new) d.name) d.heading.direction ≡ true) (declared_of new)
  directed =
      each_declared text wires new declared (λ name heading. agrees (direction_in (declared_of new) name) heading.direction ≡ true)
      (each_from (λ d. agrees (direction_in (declared_of new) d.name) d.heading.direction ≡ true) (declared_of text)
      (λ d i. ap (λ o. agrees o d.heading.direction) (directions_stay text wires new declared d.name) ∙ directed_text d i))
      (each_from (λ w. agrees (direction_in (declared_of new) w) None ≡ true) wires (λ w i. agrees_none (direction_in (declared_of new) w)))

  pub no_direction_flaws : (item : Section) → In item (items new) → flat_map (direction_flaws (declared_of new)) (declared_by new item) ≡ []
  no_direction_flaws item i =
      none_flat (direction_flaws (declared_of new)) (declared_by new item)
      (each_from (λ d. direction_flaws (declared_of new) d ≡ []) (declared_by new item)
      (λ d j. unless_not (agrees (direction_in (declared_of new) d.name) d.heading.direction) d.place
      (each_in (λ x. agrees (direction_in (declared_of new) x.name) x.heading.direction ≡ true) (declared_of new) d directed (in_flat (declared_by new) (items new) item d i j))))

  -- ---- ports

  port_there : (q : Row) → is_name_in Ports q ≡ true → IsFrom text wires new q → not (is_none (direction_in (declared_of new) (name_at new q))) ≡ true
  port_there q t (IsFrom.put p) = let off = p.port in absurd (cc)
  port_there q t (IsFrom.same r among same) =
      let own : is_name_in Ports r ≡ true = (λ i. is Identifier (same.kind i) && is_place Ports (same.place i)) ∙ t in
      ap (λ o. not (is_none o)) (ap (direction_in (declared_of new)) (sym (name_same text new r q same)) ∙ directions_stay text wires new declared (name_at text r))
      ∙ port_directed text c.denotes.flawless r among own

  pub no_port_flaws : (item : Section) → In item (items new) → flat_map (port_flaws new) (ports_in item) ≡ []
  no_port_flaws item i =
      none_flat (port_flaws new) (ports_in item)
      (each_from (λ q. port_flaws new q ≡ []) (ports_in item)
      (λ q j. let (k, t) = in_filter (is_name_in Ports) item.body q j in
      unless_not (not (is_none (direction_in (declared_of new) (name_at new q)))) (length new)
      (port_there q t (all_from text rewires cells wires new c h q (item_row new item i q k)))))
