-- No instance of a changed text names a pin twice, or selects what its identifier has not.
use Rattle.std.proofs.Common.{◌≡◌, ℕ, List, [], ◌∷◌, ◌++◌, map, sym, ap, ◌∙◌, subst, inl, inr}
use Rattle.std.specs.Prelude.{◌≢◌}
use Rattle.std.specs.List.{flat_map}
use Rattle.name_tables.specs.Distinct.{AreNew}
use Rattle.ver_text.specs.declared.kind.Kind.TheVariants.{Identifier}
use Rattle.ver_syntax.specs.declared.row.Row.{Row}
use Rattle.ver_syntax.specs.Grammar.{is}
use Rattle.ver_items.specs.Bits.{fits, select_before}
use Rattle.ver_items.specs.Connections.{expression_of}
use Rattle.ver_items.specs.Sections.{Section, instances_in, is_identifier, items, pins_in}
use Rattle.ver_module.specs.Netlists.{Pin}
use Rattle.ver_file.specs.Flaws.{Named, connection_flaws, link_flaws, named, pin_flaws, select_flaws}
use Rattle.ver_file.specs.Netlists.{identifiers_in, instance_of, instances_by, instances_of, netlist_of, pin_of, range_at}
use Rattle.ver_file.proofs.ListLemmas.{flat_map-flat_map}
use Rattle.ver_file.proofs.NetLemmas.{no_left}
use Rattle.ver_net.specs.declared.pin_ref.PinRef.{PinRef}
use Rattle.ver_patch.specs.NewCells.{NewCell}
use Rattle.ver_patch.specs.Rewires.{Rewire}
use Rattle.ver_patch_laws.specs.Shapes.{Shape, new_shape, shape_of}
use Rattle.ver_patch_laws.proofs.InstanceLemmas.{instances_stay}
use Rattle.ver_patch_text_laws.proofs.TextLemmas.{Each}
use Rattle.ver_patch_text_laws.specs.Laws.{IsChanged}
use Rattle.ver_patch_text_laws.proofs.LawLemmas.{each_of}
use Rattle.ver_patch_laws.proofs.DeclareLemmas.{map-map}
use Rattle.ver_patch_laws.proofs.PinLemmas.{IsPin, pin_sections, pins_by}
use Rattle.ver_patch_laws.proofs.RelinkedLemmas.{In, each_in}
use Rattle.ver_patch_laws.proofs.SameLemmas.{IsSameSection, sections_same}
use Rattle.ver_patch_laws.specs.Consistent.{IsConsistent, WritesOne}
use Rattle.ver_patch_laws.proofs.ApartLemmas.{apart_new, new_once, once_new}
use Rattle.ver_patch_laws.proofs.ItemFromLemmas.{pairs_none}
use Rattle.ver_patch_laws.proofs.NameFlawLemmas.{ranges}
use Rattle.ver_patch_laws.proofs.PinFromLemmas.{PinFrom, pin_from}
use Rattle.ver_patch_laws.proofs.SelectSameLemmas.{flaws_same}
use Rattle.ver_patch_laws.proofs.SetLemmas.{each_from, each_join, each_weaker, flat_none, get_in, in_flat, in_flattened, in_get, in_map, in_mapped, none_flat, unless_not}
use Rattle.ver_patch_laws.proofs.SoundLemmas.{items_none, pin_in, pin_right}
use Rattle.ver_patch_laws.proofs.TieLemmas.{IsRight}
use Rattle.ver_patch_laws.proofs.WrittenLemmas.{written_flaws, written_rewires}

-- ---- names of pins

-- no pin stands twice
abbrev pub HasPinsOnce : Shape → Type 0
HasPinsOnce s = AreNew [] s.pins

pin_names : (text : List ℕ) (cell : Row) (i : Section) → map (λ (n : Named). n.name) (map (named text) (pins_in i)) ≡ (shape_of (instance_of text cell i)).pins
pin_names text cell i =
    map-map (λ (n : Named). n.name) (named text) (pins_in i) ∙ sym (map-map (λ (p : Pin). p.name) (pin_of text) (pins_in i))

pub old_shapes : (text : List ℕ) (e : (item : Section) → In item (items text) → flat_map (connection_flaws text) (instances_in item) ≡ [])
    → (s : Shape) → In s (map shape_of (instances_of text)) → HasPinsOnce s
old_shapes text none s i =
    let (x, j, e) = in_mapped shape_of (instances_of text) s i in
    let (item, k, l) = in_flattened (instances_by text) (items text) x j in
    let (p, m, f) = in_mapped (instance_of text item.head) (instances_in item) x l in
    let flaws = each_in (λ q. connection_flaws text q ≡ []) (instances_in item) p (flat_none (connection_flaws text) (instances_in item) (none item k)) m in
    let once = once_new (map (named text) (pins_in p)) [] (no_left (pin_flaws text p) (link_flaws text p) flaws) in
    subst HasPinsOnce (sym (e ∙ ap shape_of f)) (subst (AreNew []) (pin_names text item.head p) once)

new_shapes : (cells : List NewCell) → Each (λ c. c.input ≢ c.output) cells → Each HasPinsOnce (map new_shape cells)
new_shapes [] h = tt
new_shapes (c ∷ cells) h = (
  apart_new (c.input ∷ c.output ∷ []) [] ((λ i. elim i as (λ _. ⊥) [ inl e ↦ h.0 e | inr j ↦ j ]), ((λ i. i), tt)) (λ n i j. i),
  new_shapes cells h.1,
)

module _ (text : List ℕ) (rewires : List Rewire) (cells : List NewCell) (wires : List (List ℕ)) (new : List ℕ)
    (c : IsChanged text (netlist_of text) rewires cells wires new) (h : IsConsistent (netlist_of text) rewires cells wires) where
  all_shapes : Each HasPinsOnce (map shape_of (instances_of new))
  all_shapes =
      subst (Each HasPinsOnce) (sym (instances_stay text (netlist_of text) rewires cells wires new c))
      (each_join HasPinsOnce (map shape_of (instances_of text)) (map new_shape cells)
      (each_from HasPinsOnce (map shape_of (instances_of text)) (old_shapes text (λ item i. (items_none text c.denotes.flawless item i).connected)))
      (new_shapes cells (each_of (λ (x : NewCell). x.input ≢ x.output) cells h.pins)))

  pins_once : (item i : Section) → In item (items new) → In i (instances_in item) → pin_flaws new i ≡ []
  pins_once item i j k =
      let among = in_map shape_of (instances_of new) (instance_of new item.head i)
      (in_flat (instances_by new) (items new) item (instance_of new item.head i) j (in_map (instance_of new item.head) (instances_in item) i k)) in
      new_once (map (named new) (pins_in i)) []
      (subst (AreNew []) (sym (pin_names new item.head i)) (each_in HasPinsOnce (map shape_of (instances_of new)) (shape_of (instance_of new item.head i)) all_shapes among))

  -- ---- what is selected

  no_selects : (s : Section) (at : PinRef) → IsPin (pin_sections (items text)) at s → Each (λ x. select_flaws text x ≡ []) (identifiers_in s)
  no_selects s at p =
      each_weaker (IsRight text) (λ x. select_flaws text x ≡ []) (λ x r. unless_not (fits (select_before text x.body) (range_at text x.head)) x.head.from r.fit)
      (identifiers_in s) (pin_right text c.denotes.flawless s (pin_in text at s p))

  pin_selects : (at : PinRef) (t : Section) → PinFrom text new (netlist_of text) c.patched.ordered cells at t → flat_map (select_flaws new) (identifiers_in t) ≡ []
  pin_selects at t (PinFrom.stays s p others same) =
      pairs_none (IsSameSection text new) (select_flaws text) (select_flaws new) (flaws_same text new (ranges text rewires cells wires new c h)) (identifiers_in s) (identifiers_in t)
      (sections_same text new is_identifier (λ r q e f. ap (is Identifier) f) (expression_of s) (expression_of t) same) (no_selects s at p)
  pin_selects at t (PinFrom.made r i e words) =
      written_flaws text rewires cells wires new c h r.net
      (each_in (λ (x : Rewire). WritesOne (netlist_of text) wires x.net) c.patched.ordered r (written_rewires text rewires cells wires new c h) i) (expression_of t) words
  pin_selects at t (PinFrom.input k x e f words) =
      written_flaws text rewires cells wires new c h x.from
      (each_in (λ (y : NewCell). WritesOne (netlist_of text) wires y.from) cells x (each_of (λ (y : NewCell). WritesOne (netlist_of text) wires y.from) cells h.from) (get_in cells k x e))
      (expression_of t) words
  pin_selects at t (PinFrom.output k x e f words) =
      written_flaws text rewires cells wires new c h x.to
      (each_in (λ (y : NewCell). WritesOne (netlist_of text) wires y.to) cells x (each_of (λ (y : NewCell). WritesOne (netlist_of text) wires y.to) cells h.to) (get_in cells k x e))
      (expression_of t) words

  links_fit : (item i : Section) → In item (items new) → In i (instances_in item) → link_flaws new i ≡ []
  links_fit item i j k =
      let (n, e) = in_get (pin_sections (items new)) (pins_in i) (in_flat pins_by (items new) item (pins_in i) j (in_map pins_in (instances_in item) i k)) in
      flat_map-flat_map (select_flaws new) identifiers_in (pins_in i)
      ∙ none_flat (λ p. flat_map (select_flaws new) (identifiers_in p)) (pins_in i)
      (each_from (λ p. flat_map (select_flaws new) (identifiers_in p) ≡ []) (pins_in i)
      (λ p l. let (m, f) = in_get (pins_in i) p l in
      let at : PinRef = record { instance = n; pin = m } in
      pin_selects at p (pin_from text rewires cells wires new c at p (record { pins = pins_in i; instance = e; pin = f }))))

  pub no_connection_flaws : (item : Section) → In item (items new) → flat_map (connection_flaws new) (instances_in item) ≡ []
  no_connection_flaws item j =
      none_flat (connection_flaws new) (instances_in item)
      (each_from (λ i. connection_flaws new i ≡ []) (instances_in item) (λ i k. λ z. pins_once item i j k z ++ links_fit item i j k z))
