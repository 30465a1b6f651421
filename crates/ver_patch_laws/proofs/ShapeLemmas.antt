-- The pins of netlists by their names.
use Rattle.std.proofs.Common.{◌≡◌, ℕ, zero, suc, ◌+◌, List, [], ◌∷◌, ◌++◌, map, length, Some, refl, sym, ap, ◌∙◌, subst, ◌⊎◌, inl, inr, arith}
use Rattle.std.specs.Prelude.{slice_get}
use Rattle.std.specs.List.{flat_map}
use Rattle.std.proofs.lemmas.List.{length-map, map-append}
use Rattle.std.proofs.lemmas.Option.{none-some, same_Some}
use Rattle.ver_syntax.specs.declared.fault.VerKind.TheVariants.{Grammar, InstanceTwice, NameClash}
use Rattle.ver_syntax.specs.declared.row.Row.{Row}
use Rattle.ver_items.specs.Sections.{Section, instances_in, items, name_at}
use Rattle.ver_module.specs.Netlists.{Instance, Netlist, Pin}
use Rattle.ver_file.specs.Flaws.{Named, clashes, flaws_at, grammar_flaws, instance_flaws, named}
use Rattle.ver_file.specs.Modules.{Denotes}
use Rattle.ver_file.specs.Netlists.{instance_of, instances_by, instances_of, netlist_of}
use Rattle.ver_file.proofs.NetLemmas.{no_left, no_mapped, no_right}
use Rattle.ver_net.specs.declared.pin_ref.PinRef.{PinRef}
use Rattle.ver_patch.specs.NewCells.{NewCell}
use Rattle.ver_patch_laws.specs.Shapes.{Shape, new_shape, shape_of}
use Rattle.ver_patch_text_laws.proofs.SectionLemmas.{get_map}
use Rattle.ver_patch_laws.proofs.PinLemmas.{get_mapped}
use Rattle.ver_patch_laws.proofs.RelinkedLemmas.{In}
use Rattle.ver_patch_laws.specs.Laws.{PinsAreRenewed, PinsDiffer}
use Rattle.ver_patch_laws.specs.Pins.{HasPin, IsNewPin, PinName, input_name, output_name}
use Rattle.ver_patch_laws.specs.Renewed.{new_pin}
use Rattle.ver_patch_laws.proofs.ApartLemmas.{Apart, new_apart, once_new}
use Rattle.ver_patch_laws.proofs.NamedLemmas.{own_netlist}
use Rattle.ver_patch_laws.proofs.PinFlawLemmas.{old_shapes}
use Rattle.ver_patch_laws.proofs.PinFromLemmas.{get_either}
use Rattle.ver_patch_laws.proofs.SetLemmas.{get_in, in_map}
use Rattle.ver_patch_laws.proofs.SoundLemmas.{items_none}

-- ---- no two pins have one name

-- what stands once has one place
one_place : {X : Type 0} (xs : List X) (i j : ℕ) (x : X) → Apart xs → slice_get xs i ≡ Some x → slice_get xs j ≡ Some x → i ≡ j
one_place [] i j x h e f = absurd (none-some x e)
one_place (y ∷ ys) zero zero x h e f = refl
one_place {X = X} (y ∷ ys) zero (suc j) x h e f = absurd (h.0 (subst (λ (u : X). In u ys) (sym (same_Some y x e)) (get_in ys j x f)))
one_place {X = X} (y ∷ ys) (suc i) zero x h e f = absurd (h.0 (subst (λ (u : X). In u ys) (sym (same_Some y x f)) (get_in ys i x e)))
one_place (y ∷ ys) (suc i) (suc j) x h e f = ap (λ (n : ℕ). suc n) (one_place ys i j x h.1 e f)

item_names : (text : List ℕ) (cell : Row) (ss : List Section) → map (λ (n : Named). n.name) (map (named text) ss) ≡ map (λ (i : Instance). i.name) (map (instance_of text cell) ss)
item_names text cell [] = refl
item_names text cell (s ∷ ss) = ap (λ ns. name_at text s.head ∷ ns) (item_names text cell ss)

all_names : (text : List ℕ) (its : List Section)
    → map (λ (n : Named). n.name) (map (named text) (flat_map instances_in its)) ≡ map (λ (i : Instance). i.name) (flat_map (instances_by text) its)
all_names text [] = refl
all_names text (item ∷ its) =
    ap (map (λ (n : Named). n.name)) (map-append (named text) (instances_in item) (flat_map instances_in its))
    ∙ map-append (λ (n : Named). n.name) (map (named text) (instances_in item)) (map (named text) (flat_map instances_in its))
    ∙ (λ i. item_names text item.head (instances_in item) i ++ all_names text its i)
    ∙ sym (map-append (λ (i : Instance). i.name) (instances_by text item) (flat_map (instances_by text) its))

module _ (text : List ℕ) (d : Denotes text (netlist_of text)) where
  instances_apart : Apart (map (λ (i : Instance). i.name) (instances_of text))
  instances_apart =
      let none : instance_flaws text ≡ []
      = no_mapped (λ place. record { place = place; kind = InstanceTwice }) (instance_flaws text)
      (no_left (flaws_at InstanceTwice (instance_flaws text)) (flaws_at Grammar (grammar_flaws text))
      (no_right (flaws_at NameClash (clashes text)) (flaws_at InstanceTwice (instance_flaws text) ++ flaws_at Grammar (grammar_flaws text)) d.flawless)) in
      subst Apart (all_names text (items text))
      (new_apart (map (λ (n : Named). n.name) (map (named text) (flat_map instances_in (items text)))) []
      (once_new (map (named text) (flat_map instances_in (items text))) [] none)).0

  own_differ : (a b : PinRef) (x y : PinName) → HasPin (netlist_of text) a x → HasPin (netlist_of text) b y → x.instance ≡ y.instance → x.pin ≡ y.pin → a ≡ b
  own_differ a b x y h k e f =
      let names = map (λ (i : Instance). i.name) (instances_of text) in
      let own : slice_get names a.instance ≡ Some h.instance.name = get_mapped (λ (i : Instance). i.name) (instances_of text) a.instance h.instance h.is_instance in
      let other : slice_get names b.instance ≡ Some k.instance.name = get_mapped (λ (i : Instance). i.name) (instances_of text) b.instance k.instance k.is_instance in
      let same : h.instance.name ≡ k.instance.name = sym (ap (λ (n : PinName). n.instance) h.named) ∙ e ∙ ap (λ (n : PinName). n.instance) k.named in
      let place : a.instance ≡ b.instance = one_place names a.instance b.instance k.instance.name instances_apart (own ∙ ap Some same) other in
      let one : h.instance ≡ k.instance = same_Some h.instance k.instance (sym h.is_instance ∙ ap (slice_get (instances_of text)) place ∙ k.is_instance) in
      let shape = old_shapes text (λ item i. (items_none text d.flawless item i).connected) (shape_of k.instance)
      (in_map shape_of (instances_of text) k.instance (get_in (instances_of text) b.instance k.instance k.is_instance)) in
      let pins = map (λ (p : Pin). p.name) k.instance.pins in
      let here : slice_get pins a.pin ≡ Some h.pin.name
      = get_mapped (λ (p : Pin). p.name) k.instance.pins a.pin h.pin (ap (λ (i : Instance). slice_get i.pins a.pin) (sym one) ∙ h.is_pin) in
      let there : slice_get pins b.pin ≡ Some k.pin.name = get_mapped (λ (p : Pin). p.name) k.instance.pins b.pin k.pin k.is_pin in
      let named : h.pin.name ≡ k.pin.name = sym (ap (λ (n : PinName). n.pin) h.named) ∙ f ∙ ap (λ (n : PinName). n.pin) k.named in
      let pin : a.pin ≡ b.pin = one_place pins a.pin b.pin k.pin.name (new_apart pins [] shape).0 (here ∙ ap Some named) there in
      λ i. record { instance = place i; pin = pin i }

pub pins_differ : PinsDiffer
pins_differ text netlist a b x y d =
    subst (λ (n : Netlist). HasPin n a x → HasPin n b y → x.instance ≡ y.instance → x.pin ≡ y.pin → a ≡ b) (sym d.is)
    (own_differ text (own_netlist text netlist d) a b x y)

-- ---- the pins of a renewed netlist

get_front : {X : Type 0} (xs ys : List X) (k : ℕ) (x : X) → slice_get xs k ≡ Some x → slice_get (xs ++ ys) k ≡ Some x
get_front [] ys k x e = absurd (none-some x e)
get_front (y ∷ xs) ys zero x e = e
get_front (y ∷ xs) ys (suc k) x e = get_front xs ys k x e

get_behind : {X : Type 0} (xs ys : List X) (k : ℕ) → slice_get (xs ++ ys) (length xs + k) ≡ slice_get ys k
get_behind [] ys k = ap (slice_get ys) (let e : 0 + k ≡ k = omega arith in e)
get_behind (x ∷ xs) ys k = ap (slice_get (x ∷ (xs ++ ys))) (let e : length (x ∷ xs) + k ≡ suc (length xs + k) = omega arith in e) ∙ get_behind xs ys k

-- a pin by the shapes of instances
record HasShape (shapes : List Shape) (at : PinRef) (name : PinName) : Type 0 where
  shape : Shape
  is_shape : slice_get shapes at.instance ≡ Some shape
  is_pin : slice_get shape.pins at.pin ≡ Some name.pin
  instance : name.instance ≡ shape.name
  cell : name.cell ≡ shape.cell

shape_of_pin : (netlist : Netlist) (at : PinRef) (name : PinName) → HasPin netlist at name → HasShape (map shape_of netlist.instances) at name
shape_of_pin netlist at name h = record {
  shape = shape_of h.instance;
  is_shape = get_mapped shape_of netlist.instances at.instance h.instance h.is_instance;
  is_pin = get_mapped (λ (p : Pin). p.name) h.instance.pins at.pin h.pin h.is_pin ∙ ap Some (sym (ap (λ (n : PinName). n.pin) h.named));
  instance = ap (λ (n : PinName). n.instance) h.named;
  cell = ap (λ (n : PinName). n.cell) h.named;
}

pin_of_shape : (netlist : Netlist) (at : PinRef) (name : PinName) → HasShape (map shape_of netlist.instances) at name → HasPin netlist at name
pin_of_shape netlist at name h =
    let (i, e, f) = get_map shape_of netlist.instances at.instance h.shape h.is_shape in
    let (p, g, k) = get_map (λ (p : Pin). p.name) i.pins at.pin name.pin (ap (λ (s : Shape). slice_get s.pins at.pin) (sym f) ∙ h.is_pin) in
    let instance : name.instance ≡ i.name = h.instance ∙ ap (λ (s : Shape). s.name) f in
    let cell : name.cell ≡ i.cell = h.cell ∙ ap (λ (s : Shape). s.cell) f in
    record {
      instance = i;
      pin = p;
      is_instance = e;
      is_pin = g;
      named = λ j. record { instance = instance j; cell = cell j; pin = k j };
    }

pub pins_are_renewed : PinsAreRenewed
pins_are_renewed netlist rewires cells renewed r =
    let olds = map shape_of netlist.instances in
    let news = map new_shape cells in
    record {
      old = λ at name h.
          let s = shape_of_pin netlist at name h in
          pin_of_shape renewed at name (record {
            shape = s.shape;
            is_shape = ap (λ xs. slice_get xs at.instance) r.instances ∙ get_front olds news at.instance s.shape s.is_shape;
            is_pin = s.is_pin;
            instance = s.instance;
            cell = s.cell;
          });
      inputs = λ k c e. pin_of_shape renewed (new_pin netlist k 0) (input_name c) (record { shape = new_shape c; is_shape = put k c e; is_pin = refl; instance = refl; cell = refl });
      outputs = λ k c e. pin_of_shape renewed (new_pin netlist k 1) (output_name c) (record { shape = new_shape c; is_shape = put k c e; is_pin = refl; instance = refl; cell = refl });
      others = λ at name h.
          let s = shape_of_pin renewed at name h in
          elim (get_either olds news at.instance s.shape (ap (λ xs. slice_get xs at.instance) (sym r.instances) ∙ s.is_shape)) [
            | inl e ↦ inl (pin_of_shape netlist at name (record { shape = s.shape; is_shape = e; is_pin = s.is_pin; instance = s.instance; cell = s.cell }))
            | inr (j, e, f) ↦ (let (c, g, k) = get_map new_shape cells j s.shape f in
                inr (new_one at name j c g (e ∙ ap (λ n. n + j) (length-map netlist.instances shape_of)) s k))
          ];
    }
  where
    put : (k : ℕ) (c : NewCell) → slice_get cells k ≡ Some c → slice_get (map shape_of renewed.instances) (length netlist.instances + k) ≡ Some (new_shape c)
    put k c e =
        ap (λ xs. slice_get xs (length netlist.instances + k)) r.instances
        ∙ ap (λ n. slice_get (map shape_of netlist.instances ++ map new_shape cells) (n + k)) (sym (length-map netlist.instances shape_of))
        ∙ get_behind (map shape_of netlist.instances) (map new_shape cells) k ∙ get_mapped new_shape cells k c e

    new_one : (at : PinRef) (name : PinName) (k : ℕ) (c : NewCell) → slice_get cells k ≡ Some c → at.instance ≡ length netlist.instances + k
        → (s : HasShape (map shape_of renewed.instances) at name) → s.shape ≡ new_shape c → IsNewPin netlist cells at name
    new_one at name k c e place s same = record {
      k = k;
      cell = c;
      is = e;
      which = by_pin at.pin refl (ap (λ (x : Shape). slice_get x.pins at.pin) (sym same) ∙ s.is_pin);
    }
      where
        instance : name.instance ≡ c.name
        instance = s.instance ∙ ap (λ (x : Shape). x.name) same

        cell : name.cell ≡ c.cell
        cell = s.cell ∙ ap (λ (x : Shape). x.cell) same

        by_pin : (p : ℕ) → at.pin ≡ p → slice_get (c.input ∷ c.output ∷ []) p ≡ Some name.pin
            → ((at ≡ new_pin netlist k 0) × (name ≡ input_name c)) ⊎ ((at ≡ new_pin netlist k 1) × (name ≡ output_name c))
        by_pin zero i u =
            let pin : name.pin ≡ c.input = sym (same_Some c.input name.pin u) in
            inl ((λ j. record { instance = place j; pin = i j }), (λ j. record { instance = instance j; cell = cell j; pin = pin j }))
        by_pin (suc zero) i u =
            let pin : name.pin ≡ c.output = sym (same_Some c.output name.pin u) in
            inr ((λ j. record { instance = place j; pin = i j }), (λ j. record { instance = instance j; cell = cell j; pin = pin j }))
        by_pin (suc (suc p)) i u = absurd (none-some name.pin u)
