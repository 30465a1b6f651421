-- The cells that were put in are repeaters of the library, at nets of the netlist.
use Rattle.std.proofs.Common.{◌≡◌, ℕ, suc, ◌+◌, drop, drop-cons, ◌<◌, ◌==◌, Bool, cond, true, false, List, ◌∷◌, length, refl, sym, ap, ◌∙◌, subst, arith, inl, inr, All, Contains, Option, Some, None, option_map}
use Rattle.std.specs.Prelude.{option_and_then, IfSome}
use Rattle.std.specs.List.{find, slice_get, starts_with}
use Rattle.std.proofs.lemmas.Option.{slice_get_within, get_or_from_slice_get}
use Rattle.std.specs.Str.{bytes_eq}
use Rattle.std.proofs.lemmas.Bool.{cases_lt}
use Rattle.std.proofs.lemmas.List.{get_or-map, get_or_past, length-map}
use Rattle.elmore.specs.Problems.{IsRepWithin, IsSmall}
use Rattle.elmore.specs.declared.parts.Sink.{Sink}
use Rattle.lib_linear.specs.declared.repeater.Repeater.{Repeater}
use Rattle.ver_module.specs.Netlists.{Instance, Netlist, Pin, IsSound, IsWithin}
use Rattle.ver_module.specs.declared.link.Link.{Link}
use Rattle.ver_module.specs.declared.link.Link.TheVariants.{Open, One, Many}
use Rattle.ver_net.specs.declared.pin_ref.PinRef.{PinRef}
use Rattle.vg_design.proofs.ConnectedLemmas.{found_is}
use Rattle.vg_design.specs.Designs.{Design, Joined, NO_INSTANCE, instance_at, name_of, pin_on}
use Rattle.vg_design.specs.Parts.{reps_of, sink_at}
use Rattle.vg_scan.specs.declared.name.NodeName.{NodeName}
use Rattle.vg_retime.specs.Passages.{above_by, above_from, end_by, from_at, into_at, net_at, one_net, only_if, passage_at, passage_of, put_in, repeater_of, Passage}
use Rattle.vg_retime.specs.Steps.{IsAboveWithin, IsSizedEnd}

-- ---- options

then_some : {A B : Type 0} (f : A → Option B) (o : Option A) (b : B) → option_and_then f o ≡ Some b → (a : A) × (o ≡ Some a) × (f a ≡ Some b)
then_some f None b e = absurd (cc)
then_some f (Some a) b e = (a, refl, e)

map_some : {A B : Type 0} (f : A → B) (o : Option A) (b : B) → option_map f o ≡ Some b → (a : A) × (o ≡ Some a) × (f a ≡ b)
map_some f None b e = absurd (cc)
map_some f (Some a) b e = (a, refl, (cc))

only_some : (is : Bool) (p q : Passage) → only_if is p ≡ Some q → p ≡ q
only_some true p q e = (cc)
only_some false p q e = absurd (cc)

-- ---- passages

-- the repeater of a cell that was put in is one of the library, and the links of its pins are to nets of the netlist
pub record IsOurs (d : Design) (p : Passage) : Type 0 where
  pub repeater : Contains d.library.repeaters p.repeater
  pub links : All (λ pin. IsWithin (length d.netlist.nets) pin.link) p.instance.pins

links_within : (m : Netlist) (at : PinRef) → IsSound m → All (λ pin. IsWithin (length m.nets) pin.link) (instance_at m at).pins
links_within m at sound =
    elim (cases_lt at.instance (length m.instances)) [
      | inl low ↦ sound.links at.instance NO_INSTANCE low
      | inr high ↦
          subst (λ (i : Instance). All (λ pin. IsWithin (length m.nets) pin.link) i.pins) (sym (get_or_past m.instances at.instance NO_INSTANCE high))
          (λ k e low. absurd (omega arith))
    ]

repeater_among : (repeaters : List Repeater) (cell : List ℕ) (r : Repeater) → find (λ (x : Repeater). bytes_eq cell x.cell) repeaters ≡ Some r → Contains repeaters r
repeater_among repeaters cell r e = let f = found_is (λ (x : Repeater). bytes_eq cell x.cell) repeaters r e in (f.place, f.low, f.is)

put_in_among : (d : Design) (prefix : List ℕ) (i : Instance) (r : Repeater) (begins : Bool) → begins ≡ starts_with ◌==◌ i.name prefix → put_in d prefix i ≡ Some r
    → Contains d.library.repeaters r
put_in_among d prefix i r true is e =
    repeater_among d.library.repeaters i.cell r (ap (λ (b : Bool). cond b (repeater_of d.library i.cell) None) is ∙ e)
put_in_among d prefix i r false is e = let never : None ≡ Some r = ap (λ (b : Bool). cond b (repeater_of d.library i.cell) None) is ∙ e in absurd (cc)

at_ours : (d : Design) (prefix : List ℕ) (n : Joined) (at : NodeName) (p : Passage) → IsSound d.netlist → passage_at d prefix n at ≡ Some p → IsOurs d p
at_ours d prefix n at p sound e =
    let (pin, on, ours) = then_some (λ (pin : PinRef). passage_of d prefix (instance_at d.netlist pin)) (pin_on d.netlist n.id at) p e in
    let (r, is, made) = map_some (λ (r : Repeater). record { instance = instance_at d.netlist pin; repeater = r }) (put_in d prefix (instance_at d.netlist pin)) p ours in
    subst (IsOurs d) made (record {
      repeater = put_in_among d prefix (instance_at d.netlist pin) r (starts_with ◌==◌ (instance_at d.netlist pin).name prefix) refl is;
      links = links_within d.netlist pin sound;
    })

pub into_ours : (d : Design) (prefix : List ℕ) (n : Joined) (at : NodeName) (p : Passage) → IsSound d.netlist → into_at d prefix n at ≡ Some p → IsOurs d p
into_ours d prefix n at p sound e =
    let (q, on, is) = then_some (λ (q : Passage). only_if (bytes_eq at.leaf q.repeater.input) q) (passage_at d prefix n at) p e in
    subst (IsOurs d) (only_some (bytes_eq at.leaf q.repeater.input) q p is) (at_ours d prefix n at q sound on)

pub from_ours : (d : Design) (prefix : List ℕ) (n : Joined) (at : NodeName) (p : Passage) → IsSound d.netlist → from_at d prefix n at ≡ Some p → IsOurs d p
from_ours d prefix n at p sound e =
    let (q, on, is) = then_some (λ (q : Passage). only_if (bytes_eq at.leaf q.repeater.output) q) (passage_at d prefix n at) p e in
    subst (IsOurs d) (only_some (bytes_eq at.leaf q.repeater.output) q p is) (at_ours d prefix n at q sound on)

-- ---- sizes

one_within : (count : ℕ) (link : Link) (id : ℕ) → IsWithin count link → one_net link ≡ Some id → id < count
one_within count Open id h e = absurd (cc)
one_within count (One net) id h e = let same : net ≡ id = cc in subst (λ (i : ℕ). i < count) same h
one_within count (Many nets) id h e = absurd (cc)

-- the net at a pin of such a cell is one of the netlist
net_within : (d : Design) (p : Passage) (pin : List ℕ) (id : ℕ) → IsOurs d p → net_at p.instance pin ≡ Some id → id < length d.netlist.nets
net_within d p pin id ours e =
    let (q, found, link) = then_some (λ (q : Pin). one_net q.link) (find (λ (q : Pin). bytes_eq pin q.name) p.instance.pins) id e in
    let f = found_is (λ (q : Pin). bytes_eq pin q.name) p.instance.pins q found in
    one_within (length d.netlist.nets) q.link id (subst (λ (x : Pin). IsWithin (length d.netlist.nets) x.link) f.is (ours.links f.place q f.low)) link

maybe_within : (count : ℕ) (o : Option ℕ) → ((id : ℕ) → o ≡ Some id → id < count) → IfSome o (λ id. id < count)
maybe_within count None h = tt
maybe_within count (Some id) h = h id refl

module _ (d : Design) (prefix : List ℕ) (n : Joined) (sound : IsSound d.netlist) where
  above_by_within : (o : Option ℕ) → ((id : ℕ) → o ≡ Some id → id < length d.netlist.nets) → IsAboveWithin (length d.netlist.nets) (above_by o)
  above_by_within None h = tt
  above_by_within (Some id) h = h id refl

  above_within_of : (o : Option Passage) → ((p : Passage) → o ≡ Some p → IsOurs d p) → IsAboveWithin (length d.netlist.nets) (above_from o)
  above_within_of None h = tt
  above_within_of (Some p) h = above_by_within (net_at p.instance p.repeater.input) (λ id e. net_within d p p.repeater.input id (h p refl) e)

  pub above_within : (at : NodeName) → IsAboveWithin (length d.netlist.nets) (above_from (from_at d prefix n at))
  above_within at = above_within_of (from_at d prefix n at) (λ p e. from_ours d prefix n at p sound e)

  module _ (reps : All IsRepWithin (reps_of d.library.repeaters)) where
    rep_within : (r : Repeater) → Contains d.library.repeaters r → IsRepWithin r.rep
    rep_within r (k, low, is) =
        let size = length-map d.library.repeaters (λ (x : Repeater). x.rep) in
        subst IsRepWithin (get_or-map (λ (x : Repeater). x.rep) d.library.repeaters k r r.rep low ∙ ap (λ (x : Repeater). x.rep) is) (reps k r.rep (omega (arith, size, low)))

    end_sized_of : (o : Option Passage) (goal : Option Sink) → ((p : Passage) → o ≡ Some p → IsOurs d p) → IfSome goal (λ g. IsSmall g.required)
        → IsSizedEnd (length d.netlist.nets) (end_by o goal)
    end_sized_of o None ours small = tt
    end_sized_of None (Some goal) ours small = small
    end_sized_of (Some p) (Some goal) ours small =
        let rep = rep_within p.repeater (ours p refl).repeater in
        (rep.r, rep.k, maybe_within (length d.netlist.nets) (net_at p.instance p.repeater.output) (λ id e. net_within d p p.repeater.output id (ours p refl) e))

    pub end_sized : (v : ℕ) → IfSome (sink_at d.rows n.par v) (λ g. IsSmall g.required)
        → IsSizedEnd (length d.netlist.nets) (end_by (into_at d prefix n (name_of n.par v)) (sink_at d.rows n.par v))
    end_sized v small =
        end_sized_of (into_at d prefix n (name_of n.par v)) (sink_at d.rows n.par v) (λ p e. into_ours d prefix n (name_of n.par v) p sound e) small

-- ---- the net at a pin, pin by pin

module _ (instance : Instance) (pin : List ℕ) (i : ℕ) (p : Pin)
    (rest : net_at instance pin ≡ option_and_then (λ q. one_net q.link) (find (λ q. bytes_eq pin q.name) (drop i instance.pins)))
    (here : slice_get instance.pins i ≡ Some p) where
  next_pin : drop i instance.pins ≡ p ∷ drop (suc i) instance.pins
  next_pin =
      drop-cons instance.pins i p (slice_get_within instance.pins i p here)
      ∙ ap (λ (q : Pin). q ∷ drop (suc i) instance.pins) (get_or_from_slice_get instance.pins i p p here)

  from_here : net_at instance pin ≡ option_and_then (λ q. one_net q.link) (cond (bytes_eq pin p.name) (Some p) (find (λ q. bytes_eq pin q.name) (drop (suc i) instance.pins)))
  from_here = rest ∙ ap (λ (qs : List Pin). option_and_then (λ q. one_net q.link) (find (λ q. bytes_eq pin q.name) qs)) next_pin

  pub net_here : bytes_eq pin p.name ≡ true → one_net p.link ≡ net_at instance pin
  net_here e =
      sym (from_here
      ∙ ap (λ (b : Bool). option_and_then (λ q. one_net q.link) (cond b (Some p) (find (λ q. bytes_eq pin q.name) (drop (suc i) instance.pins)))) e)

  pub net_later : bytes_eq pin p.name ≡ false → net_at instance pin ≡ option_and_then (λ q. one_net q.link) (find (λ q. bytes_eq pin q.name) (drop (i + 1) instance.pins))
  net_later e =
      let next : suc i ≡ i + 1 = omega arith in
      from_here
      ∙ ap (λ (b : Bool). option_and_then (λ q. one_net q.link) (cond b (Some p) (find (λ q. bytes_eq pin q.name) (drop (suc i) instance.pins)))) e
      ∙ ap (λ (k : ℕ). option_and_then (λ q. one_net q.link) (find (λ q. bytes_eq pin q.name) (drop k instance.pins))) next
