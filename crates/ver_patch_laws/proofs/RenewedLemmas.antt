-- The law of the netlists of changed texts.
use Rattle.std.proofs.Common.{◌≡◌, ℕ, ◌+◌, ◌≤◌, ◌^◌, List, [], ◌∷◌, ◌++◌, map, length, Option, Some, None, refl, sym, ap, ◌∙◌, subst, arith}
use Rattle.std.specs.Prelude.{◌≢◌, ◌↔◌, IfSome, option_and_then, slice_get}
use Rattle.std.specs.Fmt.{decimal}
use Rattle.std.specs.List.{Contains}
use Rattle.std.proofs.lemmas.List.{length-map}
use Rattle.std.proofs.lemmas.List.Sorted.{Contains-permutation, IsPermutation-sym}
use Rattle.std.proofs.lemmas.Option.{same_Some}
use Rattle.vg_num.specs.Number.{value_of}
use Rattle.vg_num.proofs.ReadingLemmas.{decimal_writes}
use Rattle.ver_text.specs.Names.{name_of}
use Rattle.ver_items.specs.Connections.{expression_of}
use Rattle.ver_items.specs.Declarations.{declared_of, range_in}
use Rattle.ver_module.specs.declared.link.Link.{Link}
use Rattle.ver_module.specs.declared.link.Link.TheVariants.{Open, One, Many}
use Rattle.ver_net.specs.Laws.{HasLink}
use Rattle.ver_net.specs.declared.pin_ref.PinRef.{PinRef}
use Rattle.ver_patch.specs.Pins.{IsOnOneNet}
use Rattle.ver_text.specs.declared.kind.Kind.TheVariants.{Identifier}
use Rattle.ver_text.specs.Kinds.{digits_kind}
use Rattle.ver_patch_text_laws.specs.NewWords.{identifier_bytes, net_words, select_words, word}
use Rattle.ver_patch_text_laws.specs.Words.{Word}
use Rattle.ver_patch_text_laws.specs.Texts.{IsNetText}
use Rattle.ver_patch_text_laws.proofs.TextLemmas.{net_named}
use Rattle.ver_patch_laws.proofs.InstanceLemmas.{instances_stay}
use Rattle.ver_patch_laws.specs.Declared.{AreDeclared}
use Rattle.ver_patch_laws.specs.LinkLaws.{LinksAre}
use Rattle.ver_patch_laws.specs.Links.{IsLinked, IsOneNet, NamedLink, NetName, link_at, links_of, name_of_net}
use Rattle.ver_patch_laws.specs.Links.NamedLink.{one, several}
use Rattle.ver_patch_laws.proofs.ConnectionLemmas.{HasNet}
use Rattle.ver_patch_laws.proofs.DeclareLemmas.{declarations_stay}
use Rattle.ver_patch_laws.proofs.LinkedLemmas.{links_stay}
use Rattle.ver_patch_laws.proofs.NameLemmas.{HaveRanges, link_is, link_same}
use Rattle.ver_patch_laws.proofs.PinLemmas.{instances_pins, linked_section, links_pins, pin_sections, section_linked}
use Rattle.ver_patch_laws.proofs.RelinkedLemmas.{In, each_in}
use Rattle.ver_patch_laws.specs.Names.{HasNamedLink, named_link_of}
use Rattle.ver_patch_laws.proofs.DeclaredLemmas.{directions_stay, supplies_stay}
use Rattle.ver_patch_laws.proofs.FromLemmas.{name_is}
use Rattle.ver_patch_laws.proofs.NameFlawLemmas.{ranges, wires_scalar}
use Rattle.ver_patch_laws.proofs.NamedLemmas.{own_names, own_netlist}
use Rattle.ver_patch_laws.proofs.PinFromLemmas.{PinFrom, pin_from}
use Rattle.ver_patch_laws.proofs.SaidNetLemmas.{IsShared, port_moves, shared_tied, supply_moves, tied_shared}
use Rattle.ver_patch_laws.proofs.WrittenLemmas.{one_net, one_now, written_rewires}
use Rattle.ver_syntax.specs.declared.fault.VerKind.TheVariants.{Grammar, InstanceTwice, NameClash}
use Rattle.ver_items.specs.Sections.{Section, items}
use Rattle.ver_module.specs.Netlists.{Instance, Netlist, Pin}
use Rattle.ver_file.specs.Flaws.{flaws_at, flaws_of}
use Rattle.ver_file.specs.Modules.{Denotes}
use Rattle.ver_file.specs.Netlists.{instances_of, netlist_of, pin_of}
use Rattle.ver_patch.specs.NewCells.{NewCell}
use Rattle.ver_patch.specs.Rewires.{Rewire}
use Rattle.ver_patch_text_laws.specs.Laws.{IsChanged}
use Rattle.ver_patch_text_laws.proofs.LawLemmas.{each_of, modules_stay}
use Rattle.ver_patch_laws.proofs.NewNameLemmas.{instances_differ}
use Rattle.ver_patch_laws.specs.Consistent.{IsConsistent, Writes, WritesOne}
use Rattle.ver_patch_laws.specs.Laws.{IsReadAgain, NetlistsAreRenewed}
use Rattle.ver_patch_laws.specs.Renewed.{HasCause, IsKept, IsRenewed, new_pin}
use Rattle.ver_patch_laws.proofs.ItemFromLemmas.{assigned_came, assigned_stays, no_assignment_flaws}
use Rattle.ver_patch_laws.proofs.PinFlawLemmas.{no_connection_flaws}
use Rattle.ver_patch_laws.proofs.SaidFlawLemmas.{no_clashes, no_direction_flaws, no_port_flaws}
use Rattle.ver_patch_laws.proofs.SetLemmas.{contains_in, each_all, each_from, each_weaker, get_in, in_contains}
use Rattle.ver_patch_laws.proofs.SoundLemmas.{HasNone, none_items}

-- a text is that of one net
few_written : (k : ℕ) → k ≤ 2 ^ 20 → value_of (decimal k) ≡ k
few_written k few = (decimal_writes k (omega (arith, few))).value

bits_once : (a b : Option ℕ) → IfSome a (λ k. k ≤ 2 ^ 20) → IfSome b (λ k. k ≤ 2 ^ 20) → select_words a ≡ select_words b → a ≡ b
bits_once None None f g e = refl
bits_once None (Some k) f g e = absurd (cc)
bits_once (Some k) None f g e = absurd (cc)
bits_once (Some j) (Some k) f g e =
    let words : word (digits_kind (decimal j)) (decimal j) ≡ word (digits_kind (decimal k)) (decimal k) = cc in
    ap Some (sym (few_written j f) ∙ ap (λ (w : Word). value_of w.bytes) words ∙ few_written k g)

written_once : (text : List ℕ) (t u : IsNetText text) → name_of_net t.net ≡ name_of_net u.net
written_once text t u =
    let words : net_words t.net ≡ net_words u.net = sym (net_named text t) ∙ net_named text u in
    let first : word Identifier (identifier_bytes t.net.escaped t.net.base) ≡ word Identifier (identifier_bytes u.net.escaped u.net.base) = cc in
    let rest : select_words t.net.bit ≡ select_words u.net.bit = cc in
    let base : t.net.base ≡ u.net.base = sym (name_is t.net t.writable.plain) ∙ ap (λ (w : Word). name_of w.bytes) first ∙ name_is u.net u.writable.plain in
    λ i. record { base = base i; bit = bits_once t.net.bit u.net.bit t.few u.few rest i }

module _ (text : List ℕ) (rewires : List Rewire) (cells : List NewCell) (wires : List (List ℕ)) (new : List ℕ)
    (c : IsChanged text (netlist_of text) rewires cells wires new) (h : IsConsistent (netlist_of text) rewires cells wires) where
  flawless : flaws_of new ≡ []
  flawless =
      let names = no_clashes text rewires cells wires new c h in
      let once = instances_differ text (netlist_of text) rewires cells wires new c h.cells_new in
      let syntax = none_items new (each_from (HasNone new) (items new) (λ item i. record {
        directions = no_direction_flaws text rewires cells wires new c h item i;
        ports = no_port_flaws text rewires cells wires new c h item i;
        assigned = no_assignment_flaws text rewires cells wires new c h item i;
        connected = no_connection_flaws text rewires cells wires new c h item i;
      })) in
      λ i. flaws_at NameClash (names i) ++ (flaws_at InstanceTwice (once i) ++ flaws_at Grammar (syntax i))

  -- the changed text denotes a netlist
  pub denotes : Denotes new (netlist_of new)
  denotes =
      let m = modules_stay text (netlist_of text) rewires cells wires new c in
      record { tokens = m.0; grammar = m.1; flawless = flawless; is = refl }

  -- ---- links

  links : LinksAre text rewires cells new
  links =
      links_stay text (netlist_of text) rewires cells wires new c
      (each_all (λ w. range_in (declared_of text) w ≡ None) wires (wires_scalar text rewires cells wires new c h))

  -- what the old and the new pins are linked to, in the texts
  old_link : (at : PinRef) (named : NamedLink) → HasNamedLink (netlist_of text) at named ↔ IsLinked text at named
  old_link = own_names text (own_netlist text (netlist_of text) c.denotes)

  now_link : (at : PinRef) (named : NamedLink) → HasNamedLink (netlist_of new) at named ↔ IsLinked new at named
  now_link = own_names new denotes

  -- a net is written once
  one_written : (net : List ℕ) (name : NetName) → WritesOne (netlist_of text) wires net → (w : Writes net name) → IsOneNet text w.net.net
  one_written net name own w e =
      let same = written_once net own.writes.net w.net in
      ap (λ (a : NetName). range_in (declared_of text) a.base) (sym same)
      ∙ one_net text rewires cells wires new c h net own (ap (λ (a : NetName). a.bit) same ∙ e)

  from_one : (x : NewCell) (k : ℕ) → slice_get cells k ≡ Some x → WritesOne (netlist_of text) wires x.from
  from_one x k e =
      each_in (λ (y : NewCell). WritesOne (netlist_of text) wires y.from) cells x (each_of (λ (y : NewCell). WritesOne (netlist_of text) wires y.from) cells h.from) (get_in cells k x e)

  to_one : (x : NewCell) (k : ℕ) → slice_get cells k ≡ Some x → WritesOne (netlist_of text) wires x.to
  to_one x k e =
      each_in (λ (y : NewCell). WritesOne (netlist_of text) wires y.to) cells x (each_of (λ (y : NewCell). WritesOne (netlist_of text) wires y.to) cells h.to) (get_in cells k x e)

  count : length (links_of text) ≡ length (instances_of text)
  count =
      ap length (links_pins text (items text)) ∙ length-map (pin_sections (items text)) (map (link_at text))
      ∙ sym (length-map (pin_sections (items text)) (map (pin_of text))) ∙ ap length (sym (instances_pins text (items text)))
      ∙ length-map (instances_of text) (λ (i : Instance). i.pins)

  -- the links of a new instance
  put_links : (k : ℕ) (x : NewCell) (from to : NetName) → slice_get cells k ≡ Some x → Writes x.from from → Writes x.to to
      → slice_get (links_of new) (length (instances_of text) + k) ≡ Some (one from ∷ one to ∷ [])
  put_links k x from to e f t =
      ap (λ n. slice_get (links_of new) (n + k)) (sym count)
      ∙ links.put k x f.net t.net e (one_written x.from from (from_one x k e) f) (one_written x.to to (to_one x k e) t)
      ∙ (λ i. Some (one (f.is i) ∷ one (t.is i) ∷ []))

  put_linked : (k pin : ℕ) (x : NewCell) (from to named : NetName) → slice_get cells k ≡ Some x → Writes x.from from → Writes x.to to
      → slice_get (one from ∷ one to ∷ []) pin ≡ Some (one named) → HasNamedLink (netlist_of new) (new_pin (netlist_of text) k pin) (one named)
  put_linked k pin x from to named e f t g =
      (now_link (new_pin (netlist_of text) k pin) (one named)).1
      (ap (option_and_then (λ (links : List NamedLink). slice_get links pin)) (put_links k x from to e f t) ∙ g)

  -- ---- why a pin is linked to what it is

  in_ordered : (r : Rewire) → In r rewires → In r c.patched.ordered
  in_ordered r i = contains_in c.patched.ordered r (Contains-permutation rewires c.patched.ordered r c.patched.same (in_contains rewires r i))

  in_rewires : (r : Rewire) → In r c.patched.ordered → Contains rewires r
  in_rewires r i =
      Contains-permutation c.patched.ordered rewires r (IsPermutation-sym rewires c.patched.ordered c.patched.same) (in_contains c.patched.ordered r i)

  one_link : (net : List ℕ) (w : WritesOne (netlist_of text) wires net) (t : Section) → HasNet new net t → link_at new t ≡ one w.name
  one_link net w t words =
      link_is new net w.writes.net (expression_of t) (one_now text rewires cells wires new c h net w) words ∙ ap one w.writes.is

  cause_of : (at : PinRef) (named : NamedLink) (t : Section) → named ≡ link_at new t → PinFrom text new (netlist_of text) c.patched.ordered cells at t
      → HasCause (netlist_of text) rewires cells at named
  cause_of at named t e (PinFrom.stays s p others same) =
      let stays : link_at text s ≡ named = link_same text new (ranges text rewires cells wires new c h) (expression_of s) (expression_of t) same ∙ sym e in
      HasCause.stays ((old_link at named).1 (subst (IsLinked text at) stays (section_linked text at s p)))
      (each_all (λ r. r.at ≢ at) rewires (each_from (λ r. r.at ≢ at) rewires (λ r i. each_in (λ (x : Rewire). x.at ≡ at → ⊥) c.patched.ordered r others (in_ordered r i))))
  cause_of at named t e (PinFrom.made r i same words) =
      let w = each_in (λ (x : Rewire). WritesOne (netlist_of text) wires x.net) c.patched.ordered r (written_rewires text rewires cells wires new c h) i in
      HasCause.rewired r w.name (in_rewires r i) same w.writes (e ∙ one_link r.net w t words)
  cause_of at named t e (PinFrom.input k x f g words) =
      let w = from_one x k f in HasCause.input k x w.name f g w.writes (e ∙ one_link x.from w t words)
  cause_of at named t e (PinFrom.output k x f g words) =
      let w = to_one x k f in HasCause.output k x w.name f g w.writes (e ∙ one_link x.to w t words)

  caused : (at : PinRef) (named : NamedLink) → HasNamedLink (netlist_of new) at named → HasCause (netlist_of text) rewires cells at named
  caused at named k =
      let (t, p, e) = linked_section new at named ((now_link at named).0 k) in
      cause_of at named t e (pin_from text rewires cells wires new c at t p)

  -- ---- ports and ties

  declared : AreDeclared text wires new
  declared = declarations_stay text (netlist_of text) rewires cells wires new c

  back : HaveRanges new text
  back name = sym (ranges text rewires cells wires new c h name)

  one_link_each : (at : PinRef) (net : ℕ) (nets : List ℕ) → HasLink (netlist_of text) at (One net) → HasLink (netlist_of text) at (Many nets) → ⊥
  one_link_each at net nets a b =
      let instances : a.instance ≡ b.instance = same_Some a.instance b.instance (sym a.is_instance ∙ b.is_instance) in
      let pins : a.pin ≡ b.pin = same_Some a.pin b.pin (sym a.is_pin ∙ ap (λ (i : Instance). slice_get i.pins at.pin) instances ∙ b.is_pin) in
      let links : One net ≡ Many nets = sym a.has_link ∙ ap (λ (p : Pin). p.link) pins ∙ b.has_link in
      absurd (cc)

  -- a pin that is linked to several nets is not rewired
  several_kept : (at : PinRef) (names : List NetName) → HasNamedLink (netlist_of text) at (several names) → IsKept rewires at
  several_kept at names k = by_link k.link k.has k.is
    where
      by_link : (link : Link) → HasLink (netlist_of text) at link → named_link_of (netlist_of text) link ≡ several names → IsKept rewires at
      by_link Open l e = absurd (cc)
      by_link (One n) l e = absurd (cc)
      by_link (Many nets) l e =
          each_all (λ r. r.at ≢ at) rewires (each_weaker (λ r. IsOnOneNet (netlist_of text) r.at) (λ r. r.at ≢ at)
          (λ r on same. one_link_each at on.0 nets (subst (λ a. HasLink (netlist_of text) a (One on.0)) same on.1) l) rewires
          (each_of (λ (r : Rewire). IsOnOneNet (netlist_of text) r.at) rewires c.rewirable.linked))

  stay : (at : PinRef) (named : NamedLink) → HasNamedLink (netlist_of text) at named → IsKept rewires at → HasNamedLink (netlist_of new) at named
  stay at named k kept = (now_link at named).1 (links.kept at named ((old_link at named).0 k) kept)

  shared_stays : (name : NetName) → IsShared text name → IsShared new name
  shared_stays name (IsShared.supplied i e) =
      supply_moves text new (ranges text rewires cells wires new c h) (λ n. sym (supplies_stay text wires new declared n)) name i e
  shared_stays name (IsShared.assigned i) = IsShared.assigned (assigned_stays text rewires cells wires new c h name i)
  shared_stays name (IsShared.linked at names k i) = IsShared.linked at names (stay at (several names) k (several_kept at names k)) i

  shared_came : (name : NetName) → IsShared new name → IsShared text name
  shared_came name (IsShared.supplied i e) = supply_moves new text back (supplies_stay text wires new declared) name i e
  shared_came name (IsShared.assigned i) = IsShared.assigned (assigned_came text rewires cells wires new c h name i)
  shared_came name (IsShared.linked at names k i) = by_cause (caused at (several names) k)
    where
      by_cause : HasCause (netlist_of text) rewires cells at (several names) → IsShared text name
      by_cause (HasCause.stays l kept) = IsShared.linked at names l i
      by_cause (HasCause.rewired r n j e w f) = absurd (cc)
      by_cause (HasCause.input n x m e f w g) = absurd (cc)
      by_cause (HasCause.output n x m e f w g) = absurd (cc)

  renewed : IsRenewed (netlist_of text) rewires cells (netlist_of new)
  renewed =
      let d = own_netlist text (netlist_of text) c.denotes in
      record {
        instances = instances_stay text (netlist_of text) rewires cells wires new c;
        stay = stay;
        rewired = λ r name among w.
            (now_link r.at (one name)).1
            (subst (λ a. IsLinked new r.at (one a)) w.is
            (links.rewired r w.net among (one_written r.net name
            (each_in (λ (x : Rewire). WritesOne (netlist_of text) wires x.net) rewires r (each_of (λ (x : Rewire). WritesOne (netlist_of text) wires x.net) rewires h.linked) (contains_in rewires r among)) w)));
        inputs = λ k x name e w. (let t = to_one x k e in put_linked k 0 x name t.name name e w t.writes refl);
        outputs = λ k x name e w. (let f = from_one x k e in put_linked k 1 x f.name name name e f.writes w refl);
        caused = caused;
        ports = λ name direction. (
          port_moves text new (ranges text rewires cells wires new c h) (λ n. sym (directions_stay text wires new declared n)) name direction,
          port_moves new text back (directions_stay text wires new declared) name direction,
        );
        tied = λ name. (
          λ t. shared_tied new denotes name (shared_stays name (tied_shared text d name t)),
          λ t. shared_tied text d name (shared_came name (tied_shared new denotes name t)),
        );
      }

pub netlists_are_renewed : NetlistsAreRenewed
netlists_are_renewed text netlist rewires cells wires new c =
    subst (λ (n : Netlist). IsChanged text n rewires cells wires new → IsConsistent n rewires cells wires → IsReadAgain n rewires cells new) (sym c.denotes.is)
    (λ d h. record { renewed = netlist_of new; denotes = denotes text rewires cells wires new d h; is = renewed text rewires cells wires new d h }) c
