-- The laws of the links of changed netlists.
use Rattle.std.proofs.Common.{◌≡◌, ℕ, zero, suc, ◌+◌, List, [], ◌∷◌, ◌++◌, map, length, Some, None, refl, sym, ap, ◌∙◌, subst, arith, append_assoc, get_or, ◌<◌, ◌&&◌, false, inl, inr}
use Rattle.std.specs.Prelude.{drop, slice_get}
use Rattle.std.specs.List.{flat_map}
use Rattle.std.proofs.lemmas.List.{append-nil, length-map}
use Rattle.std.proofs.lemmas.List.Sorted.{All-permutation, Contains-permutation}
use Rattle.std.proofs.lemmas.Option.{none-some}
use Rattle.ver_syntax.specs.declared.row.Place.{Place}
use Rattle.ver_syntax.specs.declared.row.Place.TheVariants.{Start, Instances, Pins, Connection}
use Rattle.ver_syntax.specs.declared.row.Row.{Row}
use Rattle.ver_syntax.specs.Grammar.{is}
use Rattle.ver_text.specs.declared.kind.Kind.TheVariants.{Identifier}
use Rattle.ver_items.specs.Connections.{connection_of, expression_of}
use Rattle.ver_items.specs.Declarations.{declared_of, range_in}
use Rattle.ver_items.specs.Sections.{Section, instances_in, is_name_in, is_place, items, pins_in, sections, stands_in}
use Rattle.ver_module.specs.Netlists.{Instance, Netlist}
use Rattle.ver_file.specs.Netlists.{instances_by, pin_of}
use Rattle.ver_file.proofs.ListLemmas.{flat_map-append}
use Rattle.ver_file.proofs.NetLemmas.{no_mapped}
use Rattle.ver_net.specs.declared.pin_ref.PinRef.{PinRef}
use Rattle.ver_patch.specs.Pins.{IsOnOneNet}
use Rattle.ver_patch.specs.NewCells.{NewCell}
use Rattle.ver_patch.specs.Rewires.{Rewire}
use Rattle.ver_patch.proofs.StandLemmas.{no_sections}
use Rattle.ver_patch_text_laws.specs.Texts.{IsNewCell}
use Rattle.ver_patch_text_laws.specs.Words.{words_of}
use Rattle.ver_patch_text_laws.proofs.TextLemmas.{Each}
use Rattle.ver_patch_text_laws.proofs.LawLemmas.{each_of}
use Rattle.ver_patch_laws.proofs.NewRowLemmas.{wires_none}
use Rattle.ver_patch_laws.proofs.SectionLemmas.{names_off}
use Rattle.ver_patch_laws.specs.LinkLaws.{LinksStay}
use Rattle.ver_patch_laws.specs.Links.{IsLinked, NamedLink, link_at, links_of, name_of_net}
use Rattle.ver_patch_laws.proofs.CellLemmas.{IsCellSection, cell_sections}
use Rattle.ver_patch_laws.proofs.ConnectionLemmas.{HasNet}
use Rattle.ver_patch_laws.proofs.DeclareLemmas.{declarations_stay, module_items}
use Rattle.ver_patch_laws.proofs.ItemLemmas.{AreItems, Paired, changed_items}
use Rattle.ver_patch_laws.proofs.LinkLemmas.{conn_kept, conn_made, drop_first, expression_same, one_section_at, pairs_length, pin_free, same_rewire}
use Rattle.ver_patch_laws.proofs.NameLemmas.{link_is, link_same}
use Rattle.ver_patch_laws.proofs.PinLemmas.{IsPin, get_mapped, instances_pins, linked_section, links_pins, pin_quits, pin_sections, pins_by, section_linked}
use Rattle.ver_patch_laws.proofs.RangeLemmas.{ranges_stay}
use Rattle.ver_patch_laws.proofs.RelinkedLemmas.{ArePairs, In, each_in, pair_at, sections_relinked}
use Rattle.ver_patch_laws.proofs.SameLemmas.{pairs_append, pairs_flat, pairs_map}
use Rattle.ver_patch_laws.proofs.WalkLemmas.{IsFree, IsNewNet}

-- ---- lists

get_front : {X : Type 0} (xs ys : List X) (k : ℕ) (x : X) → slice_get xs k ≡ Some x → slice_get (xs ++ ys) k ≡ Some x
get_front [] ys k x e = absurd (none-some x e)
get_front (y ∷ xs) ys zero x e = e
get_front (y ∷ xs) ys (suc k) x e = get_front xs ys k x e

get_behind : {X : Type 0} (xs ys : List X) (k : ℕ) → slice_get (xs ++ ys) (length xs + k) ≡ slice_get ys k
get_behind [] ys k = ap (slice_get ys) (let e : 0 + k ≡ k = omega arith in e)
get_behind (x ∷ xs) ys k = ap (slice_get (x ∷ (xs ++ ys))) (let e : length (x ∷ xs) + k ≡ suc (length xs + k) = omega arith in e) ∙ get_behind xs ys k

in_at : {X : Type 0} (xs : List X) (k : ℕ) (x d : X) → k < length xs → get_or xs k d ≡ x → In x xs
in_at [] k x d low e = absurd (omega (arith, low))
in_at (y ∷ xs) zero x d low e = inl (sym e)
in_at (y ∷ xs) (suc k) x d low e = inr (in_at xs k x d (omega (arith, low)) e)

-- ---- the pins of two texts

names_alike : (place : Place) (r q : Row) → r.place ≡ q.place → r.kind ≡ q.kind → is_name_in place r ≡ is_name_in place q
names_alike place r q e f = λ i. is Identifier (f i) && is_place place (e i)

-- a pin of a new instance: its two sections have the words of its nets
pub record IsCellPins (new : List ℕ) (c : NewCell) (pins : List Section) : Type 0 where
  pub input : Section
  pub output : Section
  pub pins_are : pins ≡ input ∷ output ∷ []
  pub from : HasNet new c.from input
  pub to : HasNet new c.to output

cells_pins : (new : List ℕ) (ss : List Section) (cells : List NewCell) → ArePairs (IsCellSection new) ss cells → ArePairs (IsCellPins new) cells (pin_sections ss)
cells_pins new _ _ ArePairs.done = ArePairs.done
cells_pins new _ _ (ArePairs.pair {x = s} {y = c} {xs = ss} {ys = cells} p h) =
    subst (λ ps. ArePairs (IsCellPins new) (c ∷ cells) (map pins_in ps ++ pin_sections ss)) (sym p.instances)
    (ArePairs.pair (record { input = p.input; output = p.output; pins_are = p.pins; from = p.from; to = p.to }) (cells_pins new ss cells h))

module _ (text new : List ℕ) (netlist : Netlist) (all : List Rewire) (cells : List NewCell) (wires : List (List ℕ)) where
  -- the sections of the pins of a text, and those of the new one, before those of new instances
  pub record ArePins : Type 0 where
    pub now : List (List Section)
    pub put : List (List Section)
    pub paired : ArePairs (ArePairs (Paired text new netlist all cells wires)) (pin_sections (items text)) now
    pub all_now : pin_sections (items new) ≡ now ++ put
    pub cells_are : ArePairs (IsCellPins new) cells put

  item_pins : (s t : Section) → Paired text new netlist all cells wires s t → ArePairs (ArePairs (Paired text new netlist all cells wires)) (pins_by s) (pins_by t)
  item_pins s t p =
      let relinked = λ (place : Place) (off : is_place place Connection ≡ false) (rows others : List Row).
      sections_relinked text new (IsFree netlist all) (IsNewNet text new netlist all) (is_name_in place) (names_alike place) (names_off place off) rows others in
      pairs_map (Paired text new netlist all cells wires) (ArePairs (Paired text new netlist all cells wires)) pins_in pins_in
      (λ i j h. relinked Pins refl i.body j.body h.body) (instances_in s) (instances_in t) (relinked Instances refl s.body t.body p.body)

  items_pins : (ss ts : List Section) → ArePairs (Paired text new netlist all cells wires) ss ts
      → ArePairs (ArePairs (Paired text new netlist all cells wires)) (pin_sections ss) (pin_sections ts)
  items_pins ss ts h =
      pairs_flat (Paired text new netlist all cells wires) (ArePairs (Paired text new netlist all cells wires)) pins_by pins_by item_pins ss ts h

  no_pins : (ss : List Section) → flat_map (instances_by new) ss ≡ [] → pin_sections ss ≡ []
  no_pins ss e = no_mapped (map (pin_of new)) (pin_sections ss) (sym (instances_pins new ss) ∙ ap (map (λ (i : Instance). i.pins)) e)

  pub pins_are : Each IsNewCell cells → AreItems text new netlist all cells wires → ArePins
  pins_are made i =
      let put = sections (stands_in Start) i.put in
      let wired = sections (stands_in Start) i.wired in
      let last : Section = record { head = i.last; body = [] } in
      let end : Section = record { head = i.end; body = [] } in
      let alone : (r : Row) → pin_sections (record { head = r; body = [] } ∷ []) ≡ [] = λ r. ap (λ ss. map pins_in ss ++ []) (no_sections (is_name_in Instances)) in
      let none : pin_sections wired ≡ []
      = no_pins wired (ap (λ rs. flat_map (instances_by new) (sections (stands_in Start) rs)) (sym (append-nil i.wired))
      ∙ wires_none new wires i.wired [] i.wires_are tt ∙ ap (flat_map (instances_by new)) (no_sections (stands_in Start))) in
      let olds : pin_sections (items text) ≡ pin_sections i.heads ++ pin_sections i.middles
      = ap pin_sections i.items_are ∙ flat_map-append pins_by i.heads (i.middles ++ last ∷ [])
      ∙ ap (λ ps. pin_sections i.heads ++ ps) (flat_map-append pins_by i.middles (last ∷ []) ∙ ap (λ ps. pin_sections i.middles ++ ps) (alone i.last)
      ∙ append-nil (pin_sections i.middles)) in
      let news : pin_sections (items new) ≡ pin_sections i.heads_now ++ (pin_sections i.middles_now ++ pin_sections put)
      = ap pin_sections i.items_now ∙ flat_map-append pins_by i.heads_now (wired ++ (i.middles_now ++ (put ++ end ∷ [])))
      ∙ ap (λ ps. pin_sections i.heads_now ++ ps) (flat_map-append pins_by wired (i.middles_now ++ (put ++ end ∷ []))
      ∙ ap (λ ps. ps ++ pin_sections (i.middles_now ++ (put ++ end ∷ []))) none
      ∙ flat_map-append pins_by i.middles_now (put ++ end ∷ [])
      ∙ ap (λ ps. pin_sections i.middles_now ++ ps) (flat_map-append pins_by put (end ∷ []) ∙ ap (λ ps. pin_sections put ++ ps) (alone i.end)
      ∙ append-nil (pin_sections put))) in
      record {
        now = pin_sections i.heads_now ++ pin_sections i.middles_now;
        put = pin_sections put;
        paired =
            subst (λ ps. ArePairs (ArePairs (Paired text new netlist all cells wires)) ps (pin_sections i.heads_now ++ pin_sections i.middles_now)) (sym olds)
            (pairs_append (ArePairs (Paired text new netlist all cells wires)) (pin_sections i.heads) (pin_sections i.heads_now) (pin_sections i.middles) (pin_sections i.middles_now)
            (items_pins i.heads i.heads_now i.heads_paired) (items_pins i.middles i.middles_now i.middles_paired));
        all_now = news ∙ sym (append_assoc (pin_sections i.heads_now) (pin_sections i.middles_now) (pin_sections put));
        cells_are = cells_pins new put cells (cell_sections new cells made i.put i.cells_are);
      }

  -- the section of a pin in the new text
  record IsThere (at : PinRef) (s : Section) : Type 0 where
    section : Section
    is_pin : IsPin (pin_sections (items new)) at section
    paired : Paired text new netlist all cells wires s section

  there : ArePins → (at : PinRef) (s : Section) → IsPin (pin_sections (items text)) at s → IsThere at s
  there a at s p =
      let (qs, e, h) = pair_at (ArePairs (Paired text new netlist all cells wires)) (pin_sections (items text)) a.now at.instance p.pins a.paired p.instance in
      let (t, f, k) = pair_at (Paired text new netlist all cells wires) p.pins qs at.pin s h p.pin in
      record {
        section = t;
        is_pin = record {
          pins = qs;
          instance = ap (λ ps. slice_get ps at.instance) a.all_now ∙ get_front a.now a.put at.instance qs e;
          pin = f;
        };
        paired = k;
      }

-- ---- the law

pub links_stay : LinksStay
links_stay text netlist rewires cells wires new c scalars =
    let d = c.denotes in
    let p = c.patched in
    let all = p.ordered in
    let linked = each_of (λ (r : Rewire). IsOnOneNet netlist r.at) all (All-permutation (λ (r : Rewire). IsOnOneNet netlist r.at) rewires all p.same c.rewirable.linked) in
    let made = each_of IsNewCell cells c.written.made in
    let i = changed_items text netlist rewires cells wires new c in
    let a = pins_are text new netlist all cells wires made i in
    let ranges = ranges_stay text wires new (declarations_stay text netlist rewires cells wires new c)
    (each_of (λ name. range_in (declared_of text) name ≡ None) wires scalars) in
    let quits = pin_quits (items text) (module_items text d.grammar) in
    record {
      kept = λ at link h others.
          let (s, q, e) = linked_section text at link h in
          let t = there text new netlist all cells wires a at s q in
          let apart = each_of (λ (r : Rewire). r.at ≡ at → ⊥) all (All-permutation (λ (r : Rewire). r.at ≡ at → ⊥) rewires all p.same others) in
          let same = conn_kept text new netlist all (drop 1 s.body) (drop 1 t.section.body)
          (drop_first text new netlist all s.body t.section.body t.paired.body (quits at s q)) (pin_free text netlist d all linked at s q apart) in
          subst (IsLinked new at)
          (sym (e ∙ link_same text new ranges (expression_of s) (expression_of t.section) (expression_same text new (connection_of s) (connection_of t.section) same)))
          (section_linked new at t.section t.is_pin);
      rewired = λ r t among one.
          let (k, low, found) = Contains-permutation rewires all r p.same among in
          let own = in_at all k r r low found in
          let o = one_section_at text netlist d r.at (each_in (λ r. IsOnOneNet netlist r.at) all r linked own) in
          let s = o.section in
          let n = there text new netlist all cells wires a r.at s o.is_pin in
          let m = conn_made text new netlist all (drop 1 s.body) (drop 1 n.section.body)
          (drop_first text new netlist all s.body n.section.body n.paired.body (quits r.at s o.is_pin)) o.first o.more o.parts r own o.begins in
          let same = same_rewire text netlist d all linked p.rising m.rewire r m.own own (m.begins ∙ sym o.begins) in
          subst (IsLinked new r.at)
          (link_is new r.net t (expression_of n.section) (λ e. sym (ranges t.net.base) ∙ one e) (m.words ∙ ap (λ (q : Rewire). words_of q.net) same))
          (section_linked new r.at n.section n.is_pin);
      put = λ k x from to e one_from one_to.
          let (ps, f, q) = pair_at (IsCellPins new) cells a.put k x a.cells_are e in
          let count : length (links_of text) ≡ length a.now
          = ap length (links_pins text (items text)) ∙ length-map (pin_sections (items text)) (map (link_at text))
          ∙ pairs_length (ArePairs (Paired text new netlist all cells wires)) (pin_sections (items text)) a.now a.paired in
          let place : slice_get (pin_sections (items new)) (length (links_of text) + k) ≡ Some ps
          = (λ i. slice_get (a.all_now i) (count i + k)) ∙ get_behind a.now a.put k ∙ f in
          let links : map (link_at new) ps ≡ NamedLink.one (name_of_net from.net) ∷ NamedLink.one (name_of_net to.net) ∷ []
          = ap (map (link_at new)) q.pins_are
          ∙ (λ i. link_is new x.from from (expression_of q.input) (λ g. sym (ranges from.net.base) ∙ one_from g) q.from i
          ∷ link_is new x.to to (expression_of q.output) (λ g. sym (ranges to.net.base) ∙ one_to g) q.to i ∷ []) in
          ap (λ ls. slice_get ls (length (links_of text) + k)) (links_pins new (items new))
          ∙ get_mapped (map (link_at new)) (pin_sections (items new)) (length (links_of text) + k) ps place
          ∙ ap Some links;
    }
