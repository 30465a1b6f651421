-- The sections of the pins of a text, and where they stand.
use Rattle.std.proofs.Common.{◌≡◌, ℕ, zero, suc, ◌<◌, ◌≤◌, Bool, true, false, List, [], ◌∷◌, ◌++◌, map, length, Option, Some, None, refl, sym, ap, ◌∙◌, subst, arith, inl, inr}
use Rattle.std.specs.Prelude.{drop, option_and_then, slice_get}
use Rattle.std.specs.List.{before_first, flat_map, prefix_len}
use Rattle.std.proofs.lemmas.List.{map-append}
use Rattle.std.proofs.lemmas.Option.{none-some, same_Some}
use Rattle.ver_text.specs.declared.kind.Kind.{Kind}
use Rattle.ver_text.specs.declared.kind.Kind.TheVariants.{Identifier}
use Rattle.ver_text.specs.declared.token.Token.{Token}
use Rattle.ver_text.specs.Kinds.{kind_in}
use Rattle.ver_text.specs.Laws.{StandBetween}
use Rattle.ver_text.specs.Tokens.{tokens_of}
use Rattle.ver_text.proofs.OrderLemmas.{stand_in_order}
use Rattle.ver_syntax.specs.declared.row.Place.{Place}
use Rattle.ver_syntax.specs.declared.row.Place.TheVariants.{Start, Instances, Pins, Connection}
use Rattle.ver_syntax.specs.declared.row.Row.{Row}
use Rattle.ver_syntax.specs.Grammar.{is}
use Rattle.ver_syntax.specs.Rows.{place_after, rows_from, rows_of}
use Rattle.ver_items.specs.Connections.{connection_of}
use Rattle.ver_items.specs.Sections.{Section, instances_in, is_name_in, is_place, items, pins_in, sections, stands_in}
use Rattle.ver_module.specs.Netlists.{Instance, Pin}
use Rattle.ver_file.specs.Netlists.{instance_of, instances_by, instances_of, pin_of}
use Rattle.ver_net.specs.Laws.{IsBefore}
use Rattle.ver_net.specs.declared.pin_ref.PinRef.{PinRef}
use Rattle.ver_patch.proofs.FrameLemmas.{Follow}
use Rattle.ver_patch.proofs.StandLemmas.{Chain, IsInside, SectionStands, Stand, before_others, chain_at, chain_flat, chain_from, chain_map, chain_two, no_sections, sections_by, sections_fall, sections_stand, stand_drop_one, stand_rest, stand_take}
use Rattle.ver_patch_text_laws.proofs.TextLemmas.{Each}
use Rattle.ver_patch_text_laws.proofs.RunLemmas.{EachRow}
use Rattle.ver_patch_text_laws.proofs.SectionLemmas.{Quits, get_map, in_pins}
use Rattle.ver_patch_laws.specs.Links.{IsLinked, NamedLink, link_at, links_by, links_of}
use Rattle.ver_patch_laws.proofs.DeclareLemmas.{IsItem, map-map}
use Rattle.ver_patch_laws.proofs.RelinkedLemmas.{quits_before}

-- of each instance the sections of its pins
abbrev pub pins_by : Section → List (List Section)
pins_by item = map pins_in (instances_in item)

abbrev pub pin_sections : List Section → List (List Section)
pin_sections ss = flat_map pins_by ss

-- the section of a pin
pub record IsPin (all : List (List Section)) (at : PinRef) (s : Section) : Type 0 where
  pub pins : List Section
  pub instance : slice_get all at.instance ≡ Some pins
  pub pin : slice_get pins at.pin ≡ Some s

pub get_mapped : {X Y : Type 0} (f : X → Y) (xs : List X) (k : ℕ) (x : X) → slice_get xs k ≡ Some x → slice_get (map f xs) k ≡ Some (f x)
get_mapped f [] k x e = absurd (none-some x e)
get_mapped f (y ∷ ys) zero x e = ap (λ z. Some (f z)) (same_Some y x e)
get_mapped f (y ∷ ys) (suc k) x e = get_mapped f ys k x e

-- ---- links and pins by sections

pub links_pins : (text : List ℕ) (ss : List Section) → flat_map (links_by text) ss ≡ map (map (link_at text)) (pin_sections ss)
links_pins text [] = refl
links_pins text (s ∷ ss) =
    (λ i. sym (map-map (map (link_at text)) pins_in (instances_in s)) i ++ links_pins text ss i)
    ∙ sym (map-append (map (link_at text)) (pins_by s) (pin_sections ss))

pub instances_pins : (text : List ℕ) (ss : List Section) → map (λ (i : Instance). i.pins) (flat_map (instances_by text) ss) ≡ map (map (pin_of text)) (pin_sections ss)
instances_pins text [] = refl
instances_pins text (s ∷ ss) =
    map-append (λ (i : Instance). i.pins) (instances_by text s) (flat_map (instances_by text) ss)
    ∙ (λ i. (map-map (λ (i : Instance). i.pins) (instance_of text s.head) (instances_in s) ∙ sym (map-map (map (pin_of text)) pins_in (instances_in s))) i ++ instances_pins text ss i)
    ∙ sym (map-append (map (pin_of text)) (pins_by s) (pin_sections ss))

-- a pin of a netlist has a section
pub record HasSection (text : List ℕ) (at : PinRef) (pin : Pin) : Type 0 where
  pub section : Section
  pub is_pin : IsPin (pin_sections (items text)) at section
  pub is : pin ≡ pin_of text section

pub pin_section : (text : List ℕ) (at : PinRef) (instance : Instance) (pin : Pin) → slice_get (instances_of text) at.instance ≡ Some instance
    → slice_get instance.pins at.pin ≡ Some pin → HasSection text at pin
pin_section text at instance pin e f =
    let g = ap (λ xs. slice_get xs at.instance) (sym (instances_pins text (items text))) ∙ get_mapped (λ (i : Instance). i.pins) (instances_of text) at.instance instance e in
    let (ps, h, k) = get_map (map (pin_of text)) (pin_sections (items text)) at.instance instance.pins g in
    let (s, m, n) = get_map (pin_of text) ps at.pin pin (ap (λ xs. slice_get xs at.pin) (sym k) ∙ f) in
    record { section = s; is_pin = record { pins = ps; instance = h; pin = m }; is = n }

-- what a pin is linked to is what its section says
pub linked_section : (text : List ℕ) (at : PinRef) (link : NamedLink) → IsLinked text at link
    → (s : Section) × IsPin (pin_sections (items text)) at s × (link ≡ link_at text s)
linked_section text at link e = by_links (slice_get (links_of text) at.instance) refl e
  where
    by_links : (o : Option (List NamedLink)) → slice_get (links_of text) at.instance ≡ o → option_and_then (λ links. slice_get links at.pin) o ≡ Some link
        → (s : Section) × IsPin (pin_sections (items text)) at s × (link ≡ link_at text s)
    by_links None f g = absurd (none-some link g)
    by_links (Some links) f g =
        let h = ap (λ xs. slice_get xs at.instance) (sym (links_pins text (items text))) ∙ f in
        let (ps, k, l) = get_map (map (link_at text)) (pin_sections (items text)) at.instance links h in
        let (s, m, n) = get_map (link_at text) ps at.pin link (ap (λ xs. slice_get xs at.pin) (sym l) ∙ g) in
        (s, record { pins = ps; instance = k; pin = m }, n)

pub section_linked : (text : List ℕ) (at : PinRef) (s : Section) → IsPin (pin_sections (items text)) at s → IsLinked text at (link_at text s)
section_linked text at s p =
    let links : slice_get (links_of text) at.instance ≡ Some (map (link_at text) p.pins)
    = ap (λ xs. slice_get xs at.instance) (links_pins text (items text)) ∙ get_mapped (map (link_at text)) (pin_sections (items text)) at.instance p.pins p.instance in
    ap (option_and_then (λ links. slice_get links at.pin)) links ∙ get_mapped (link_at text) p.pins at.pin s p.pin

-- ---- where they stand

rows_stand : (text : List ℕ) (ts : List Token) (place : Place) (from to : ℕ) → StandBetween from to ts → Stand from to (rows_from text place ts)
unfolding rows_from
rows_stand text [] place from to h = h
rows_stand text (t ∷ ts) place from to h = (h.0, h.1, rows_stand text ts (place_after place (kind_in text t)) t.to to h.2)

abbrev PinsStand : ℕ → ℕ → List Section → Type 0
PinsStand from to pins = Chain SectionStands from to pins

pins_stand : (text : List ℕ) → Chain PinsStand 0 (length text) (pin_sections (items text))
pins_stand text =
    chain_flat SectionStands PinsStand (λ ps before from to low h. chain_from SectionStands sections_fall ps before from to low h) pins_by
    (λ item from to h.
    chain_map SectionStands PinsStand pins_in (λ i a b k. sections_stand (is_name_in Pins) i.body a b (stand_rest i.head i.body a b k)) (instances_in item) from to
    (sections_stand (is_name_in Instances) item.body from to (stand_rest item.head item.body from to h)))
    (items text) 0 (length text)
    (sections_stand (stands_in Start) (rows_of text) 0 (length text) (rows_stand text (tokens_of text) Start 0 (length text) (stand_in_order text)))

stand_each : (rows : List Row) (from to : ℕ) → Stand from to rows → EachRow (λ x. (from ≤ x.from) × (x.from < to)) rows
stand_each [] from to h = tt
stand_each (r ∷ rows) from to h =
    let low = h.0 in
    let some = h.1 in
    let more = stand_each rows r.to to h.2 in
    ((low, omega (arith, some, stand_end rows r.to to h.2)), weaker rows from r.to to (omega (arith, low, some)) more)
  where
    stand_end : (rows : List Row) (from to : ℕ) → Stand from to rows → from ≤ to
    stand_end [] from to h = h
    stand_end (r ∷ rows) from to h = let k = stand_end rows r.to to h.2 in let l = h.0 in let s = h.1 in omega (arith, l, s, k)

    weaker : (rows : List Row) (before from to : ℕ) → before ≤ from → EachRow (λ x. (from ≤ x.from) × (x.from < to)) rows
        → EachRow (λ x. (before ≤ x.from) × (x.from < to)) rows
    weaker [] before from to low h = tt
    weaker (r ∷ rows) before from to low h = let k = h.0.0 in ((omega (arith, low, k), h.0.1), weaker rows before from to low h.1)

-- the connection of a section
conn_each : (s : Section) (from to : ℕ) → SectionStands from to s → EachRow (λ x. (from ≤ x.from) × (x.from < to)) (connection_of s)
conn_each s from to h =
    stand_each (connection_of s) from to
    (stand_take (drop 1 s.body) (prefix_len (stands_in Connection) (drop 1 s.body)) from to (stand_drop_one s.body from to (stand_rest s.head s.body from to h)))

-- the connections of two pins, the first of which stands before the other
pub record StandApart (s t : Section) : Type 0 where
  pub mid : ℕ
  pub first : EachRow (λ x. x.from < mid) (connection_of s)
  pub second : EachRow (λ x. mid ≤ x.from) (connection_of t)

each_low : (rows : List Row) (a from to mid : ℕ) → to ≤ mid → EachRow (λ x. (from ≤ x.from) × (x.from < to)) rows → EachRow (λ x. x.from < mid) rows
each_low [] a from to mid up h = tt
each_low (r ∷ rows) a from to mid up h = let k = h.0.1 in (omega (arith, up, k), each_low rows a from to mid up h.1)

each_high : (rows : List Row) (a from to mid : ℕ) → mid ≤ from → EachRow (λ x. (from ≤ x.from) × (x.from < to)) rows → EachRow (λ x. mid ≤ x.from) rows
each_high [] a from to mid up h = tt
each_high (r ∷ rows) a from to mid up h = let k = h.0.0 in (omega (arith, up, k), each_high rows a from to mid up h.1)

apart_at : (s t : Section) (from to mid : ℕ) → IsInside SectionStands from mid s → IsInside SectionStands mid to t → StandApart s t
apart_at s t from to mid i j = record {
  mid = mid;
  first = each_low (connection_of s) 0 i.start i.end mid i.before (conn_each s i.start i.end i.holds);
  second = each_high (connection_of t) 0 j.start j.end mid j.behind (conn_each t j.start j.end j.holds);
}

inside_wide : (s : Section) (before from to after : ℕ) → before ≤ from → to ≤ after → IsInside SectionStands from to s → IsInside SectionStands before after s
inside_wide s before from to after low up i = record {
  start = i.start;
  end = i.end;
  behind = (let k = i.behind in omega (arith, low, k));
  before = (let k = i.before in omega (arith, up, k));
  holds = i.holds;
}

pub stand_apart : (text : List ℕ) (a b : PinRef) (s t : Section) → IsPin (pin_sections (items text)) a s → IsPin (pin_sections (items text)) b t → IsBefore a b → StandApart s t
stand_apart text a b s t p q (inl less) =
    let two = chain_two PinsStand (pin_sections (items text)) a.instance b.instance p.pins q.pins 0 (length text) (pins_stand text) less p.instance q.instance in
    let f = two.first in
    let g = two.second in
    apart_at s t 0 (length text) two.mid (inside_wide s 0 f.start f.end two.mid (omega arith) f.before (chain_at SectionStands p.pins a.pin s f.start f.end f.holds p.pin))
    (inside_wide t two.mid g.start g.end (length text) g.behind g.before (chain_at SectionStands q.pins b.pin t g.start g.end g.holds q.pin))
stand_apart text a b s t p q (inr (same, less)) =
    let one = chain_at PinsStand (pin_sections (items text)) a.instance p.pins 0 (length text) (pins_stand text) p.instance in
    let both : p.pins ≡ q.pins = same_Some p.pins q.pins (sym p.instance ∙ ap (slice_get (pin_sections (items text))) same ∙ q.instance) in
    let two = chain_two SectionStands p.pins a.pin b.pin s t one.start one.end one.holds less p.pin (ap (λ xs. slice_get xs b.pin) both ∙ q.pin) in
    apart_at s t one.start one.end two.mid two.first two.second

-- ---- the first token behind a pin's name

quits_body : (r : Row) (rows : List Row) → is_name_in Pins r ≡ true → Follow (place_after r.place r.kind) rows → Quits rows
quits_body r [] e f = tt
quits_body r (q ∷ rows) e f =
    let (named, place) = in_pins r e in
    ap (is_place Connection) (f.0 ∙ (λ i. place_after (place i) r.kind)) ∙ by_kind r.kind named
  where
    by_kind : (k : Kind) → is Identifier k ≡ true → is_place Connection (place_after Pins k) ≡ false
    by_kind Identifier g = refl
    by_kind k g = absurd (cc)

follow_before : (test : Row → Bool) (p : Place) (rows : List Row) → Follow p rows → Follow p (before_first test rows)
follow_before test p [] f = tt
follow_before test p (r ∷ rows) f = by_test (test r) refl (follow_before test (place_after p r.kind) rows f.1)
  where
    by_test : (b : Bool) → test r ≡ b → Follow (place_after p r.kind) (before_first test rows) → Follow p (before_first test (r ∷ rows))
    by_test true t h = subst (Follow p) (sym (before_others test r rows true t)) tt
    by_test false t h = subst (Follow p) (sym (before_others test r rows false t)) (f.0, h)

abbrev FollowsAny : Section → Type 0
FollowsAny s = (p : Place) × Follow p s.body

bodies_follow : (test : Row → Bool) (p : Place) (rows : List Row) → Follow p rows → Each FollowsAny (sections test rows)
bodies_follow test p [] f = subst (Each FollowsAny) (sym (no_sections test)) tt
bodies_follow test p (r ∷ rows) f = by_test (test r) refl (bodies_follow test (place_after p r.kind) rows f.1)
  where
    by_test : (b : Bool) → test r ≡ b → Each FollowsAny (sections test rows) → Each FollowsAny (sections test (r ∷ rows))
    by_test true t h =
        subst (Each FollowsAny) (sym (sections_by test r rows true t)) ((place_after p r.kind, follow_before test (place_after p r.kind) rows f.1), h)
    by_test false t h = subst (Each FollowsAny) (sym (sections_by test r rows false t)) h

abbrev pub QuitsBody : Section → Type 0
QuitsBody s = Quits s.body

pins_quit : (p : Place) (rows : List Row) → Follow p rows → Each QuitsBody (sections (is_name_in Pins) rows)
pins_quit p [] f = subst (Each QuitsBody) (sym (no_sections (is_name_in Pins))) tt
pins_quit p (r ∷ rows) f = by_test (is_name_in Pins r) refl (pins_quit (place_after p r.kind) rows f.1)
  where
    by_test : (b : Bool) → is_name_in Pins r ≡ b → Each QuitsBody (sections (is_name_in Pins) rows) → Each QuitsBody (sections (is_name_in Pins) (r ∷ rows))
    by_test true t h =
        subst (Each QuitsBody) (sym (sections_by (is_name_in Pins) r rows true t)) (
          quits_before (is_name_in Pins) rows (quits_body r rows t (subst (λ q. Follow (place_after q r.kind) rows) (sym f.0) f.1)),
          h,
        )
    by_test false t h = subst (Each QuitsBody) (sym (sections_by (is_name_in Pins) r rows false t)) h

each_at : {X : Type 0} (P : X → Type 0) (xs : List X) (k : ℕ) (x : X) → Each P xs → slice_get xs k ≡ Some x → P x
each_at P [] k x h e = absurd (none-some x e)
each_at P (y ∷ ys) zero x h e = subst P (same_Some y x e) h.0
each_at P (y ∷ ys) (suc k) x h e = each_at P ys k x h.1 e

each_joined : {X : Type 0} (P : X → Type 0) (xs ys : List X) → Each P xs → Each P ys → Each P (xs ++ ys)
each_joined P [] ys h k = k
each_joined P (x ∷ xs) ys h k = (h.0, each_joined P xs ys h.1 k)

instances_quit : (ss : List Section) → Each FollowsAny ss → Each (Each QuitsBody) (map pins_in ss)
instances_quit [] h = tt
instances_quit (s ∷ ss) ((p, f), h) = (pins_quit p s.body f, instances_quit ss h)

sections_quit : (ss : List Section) → Each IsItem ss → Each (Each QuitsBody) (pin_sections ss)
sections_quit [] h = tt
sections_quit (s ∷ ss) h =
    each_joined (Each QuitsBody) (pins_by s) (pin_sections ss) (instances_quit (instances_in s) (bodies_follow (is_name_in Instances) _ s.body h.0.body.follow))
    (sections_quit ss h.1)

-- the token behind a pin's name stands in no connection
pub pin_quits : (ss : List Section) → Each IsItem ss → (at : PinRef) (s : Section) → IsPin (pin_sections ss) at s → Quits s.body
pin_quits ss h at s p = each_at QuitsBody p.pins at.pin s (each_at (Each QuitsBody) (pin_sections ss) at.instance p.pins (sections_quit ss h) p.instance) p.pin
