-- The rows of new wires and new instances.
use Rattle.std.proofs.Common.{◌≡◌, ℕ, Bool, true, false, ◌&&◌, ◌==◌, not, List, [], ◌∷◌, ◌++◌, map, refl, sym, ap, ◌∙◌, subst, append_assoc, arith}
use Rattle.std.specs.Prelude.{codes}
use Rattle.std.specs.List.{before_first, flat_map, list_all}
use Rattle.std.proofs.lemmas.List.{append-nil, map-append}
use Rattle.std.proofs.lemmas.Bool.{and_parts}
use Rattle.std.proofs.lemmas.Bool.Decides.{nat_tests}
use Rattle.ver_text.specs.declared.kind.Kind.TheVariants.{Close, Comma, Identifier, Semicolon}
use Rattle.ver_text.specs.declared.token.Token.{Token}
use Rattle.ver_text.specs.Bytes.{is_letter, is_word_byte}
use Rattle.ver_text.specs.Kinds.{kind_in, word_kind}
use Rattle.ver_text.specs.Names.{is_identifier as is_identifier_kind, is_simple, is_word, name_of}
use Rattle.ver_syntax.specs.declared.row.Place.{Place}
use Rattle.ver_syntax.specs.declared.row.Place.TheVariants.{Start, Declaration, Instances, Pins, Connection as InConnection}
use Rattle.ver_syntax.specs.declared.row.Row.{Row}
use Rattle.ver_syntax.specs.Grammar.{is}
use Rattle.ver_syntax.specs.Laws.{place_after_all}
use Rattle.ver_syntax.specs.Rows.{place_after, row, rows_from}
use Rattle.ver_items.specs.Sections.{bytes_at, is_name_in, is_place, name_at, sections, stands_in}
use Rattle.ver_module.specs.Netlists.{Pin}
use Rattle.ver_file.specs.Netlists.{instance_of, instances_by, pin_of}
use Rattle.ver_patch.proofs.StandLemmas.{before_others, no_sections, sections_by}
use Rattle.ver_patch.specs.NewCells.{NewCell}
use Rattle.ver_patch_text_laws.specs.NewWords.{cell_words, identifier_bytes, pin_words, wire_words, word}
use Rattle.ver_patch_text_laws.specs.Texts.{IsNetText, IsNewCell}
use Rattle.ver_patch_text_laws.specs.Words.{Word, word_in, words_of}
use Rattle.ver_patch_text_laws.proofs.GrammarLemmas.{word_kinds}
use Rattle.ver_patch_text_laws.proofs.RunLemmas.{EachRow}
use Rattle.ver_patch_text_laws.proofs.SectionLemmas.{Next}
use Rattle.ver_patch_text_laws.proofs.TextLemmas.{Each, net_named}
use Rattle.ver_patch_laws.specs.Shapes.{new_shape, shape_of}
use Rattle.ver_patch_laws.proofs.ChangedLemmas.{InOne, Stay, net_stays, place_append, place_stays}
use Rattle.ver_patch_laws.proofs.SectionLemmas.{before_skip, names_off, sections_append, sections_skip, starts_off}
use Rattle.ver_file.proofs.ListLemmas.{flat_map-append}

-- ---- names

plain_name : (name : List ℕ) → is_word name ≡ true → name_of name ≡ name
plain_name [] h = absurd (cc)
plain_name (b ∷ bs) h =
    let letter = (and_parts (is_letter b) (list_all is_word_byte bs) h).0 in
    let other : (b == 92) ≡ false = grind (arith, nat_tests) in
    rw other refl

pub simple_name : (name : List ℕ) → is_simple name ≡ true → name_of name ≡ name
simple_name name e = plain_name name (and_parts (is_word name) (is_identifier_kind (word_kind name)) e).0

printed_name : (name : List ℕ) → name_of (identifier_bytes (not (is_simple name)) name) ≡ name
printed_name name = by_test (is_simple name) refl
  where
    by_test : (b : Bool) → is_simple name ≡ b → name_of (identifier_bytes (not b) name) ≡ name
    by_test true e = simple_name name e
    by_test false e = refl

-- ---- one section

pub each_append : (P : Row → Type 0) (xs ys : List Row) → EachRow P xs → EachRow P ys → EachRow P (xs ++ ys)
each_append P [] ys h k = k
each_append P (x ∷ xs) ys h k = (h.0, each_append P xs ys h.1 k)

pub each_weak : (P Q : Row → Type 0) → ((r : Row) → P r → Q r) → (rows : List Row) → EachRow P rows → EachRow Q rows
each_weak P Q f [] h = tt
each_weak P Q f (r ∷ rows) h = (f r h.0, each_weak P Q f rows h.1)

none_first : (test : Row → Bool) (rows : List Row) → Next test rows → before_first test rows ≡ []
none_first test [] h = refl
none_first test (r ∷ rows) h = before_others test r rows true h

-- a row that begins a section, and rows that begin none
pub one_section : (test : Row → Bool) (r : Row) (rows more : List Row) → test r ≡ true → EachRow (λ q. test q ≡ false) rows → Next test more
    → sections test (r ∷ (rows ++ more)) ≡ record { head = r; body = rows } ∷ sections test more
one_section test r rows more t off next =
    let body : before_first test (rows ++ more) ≡ rows = before_skip test rows more off ∙ ap (λ xs. rows ++ xs) (none_first test more next) ∙ append-nil rows in
    sections_by test r (rows ++ more) true t
    ∙ (λ i. record { head = r; body = body i } ∷ sections_skip test rows more off i)

-- ---- rows by their words

module _ (new : List ℕ) where
  pub record IsRow (p : Place) (w : Word) (r : Row) : Type 0 where
    pub place : r.place ≡ p
    pub kind : r.kind ≡ w.kind
    pub bytes : bytes_at new r ≡ w.bytes

  -- rows are these words, the first of which stands in this
  abbrev pub RowsAre : Place → List Word → List Row → Type 0
  RowsAre p [] rows = rows ≡ []
  RowsAre p (w ∷ ws) rows = (r : Row) × (more : List Row) × (rows ≡ r ∷ more) × IsRow p w r × RowsAre (place_after p w.kind) ws more

  pub rows_are : (ts : List Token) (p : Place) (ws : List Word) → map (word_in new) ts ≡ ws → RowsAre p ws (rows_from new p ts)
  unfolding rows_from
  rows_are [] p [] e = refl
  rows_are [] p (w ∷ ws) e = absurd (cc)
  rows_are (t ∷ ts) p [] e = absurd (cc)
  rows_are (t ∷ ts) p (w ∷ ws) e =
      let one : word_in new t ≡ w = cc in
      let rest : map (word_in new) ts ≡ ws = cc in
      let kind : kind_in new t ≡ w.kind = ap (λ (v : Word). v.kind) one in (
        row new p t,
        rows_from new (place_after p (kind_in new t)) ts,
        refl,
        record { place = refl; kind = kind; bytes = ap (λ (v : Word). v.bytes) one },
        subst (λ k. RowsAre (place_after p w.kind) ws (rows_from new (place_after p k) ts)) (sym kind) (rows_are ts (place_after p w.kind) ws rest),
      )

  record AreCut (p : Place) (ws vs : List Word) (rows : List Row) : Type 0 where
    front : List Row
    back : List Row
    is : rows ≡ front ++ back
    fronts : RowsAre p ws front
    backs : RowsAre (place_after_all p (word_kinds ws)) vs back

  rows_cut : (ws vs : List Word) (p : Place) (rows : List Row) → RowsAre p (ws ++ vs) rows → AreCut p ws vs rows
  rows_cut [] vs p rows h = record { front = []; back = rows; is = refl; fronts = refl; backs = h }
  rows_cut (w ∷ ws) vs p rows (r, more, e, own, rest) =
      let c = rows_cut ws vs (place_after p w.kind) more rest in
      record { front = r ∷ c.front; back = c.back; is = e ∙ ap (λ rs. r ∷ rs) c.is; fronts = (r, c.front, refl, own, c.fronts); backs = c.backs }

  in_one : (ws : List Word) (rows : List Row) → Stay (word_kinds ws) → RowsAre InConnection ws rows → EachRow InOne rows
  in_one [] rows h e = subst (EachRow InOne) (sym e) tt
  in_one (w ∷ ws) rows h (r, more, e, own, rest) =
      subst (EachRow InOne) (sym e)
      (ap (is_place InConnection) own.place, in_one ws more h.1 (subst (λ p. RowsAre p ws more) h.0 rest))

  -- ---- wires

  starts : (p : Place) (w : Word) (r : Row) → IsRow p w r → stands_in Start r ≡ is_place Start p
  starts p w r h = ap (is_place Start) h.place

  names : (q p : Place) (w : Word) (r : Row) → IsRow p w r → is_name_in q r ≡ (is Identifier w.kind && is_place q p)
  names q p w r h = λ i. is Identifier (h.kind i) && is_place q (h.place i)

  -- a declaration has no instances
  wire_none : (name : List ℕ) (rows : List Row) → RowsAre Start (wire_words name) rows
      → flat_map (instances_by new) (sections (stands_in Start) rows) ≡ []
  wire_none name rows (a, rows1, e1, ha, (b, rows2, e2, hb, (c, rows3, e3, hc, e4))) =
      let whole : rows ≡ a ∷ ((b ∷ c ∷ []) ++ []) = e1 ∙ ap (λ rs. a ∷ rs) (e2 ∙ ap (λ rs. b ∷ rs) (e3 ∙ ap (λ rs. c ∷ rs) e4)) in
      ap (λ rs. flat_map (instances_by new) (sections (stands_in Start) rs)) whole
      ∙ ap (flat_map (instances_by new)) (one_section (stands_in Start) a (b ∷ c ∷ []) [] (starts Start _ a ha) (starts Declaration _ b hb, (starts Declaration _ c hc, tt)) tt
      ∙ ap (λ ss. record { head = a; body = b ∷ c ∷ [] } ∷ ss) (no_sections (stands_in Start)))
      ∙ append-nil (instances_by new (record { head = a; body = b ∷ c ∷ [] }))
      ∙ ap (map (instance_of new a)) (sections_skip (is_name_in Instances) (b ∷ c ∷ []) [] (names Instances Declaration _ b hb, (names Instances Declaration _ c hc, tt))
      ∙ no_sections (is_name_in Instances))

  starts_next : (ws : List Word) (rows more : List Row) → RowsAre Start ws rows → Next (stands_in Start) more → Next (stands_in Start) (rows ++ more)
  starts_next [] rows more e next = subst (λ rs. Next (stands_in Start) (rs ++ more)) (sym e) next
  starts_next (w ∷ ws) rows more (r, rest, e, h, others) next = subst (λ rs. Next (stands_in Start) (rs ++ more)) (sym e) (starts Start w r h)

  -- declarations have none
  pub wires_none : (wires : List (List ℕ)) (rows more : List Row) → RowsAre Start (flat_map wire_words wires) rows → Next (stands_in Start) more
      → flat_map (instances_by new) (sections (stands_in Start) (rows ++ more)) ≡ flat_map (instances_by new) (sections (stands_in Start) more)
  wires_none [] rows more e next = ap (λ rs. flat_map (instances_by new) (sections (stands_in Start) (rs ++ more))) e
  wires_none (name ∷ wires) rows more h next =
      let c = rows_cut (wire_words name) (flat_map wire_words wires) Start rows h in
      ap (λ rs. flat_map (instances_by new) (sections (stands_in Start) rs)) (ap (λ rs. rs ++ more) c.is ∙ append_assoc c.front c.back more)
      ∙ ap (flat_map (instances_by new)) (sections_append (stands_in Start) c.front (c.back ++ more) (starts_next (flat_map wire_words wires) c.back more c.backs next))
      ∙ flat_map-append (instances_by new) (sections (stands_in Start) c.front) (sections (stands_in Start) (c.back ++ more))
      ∙ (λ i. wire_none name c.front c.fronts i ++ wires_none wires c.back more c.backs next i)

  -- ---- instances

  abbrev IsInner : Row → Type 0
  IsInner r = (stands_in Start r ≡ false) × (is_name_in Instances r ≡ false)

  one_inner : (r : Row) → InOne r → IsInner r
  one_inner r h = (starts_off r h, names_off Instances refl r h)

  -- the rows of a new connection
  record PinRowsAre (pin : List ℕ) (rows : List Row) : Type 0 where
    dot : Row
    name : Row
    tail : List Row
    is : rows ≡ dot ∷ name ∷ tail
    off : is_name_in Pins dot ≡ false
    on : is_name_in Pins name ≡ true
    named : name_at new name ≡ pin
    tails : EachRow (λ r. is_name_in Pins r ≡ false) tail
    inner : EachRow IsInner rows

  net_stay : (net : List ℕ) → IsNetText net → Stay (word_kinds (words_of net))
  net_stay net t = subst (λ ws. Stay (word_kinds ws)) (sym (net_named net t)) (net_stays t.net)

  pin_rows : (pin net : List ℕ) (rows : List Row) → IsNetText net → RowsAre Pins (pin_words pin (words_of net)) rows → PinRowsAre pin rows
  pin_rows pin net rows t (d, m1, e1, hd, (n, m2, e2, hn, (o, m3, e3, ho, rest))) =
      let stay = net_stay net t in
      let c = rows_cut (words_of net) (word Close (codes ")") ∷ []) InConnection m3 rest in
      let (q, m4, e4, hq, e5) = subst (λ p. RowsAre p (word Close (codes ")") ∷ []) c.back) (place_stays (word_kinds (words_of net)) stay) c.backs in
      let ones = in_one (words_of net) c.front stay c.fronts in
      let last : InOne q = ap (is_place InConnection) hq.place in
      let whole : rows ≡ d ∷ n ∷ o ∷ (c.front ++ q ∷ [])
      = e1 ∙ ap (λ rs. d ∷ rs) (e2 ∙ ap (λ rs. n ∷ rs) (e3 ∙ ap (λ rs. o ∷ rs) (c.is ∙ ap (λ rs. c.front ++ rs) (e4 ∙ ap (λ rs. q ∷ rs) e5)))) in
      let inners : EachRow IsInner (c.front ++ q ∷ []) = each_append IsInner c.front (q ∷ []) (each_weak InOne IsInner one_inner c.front ones) (one_inner q last, tt) in
      record {
        dot = d;
        name = n;
        tail = o ∷ (c.front ++ q ∷ []);
        is = whole;
        off = names Pins Pins _ d hd;
        on = names Pins Pins _ n hn;
        named = ap name_of hn.bytes ∙ printed_name pin;
        tails = (
          names Pins Pins _ o ho,
          each_append (λ r. is_name_in Pins r ≡ false) c.front (q ∷ [])
              (each_weak InOne (λ r. is_name_in Pins r ≡ false) (names_off Pins refl) c.front ones) (names_off Pins refl q last, tt),
        );
        inner =
            subst (EachRow IsInner) (sym whole) (
              (starts Pins _ d hd, names Instances Pins _ d hd),
              ((starts Pins _ n hn, names Instances Pins _ n hn), ((starts Pins _ o ho, names Instances Pins _ o ho), inners)),
            );
      }

  pin_place : (pin net : List ℕ) → IsNetText net → place_after_all Pins (word_kinds (pin_words pin (words_of net))) ≡ Pins
  pin_place pin net t =
      ap (place_after_all InConnection) (map-append (λ (w : Word). w.kind) (words_of net) (word Close (codes ")") ∷ []))
      ∙ place_append InConnection (word_kinds (words_of net)) (Close ∷ [])
      ∙ ap (λ p. place_after_all p (Close ∷ [])) (place_stays (word_kinds (words_of net)) (net_stay net t))

  -- the two pins of a new instance
  two_pins : (a d1 n1 : Row) (t1 : List Row) (co d2 n2 : Row) (t2 rest : List Row) → is_name_in Pins a ≡ false → is_name_in Pins d1 ≡ false
      → is_name_in Pins n1 ≡ true
      → EachRow (λ r. is_name_in Pins r ≡ false) t1 → is_name_in Pins co ≡ false → is_name_in Pins d2 ≡ false → is_name_in Pins n2 ≡ true
      → EachRow (λ r. is_name_in Pins r ≡ false) t2 → EachRow (λ r. is_name_in Pins r ≡ false) rest
      → sections (is_name_in Pins) (a ∷ ((d1 ∷ n1 ∷ t1) ++ co ∷ ((d2 ∷ n2 ∷ t2) ++ rest)))
      ≡ record { head = n1; body = t1 ++ co ∷ d2 ∷ [] } ∷ record { head = n2; body = t2 ++ rest } ∷ []
  two_pins a d1 n1 t1 co d2 n2 t2 rest ea ed1 en1 et1 eco ed2 en2 et2 er =
      let off : Row → Type 0 = λ r. is_name_in Pins r ≡ false in
      sections_skip (is_name_in Pins) (a ∷ d1 ∷ []) (n1 ∷ (t1 ++ co ∷ d2 ∷ n2 ∷ (t2 ++ rest))) (ea, (ed1, tt))
      ∙ ap (λ rs. sections (is_name_in Pins) (n1 ∷ rs)) (sym (append_assoc t1 (co ∷ d2 ∷ []) (n2 ∷ (t2 ++ rest))))
      ∙ one_section (is_name_in Pins) n1 (t1 ++ co ∷ d2 ∷ []) (n2 ∷ (t2 ++ rest)) en1 (each_append off t1 (co ∷ d2 ∷ []) et1 (eco, (ed2, tt))) en2
      ∙ ap (λ ss. record { head = n1; body = t1 ++ co ∷ d2 ∷ [] } ∷ ss)
      (ap (λ rs. sections (is_name_in Pins) (n2 ∷ rs)) (sym (append-nil (t2 ++ rest)))
      ∙ one_section (is_name_in Pins) n2 (t2 ++ rest) [] en2 (each_append off t2 rest et2 er) tt
      ∙ ap (λ ss. record { head = n2; body = t2 ++ rest } ∷ ss) (no_sections (is_name_in Pins)))

  cell_shape : (c : NewCell) → IsNewCell c → (rows more : List Row) → RowsAre Start (cell_words c) rows → Next (stands_in Start) more
      → map shape_of (flat_map (instances_by new) (sections (stands_in Start) (rows ++ more)))
      ≡ new_shape c ∷ map shape_of (flat_map (instances_by new) (sections (stands_in Start) more))
  cell_shape c h rows more (a, m1, e1, ha, (b, m2, e2, hb, (o, m3, e3, ho, rest))) next =
      let k =
      rows_cut (pin_words c.input (words_of c.from))
      (word Comma (codes ",") ∷ (pin_words c.output (words_of c.to) ++ word Close (codes ")") ∷ word Semicolon (codes ";") ∷ [])) Pins m3 rest in
      let p = pin_rows c.input c.from k.front h.from k.fronts in
      let (co, m4, e4, hco, rest2) =
      subst (λ q. RowsAre q (word Comma (codes ",") ∷ (pin_words c.output (words_of c.to) ++ word Close (codes ")") ∷ word Semicolon (codes ";") ∷ [])) k.back)
      (pin_place c.input c.from h.from) k.backs in
      let l = rows_cut (pin_words c.output (words_of c.to)) (word Close (codes ")") ∷ word Semicolon (codes ";") ∷ []) Pins m4 rest2 in
      let q = pin_rows c.output c.to l.front h.to l.fronts in
      let (cl, m5, e5, hcl, (se, m6, e6, hse, e7)) =
      subst (λ r. RowsAre r (word Close (codes ")") ∷ word Semicolon (codes ";") ∷ []) l.back) (pin_place c.output c.to h.to) l.backs in
      let ends : List Row = cl ∷ se ∷ [] in
      let tail = o ∷ (k.front ++ co ∷ (l.front ++ ends)) in
      let whole : rows ≡ a ∷ (b ∷ tail)
      = e1 ∙ ap (λ rs. a ∷ rs) (e2 ∙ ap (λ rs. b ∷ rs) (e3 ∙ ap (λ rs. o ∷ rs) (k.is ∙ ap (λ rs. k.front ++ rs)
      (e4 ∙ ap (λ rs. co ∷ rs) (l.is ∙ ap (λ rs. l.front ++ rs) (e5 ∙ ap (λ rs. cl ∷ rs) (e6 ∙ ap (λ rs. se ∷ rs) e7))))))) in
      let inner : EachRow IsInner tail
      = (
        (starts Instances _ o ho, names Instances Instances _ o ho),
        each_append IsInner k.front (co ∷ (l.front ++ ends)) p.inner (
          (starts Pins _ co hco, names Instances Pins _ co hco),
          each_append IsInner l.front ends q.inner (
            (starts Pins _ cl hcl, names Instances Pins _ cl hcl),
            ((starts Instances _ se hse, names Instances Instances _ se hse), tt),
          ),
        ),
      ) in
      let item : sections (stands_in Start) (rows ++ more) ≡ record { head = a; body = b ∷ tail } ∷ sections (stands_in Start) more
      = ap (λ rs. sections (stands_in Start) (rs ++ more)) whole
      ∙ one_section (stands_in Start) a (b ∷ tail) more (starts Start _ a ha)
      (starts Instances _ b hb, each_weak IsInner (λ r. stands_in Start r ≡ false) (λ r i. i.0) tail inner) next in
      let instance : sections (is_name_in Instances) (b ∷ tail) ≡ record { head = b; body = tail } ∷ []
      = ap (λ rs. sections (is_name_in Instances) (b ∷ rs)) (sym (append-nil tail))
      ∙ one_section (is_name_in Instances) b tail [] (names Instances Instances _ b hb) (each_weak IsInner (λ r. is_name_in Instances r ≡ false) (λ r i. i.1) tail inner) tt
      ∙ ap (λ ss. record { head = b; body = tail } ∷ ss) (no_sections (is_name_in Instances)) in
      let pins : sections (is_name_in Pins) tail ≡ record { head = p.name; body = p.tail ++ co ∷ q.dot ∷ [] } ∷ record { head = q.name; body = q.tail ++ ends } ∷ []
      = (λ i. sections (is_name_in Pins) (o ∷ (p.is i ++ co ∷ (q.is i ++ ends))))
      ∙ two_pins o p.dot p.name p.tail co q.dot q.name q.tail ends (names Pins Instances _ o ho) p.off p.on p.tails (names Pins Pins _ co hco) q.off q.on q.tails
      (names Pins Pins _ cl hcl, (names Pins Instances _ se hse, tt)) in
      let pin_names : map (λ (x : Pin). x.name) (map (pin_of new) (sections (is_name_in Pins) tail)) ≡ c.input ∷ c.output ∷ []
      = ap (λ ss. map (λ (x : Pin). x.name) (map (pin_of new) ss)) pins ∙ (λ i. p.named i ∷ q.named i ∷ []) in
      let cell = ap name_of ha.bytes ∙ printed_name c.cell in
      let name = ap name_of hb.bytes ∙ simple_name c.name h.name in
      ap (λ ss. map shape_of (flat_map (instances_by new) ss)) item
      ∙ ap (λ ss. map shape_of (map (instance_of new a) ss ++ flat_map (instances_by new) (sections (stands_in Start) more))) instance
      ∙ (λ i. record { name = name i; cell = cell i; pins = pin_names i } ∷ map shape_of (flat_map (instances_by new) (sections (stands_in Start) more)))

  cell_place : (d : NewCell) → IsNewCell d → place_after_all Start (word_kinds (cell_words d)) ≡ Start
  cell_place d i =
      ap (place_after_all Pins) (map-append (λ (w : Word). w.kind) (pin_words d.input (words_of d.from))
      (word Comma (codes ",") ∷ (pin_words d.output (words_of d.to) ++ word Close (codes ")") ∷ word Semicolon (codes ";") ∷ [])))
      ∙ place_append Pins (word_kinds (pin_words d.input (words_of d.from))) _
      ∙ ap (λ p. place_after_all p (word_kinds (word Comma (codes ",") ∷ (pin_words d.output (words_of d.to) ++ word Close (codes ")") ∷ word Semicolon (codes ";") ∷ []))))
      (pin_place d.input d.from i.from)
      ∙ ap (place_after_all Pins) (map-append (λ (w : Word). w.kind) (pin_words d.output (words_of d.to)) (word Close (codes ")") ∷ word Semicolon (codes ";") ∷ []))
      ∙ place_append Pins (word_kinds (pin_words d.output (words_of d.to))) (Close ∷ Semicolon ∷ [])
      ∙ ap (λ p. place_after_all p (Close ∷ Semicolon ∷ [])) (pin_place d.output d.to i.to)

  pub cells_shapes : (cells : List NewCell) → Each IsNewCell cells → (rows more : List Row) → RowsAre Start (flat_map cell_words cells) rows
      → Next (stands_in Start) more
      → map shape_of (flat_map (instances_by new) (sections (stands_in Start) (rows ++ more)))
      ≡ map new_shape cells ++ map shape_of (flat_map (instances_by new) (sections (stands_in Start) more))
  cells_shapes [] h rows more e next = ap (λ rs. map shape_of (flat_map (instances_by new) (sections (stands_in Start) (rs ++ more)))) e
  cells_shapes (c ∷ cells) h rows more r next =
      let k = rows_cut (cell_words c) (flat_map cell_words cells) Start rows r in
      let backs = subst (λ p. RowsAre p (flat_map cell_words cells) k.back) (cell_place c h.0) k.backs in
      ap (λ rs. map shape_of (flat_map (instances_by new) (sections (stands_in Start) rs))) (ap (λ rs. rs ++ more) k.is ∙ append_assoc k.front k.back more)
      ∙ cell_shape c h.0 k.front (k.back ++ more) k.fronts (starts_next (flat_map cell_words cells) k.back more backs next)
      ∙ ap (λ ss. new_shape c ∷ ss) (cells_shapes cells h.1 k.back more backs next)

  pub cells_place : (cells : List NewCell) → Each IsNewCell cells → place_after_all Start (word_kinds (flat_map cell_words cells)) ≡ Start
  cells_place [] h = refl
  cells_place (c ∷ cells) h =
      ap (place_after_all Start) (map-append (λ (w : Word). w.kind) (cell_words c) (flat_map cell_words cells))
      ∙ place_append Start (word_kinds (cell_words c)) (word_kinds (flat_map cell_words cells))
      ∙ ap (λ p. place_after_all p (word_kinds (flat_map cell_words cells))) (cell_place c h.0)
      ∙ cells_place cells h.1

pub wires_place : (wires : List (List ℕ)) → place_after_all Start (word_kinds (flat_map wire_words wires)) ≡ Start
wires_place [] = refl
wires_place (name ∷ wires) = wires_place wires
