-- The sections of new wires and new instances.
use Rattle.std.proofs.Common.{◌≡◌, ℕ, true, false, ◌&&◌, List, [], ◌∷◌, ◌++◌, map, refl, sym, ap, ◌∙◌, subst, append_assoc}
use Rattle.std.specs.Prelude.{codes}
use Rattle.std.specs.List.{flat_map}
use Rattle.std.proofs.lemmas.List.{append-nil, map-append}
use Rattle.ver_text.specs.declared.kind.Kind.TheVariants.{Close, Comma, Identifier, Semicolon}
use Rattle.ver_syntax.specs.declared.row.Place.{Place}
use Rattle.ver_syntax.specs.declared.row.Place.TheVariants.{Start, Instances, Pins, Connection as InConnection}
use Rattle.ver_syntax.specs.declared.row.Row.{Row}
use Rattle.ver_syntax.specs.Grammar.{is}
use Rattle.ver_syntax.specs.Laws.{place_after_all}
use Rattle.ver_syntax.specs.Rows.{place_after}
use Rattle.ver_items.specs.Sections.{Section, instances_in, is_name_in, is_place, pins_in, sections, stands_in}
use Rattle.ver_patch.proofs.StandLemmas.{no_sections}
use Rattle.ver_patch.specs.NewCells.{NewCell}
use Rattle.ver_patch_text_laws.specs.NewWords.{cell_words, pin_words, word}
use Rattle.ver_patch_text_laws.specs.Texts.{IsNetText, IsNewCell}
use Rattle.ver_patch_text_laws.specs.Words.{Word, words_of}
use Rattle.ver_patch_text_laws.proofs.TextLemmas.{Each, net_named}
use Rattle.ver_patch_text_laws.proofs.GrammarLemmas.{word_kinds}
use Rattle.ver_patch_text_laws.proofs.RunLemmas.{EachRow}
use Rattle.ver_patch_text_laws.proofs.SectionLemmas.{Next}
use Rattle.ver_patch_laws.proofs.ChangedLemmas.{InOne, Stay, net_stays, place_append, place_stays}
use Rattle.ver_patch_laws.proofs.NewRowLemmas.{IsRow, RowsAre, each_append, each_weak, one_section}
use Rattle.ver_patch_laws.proofs.SectionLemmas.{names_off, sections_skip, starts_off}
use Rattle.ver_patch_laws.proofs.ConnectionLemmas.{HasNet, expression_front}
use Rattle.ver_items.specs.Connections.{expression_of}
use Rattle.ver_patch_laws.proofs.RelinkedLemmas.{ArePairs}
use Rattle.ver_patch_laws.proofs.WalkLemmas.{word_at}

module _ (new : List ℕ) where
  record AreCut (p : Place) (ws vs : List Word) (rows : List Row) : Type 0 where
    front : List Row
    back : List Row
    is : rows ≡ front ++ back
    fronts : RowsAre new p ws front
    backs : RowsAre new (place_after_all p (word_kinds ws)) vs back

  rows_cut : (ws vs : List Word) (p : Place) (rows : List Row) → RowsAre new p (ws ++ vs) rows → AreCut p ws vs rows
  rows_cut [] vs p rows h = record { front = []; back = rows; is = refl; fronts = refl; backs = h }
  rows_cut (w ∷ ws) vs p rows (r, more, e, own, rest) =
      let c = rows_cut ws vs (place_after p w.kind) more rest in
      record { front = r ∷ c.front; back = c.back; is = e ∙ ap (λ rs. r ∷ rs) c.is; fronts = (r, c.front, refl, own, c.fronts); backs = c.backs }

  row_words : (ws : List Word) (p : Place) (rows : List Row) → RowsAre new p ws rows → map (word_at new) rows ≡ ws
  row_words [] p rows e = ap (map (word_at new)) e
  row_words (w ∷ ws) p rows (r, more, e, own, rest) =
      ap (map (word_at new)) e ∙ (λ i. record { kind = own.kind i; bytes = own.bytes i } ∷ row_words ws (place_after p w.kind) more rest i)

  in_one : (ws : List Word) (rows : List Row) → Stay (word_kinds ws) → RowsAre new InConnection ws rows → EachRow InOne rows
  in_one [] rows h e = subst (EachRow InOne) (sym e) tt
  in_one (w ∷ ws) rows h (r, more, e, own, rest) =
      subst (EachRow InOne) (sym e)
      (ap (is_place InConnection) own.place, in_one ws more h.1 (subst (λ p. RowsAre new p ws more) h.0 rest))

  starts : (p : Place) (w : Word) (r : Row) → IsRow new p w r → stands_in Start r ≡ is_place Start p
  starts p w r h = ap (is_place Start) h.place

  names : (q p : Place) (w : Word) (r : Row) → IsRow new p w r → is_name_in q r ≡ (is Identifier w.kind && is_place q p)
  names q p w r h = λ i. is Identifier (h.kind i) && is_place q (h.place i)

  pub starts_next : (ws : List Word) (rows more : List Row) → RowsAre new Start ws rows → Next (stands_in Start) more → Next (stands_in Start) (rows ++ more)
  starts_next [] rows more e next = subst (λ rs. Next (stands_in Start) (rs ++ more)) (sym e) next
  starts_next (w ∷ ws) rows more (r, rest, e, h, others) next = subst (λ rs. Next (stands_in Start) (rs ++ more)) (sym e) (starts Start w r h)

  abbrev IsInner : Row → Type 0
  IsInner r = (stands_in Start r ≡ false) × (is_name_in Instances r ≡ false)

  one_inner : (r : Row) → InOne r → IsInner r
  one_inner r h = (starts_off r h, names_off Instances refl r h)

  -- the rows of a new connection
  record PinRowsAre (net : List ℕ) (rows : List Row) : Type 0 where
    dot : Row
    name : Row
    bracket : Row
    inside : List Row
    close : Row
    is : rows ≡ dot ∷ name ∷ bracket ∷ (inside ++ close ∷ [])
    off : is_name_in Pins dot ≡ false
    on : is_name_in Pins name ≡ true
    tails : EachRow (λ r. is_name_in Pins r ≡ false) (bracket ∷ (inside ++ close ∷ []))
    inner : EachRow IsInner rows
    ones : EachRow InOne inside
    closes : InOne close
    words : map (word_at new) inside ≡ words_of net

  net_stay : (net : List ℕ) → IsNetText net → Stay (word_kinds (words_of net))
  net_stay net t = subst (λ ws. Stay (word_kinds ws)) (sym (net_named net t)) (net_stays t.net)

  pin_rows : (pin net : List ℕ) (rows : List Row) → IsNetText net → RowsAre new Pins (pin_words pin (words_of net)) rows → PinRowsAre net rows
  pin_rows pin net rows t (d, m1, e1, hd, (n, m2, e2, hn, (o, m3, e3, ho, rest))) =
      let stay = net_stay net t in
      let c = rows_cut (words_of net) (word Close (codes ")") ∷ []) InConnection m3 rest in
      let (q, m4, e4, hq, e5) = subst (λ p. RowsAre new p (word Close (codes ")") ∷ []) c.back) (place_stays (word_kinds (words_of net)) stay) c.backs in
      let ones = in_one (words_of net) c.front stay c.fronts in
      let last : InOne q = ap (is_place InConnection) hq.place in
      let whole : rows ≡ d ∷ n ∷ o ∷ (c.front ++ q ∷ [])
      = e1 ∙ ap (λ rs. d ∷ rs) (e2 ∙ ap (λ rs. n ∷ rs) (e3 ∙ ap (λ rs. o ∷ rs) (c.is ∙ ap (λ rs. c.front ++ rs) (e4 ∙ ap (λ rs. q ∷ rs) e5)))) in
      let inners : EachRow IsInner (c.front ++ q ∷ []) = each_append IsInner c.front (q ∷ []) (each_weak InOne IsInner one_inner c.front ones) (one_inner q last, tt) in
      record {
        dot = d;
        name = n;
        bracket = o;
        inside = c.front;
        close = q;
        is = whole;
        off = names Pins Pins _ d hd;
        on = names Pins Pins _ n hn;
        tails = (
          names Pins Pins _ o ho,
          each_append (λ r. is_name_in Pins r ≡ false) c.front (q ∷ [])
              (each_weak InOne (λ r. is_name_in Pins r ≡ false) (names_off Pins refl) c.front ones) (names_off Pins refl q last, tt),
        );
        inner =
            subst (EachRow IsInner) (sym whole) (
              (starts Pins _ d hd, names Instances Pins _ d hd),
              ((starts Pins _ n hn, names Instances Pins _ n hn), ((starts Pins _ o ho, names Instances Pins _ o ho), inners)),
            );
        ones = ones;
        closes = last;
        words = row_words (words_of net) InConnection c.front c.fronts;
      }

  pin_place : (pin net : List ℕ) → IsNetText net → place_after_all Pins (word_kinds (pin_words pin (words_of net))) ≡ Pins
  pin_place pin net t =
      ap (place_after_all InConnection) (map-append (λ (w : Word). w.kind) (words_of net) (word Close (codes ")") ∷ []))
      ∙ place_append InConnection (word_kinds (words_of net)) (Close ∷ [])
      ∙ ap (λ p. place_after_all p (Close ∷ [])) (place_stays (word_kinds (words_of net)) (net_stay net t))

  two_pins : (a d1 n1 : Row) (t1 : List Row) (co d2 n2 : Row) (t2 rest : List Row) → is_name_in Pins a ≡ false → is_name_in Pins d1 ≡ false
      → is_name_in Pins n1 ≡ true
      → EachRow (λ r. is_name_in Pins r ≡ false) t1 → is_name_in Pins co ≡ false → is_name_in Pins d2 ≡ false → is_name_in Pins n2 ≡ true
      → EachRow (λ r. is_name_in Pins r ≡ false) t2 → EachRow (λ r. is_name_in Pins r ≡ false) rest
      → sections (is_name_in Pins) (a ∷ ((d1 ∷ n1 ∷ t1) ++ co ∷ ((d2 ∷ n2 ∷ t2) ++ rest)))
      ≡ record { head = n1; body = t1 ++ co ∷ d2 ∷ [] } ∷ record { head = n2; body = t2 ++ rest } ∷ []
  two_pins a d1 n1 t1 co d2 n2 t2 rest ea ed1 en1 et1 eco ed2 en2 et2 er =
      let off : Row → Type 0 = λ r. is_name_in Pins r ≡ false in
      sections_skip (is_name_in Pins) (a ∷ d1 ∷ []) (n1 ∷ (t1 ++ co ∷ d2 ∷ n2 ∷ (t2 ++ rest))) (ea, (ed1, tt))
      ∙ ap (λ rs. sections (is_name_in Pins) (n1 ∷ rs)) (sym (append_assoc t1 (co ∷ d2 ∷ []) (n2 ∷ (t2 ++ rest))))
      ∙ one_section (is_name_in Pins) n1 (t1 ++ co ∷ d2 ∷ []) (n2 ∷ (t2 ++ rest)) en1 (each_append off t1 (co ∷ d2 ∷ []) et1 (eco, (ed2, tt))) en2
      ∙ ap (λ ss. record { head = n1; body = t1 ++ co ∷ d2 ∷ [] } ∷ ss)
      (ap (λ rs. sections (is_name_in Pins) (n2 ∷ rs)) (sym (append-nil (t2 ++ rest)))
      ∙ one_section (is_name_in Pins) n2 (t2 ++ rest) [] en2 (each_append off t2 rest et2 er) tt
      ∙ ap (λ ss. record { head = n2; body = t2 ++ rest } ∷ ss) (no_sections (is_name_in Pins)))

  -- the item of a new instance: its two pins, and the words of their connections
  pub record IsCellSection (s : Section) (c : NewCell) : Type 0 where
    pub instance : Section
    pub input : Section
    pub output : Section
    pub kind : s.head.kind ≡ Identifier
    pub instances : instances_in s ≡ instance ∷ []
    pub pins : pins_in instance ≡ input ∷ output ∷ []
    pub from : HasNet new c.from input
    pub to : HasNet new c.to output

  -- such an item before others
  record IsCellItem (c : NewCell) (rows more : List Row) : Type 0 where
    item : Section
    items : sections (stands_in Start) (rows ++ more) ≡ item ∷ sections (stands_in Start) more
    own : IsCellSection item c

  cell_item : (c : NewCell) → IsNewCell c → (rows more : List Row) → RowsAre new Start (cell_words c) rows → Next (stands_in Start) more → IsCellItem c rows more
  cell_item c h rows more (a, m1, e1, ha, (b, m2, e2, hb, (o, m3, e3, ho, rest))) next =
      let k =
      rows_cut (pin_words c.input (words_of c.from))
      (word Comma (codes ",") ∷ (pin_words c.output (words_of c.to) ++ word Close (codes ")") ∷ word Semicolon (codes ";") ∷ [])) Pins m3 rest in
      let p = pin_rows c.input c.from k.front h.from k.fronts in
      let (co, m4, e4, hco, rest2) =
      subst (λ q. RowsAre new q (word Comma (codes ",") ∷ (pin_words c.output (words_of c.to) ++ word Close (codes ")") ∷ word Semicolon (codes ";") ∷ [])) k.back)
      (pin_place c.input c.from h.from) k.backs in
      let l = rows_cut (pin_words c.output (words_of c.to)) (word Close (codes ")") ∷ word Semicolon (codes ";") ∷ []) Pins m4 rest2 in
      let q = pin_rows c.output c.to l.front h.to l.fronts in
      let (cl, m5, e5, hcl, (se, m6, e6, hse, e7)) =
      subst (λ r. RowsAre new r (word Close (codes ")") ∷ word Semicolon (codes ";") ∷ []) l.back) (pin_place c.output c.to h.to) l.backs in
      let ends : List Row = cl ∷ se ∷ [] in
      let tail = o ∷ (k.front ++ co ∷ (l.front ++ ends)) in
      let whole : rows ≡ a ∷ (b ∷ tail)
      = e1 ∙ ap (λ rs. a ∷ rs) (e2 ∙ ap (λ rs. b ∷ rs) (e3 ∙ ap (λ rs. o ∷ rs) (k.is ∙ ap (λ rs. k.front ++ rs)
      (e4 ∙ ap (λ rs. co ∷ rs) (l.is ∙ ap (λ rs. l.front ++ rs) (e5 ∙ ap (λ rs. cl ∷ rs) (e6 ∙ ap (λ rs. se ∷ rs) e7))))))) in
      let inner : EachRow IsInner tail
      = (
        (starts Instances _ o ho, names Instances Instances _ o ho),
        each_append IsInner k.front (co ∷ (l.front ++ ends)) p.inner (
          (starts Pins _ co hco, names Instances Pins _ co hco),
          each_append IsInner l.front ends q.inner (
            (starts Pins _ cl hcl, names Instances Pins _ cl hcl),
            ((starts Instances _ se hse, names Instances Instances _ se hse), tt),
          ),
        ),
      ) in
      let p_tail = p.bracket ∷ (p.inside ++ p.close ∷ []) in
      let q_tail = q.bracket ∷ (q.inside ++ q.close ∷ []) in
      record {
        item = record { head = a; body = b ∷ tail };
        items =
            ap (λ rs. sections (stands_in Start) (rs ++ more)) whole
            ∙ one_section (stands_in Start) a (b ∷ tail) more (starts Start _ a ha)
            (starts Instances _ b hb, each_weak IsInner (λ r. stands_in Start r ≡ false) (λ r i. i.0) tail inner) next;
        own = record {
          instance = record { head = b; body = tail };
          input = record { head = p.name; body = p_tail ++ co ∷ q.dot ∷ [] };
          output = record { head = q.name; body = q_tail ++ ends };
          kind = ha.kind;
          instances =
              ap (λ rs. sections (is_name_in Instances) (b ∷ rs)) (sym (append-nil tail))
              ∙ one_section (is_name_in Instances) b tail [] (names Instances Instances _ b hb)
              (each_weak IsInner (λ r. is_name_in Instances r ≡ false) (λ r i. i.1) tail inner) tt
              ∙ ap (λ ss. record { head = b; body = tail } ∷ ss) (no_sections (is_name_in Instances));
          pins =
              (λ i. sections (is_name_in Pins) (o ∷ (p.is i ++ co ∷ (q.is i ++ ends))))
              ∙ two_pins o p.dot p.name p_tail co q.dot q.name q_tail ends (names Pins Instances _ o ho) p.off p.on p.tails (names Pins Pins _ co hco) q.off q.on q.tails
              (names Pins Pins _ cl hcl, (names Pins Instances _ se hse, tt));
          from =
              ap (λ rs. map (word_at new) (expression_of (record { head = p.name; body = p.bracket ∷ rs }))) (append_assoc p.inside (p.close ∷ []) (co ∷ q.dot ∷ []))
              ∙ ap (map (word_at new)) (expression_front p.name p.bracket p.inside p.close (co ∷ q.dot ∷ []) p.ones p.closes (ap (is_place InConnection) hco.place)) ∙ p.words;
          to =
              ap (λ rs. map (word_at new) (expression_of (record { head = q.name; body = q.bracket ∷ rs }))) (append_assoc q.inside (q.close ∷ []) ends)
              ∙ ap (map (word_at new)) (expression_front q.name q.bracket q.inside q.close ends q.ones q.closes (ap (is_place InConnection) hcl.place)) ∙ q.words;
        };
      }

  cell_place : (d : NewCell) → IsNewCell d → place_after_all Start (word_kinds (cell_words d)) ≡ Start
  cell_place d i =
      ap (place_after_all Pins) (map-append (λ (w : Word). w.kind) (pin_words d.input (words_of d.from))
      (word Comma (codes ",") ∷ (pin_words d.output (words_of d.to) ++ word Close (codes ")") ∷ word Semicolon (codes ";") ∷ [])))
      ∙ place_append Pins (word_kinds (pin_words d.input (words_of d.from))) _
      ∙ ap (λ p. place_after_all p (word_kinds (word Comma (codes ",") ∷ (pin_words d.output (words_of d.to) ++ word Close (codes ")") ∷ word Semicolon (codes ";") ∷ []))))
      (pin_place d.input d.from i.from)
      ∙ ap (place_after_all Pins) (map-append (λ (w : Word). w.kind) (pin_words d.output (words_of d.to)) (word Close (codes ")") ∷ word Semicolon (codes ";") ∷ []))
      ∙ place_append Pins (word_kinds (pin_words d.output (words_of d.to))) (Close ∷ Semicolon ∷ [])
      ∙ ap (λ p. place_after_all p (Close ∷ Semicolon ∷ [])) (pin_place d.output d.to i.to)

  pub cell_sections : (cells : List NewCell) → Each IsNewCell cells → (rows : List Row) → RowsAre new Start (flat_map cell_words cells) rows
      → ArePairs IsCellSection (sections (stands_in Start) rows) cells
  cell_sections [] h rows e =
      subst (λ ss. ArePairs IsCellSection ss []) (sym (ap (sections (stands_in Start)) e ∙ no_sections (stands_in Start))) ArePairs.done
  cell_sections (c ∷ cells) h rows r =
      let k = rows_cut (cell_words c) (flat_map cell_words cells) Start rows r in
      let backs = subst (λ p. RowsAre new p (flat_map cell_words cells) k.back) (cell_place c h.0) k.backs in
      let next = subst (Next (stands_in Start)) (append-nil k.back) (starts_next (flat_map cell_words cells) k.back [] backs tt) in
      let i = cell_item c h.0 k.front k.back k.fronts next in
      subst (λ ss. ArePairs IsCellSection ss (c ∷ cells)) (sym (ap (sections (stands_in Start)) k.is ∙ i.items))
      (ArePairs.pair i.own (cell_sections cells h.1 k.back backs))
