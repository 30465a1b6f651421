-- A pin that is linked to one net: the tokens of its connection.
use Rattle.std.proofs.Common.{◌≡◌, ℕ, suc, ◌+◌, ◌-◌, Bool, true, false, cond, ◌&&◌, List, [], ◌∷◌, ◌++◌, take, drop, length, Some, refl, sym, ap, ◌∙◌, subst, arith, append_assoc, length-append}
use Rattle.std.specs.List.{prefix_len, take_while}
use Rattle.std.proofs.Math.Seq.{take-append_seam}
use Rattle.grammar_laws.specs.Machines.{run}
use Rattle.vg_scan.specs.declared.lines.Span.{Span}
use Rattle.ver_text.specs.declared.kind.Kind.{Kind}
use Rattle.ver_text.specs.declared.kind.Kind.TheVariants.{Close, Identifier, Open}
use Rattle.ver_syntax.specs.declared.row.Place.TheVariants.{Connection as InConnection}
use Rattle.ver_syntax.specs.declared.row.Row.{Row}
use Rattle.ver_syntax.specs.declared.state.At.TheVariants.{Instance as AtInstance}
use Rattle.ver_syntax.specs.declared.state.Instance.TheVariants.{Connection, Pin as PinName, PinEnd}
use Rattle.ver_syntax.specs.Grammar.{is}
use Rattle.ver_syntax.specs.Moves.{State, next}
use Rattle.ver_syntax.specs.Rows.{kinds_in, rows_of}
use Rattle.ver_syntax.specs.Syntax.{IsModule}
use Rattle.ver_syntax.proofs.PlaceLemmas.{place_at, start}
use Rattle.ver_items.specs.Connections.{end_of, expression_in, span_of}
use Rattle.ver_items.specs.Sections.{Section, is_identifier, section_before, stands_in}
use Rattle.ver_module.specs.declared.link.Link.TheVariants.{One}
use Rattle.ver_file.specs.Netlists.{is_one, link_of, pin_of}
use Rattle.ver_patch_text_laws.proofs.RunLemmas.{EachRow, IsConnection, Moves, Runs, connection_runs, module_runs, runs_next, runs_on}
use Rattle.ver_patch_text_laws.proofs.SectionLemmas.{PinRows, Quits, in_pins}
use Rattle.ver_patch_text_laws.proofs.StateLemmas.{identifier_moves, name_moves, run_append, state}
use Rattle.ver_items.proofs.RowLemmas.{kinds_append}

-- ---- kinds

identifier_is : (k : Kind) → is Identifier k ≡ true → k ≡ Identifier
identifier_is Identifier e = refl
identifier_is k e = absurd (cc)

-- where some tokens end, behind one
abbrev pub last_to : Row → List Row → ℕ
last_to r [] = r.to
last_to r (q ∷ rows) = last_to q rows

end_is : (at : ℕ) (r : Row) (rows : List Row) (close : Row) → end_of at (r ∷ (rows ++ close ∷ [])) ≡ last_to r rows
end_is at r [] close = refl
end_is at r (q ∷ rows) close = end_is r.to q rows close

-- ---- the tokens in a connection

-- tokens up to the first that fails, and the others
record StaysIn (test : Row → Bool) (rows front : List Row) : Type 0 where
  rest : List Row
  is : rows ≡ front ++ rest
  each : EachRow (λ r. test r ≡ true) front
  quits : (r : Row) (more : List Row) → rest ≡ r ∷ more → test r ≡ false

while_more : (test : Row → Bool) (r : Row) (rows : List Row) (b : Bool) → test r ≡ b → take_while test (r ∷ rows) ≡ cond b (r ∷ take_while test rows) []
while_more test r rows true t = let e : 1 + prefix_len test rows ≡ suc (prefix_len test rows) = omega arith in rw t (ap (λ n. take n (r ∷ rows)) e)
while_more test r rows false t = rw t refl

stays_in : (test : Row → Bool) (rows : List Row) → StaysIn test rows (take_while test rows)
stays_in test [] = record { rest = []; is = refl; each = tt; quits = λ r more e. absurd (cc) }
stays_in test (r ∷ rows) = by_test (test r) refl (stays_in test rows)
  where
    by_test : (b : Bool) → test r ≡ b → StaysIn test rows (take_while test rows) → StaysIn test (r ∷ rows) (take_while test (r ∷ rows))
    by_test true t h = record {
      rest = h.rest;
      is = ap (λ xs. r ∷ xs) h.is ∙ ap (λ xs. xs ++ h.rest) (sym (while_more test r rows true t));
      each = subst (EachRow (λ q. test q ≡ true)) (sym (while_more test r rows true t)) (t, h.each);
      quits = h.quits;
    }
    by_test false t h = record {
      rest = r ∷ rows;
      is = ap (λ xs. xs ++ r ∷ rows) (sym (while_more test r rows false t));
      each = subst (EachRow (λ q. test q ≡ true)) (sym (while_more test r rows false t)) tt;
      quits = λ q more e. let same : r ≡ q = cc in ap test (sym same) ∙ t;
    }

-- an expression is all of a connection but its bracket
expression_is : (front : List Row) (close : Row) → expression_in (front ++ close ∷ []) ≡ front
expression_is front close =
    ap (λ (n : ℕ). take n (front ++ close ∷ [])) (let n : length (front ++ close ∷ []) - 1 ≡ length front = omega (arith, length-append front (close ∷ [])) in n)
    ∙ take-append_seam front (close ∷ [])

-- a link to one net begins with an identifier
record IsOneExpression (text : List ℕ) (rows : List Row) : Type 0 where
  first : Row
  more : List Row
  parts : rows ≡ first ∷ more
  named : is_identifier first ≡ true

and_first : (a b : Bool) → (a && b) ≡ true → a ≡ true
and_first true b e = refl
and_first false b e = absurd (cc)

one_expression : (text : List ℕ) (rows : List Row) (net : ℕ) → link_of text rows ≡ One net → IsOneExpression text rows
one_expression text [] net e = absurd (cc)
one_expression text (r ∷ rows) net e = by_test (is_one text (section_before is_identifier r rows)) refl
  where
    by_test : (b : Bool) → is_one text (section_before is_identifier r rows) ≡ b → IsOneExpression text (r ∷ rows)
    by_test true t = record { first = r; more = rows; parts = refl; named = and_first (is_identifier r) _ t }
    by_test false t = let f = rw t at e in absurd (cc)

-- ---- a pin

-- the tokens of a pin that is linked to one net, and how the machine goes over them
pub record IsShapedPin (text : List ℕ) (span : Span) : Type 0 where
  pub before : List Row
  pub bracket : Row
  pub first : Row
  pub more : List Row
  pub close : Row
  pub after : List Row
  pub parts : rows_of text ≡ before ++ bracket ∷ first ∷ (more ++ close ∷ after)
  pub opens : is Open bracket.kind ≡ true
  pub named : is Identifier first.kind ≡ true
  pub closes : is Close close.kind ≡ true
  pub bare : EachRow (λ r. is Open r.kind ≡ false) (first ∷ more)
  pub inside : EachRow (λ r. stands_in InConnection r ≡ true) (first ∷ (more ++ close ∷ []))
  pub from : span.from ≡ first.from
  pub to : span.to ≡ last_to first more
  pub comes : run next (Some start) (kinds_in (before ++ bracket ∷ [])) ≡ Some (state (AtInstance Connection))
  pub runs : run next (Some (state (AtInstance Connection))) (kinds_in (first ∷ (more ++ close ∷ []))) ≡ Some (state (AtInstance PinEnd))

module _ (text : List ℕ) where
  regroup : (before : List Row) (h b first : Row) (more : List Row) (close : Row) (rest after : List Row)
      → before ++ h ∷ (b ∷ ((first ∷ (more ++ close ∷ [])) ++ rest) ++ after) ≡ (before ++ h ∷ []) ++ b ∷ first ∷ (more ++ close ∷ (rest ++ after))
  regroup before h b first more close rest after = simp append_assoc

  -- the tokens behind the bracket of a pin
  in_bracket : (before : List Row) (h b : Row) (conn rest after : List Row) (net : ℕ) (t : State)
      → rows_of text ≡ before ++ h ∷ (b ∷ (conn ++ rest) ++ after) → is Open b.kind ≡ true → t ≡ state (AtInstance Connection)
      → run next (Some start) (kinds_in ((before ++ h ∷ []) ++ b ∷ [])) ≡ Some t
      → IsConnection t conn → EachRow (λ r. stands_in InConnection r ≡ true) conn → link_of text (expression_in conn) ≡ One net → IsShapedPin text (span_of conn)
  in_bracket before h b conn rest after net t rows opens at comes c each link =
      let whole : expression_in conn ≡ c.front = ap expression_in c.parts ∙ expression_is c.front c.close in
      let one = one_expression text c.front net (ap (link_of text) (sym whole) ∙ link) in
      let parts : conn ≡ one.first ∷ (one.more ++ c.close ∷ []) = c.parts ∙ ap (λ xs. xs ++ c.close ∷ []) one.parts in
      record {
        before = before ++ h ∷ [];
        bracket = b;
        first = one.first;
        more = one.more;
        close = c.close;
        after = rest ++ after;
        parts = rows ∙ ap (λ xs. before ++ h ∷ (b ∷ (xs ++ rest) ++ after)) parts ∙ regroup before h b one.first one.more c.close rest after;
        opens = opens;
        named = one.named;
        closes = c.closes;
        bare = subst (EachRow (λ r. is Open r.kind ≡ false)) one.parts c.bare;
        inside = subst (EachRow (λ r. stands_in InConnection r ≡ true)) parts each;
        from = ap (λ xs. (span_of xs).from) parts;
        to = ap (λ xs. (span_of xs).to) parts ∙ end_is one.first.from one.first one.more c.close;
        comes = comes ∙ ap Some at;
        runs = (λ i. run next (Some (sym at i)) (kinds_in (sym parts i))) ∙ c.run;
      }

  quits_rest : (rest after : List Row) → ((r : Row) (more : List Row) → rest ≡ r ∷ more → stands_in InConnection r ≡ false) → Quits after → Quits (rest ++ after)
  quits_rest [] after h q = q
  quits_rest (r ∷ rest) after h q = h r rest refl

  no_link : (rows : List Row) (net : ℕ) → rows ≡ [] → link_of text (expression_in rows) ≡ One net → ⊥
  no_link [] net e f = absurd (cc)
  no_link (r ∷ rows) net e f = absurd (cc)

  -- the tokens of a pin behind its name
  behind_name : (before : List Row) (h : Row) (body after : List Row) (net : ℕ) (s : State) → rows_of text ≡ before ++ h ∷ (body ++ after) → Quits after
      → s ≡ state (AtInstance PinName) → run next (Some start) (kinds_in (before ++ h ∷ [])) ≡ Some s → Runs s (body ++ after)
      → link_of text (expression_in (take_while (stands_in InConnection) (drop 1 body))) ≡ One net
      → IsShapedPin text (span_of (take_while (stands_in InConnection) (drop 1 body)))
  unfolding place_at
  behind_name before h [] after net s rows q at comes runs link = absurd (no_link [] net refl link)
  behind_name before h (b ∷ xs) after net s rows q at comes runs link =
      let m = runs_next s b (xs ++ after) runs in
      let (opens, there) = name_moves b.kind m.state (ap (λ t. next t b.kind) (sym at) ∙ m.move) in
      let k = stays_in (stands_in InConnection) xs in
      let far : run next (Some start) (kinds_in ((before ++ h ∷ []) ++ b ∷ [])) ≡ Some m.state
      = ap (run next (Some start)) (kinds_append (before ++ h ∷ []) (b ∷ []))
      ∙ run_append (Some start) (kinds_in (before ++ h ∷ [])) (b.kind ∷ [])
      ∙ ap (λ o. run next o (b.kind ∷ [])) comes ∙ m.move in
      by_conn (take_while (stands_in InConnection) xs) k.rest k.is k.each (quits_rest k.rest after k.quits q) m opens there far link
    where
      by_conn : (conn rest : List Row) → xs ≡ conn ++ rest → EachRow (λ r. stands_in InConnection r ≡ true) conn → Quits (rest ++ after)
          → (m : Moves s b (xs ++ after)) → is Open b.kind ≡ true → m.state ≡ state (AtInstance Connection)
          → run next (Some start) (kinds_in ((before ++ h ∷ []) ++ b ∷ [])) ≡ Some m.state → link_of text (expression_in conn) ≡ One net
          → IsShapedPin text (span_of conn)
      by_conn [] rest e each quit m opens there far l = absurd (no_link [] net refl l)
      by_conn (x ∷ conn) rest e each quit m opens there far l =
          let here : Runs m.state (x ∷ (conn ++ (rest ++ after)))
          = subst (Runs m.state) (ap (λ ys. ys ++ after) e ∙ append_assoc (x ∷ conn) rest after) m.runs in
          let c = connection_runs x conn (rest ++ after) m.state (ap (λ (t : State). place_at t.at) there) each quit here in
          in_bracket before h b (x ∷ conn) rest after net m.state (rows ∙ ap (λ ys. before ++ h ∷ (b ∷ ys ++ after)) e) opens there far c each l

  -- a pin that is linked to one net
  pub shaped_pin : IsModule text → (p : Section) (net : ℕ) → PinRows (rows_of text) p → (pin_of text p).link ≡ One net → IsShapedPin text (pin_of text p).span
  shaped_pin module' p net r link =
      let c = runs_on r.before (p.head ∷ (p.body ++ r.after)) start (subst (Runs start) r.is (module_runs text module')) in
      let m = runs_next c.state p.head (p.body ++ r.after) c.runs in
      let (named, place) = in_pins p.head r.named in
      let kind : p.head.kind ≡ Identifier = identifier_is p.head.kind named in
      let at = identifier_moves c.state m.state (sym m.place ∙ place) (ap (next c.state) (sym kind) ∙ m.move) in
      let comes : run next (Some start) (kinds_in (r.before ++ p.head ∷ [])) ≡ Some m.state
      = ap (run next (Some start)) (kinds_append r.before (p.head ∷ []))
      ∙ run_append (Some start) (kinds_in r.before) (p.head.kind ∷ [])
      ∙ ap (λ o. run next o (p.head.kind ∷ [])) c.run ∙ m.move in
      behind_name r.before p.head p.body r.after net m.state r.is r.quits at comes m.runs link
