-- A pin that is linked to one net, by tokens.
use Rattle.std.proofs.lemmas.List.{map-append}
use Rattle.std.proofs.Common.{◌≡◌, ℕ, true, false, List, [], ◌∷◌, ◌++◌, length, map, Some, refl, sym, ap, ◌∙◌, subst, arith, append_assoc, length-append}
use Rattle.ver_items.specs.Sections.{is_place, stands_in}
use Rattle.grammar_laws.specs.Machines.{run}
use Rattle.vg_scan.specs.Lines.{part}
use Rattle.vg_scan.specs.declared.lines.Span.{Span}
use Rattle.ver_text.specs.declared.token.Token.{Token}
use Rattle.ver_text.specs.declared.token.TokenKind.TheVariants.{Mark}
use Rattle.ver_text.specs.declared.kind.Kind.{Kind}
use Rattle.ver_text.specs.declared.kind.Kind.TheVariants.{Close, Identifier, Open}
use Rattle.ver_text.specs.Kinds.{kind_in}
use Rattle.ver_text.specs.Tokens.{tokens_of}
use Rattle.ver_syntax.specs.declared.row.Place.{Place}
use Rattle.ver_syntax.specs.declared.row.Place.TheVariants.{Connection as InConnection, Start}
use Rattle.ver_syntax.specs.declared.row.Row.{Row}
use Rattle.ver_syntax.specs.declared.state.At.TheVariants.{Instance as AtInstance}
use Rattle.ver_syntax.specs.declared.state.Instance.TheVariants.{Connection, PinEnd}
use Rattle.ver_syntax.specs.Grammar.{is}
use Rattle.ver_syntax.specs.Moves.{next}
use Rattle.ver_syntax.specs.Rows.{kinds_in, place_after, row, rows_from}
use Rattle.ver_syntax.proofs.PlaceLemmas.{start}
use Rattle.ver_patch_text_laws.proofs.ChainLemmas.{IsShut, NameStands, end_of}
use Rattle.ver_patch_text_laws.proofs.KindLemmas.{close_mark, identifier_token, open_mark}
use Rattle.ver_patch_text_laws.proofs.PinLemmas.{IsShapedPin, last_to}
use Rattle.ver_patch_text_laws.proofs.RunLemmas.{EachRow}
use Rattle.ver_patch_text_laws.proofs.StateLemmas.{state}

-- ---- rows and tokens

-- tokens whose rows are cut in two
pub record AreCut (text : List ℕ) (ts : List Token) (place : Place) (xs ys : List Row) : Type 0 where
  pub front : List Token
  pub back : List Token
  pub there : Place
  pub is : ts ≡ front ++ back
  pub rows : xs ≡ rows_from text place front
  pub others : ys ≡ rows_from text there back

pub rows_cut : (text : List ℕ) (ts : List Token) (place : Place) (xs ys : List Row) → rows_from text place ts ≡ xs ++ ys → AreCut text ts place xs ys
unfolding rows_from
rows_cut text ts place [] ys e = record { front = []; back = ts; there = place; is = refl; rows = refl; others = sym e }
rows_cut text [] place (x ∷ xs) ys e = absurd (cc)
rows_cut text (t ∷ ts) place (x ∷ xs) ys e =
    let own : row text place t ≡ x = cc in
    let rest : rows_from text (place_after place (kind_in text t)) ts ≡ xs ++ ys = cc in
    let c = rows_cut text ts (place_after place (kind_in text t)) xs ys rest in
    record {
      front = t ∷ c.front;
      back = c.back;
      there = c.there;
      is = ap (λ us. t ∷ us) c.is;
      rows = λ i. sym own i ∷ c.rows i;
      others = c.others;
    }

-- a token and what follows it
pub record IsNextRow (text : List ℕ) (ts : List Token) (place : Place) (r : Row) (rows : List Row) : Type 0 where
  pub token : Token
  pub back : List Token
  pub there : Place
  pub is : ts ≡ token ∷ back
  pub own : r ≡ row text place token
  pub others : rows ≡ rows_from text there back

pub next_row : (text : List ℕ) (ts : List Token) (place : Place) (r : Row) (rows : List Row) → r ∷ rows ≡ rows_from text place ts → IsNextRow text ts place r rows
unfolding rows_from
next_row text [] place r rows e = absurd (cc)
next_row text (t ∷ ts) place r rows e =
    let own : r ≡ row text place t = cc in
    let rest : rows ≡ rows_from text (place_after place (kind_in text t)) ts = cc in
    record { token = t; back = ts; there = place_after place (kind_in text t); is = refl; own = own; others = rest }

pub kinds_from : (text : List ℕ) (ts : List Token) (place : Place) → kinds_in (rows_from text place ts) ≡ map (kind_in text) ts
unfolding rows_from
kinds_from text [] place = refl
kinds_from text (t ∷ ts) place = ap (λ ks. kind_in text t ∷ ks) (kinds_from text ts (place_after place (kind_in text t)))

-- ---- a pin

-- the tokens of a pin that is linked to one net, and how the machine goes over them
pub record IsPinPlace (text : List ℕ) (span : Span) : Type 0 where
  pub stands : NameStands text span.from span.to
  pub comes : run next (Some start) (map (kind_in text) (stands.before ++ stands.bracket ∷ [])) ≡ Some (state (AtInstance Connection))
  pub inside : EachRow (λ r. stands_in InConnection r ≡ true) (rows_from text InConnection (stands.name ∷ (stands.more ++ stands.close ∷ [])))
  pub closing : kind_in text stands.close ≡ Close
  pub runs : run next (Some (state (AtInstance Connection))) (map (kind_in text) (stands.name ∷ (stands.more ++ stands.close ∷ []))) ≡ Some (state (AtInstance PinEnd))

last_is : (text : List ℕ) (q : Place) (t : Token) (place : Place) (ts : List Token) → last_to (row text q t) (rows_from text place ts) ≡ end_of t ts
unfolding rows_from
last_is text q t place [] = refl
last_is text q t place (u ∷ ts) = last_is text place u (place_after place (kind_in text u)) ts

not_open : (text : List ℕ) (t : Token) → is Open (kind_in text t) ≡ false → t.kind ≡ Mark 40 → ⊥
not_open text t e f = let g : is Open (kind_in text t) ≡ true = rw f refl in absurd (cc)

all_shut : (text : List ℕ) (t : Token) (ts : List Token) (q place : Place) → EachRow (λ r. is Open r.kind ≡ false) (row text q t ∷ rows_from text place ts)
    → IsShut (t ∷ ts)
unfolding rows_from
all_shut text t [] q place h = not_open text t h.0
all_shut text t (u ∷ ts) q place h = all_shut text u ts place (place_after place (kind_in text u)) h.1

rows_count : (text : List ℕ) (ts : List Token) (place : Place) → length (rows_from text place ts) ≡ length ts
unfolding rows_from
rows_count text [] place = refl
rows_count text (t ∷ ts) place = let e = rows_count text ts (place_after place (kind_in text t)) in omega (arith, e)

rows_front : (text : List ℕ) (us vs : List Token) (place : Place) (xs ys : List Row) → xs ++ ys ≡ rows_from text place (us ++ vs) → length xs ≡ length us
    → xs ≡ rows_from text place us
unfolding rows_from
rows_front text [] vs place [] ys e n = refl
rows_front text [] vs place (x ∷ xs) ys e n = absurd (omega (arith, n))
rows_front text (u ∷ us) vs place [] ys e n = absurd (omega (arith, n))
rows_front text (u ∷ us) vs place (x ∷ xs) ys e n =
    let own : x ≡ row text place u = cc in
    let rest : xs ++ ys ≡ rows_from text (place_after place (kind_in text u)) (us ++ vs) = cc in
    let more = rows_front text us vs (place_after place (kind_in text u)) xs ys rest (omega (arith, n)) in
    λ i. own i ∷ more i

connection_place : (p : Place) → is_place InConnection p ≡ true → p ≡ InConnection
connection_place InConnection e = refl
connection_place p e = absurd (cc)

all_inside : (text : List ℕ) (t : Token) (ts : List Token) (place : Place) → EachRow (λ r. stands_in InConnection r ≡ true) (rows_from text place (t ∷ ts))
    → EachRow (λ r. stands_in InConnection r ≡ true) (rows_from text InConnection (t ∷ ts))
unfolding rows_from
all_inside text t ts place h =
    subst (λ p. EachRow (λ r. stands_in InConnection r ≡ true) (rows_from text p (t ∷ ts))) (connection_place place h.0) h

close_is : (k : Kind) → is Close k ≡ true → k ≡ Close
close_is Close e = refl
close_is k e = absurd (cc)

pub pin_place : (text : List ℕ) (span : Span) → IsShapedPin text span → IsPinPlace text span
unfolding rows_from
pin_place text span s =
    let a = rows_cut text (tokens_of text) Start s.before (s.bracket ∷ s.first ∷ (s.more ++ s.close ∷ s.after)) s.parts in
    let o = next_row text a.back a.there s.bracket (s.first ∷ (s.more ++ s.close ∷ s.after)) a.others in
    let n = next_row text o.back o.there s.first (s.more ++ s.close ∷ s.after) o.others in
    let m = rows_cut text n.back n.there s.more (s.close ∷ s.after) (sym n.others) in
    let c = next_row text m.back m.there s.close s.after m.others in
    let (mark, closes) = close_mark c.token.kind (part text c.token.from c.token.to) (ap (λ (r : Row). is Close r.kind) (sym c.own) ∙ s.closes) in
    let before : kinds_in s.before ≡ map (kind_in text) a.front = ap kinds_in a.rows ∙ kinds_from text a.front Start in
    let more : kinds_in s.more ≡ map (kind_in text) m.front = ap kinds_in m.rows ∙ kinds_from text m.front n.there in
    let front : map (kind_in text) (a.front ++ o.token ∷ []) ≡ kinds_in (s.before ++ s.bracket ∷ [])
    = map-append (kind_in text) a.front (o.token ∷ [])
    ∙ (λ i. sym before i ++ (sym o.own i).kind ∷ []) ∙ sym (map-append (λ (r : Row). r.kind) s.before (s.bracket ∷ [])) in
    let behind : map (kind_in text) (n.token ∷ (m.front ++ c.token ∷ [])) ≡ kinds_in (s.first ∷ (s.more ++ s.close ∷ []))
    = ap (λ ks. kind_in text n.token ∷ ks) (map-append (kind_in text) m.front (c.token ∷ []))
    ∙ (λ i. (sym n.own i).kind ∷ (sym more i ++ (sym c.own i).kind ∷ []))
    ∙ ap (λ ks. s.first.kind ∷ ks) (sym (map-append (λ (r : Row). r.kind) s.more (s.close ∷ []))) in
    let counts : length (s.first ∷ (s.more ++ s.close ∷ [])) ≡ length (n.token ∷ (m.front ++ c.token ∷ []))
    = omega (arith, length-append s.more (s.close ∷ []), length-append m.front (c.token ∷ []), ap length m.rows, rows_count text m.front n.there) in
    let whole : (s.first ∷ (s.more ++ s.close ∷ [])) ++ s.after ≡ rows_from text o.there ((n.token ∷ (m.front ++ c.token ∷ [])) ++ c.back)
    = ap (λ rs. s.first ∷ rs) (append_assoc s.more (s.close ∷ []) s.after) ∙ o.others
    ∙ ap (rows_from text o.there) (n.is ∙ ap (λ ts. n.token ∷ ts) (m.is ∙ ap (λ ts. m.front ++ ts) c.is ∙ sym (append_assoc m.front (c.token ∷ []) c.back))) in
    let rows_are = rows_front text (n.token ∷ (m.front ++ c.token ∷ [])) c.back o.there (s.first ∷ (s.more ++ s.close ∷ [])) s.after whole counts in
    record {
      stands = record {
        before = a.front;
        bracket = o.token;
        name = n.token;
        more = m.front;
        close = c.token;
        after = c.back;
        is = a.is ∙ ap (λ ts. a.front ++ ts) (o.is ∙ ap (λ ts. o.token ∷ ts) (n.is ∙ ap (λ ts. n.token ∷ ts) (m.is ∙ ap (λ ts. m.front ++ ts) c.is)));
        opens = open_mark o.token.kind (part text o.token.from o.token.to) (ap (λ (r : Row). is Open r.kind) (sym o.own) ∙ s.opens);
        named = identifier_token n.token.kind (part text n.token.from n.token.to) (ap (λ (r : Row). is Identifier r.kind) (sym n.own) ∙ s.named);
        mark = mark;
        closes = closes;
        shut =
            all_shut text n.token m.front o.there n.there
            (subst (λ r. EachRow (λ q. is Open q.kind ≡ false) (r ∷ rows_from text n.there m.front)) n.own
            (subst (λ rs. EachRow (λ q. is Open q.kind ≡ false) (s.first ∷ rs)) m.rows s.bare));
        begins = s.from ∙ ap (λ (r : Row). r.from) n.own;
        ends = s.to ∙ (λ i. last_to (n.own i) (m.rows i)) ∙ last_is text o.there n.token n.there m.front;
      };
      comes = ap (run next (Some start)) front ∙ s.comes;
      inside =
          all_inside text n.token (m.front ++ c.token ∷ []) o.there
          (subst (EachRow (λ r. stands_in InConnection r ≡ true)) rows_are s.inside);
      closing = ap (λ (r : Row). r.kind) (sym c.own) ∙ close_is s.close.kind s.closes;
      runs = ap (run next (Some (state (AtInstance Connection)))) behind ∙ s.runs;
    }
