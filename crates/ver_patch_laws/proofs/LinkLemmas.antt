-- What the pins of a changed netlist are linked to.
use Rattle.std.proofs.Common.{◌≡◌, ℕ, zero, suc, ◌-◌, ◌<◌, ◌≤◌, Bool, true, false, List, [], ◌∷◌, ◌++◌, map, length, take, refl, sym, ap, ◌∙◌, subst, arith, ◌⊎◌, inl, inr}
use Rattle.std.specs.Prelude.{drop, slice_get}
use Rattle.std.specs.List.{AllPairs, take_while}
use Rattle.vg_scan.specs.declared.lines.Span.{Span}
use Rattle.ver_text.proofs.OrderLemmas.{stand_in_order}
use Rattle.ver_syntax.specs.declared.row.Place.TheVariants.{Connection}
use Rattle.ver_syntax.specs.declared.row.Row.{Row}
use Rattle.ver_syntax.proofs.PlaceLemmas.{items_stand}
use Rattle.ver_items.specs.Connections.{connection_of, expression_in, span_of}
use Rattle.ver_items.specs.Sections.{Section, is_place, items, stands_in}
use Rattle.ver_module.specs.declared.link.Link.TheVariants.{One}
use Rattle.ver_module.specs.Netlists.{Netlist, Pin}
use Rattle.ver_file.specs.Modules.{Denotes}
use Rattle.ver_file.specs.Netlists.{link_of}
use Rattle.ver_net.specs.Laws.{IsBefore}
use Rattle.ver_net.specs.declared.pin_ref.PinRef.{PinRef}
use Rattle.ver_patch.specs.Pins.{IsOnOneNet, span_at}
use Rattle.ver_patch.specs.Rewires.{Rewire}
use Rattle.ver_patch.proofs.LawLemmas.{span_is, spans_rise, spans_stand}
use Rattle.ver_patch_text_laws.specs.Words.{words_of}
use Rattle.ver_patch_text_laws.proofs.TextLemmas.{Each}
use Rattle.ver_patch_text_laws.proofs.LawLemmas.{head_pairs, tail_pairs}
use Rattle.ver_patch_text_laws.proofs.RunLemmas.{EachRow}
use Rattle.ver_patch_text_laws.proofs.SectionLemmas.{Quits}
use Rattle.ver_patch_laws.proofs.ChangedLemmas.{InOne, IsSame}
use Rattle.ver_patch_laws.proofs.ConnectionLemmas.{expression_is, while_inside, while_more}
use Rattle.ver_patch_laws.proofs.PinLemmas.{IsPin, pin_section, pin_sections, stand_apart}
use Rattle.ver_patch_laws.proofs.RelinkedLemmas.{ArePairs, AreRelinked, In, each_in}
use Rattle.ver_patch_laws.proofs.SameLemmas.{AreSame}
use Rattle.ver_patch_laws.proofs.WalkLemmas.{IsFree, IsNewNet, word_at}

-- ---- connections

module _ (text new : List ℕ) (netlist : Netlist) (all : List Rewire) where
  abbrev AreLinkedRows : List Row → List Row → Type 0
  AreLinkedRows rows others = AreRelinked text new (IsFree netlist all) (IsNewNet text new netlist all) rows others

  pub drop_first : (rows others : List Row) → AreLinkedRows rows others → Quits rows → AreLinkedRows (drop 1 rows) (drop 1 others)
  drop_first _ _ AreRelinked.none q = AreRelinked.none
  drop_first _ _ (AreRelinked.kept same free more) q = more
  drop_first _ _ (AreRelinked.replaced old made rows others i more) q =
      let b = i.becomes in
      let off : stands_in Connection b.first ≡ false = subst (λ us. Quits (us ++ rows)) b.old_is q in
      let on : stands_in Connection b.first ≡ true = (subst (EachRow InOne) b.old_is i.before).0 in
      absurd (cc)

  -- a connection in which none begins that is made anew stays
  pub conn_kept : (rows others : List Row) → AreLinkedRows rows others → EachRow (λ x. IsFree netlist all x.from) (take_while (stands_in Connection) rows)
      → AreSame text new (take_while (stands_in Connection) rows) (take_while (stands_in Connection) others)
  conn_kept _ _ AreRelinked.none h = ArePairs.done
  conn_kept _ _ (AreRelinked.kept {r} {q} {rows} {others} same free more) h = by_test (stands_in Connection r) refl (conn_kept rows others more)
    where
      by_test : (b : Bool) → stands_in Connection r ≡ b
          → (EachRow (λ x. IsFree netlist all x.from) (take_while (stands_in Connection) rows)
          → AreSame text new (take_while (stands_in Connection) rows) (take_while (stands_in Connection) others))
          → AreSame text new (take_while (stands_in Connection) (r ∷ rows)) (take_while (stands_in Connection) (q ∷ others))
      by_test true t go =
          let rest = subst (EachRow (λ x. IsFree netlist all x.from)) (while_more (stands_in Connection) r rows true t) h in
          subst (λ xs. AreSame text new xs (take_while (stands_in Connection) (q ∷ others))) (sym (while_more (stands_in Connection) r rows true t))
          (subst (AreSame text new (r ∷ take_while (stands_in Connection) rows))
          (sym (while_more (stands_in Connection) q others true (ap (is_place Connection) (sym same.place) ∙ t))) (ArePairs.pair same (go rest.1)))
      by_test false t go =
          subst (λ xs. AreSame text new xs (take_while (stands_in Connection) (q ∷ others))) (sym (while_more (stands_in Connection) r rows false t))
          (subst (AreSame text new []) (sym (while_more (stands_in Connection) q others false (ap (is_place Connection) (sym same.place) ∙ t))) ArePairs.done)
  conn_kept _ _ (AreRelinked.replaced old made rows others i more) h =
      let b = i.becomes in
      let first = subst (EachRow (λ x. IsFree netlist all x.from)) (while_inside old rows i.before i.quits ∙ b.old_is) h in
      absurd (first.0 b.rewire b.own (sym b.begins))

  -- a connection is made anew that begins with this token
  pub record IsMadeAt (x : Row) (others : List Row) : Type 0 where
    pub rewire : Rewire
    pub own : In rewire all
    pub begins : (span_at netlist rewire.at).from ≡ x.from
    pub words : map (word_at new) (expression_in (take_while (stands_in Connection) others)) ≡ words_of rewire.net

  pub conn_made : (rows others : List Row) → AreLinkedRows rows others → (x : Row) (xs : List Row) → take_while (stands_in Connection) rows ≡ x ∷ xs
      → (q : Rewire) → In q all → (span_at netlist q.at).from ≡ x.from → IsMadeAt x others
  conn_made _ _ AreRelinked.none x xs e q own begins = absurd (cc)
  conn_made _ _ (AreRelinked.kept {r} {q} {rows} {others} same free more) x xs e w own begins = by_test (stands_in Connection r) refl
    where
      by_test : (b : Bool) → stands_in Connection r ≡ b → IsMadeAt x (q ∷ others)
      by_test true t =
          let f : r ∷ take_while (stands_in Connection) rows ≡ x ∷ xs = sym (while_more (stands_in Connection) r rows true t) ∙ e in
          let g : r ≡ x = cc in
          absurd (free w own (begins ∙ ap (λ (y : Row). y.from) (sym g)))
      by_test false t = let f : [] ≡ x ∷ xs = sym (while_more (stands_in Connection) r rows false t) ∙ e in absurd (cc)
  conn_made _ _ (AreRelinked.replaced old made rows others i more) x xs e q own begins =
      let b = i.becomes in
      let f : b.first ∷ b.more ≡ x ∷ xs = sym b.old_is ∙ sym (while_inside old rows i.before i.quits) ∙ e in
      let g : b.first ≡ x = cc in
      record {
        rewire = b.rewire;
        own = b.own;
        begins = sym b.begins ∙ ap (λ (y : Row). y.from) g;
        words =
            ap (λ rs. map (word_at new) (expression_in rs)) (while_inside made others i.now i.quits_now ∙ b.made_is)
            ∙ ap (map (word_at new)) (expression_is b.net b.close) ∙ b.words;
      }

pub pairs_length : {X Y : Type 0} (R : X → Y → Type 0) (xs : List X) (ys : List Y) → ArePairs R xs ys → length xs ≡ length ys
pairs_length R _ _ ArePairs.done = refl
pairs_length R _ _ (ArePairs.pair {x} {y} {xs} {ys} r h) = ap (λ (n : ℕ). suc n) (pairs_length R xs ys h)

pairs_take : {X Y : Type 0} (R : X → Y → Type 0) (n : ℕ) (xs : List X) (ys : List Y) → ArePairs R xs ys → ArePairs R (take n xs) (take n ys)
pairs_take R zero _ _ ArePairs.done = ArePairs.done
pairs_take R (suc n) _ _ ArePairs.done = ArePairs.done
pairs_take R zero _ _ (ArePairs.pair r h) = ArePairs.done
pairs_take R (suc n) _ _ (ArePairs.pair {x} {y} {xs} {ys} r h) = ArePairs.pair r (pairs_take R n xs ys h)

pub expression_same : (text new : List ℕ) (rows others : List Row) → AreSame text new rows others → AreSame text new (expression_in rows) (expression_in others)
expression_same text new rows others h =
    subst (λ n. AreSame text new (expression_in rows) (take (n - 1) others)) (pairs_length (IsSame text new) rows others h)
    (pairs_take (IsSame text new) (length rows - 1) rows others h)

-- ---- the order of pins

compare : (m n : ℕ) → (m ≡ n) ⊎ ((m < n) ⊎ (n < m))
compare zero zero = inl refl
compare zero (suc n) = inr (inl (omega arith))
compare (suc m) zero = inr (inr (omega arith))
compare (suc m) (suc n) = elim (compare m n) [ inl e ↦ inl (ap (λ (k : ℕ). suc k) e) | inr (inl h) ↦ inr (inl (omega (arith, h))) | inr (inr h) ↦ inr (inr (omega (arith, h))) ]

-- two pins are one, or one of them stands before the other
pin_order : (a b : PinRef) → (a ≡ b) ⊎ (IsBefore a b ⊎ IsBefore b a)
pin_order a b =
    elim (compare a.instance b.instance) [
      | inl e ↦ (elim (compare a.pin b.pin) [
        | inl f ↦ inl (λ i. record { instance = e i; pin = f i })
        | inr (inl h) ↦ inr (inl (inr (e, h)))
        | inr (inr h) ↦ inr (inr (inr (sym e, h)))
      ])
      | inr (inl h) ↦ inr (inl (inl h))
      | inr (inr h) ↦ inr (inr (inl h))
    ]

in_pairs : {X : Type 0} (R : X → X → Type 0) (xs : List X) (x y : X) → AllPairs R xs → In x xs → In y xs → (x ≡ y) ⊎ (R x y ⊎ R y x)
in_pairs R [] x y h i j = absurd i
in_pairs R (z ∷ zs) x y h (inl e) (inl f) = inl (e ∙ sym f)
in_pairs R (z ∷ zs) x y h (inl e) (inr j) = inr (inl (subst (λ u. R u y) (sym e) (each_in (R z) zs y (head_pairs R z zs h) j)))
in_pairs R (z ∷ zs) x y h (inr i) (inl f) = inr (inr (subst (λ u. R u x) (sym f) (each_in (R z) zs x (head_pairs R z zs h) i)))
in_pairs R (z ∷ zs) x y h (inr i) (inr j) = in_pairs R zs x y (tail_pairs R z zs h) i j

-- ---- rewired pins

-- the section of a pin that is linked to one net, and the first token of its connection
pub record IsOneSection (text : List ℕ) (netlist : Netlist) (at : PinRef) : Type 0 where
  pub section : Section
  pub is_pin : IsPin (pin_sections (items text)) at section
  pub first : Row
  pub more : List Row
  pub parts : connection_of section ≡ first ∷ more
  pub begins : (span_at netlist at).from ≡ first.from

module _ (text : List ℕ) (netlist : Netlist) (d : Denotes text netlist) where
  pub one_section_at : (at : PinRef) → IsOnOneNet netlist at → IsOneSection text netlist at
  one_section_at at (net, l) =
      let s = pin_section text at l.instance l.pin (ap (λ (n : Netlist). slice_get n.instances at.instance) (sym d.is) ∙ l.is_instance) l.is_pin in
      let link : link_of text (expression_in (connection_of s.section)) ≡ One net = ap (λ (p : Pin). p.link) (sym s.is) ∙ l.has_link in
      let span : span_at netlist at ≡ span_of (connection_of s.section) = span_is netlist at l.instance l.pin l.is_instance l.is_pin ∙ ap (λ (p : Pin). p.span) s.is in
      by_rows (connection_of s.section) refl link s.is_pin span
    where
      by_rows : {s : Section} (rows : List Row) → connection_of s ≡ rows → link_of text (expression_in rows) ≡ One net → IsPin (pin_sections (items text)) at s
          → span_at netlist at ≡ span_of (connection_of s) → IsOneSection text netlist at
      by_rows [] e f p g = absurd (cc)
      by_rows {s} (r ∷ rows) e f p g = record {
        section = s;
        is_pin = p;
        first = r;
        more = rows;
        parts = e;
        begins = ap (λ (x : Span). x.from) (g ∙ ap span_of e);
      }

  -- the connection of another pin has no token at that place
  apart_rows : (rows : List Row) (n mid : ℕ) → n < mid → EachRow (λ x. mid ≤ x.from) rows → EachRow (λ x. n ≡ x.from → ⊥) rows
  apart_rows [] n mid less h = tt
  apart_rows (r ∷ rows) n mid less h = (λ e. (let k = h.0 in absurd (omega (arith, less, k, e))), apart_rows rows n mid less h.1)

  before_rows : (rows : List Row) (n mid : ℕ) → mid ≤ n → EachRow (λ x. x.from < mid) rows → EachRow (λ x. n ≡ x.from → ⊥) rows
  before_rows [] n mid less h = tt
  before_rows (r ∷ rows) n mid less h = (λ e. (let k = h.0 in absurd (omega (arith, less, k, e))), before_rows rows n mid less h.1)

  other_place : (at : PinRef) (s : Section) → IsPin (pin_sections (items text)) at s → (b : PinRef) → IsOnOneNet netlist b → (b ≡ at → ⊥)
      → EachRow (λ x. (span_at netlist b).from ≡ x.from → ⊥) (connection_of s)
  other_place at s p b on other =
      let o = one_section_at b on in
      let begins = o.begins in
      elim (pin_order b at) [
        | inl e ↦ absurd (other e)
        | inr (inl h) ↦ (let a = stand_apart text b at o.section s o.is_pin p h in
            let f = (subst (EachRow (λ x. x.from < a.mid)) o.parts a.first).0 in
            apart_rows (connection_of s) (span_at netlist b).from a.mid (omega (arith, f, begins)) a.second)
        | inr (inr h) ↦ (let a = stand_apart text at b s o.section p o.is_pin h in
            let f = (subst (EachRow (λ x. a.mid ≤ x.from)) o.parts a.second).0 in
            before_rows (connection_of s) (span_at netlist b).from a.mid (omega (arith, f, begins)) a.first)
      ]

  free_rows : (rows : List Row) (all : List Rewire) → ((q : Rewire) → In q all → EachRow (λ x. (span_at netlist q.at).from ≡ x.from → ⊥) rows)
      → EachRow (λ x. IsFree netlist all x.from) rows
  free_rows [] all h = tt
  free_rows (r ∷ rows) all h = (λ q i e. (h q i).0 e, free_rows rows all (λ q i. (h q i).1))

  -- no connection is made anew in that of a pin that is not rewired
  pub pin_free : (all : List Rewire) → Each (λ r. IsOnOneNet netlist r.at) all → (at : PinRef) (s : Section) → IsPin (pin_sections (items text)) at s
      → Each (λ r. r.at ≡ at → ⊥) all → EachRow (λ x. IsFree netlist all x.from) (connection_of s)
  pin_free all linked at s p others =
      free_rows (connection_of s) all (λ q i. other_place at s p q.at (each_in (λ r. IsOnOneNet netlist r.at) all q linked i) (each_in (λ r. r.at ≡ at → ⊥) all q others i))

  -- two rewires whose connections begin at one place are one
  pub same_rewire : (all : List Rewire) → Each (λ r. IsOnOneNet netlist r.at) all → AllPairs (λ a b. IsBefore a.at b.at) all → (q r : Rewire) → In q all → In r all
      → (span_at netlist q.at).from ≡ (span_at netlist r.at).from → q ≡ r
  same_rewire all linked rising q r i j e =
      let on_q = each_in (λ r. IsOnOneNet netlist r.at) all q linked i in
      let on_r = each_in (λ r. IsOnOneNet netlist r.at) all r linked j in
      let q_some = (spans_stand stand_in_order items_stand text netlist q.at d on_q).some in
      let r_some = (spans_stand stand_in_order items_stand text netlist r.at d on_r).some in
      elim (in_pairs (λ a b. IsBefore a.at b.at) all q r rising i j) [
        | inl same ↦ same
        | inr (inl h) ↦ (let k = spans_rise stand_in_order items_stand text netlist q.at r.at d on_q on_r h in absurd (omega (arith, k, q_some, e)))
        | inr (inr h) ↦ (let k = spans_rise stand_in_order items_stand text netlist r.at q.at d on_r on_q h in absurd (omega (arith, k, r_some, e)))
      ]
