-- The bits of the vectors of a text have numbers up to 2^20.
use Rattle.std.proofs.Common.{◌≡◌, ℕ, ◌<◌, ◌≤◌, ◌^◌, ◌==◌, nat_lt, Bool, true, false, cond, not, ◌||◌, ◌&&◌, List, [], ◌∷◌, Option, Some, None, refl, sym, ap, ◌∙◌, subst, arith, ◌⊎◌, inl, inr}
use Rattle.std.specs.Prelude.{IfSome, codes, filter, find, is_some, option_and_then}
use Rattle.std.specs.List.{flat_map}
use Rattle.std.specs.Str.{bytes_eq}
use Rattle.std.proofs.lemmas.Bool.Decides.{nat_tests}
use Rattle.std.proofs.lemmas.Int.{clamps}
use Rattle.std.proofs.lemmas.Option.{same_Some}
use Rattle.vg_num.specs.Number.{value_of}
use Rattle.ver_text.specs.declared.kind.Kind.{Kind}
use Rattle.ver_text.specs.declared.kind.Kind.TheVariants.{Module, Direction, Wire, NetType, Assign, Zero, Small, Limit, Large, Semicolon}
use Rattle.ver_text.specs.declared.token.TokenKind.{TokenKind}
use Rattle.ver_text.specs.declared.token.TokenKind.TheVariants.{Word, Escaped, Digits, Based, Mark, Stray, Unclosed}
use Rattle.ver_text.specs.Kinds.{digits_kind, grammar_kind, is_direction, is_net_type, is_parameter, mark_kind, number_kind, word_kind}
use Rattle.ver_syntax.specs.declared.row.Place.{Place}
use Rattle.ver_syntax.specs.declared.row.Place.TheVariants.{Start, Head, Ports, Declaration, Assignment, Connection}
use Rattle.ver_syntax.specs.declared.row.Row.{Row}
use Rattle.ver_syntax.specs.declared.state.At.{At}
use Rattle.ver_syntax.specs.declared.state.Brace.{Brace}
use Rattle.ver_syntax.specs.Grammar.{is, is_digits, is_net}
use Rattle.ver_syntax.specs.Moves.{State, move, next}
use Rattle.ver_syntax.specs.Rows.{item_after, place_after, rows_of}
use Rattle.ver_syntax.specs.Syntax.{IsModule}
use Rattle.ver_syntax.proofs.TableLemmas.{each_kind, each_state}
use Rattle.ver_syntax.proofs.PlaceLemmas.{place_at, start}
use Rattle.ver_module.specs.declared.range.Range.{Range}
use Rattle.ver_module.specs.Ranges.{bits_from, bits_of}
use Rattle.ver_items.specs.Declarations.{Declared, begins_declaration, declarations_in, declare, declared_by, declared_in, declared_of, heading_of, numbers_in, range_in, range_of}
use Rattle.ver_items.specs.Sections.{Section, bytes_at, is_net_name, is_place, items, number_at, stands_in}
use Rattle.ver_patch.proofs.FrameLemmas.{Follow}
use Rattle.ver_patch_text_laws.proofs.TextLemmas.{Each}
use Rattle.ver_patch_text_laws.proofs.RunLemmas.{EachRow, Runs, module_runs, runs_next}
use Rattle.ver_patch_laws.proofs.DeclareLemmas.{IsItem, is_cell, module_items, nothing_declared}
use Rattle.ver_patch_laws.proofs.RelinkedLemmas.{In, each_in}
use Rattle.ver_patch_laws.proofs.AssignedLemmas.{at_assignment, or_other, same_after, sections_none}
use Rattle.ver_patch_laws.proofs.DeclaredLemmas.{in_filter}
use Rattle.ver_patch_laws.proofs.IdentifierLemmas.{row_token}
use Rattle.ver_patch_laws.proofs.SelectLemmas.{bit_within, within_bounds}
use Rattle.ver_patch_laws.proofs.SetLemmas.{each_from, each_map, in_flattened, in_mapped}
use Rattle.ver_patch_laws.proofs.SoundLemmas.{section_of}

-- ---- numbers

choose : (test : Kind → Bool) (c : Bool) (a b : Kind) → test a ≡ false → test b ≡ false → test (cond c a b) ≡ false
choose test true a b e f = e
choose test false a b e f = f

no_word : (w : List ℕ) → is_digits (word_kind w) ≡ false
no_word w =
    choose is_digits (is_direction w) _ _ refl (choose is_digits (bytes_eq w (codes "wire")) _ _ refl (choose is_digits (is_net_type w) _ _ refl
    (choose is_digits (bytes_eq w (codes "assign")) _ _ refl (choose is_digits (bytes_eq w (codes "module")) _ _ refl
    (choose is_digits (bytes_eq w (codes "endmodule")) _ _ refl (choose is_digits (is_parameter w) _ _ refl refl))))))

no_mark : (b : ℕ) → is_digits (mark_kind b) ≡ false
no_mark b =
    let or = choose is_digits in
    or (b == 40) _ _ refl (or (b == 41) _ _ refl (or (b == 91) _ _ refl (or (b == 93) _ _ refl (or (b == 123) _ _ refl (or (b == 125) _ _ refl
    (or (b == 44) _ _ refl (or (b == 59) _ _ refl (or (b == 46) _ _ refl (or (b == 58) _ _ refl (or (b == 61) _ _ refl (or (b == 35) _ _ refl refl)))))))))))

-- digits that are no number over 2^20
abbrev IsIndex : List ℕ → Kind → Type 0
IsIndex bytes k = is_digits k ≡ true → is Large k ≡ false → value_of bytes ≤ 2 ^ 20

number_small : (n : ℕ) → is Large (number_kind n) ≡ false → n ≤ 2 ^ 20
number_small n e = by_zero (n == 0) refl e
  where
    by_limit : (b : Bool) → (n == 2 ^ 20) ≡ b → is Large (cond b Limit Large) ≡ false → n ≤ 2 ^ 20
    by_limit true t f = grind (arith, nat_tests, t)
    by_limit false t f = absurd (cc)

    by_less : (b : Bool) → nat_lt n (2 ^ 20) ≡ b → is Large (cond b Small (cond (n == 2 ^ 20) Limit Large)) ≡ false → n ≤ 2 ^ 20
    by_less true t f = let less : n < 2 ^ 20 = grind (arith, nat_tests, t) in omega (arith, less)
    by_less false t f = by_limit (n == 2 ^ 20) refl f

    by_zero : (b : Bool) → (n == 0) ≡ b → is Large (cond b Zero (cond (nat_lt n (2 ^ 20)) Small (cond (n == 2 ^ 20) Limit Large))) ≡ false → n ≤ 2 ^ 20
    by_zero true t f = let zero : n ≡ 0 = grind (arith, nat_tests, t) in omega (arith, zero)
    by_zero false t f = by_less (nat_lt n (2 ^ 20)) refl f

index_kind : (kind : TokenKind) (w : List ℕ) → IsIndex w (grammar_kind kind w)
unfolding digits_kind
index_kind Word w e f = let n = no_word w in absurd (cc)
index_kind Escaped w e f = absurd (cc)
index_kind Digits w e f = number_small (value_of w) f
index_kind Based w e f = absurd (cc)
index_kind (Mark b) w e f = let n = no_mark b in absurd (cc)
index_kind Stray w e f = absurd (cc)
index_kind Unclosed w e f = absurd (cc)

-- ---- where numbers and directions stand

large_stands : (at : At) (bs : List Brace) → (is_place Connection (place_at at) || (is_place Assignment (place_at at) || not (is_some (move at Large bs)))) ≡ true
unfolding place_at
large_stands = each_state (λ at bs. is_place Connection (place_at at) || (is_place Assignment (place_at at) || not (is_some (move at Large bs)))) (λ bs. refl)

direction_stands : (at : At) (bs : List Brace) → (not (is_place Assignment (place_at at)) || not (is_some (move at Direction bs))) ≡ true
unfolding place_at
direction_stands = each_state (λ at bs. not (is_place Assignment (place_at at)) || not (is_some (move at Direction bs))) (λ bs. refl)

three : (a b c : Bool) → (a || (b || not c)) ≡ true → a ≡ false → b ≡ false → c ≡ true → ⊥
three true b c e f g h = absurd (cc)
three false true c e f g h = absurd (cc)
three false false true e f g h = absurd (cc)
three false false false e f g h = absurd (cc)

two : (a c : Bool) → (not a || not c) ≡ true → a ≡ true → c ≡ true → ⊥
two true true e f g = absurd (cc)
two true false e f g = absurd (cc)
two false c e f g = absurd (cc)

-- a token is no number over 2^20 but in an expression, and in an assignment no direction
record IsFit (r : Row) : Type 0 where
  small : is_place Connection r.place ≡ false → is_place Assignment r.place ≡ false → is Large r.kind ≡ false
  plain : is_place Assignment r.place ≡ true → is Direction r.kind ≡ false

no_large : (s t : State) (k : Kind) → next s k ≡ Some t → is_place Connection (place_at s.at) ≡ false → is_place Assignment (place_at s.at) ≡ false → is Large k ≡ false
no_large s t Large e f g =
    let moves : is_some (move s.at Large s.open_braces) ≡ true = ap is_some e in
    absurd (three (is_place Connection (place_at s.at)) (is_place Assignment (place_at s.at)) (is_some (move s.at Large s.open_braces)) (large_stands s.at s.open_braces) f g moves)
no_large s t k e f g = refl

no_direction : (s t : State) (k : Kind) → next s k ≡ Some t → is_place Assignment (place_at s.at) ≡ true → is Direction k ≡ false
no_direction s t Direction e f =
    let moves : is_some (move s.at Direction s.open_braces) ≡ true = ap is_some e in
    absurd (two (is_place Assignment (place_at s.at)) (is_some (move s.at Direction s.open_braces)) (direction_stands s.at s.open_braces) f moves)
no_direction s t k e f = refl

fit_rows : (rows : List Row) (s : State) → Runs s rows → Each IsFit rows
fit_rows [] s h = tt
fit_rows (r ∷ rows) s h =
    let m = runs_next s r rows h in (
      record {
        small = λ f g. no_large s m.state r.kind m.move (ap (is_place Connection) (sym m.place) ∙ f) (ap (is_place Assignment) (sym m.place) ∙ g);
        plain = λ f. no_direction s m.state r.kind m.move (ap (is_place Assignment) (sym m.place) ∙ f);
      },
      fit_rows rows m.state m.runs,
    )

-- ---- declarations

-- what declares stands here
abbrev is_said : Place → Bool
is_said Head = true
is_said Ports = true
is_said Declaration = true
is_said _ = false

said_after : (p : Place) (k : Kind) → is_said p ≡ true → (is_said (place_after p k) || is_place Start (place_after p k)) ≡ true
said_after Head k e = each_kind (λ k. is_said (place_after Head k) || is_place Start (place_after Head k)) refl k
said_after Ports k e = each_kind (λ k. is_said (place_after Ports k) || is_place Start (place_after Ports k)) refl k
said_after Declaration k e = each_kind (λ k. is_said (place_after Declaration k) || is_place Start (place_after Declaration k)) refl k
said_after p k e = absurd (cc)

all_said : (p : Place) (rows : List Row) → is_said p ≡ true → Follow p rows → EachRow (λ r. stands_in Start r ≡ false) rows → Each (λ (r : Row). is_said r.place ≡ true) rows
all_said p [] e f k = tt
all_said p (r ∷ []) e f k = (ap is_said f.0 ∙ e, tt)
all_said p (r ∷ q ∷ rows) e f k =
    let off : is_place Start (place_after p r.kind) ≡ false = ap (is_place Start) (sym f.1.0) ∙ k.1.0 in (
      ap is_said f.0 ∙ e,
      all_said (place_after p r.kind) (q ∷ rows) (or_other (is_said (place_after p r.kind)) (is_place Start (place_after p r.kind)) (said_after p r.kind e) off) f.1 k.1,
    )

-- tokens of an assignment, behind its first
all_assigned : (rows : List Row) (p : Place) → p ≡ Assignment → Follow p rows → EachRow (λ r. stands_in Start r ≡ false) rows
    → EachRow (λ (r : Row). r.place ≡ Assignment) rows
all_assigned [] p e f k = tt
all_assigned (r ∷ []) p e f k = (f.0 ∙ e, tt)
all_assigned (r ∷ q ∷ rows) p e f k =
    let after : place_after p r.kind ≡ place_after Assignment r.kind = ap (λ x. place_after x r.kind) e in
    let off : is_place Start (place_after Assignment r.kind) ≡ false = ap (is_place Start) (sym after ∙ sym f.1.0) ∙ k.1.0 in
    let on = or_other (is_place Assignment (place_after Assignment r.kind)) (is_place Start (place_after Assignment r.kind)) (same_after r.kind) off in
    (f.0 ∙ e, all_assigned (q ∷ rows) (place_after p r.kind) (after ∙ at_assignment (place_after Assignment r.kind) on) f.1 k.1)

-- what the tokens of an item stand in, behind its first
data ItemPlace (k : Kind) : Type 0 where
  cell : is_cell (item_after k) ≡ true → ItemPlace k
  said : is_said (item_after k) ≡ true → ItemPlace k
  assigned : item_after k ≡ Assignment → (is Direction k || is_net k) ≡ false → ItemPlace k
  nothing : item_after k ≡ Start → ItemPlace k

item_place : (k : Kind) → ItemPlace k
unfolding is_cell
item_place Module = ItemPlace.said refl
item_place Direction = ItemPlace.said refl
item_place Wire = ItemPlace.said refl
item_place NetType = ItemPlace.said refl
item_place Assign = ItemPlace.assigned refl refl
item_place Semicolon = ItemPlace.nothing refl
item_place k = ItemPlace.cell refl

-- the tokens of a declaration are such of its item
body_row : (item s : Section) → In s (declarations_in item) → (r : Row) → In r s.body → (r ≡ item.head) ⊎ In r item.body
body_row item s i r j = (section_of begins_declaration (item.head ∷ item.body) s i).body r j

module _ (text : List ℕ) (h : IsModule text) where
  fits : (r : Row) → In r (rows_of text) → IsFit r
  fits r i = each_in IsFit (rows_of text) r (fit_rows (rows_of text) start (module_runs text h)) i

  in_item : (item : Section) → In item (items text) → (r : Row) → (r ≡ item.head) ⊎ In r item.body → In r (rows_of text)
  in_item item i r (inl e) = subst (λ q. In q (rows_of text)) (sym e) (section_of (stands_in Start) (rows_of text) item i).head
  in_item item i r (inr j) = (section_of (stands_in Start) (rows_of text) item i).body r j

  small_number : (r : Row) → In r (rows_of text) → is_digits r.kind ≡ true → is Large r.kind ≡ false → number_at text r ≤ 2 ^ 20
  small_number r i d l =
      let t = row_token text r i in
      let few : value_of (bytes_at text r) ≤ 2 ^ 20
      = subst (λ w. value_of w ≤ 2 ^ 20) (sym t.bytes) (index_kind t.token.kind _ (ap is_digits (sym t.kind) ∙ d) (ap (is Large) (sym t.kind) ∙ l)) in
      omega (arith, clamps, few)

  -- the numbers of a declaration
  abbrev AreFew : Section → Type 0
  AreFew s = Each (λ n. n ≤ 2 ^ 20) (numbers_in text s)

  numbers_few : (s : Section) → ((r : Row) → In r s.body → In r (rows_of text) × (is Large r.kind ≡ false)) → AreFew s
  numbers_few s k =
      each_map (λ n. n ≤ 2 ^ 20) (number_at text) (filter (λ r. is_digits r.kind) s.body)
      (each_from (λ r. number_at text r ≤ 2 ^ 20) (filter (λ (r : Row). is_digits r.kind) s.body)
      (λ r i. let (j, d) = in_filter (λ (q : Row). is_digits q.kind) s.body r i in
      let (among, small) = k r j in
      small_number r among d small))

  said_place : (p : Place) → is_said p ≡ true → (is_place Connection p ≡ false) × (is_place Assignment p ≡ false)
  said_place Head e = (refl, refl)
  said_place Ports e = (refl, refl)
  said_place Declaration e = (refl, refl)
  said_place p e = absurd (cc)

  start_place : (p : Place) → p ≡ Start → (is_place Connection p ≡ false) × (is_place Assignment p ≡ false)
  start_place p e = (ap (is_place Connection) e, ap (is_place Assignment) e)

  not_large : (r : Row) → In r (rows_of text) → (is_place Connection r.place ≡ false) × (is_place Assignment r.place ≡ false) → is Large r.kind ≡ false
  not_large r i p = (fits r i).small p.0 p.1

  -- an item whose tokens say what is declared
  said_few : (item : Section) → In item (items text) → IsItem item → is_said (item_after item.head.kind) ≡ true → (s : Section) → In s (declarations_in item) → AreFew s
  said_few item i k e s j =
      let all = all_said (item_after item.head.kind) item.body e k.body.follow k.body.inner in
      numbers_few s (λ r l. let own = body_row item s j r l in
      let among = in_item item i r own in (
        among,
        not_large r among (elim own [
          | inl f ↦ start_place r.place (ap (λ (x : Row). x.place) f ∙ k.starts)
          | inr m ↦ said_place r.place (each_in (λ (x : Row). is_said x.place ≡ true) item.body r all m)
        ]),
      ))

  -- an assignment declares nothing
  begins_none : (rows : List Row) → EachRow (λ (r : Row). r.place ≡ Assignment) rows → ((r : Row) → In r rows → In r (rows_of text)) → EachRow (λ r. begins_declaration r ≡ false) rows
  begins_none [] e f = tt
  begins_none (r ∷ rows) e f =
      let plain = (fits r (f r (inl refl))).plain (ap (is_place Assignment) e.0) in (
        (λ i. plain i || (is_place Start (e.0 i) && is_net r.kind)),
        begins_none rows e.1 (λ q j. f q (inr j)),
      )

  assigned_none : (item : Section) → In item (items text) → IsItem item → item_after item.head.kind ≡ Assignment → (is Direction item.head.kind || is_net item.head.kind) ≡ false
      → declarations_in item ≡ []
  assigned_none item i k e f =
      let places = all_assigned item.body (item_after item.head.kind) e k.body.follow k.body.inner in
      let head : begins_declaration item.head ≡ false = (λ j. is Direction item.head.kind || (is_place Start (k.starts j) && is_net item.head.kind)) ∙ f in
      sections_none begins_declaration (item.head ∷ item.body) (head, begins_none item.body places (λ r j. in_item item i r (inr j)))

  -- and a single token at most one thing without numbers
  nothing_few : (item : Section) → In item (items text) → IsItem item → item_after item.head.kind ≡ Start → (s : Section) → In s (declarations_in item) → AreFew s
  nothing_few item i k e s j =
      numbers_few s (λ r l. let own = body_row item s j r l in
      let among = in_item item i r own in (
        among,
        not_large r among (start_place r.place (elim own [
          | inl f ↦ ap (λ (x : Row). x.place) f ∙ k.starts
          | inr m ↦ absurd (none item.body k.body.follow k.body.inner r m)
        ])),
      ))
    where
      none : (rows : List Row) → Follow (item_after item.head.kind) rows → EachRow (λ r. stands_in Start r ≡ false) rows → (r : Row) → In r rows → ⊥
      none [] f g r m = m
      none (q ∷ rows) f g r m = let on : stands_in Start q ≡ true = ap (is_place Start) (f.0 ∙ e) in let off = g.0 in absurd (cc)

  -- ---- ranges

  abbrev IsFew : Option Range → Type 0
  IsFew range = IfSome range (λ r. (r.left ≤ 2 ^ 20) × (r.right ≤ 2 ^ 20))

  few_range : (ns : List ℕ) → Each (λ n. n ≤ 2 ^ 20) ns → IsFew (range_of ns)
  few_range [] e = tt
  few_range (l ∷ []) e = tt
  few_range (l ∷ r ∷ ns) e = (e.0, e.1.0)

  item_few : (item : Section) → In item (items text) → IsItem item → (d : Declared) → In d (declared_by text item) → IsFew d.heading.range
  item_few item i k d j = by_place (item_place item.head.kind)
    where
      from_few : ((s : Section) → In s (declarations_in item) → AreFew s) → IsFew d.heading.range
      from_few few =
          let (s, l, m) = in_flattened (declared_in text) (declarations_in item) d j in
          let (r, n, e) = in_mapped (declare text (heading_of text s)) (filter is_net_name s.body) d m in
          subst (λ (x : Declared). IsFew x.heading.range) (sym e) (few_range (numbers_in text s) (few s l))

      by_place : ItemPlace item.head.kind → IsFew d.heading.range
      by_place (ItemPlace.cell e) = absurd (subst (In d) (nothing_declared text item k e) j)
      by_place (ItemPlace.said e) = from_few (said_few item i k e)
      by_place (ItemPlace.assigned e f) = absurd (subst (λ ss. In d (flat_map (declared_in text) ss)) (assigned_none item i k e f) j)
      by_place (ItemPlace.nothing e) = from_few (nothing_few item i k e)

  all_few : (d : Declared) → In d (declared_of text) → IsFew d.heading.range
  all_few d i =
      let (item, j, k) = in_flattened (declared_by text) (items text) d i in
      item_few item j (each_in IsItem (items text) item (module_items text h) j) d k

  range_few : (ds : List Declared) (name : List ℕ) → ((d : Declared) → In d ds → IsFew d.heading.range) → IsFew (range_in ds name)
  range_few [] name k = tt
  range_few (d ∷ ds) name k = by_test (bytes_eq name d.name) (range_few ds name (λ x i. k x (inr i)))
    where
      by_test : (b : Bool) → IsFew (range_in ds name) → IsFew (option_and_then (λ (x : Declared). x.heading.range) (cond b (Some d) (find (λ x. bytes_eq name x.name) ds)))
      by_test true more = k d (inl refl)
      by_test false more = more

  -- a bit of an identifier
  pub bit_few : (name : List ℕ) (bit : Option ℕ) → In bit (bits_of (range_in (declared_of text) name)) → IfSome bit (λ k. k ≤ 2 ^ 20)
  bit_few name bit i = by_range (range_in (declared_of text) name) (range_few (declared_of text) name all_few) bit i
    where
      by_range : (range : Option Range) → IsFew range → (bit : Option ℕ) → In bit (bits_of range) → IfSome bit (λ k. k ≤ 2 ^ 20)
      by_range range few None i = tt
      by_range None few (Some k) (inl e) = absurd (cc)
      by_range None few (Some k) (inr i) = absurd i
      by_range (Some range) few (Some k) i =
          let (n, j, e) = in_mapped Some (bits_from range) (Some k) i in
          let (low, high) = within_bounds range n (bit_within range n j) in
          let same : k ≡ n = same_Some k n e in
          let left = few.0 in
          let right = few.1 in
          omega (arith, clamps, high, same, left, right)
