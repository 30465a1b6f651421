-- Links by names: of the same tokens, and of those of one net.
use Rattle.std.proofs.Common.{◌≡◌, ℕ, ◌+◌, ◌≤◌, ◌^◌, min, Bool, true, false, cond, ◌&&◌, List, [], ◌∷◌, map, Option, Some, None, refl, ap, ◌∙◌, arith}
use Rattle.std.specs.Prelude.{IfSome, codes}
use Rattle.std.specs.Fmt.{decimal}
use Rattle.std.specs.List.{before_first}
use Rattle.vg_num.specs.Number.{value_of}
use Rattle.vg_num.proofs.ReadingLemmas.{decimal_writes}
use Rattle.ver_text.specs.declared.kind.Kind.TheVariants.{Identifier, OpenSquare, CloseSquare, Colon}
use Rattle.ver_text.specs.Kinds.{digits_kind}
use Rattle.ver_text.specs.Names.{is_simple, name_of}
use Rattle.ver_syntax.specs.declared.row.Row.{Row}
use Rattle.ver_syntax.specs.Grammar.{is}
use Rattle.ver_items.specs.declared.bits.Select.TheVariants.{Whole, Bit, Part}
use Rattle.ver_items.specs.Bits.{first_number, is_single, select_before, select_in, selected}
use Rattle.ver_items.specs.Declarations.{declared_of, range_in}
use Rattle.ver_items.specs.Sections.{Section, is_identifier, name_at, number_at, sections}
use Rattle.ver_module.specs.Netlists.{Net}
use Rattle.ver_file.specs.Netlists.{bit_in, range_at}
use Rattle.ver_patch_text_laws.specs.NewWords.{identifier_bytes, select_words, word}
use Rattle.ver_patch_text_laws.specs.Texts.{IsNetText}
use Rattle.ver_patch_text_laws.specs.Words.{Word, words_of}
use Rattle.ver_patch_text_laws.proofs.TextLemmas.{net_named}
use Rattle.ver_patch_text_laws.proofs.KindLemmas.{no_number}
use Rattle.ver_patch_laws.proofs.ChangedLemmas.{IsSame}
use Rattle.ver_patch_laws.proofs.SectionLemmas.{before_skip}
use Rattle.std.proofs.lemmas.Int.{clamps}
use Rattle.ver_patch_laws.specs.Links.{IsOneNet, NamedLink, name_of_net, named_link, names_in, names_named}
use Rattle.ver_patch_laws.proofs.NewRowLemmas.{simple_name}
use Rattle.ver_patch_laws.proofs.RelinkedLemmas.{ArePairs}
use Rattle.ver_patch_laws.proofs.SameLemmas.{AreSame, IsSameSection, before_same, name_same, number_same, pairs_flat_equal, sections_same}
use Rattle.ver_patch_laws.proofs.WalkLemmas.{word_at}

identifiers_alike : (r q : Row) → r.place ≡ q.place → r.kind ≡ q.kind → is_identifier r ≡ is_identifier q
identifiers_alike r q e f = ap (is Identifier) f

-- ---- the same tokens

-- names have the same ranges in two texts
abbrev pub HaveRanges : List ℕ → List ℕ → Type 0
HaveRanges text new = (name : List ℕ) → range_in (declared_of text) name ≡ range_in (declared_of new) name

module _ (text new : List ℕ) (agree : HaveRanges text new) where
  first_number_same : (rows others : List Row) → AreSame text new rows others → first_number text rows ≡ first_number new others
  first_number_same _ _ ArePairs.done = refl
  first_number_same _ _ (ArePairs.pair {x = r} {y = q} {xs = rows} {ys = others} s h) = number_same text new r q s

  select_in_same : (rows others : List Row) → AreSame text new rows others → select_in text rows ≡ select_in new others
  select_in_same _ _ ArePairs.done = refl
  select_in_same _ _ (ArePairs.pair s ArePairs.done) = refl
  select_in_same _ _ (ArePairs.pair {x = k} {y = j} s (ArePairs.pair {x = c} {y = d} {xs = rows} {ys = others} t h)) =
      λ i. cond (is Colon (t.kind i)) (Part (record { left = number_same text new k j s i; right = first_number_same rows others h i }))
      (Bit (number_same text new k j s i))

  select_same : (rows others : List Row) → AreSame text new rows others → select_before text rows ≡ select_before new others
  select_same _ _ ArePairs.done = refl
  select_same _ _ (ArePairs.pair {x = r} {y = q} {xs = rows} {ys = others} s h) =
      λ i. cond (is OpenSquare (s.kind i)) (select_in_same rows others h i) Whole

  range_same : (r q : Row) → IsSame text new r q → range_at text r ≡ range_at new q
  range_same r q s = ap (range_in (declared_of text)) (name_same text new r q s) ∙ agree (name_at new q)

  names_same : (s t : Section) → IsSameSection text new s t → names_named text s ≡ names_named new t
  names_same s t h =
      let select = select_same s.body t.body h.body in
      let range = range_same s.head t.head h.head in
      λ i. map (λ bit. record { base = name_same text new s.head t.head h.head i; bit = bit }) (selected (select i) (range i))

  pub link_same : (rows others : List Row) → AreSame text new rows others → named_link text rows ≡ named_link new others
  link_same _ _ ArePairs.done = refl
  link_same _ _ (ArePairs.pair {x = r} {y = q} {xs = rows} {ys = others} s h) =
      let select = select_same (before_first is_identifier rows) (before_first is_identifier others)
      (before_same text new is_identifier identifiers_alike rows others h) in
      let range = range_same r q s in
      let all : names_in text (r ∷ rows) ≡ names_in new (q ∷ others)
      = pairs_flat_equal (IsSameSection text new) (names_named text) (names_named new) names_same (sections is_identifier (r ∷ rows)) (sections is_identifier (q ∷ others))
      (sections_same text new is_identifier identifiers_alike (r ∷ rows) (q ∷ others) (ArePairs.pair s h)) in
      λ i. cond (is Identifier (s.kind i) && is_single (select i) (range i))
      (NamedLink.one (record { base = name_same text new r q s i; bit = bit_in (select i) })) (NamedLink.several (all i))

-- ---- one net

-- an identifier of a net gives its name
net_name_is : (net : Net) → (net.escaped ≡ false → is_simple net.base ≡ true) → name_of (identifier_bytes net.escaped net.base) ≡ net.base
net_name_is net plain = by_escape net.escaped plain
  where
    by_escape : (b : Bool) → (b ≡ false → is_simple net.base ≡ true) → name_of (identifier_bytes b net.base) ≡ net.base
    by_escape true f = refl
    by_escape false f = simple_name net.base (f refl)

module _ (new : List ℕ) (net : Net) (plain : net.escaped ≡ false → is_simple net.base ≡ true) where
  abbrev LinksTo : List Row → Option ℕ → Type 0
  LinksTo rows bit = named_link new rows ≡ NamedLink.one (record { base = net.base; bit = bit })

  name_word : (r : Row) → word_at new r ≡ word Identifier (identifier_bytes net.escaped net.base) → name_at new r ≡ net.base
  name_word r e = ap (λ (w : Word). name_of w.bytes) e ∙ net_name_is net plain

  link_scalar : (r : Row) → word_at new r ≡ word Identifier (identifier_bytes net.escaped net.base) → range_in (declared_of new) net.base ≡ None → LinksTo (r ∷ []) None
  link_scalar r e range =
      let name = name_word r e in
      let none : range_at new r ≡ None = ap (range_in (declared_of new)) name ∙ range in
      λ i. cond (is Identifier ((e i).kind) && is_single Whole (none i)) (NamedLink.one (record { base = name i; bit = None })) (NamedLink.several (names_in new (r ∷ [])))

  link_bit : (k : ℕ) → k ≤ 2 ^ 20 → (r o n c : Row) → word_at new r ≡ word Identifier (identifier_bytes net.escaped net.base) → o.kind ≡ OpenSquare
      → word_at new n ≡ word (digits_kind (decimal k)) (decimal k) → c.kind ≡ CloseSquare → LinksTo (r ∷ o ∷ n ∷ c ∷ []) (Some k)
  link_bit k few r o n c e eo en ec =
      let name = name_word r e in
      let digits : is_identifier n ≡ false = ap (λ (w : Word). is Identifier w.kind) en ∙ no_number (is Identifier) refl refl refl refl (decimal k) in
      let body : before_first is_identifier (o ∷ n ∷ c ∷ []) ≡ o ∷ n ∷ c ∷ []
      = before_skip is_identifier (o ∷ n ∷ c ∷ []) [] (ap (is Identifier) eo, (digits, (ap (is Identifier) ec, tt))) in
      let w = decimal_writes k (omega (arith, few)) in
      let value : value_of (decimal k) ≡ k = w.value in
      let number : number_at new n ≡ k = ap (λ (v : Word). min (value_of v.bytes) (2 ^ 20 + 1)) en ∙ ap (λ m. min m (2 ^ 20 + 1)) value ∙ omega (arith, clamps, few) in
      let select : select_before new (before_first is_identifier (o ∷ n ∷ c ∷ [])) ≡ Bit k
      = ap (select_before new) body
      ∙ (λ i. cond (is OpenSquare (eo i)) (cond (is Colon (ec i)) (Part (record { left = number_at new n; right = first_number new [] })) (Bit (number i))) Whole) in
      λ i. cond (is Identifier ((e i).kind) && is_single (select i) (range_at new r)) (NamedLink.one (record { base = name i; bit = bit_in (select i) }))
      (NamedLink.several (names_in new (r ∷ o ∷ n ∷ c ∷ [])))

  link_words : (bit : Option ℕ) (rows : List Row) → IfSome bit (λ k. k ≤ 2 ^ 20) → (bit ≡ None → range_in (declared_of new) net.base ≡ None)
      → map (word_at new) rows ≡ word Identifier (identifier_bytes net.escaped net.base) ∷ select_words bit → LinksTo rows bit
  link_words None [] few range e = absurd (cc)
  link_words None (r ∷ []) few range e = let own : word_at new r ≡ word Identifier (identifier_bytes net.escaped net.base) = cc in link_scalar r own (range refl)
  link_words None (r ∷ o ∷ rows) few range e = absurd (cc)
  link_words (Some k) [] few range e = absurd (cc)
  link_words (Some k) (r ∷ []) few range e = absurd (cc)
  link_words (Some k) (r ∷ o ∷ []) few range e = absurd (cc)
  link_words (Some k) (r ∷ o ∷ n ∷ []) few range e = absurd (cc)
  link_words (Some k) (r ∷ o ∷ n ∷ c ∷ []) few range e =
      let own : word_at new r ≡ word Identifier (identifier_bytes net.escaped net.base) = cc in
      let opens : word_at new o ≡ word OpenSquare (codes "[") = cc in
      let digits : word_at new n ≡ word (digits_kind (decimal k)) (decimal k) = cc in
      let closes : word_at new c ≡ word CloseSquare (codes "]") = cc in
      link_bit k few r o n c own (ap (λ (w : Word). w.kind) opens) digits (ap (λ (w : Word). w.kind) closes)
  link_words (Some k) (r ∷ o ∷ n ∷ c ∷ x ∷ rows) few range e = absurd (cc)

-- a connection with the words of a net is linked to it
pub link_is : (new net : List ℕ) (t : IsNetText net) (rows : List Row) → IsOneNet new t.net → map (word_at new) rows ≡ words_of net
    → named_link new rows ≡ NamedLink.one (name_of_net t.net)
link_is new net t rows one e = link_words new t.net t.writable.plain t.net.bit rows t.few one (e ∙ net_named net t)
