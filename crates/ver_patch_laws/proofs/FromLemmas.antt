-- Where the tokens of a changed text come from: they are those of the text, or what is put in.
use Rattle.std.proofs.Common.{◌≡◌, ℕ, Bool, true, false, ◌&&◌, List, [], ◌∷◌, ◌++◌, Option, Some, None, refl, sym, ap, ◌∙◌, subst, append_assoc, ◌⊎◌, inl, inr}
use Rattle.std.specs.Prelude.{⊤, codes}
use Rattle.std.specs.Fmt.{decimal}
use Rattle.std.specs.List.{flat_map}
use Rattle.std.proofs.lemmas.Bool.{and_parts}
use Rattle.ver_text.specs.declared.kind.Kind.TheVariants.{Close, Comma, Dot, Identifier, Open, Semicolon, Wire}
use Rattle.ver_text.specs.Kinds.{digits_kind}
use Rattle.ver_text.specs.Names.{is_simple, name_of}
use Rattle.ver_syntax.specs.declared.row.Place.{Place}
use Rattle.ver_syntax.specs.declared.row.Place.TheVariants.{Start, Assignment, Connection, Declaration, Instances, Pins, Ports}
use Rattle.ver_syntax.specs.declared.row.Row.{Row}
use Rattle.ver_syntax.specs.Grammar.{is}
use Rattle.ver_syntax.specs.Laws.{place_after_all}
use Rattle.ver_syntax.specs.Rows.{place_after, rows_of}
use Rattle.ver_items.specs.Sections.{is_identifier, is_name_in, is_net_name, is_net_place, is_place, name_at, stands_in}
use Rattle.ver_module.specs.Netlists.{Net}
use Rattle.ver_file.specs.Said.{identifiers_of}
use Rattle.ver_patch.specs.NewCells.{NewCell}
use Rattle.ver_patch_text_laws.specs.NewWords.{cell_words, identifier_bytes, pin_words, printed_word, select_words, wire_words, word}
use Rattle.ver_patch_text_laws.specs.Texts.{IsNetText}
use Rattle.ver_patch_text_laws.specs.Words.{Word, words_of}
use Rattle.ver_patch_text_laws.proofs.TextLemmas.{Each, net_named}
use Rattle.ver_patch_text_laws.proofs.GrammarLemmas.{word_kinds}
use Rattle.ver_patch_text_laws.proofs.KindLemmas.{no_number}
use Rattle.ver_patch_text_laws.proofs.RunLemmas.{EachRow}
use Rattle.ver_patch_laws.proofs.ChangedLemmas.{InOne, IsSame, Stay, net_stays, place_stays}
use Rattle.ver_patch_laws.proofs.NewRowLemmas.{RowsAre, simple_name}
use Rattle.ver_patch_laws.proofs.SectionLemmas.{names_off}
use Rattle.ver_patch_laws.proofs.RelinkedLemmas.{In}
use Rattle.ver_patch_laws.proofs.WalkLemmas.{word_at}

-- an identifier is one of the text, or a new wire
abbrev pub IsWritten : List ℕ → List (List ℕ) → List ℕ → Type 0
IsWritten text wires name = In name (identifiers_of text) ⊎ In name wires

-- a token that is put in: an identifier of nets is one of the text or a new wire, and none is a port or stands in an
-- assignment
pub record IsPut (text : List ℕ) (wires : List (List ℕ)) (new : List ℕ) (q : Row) : Type 0 where
  pub name : is_net_name q ≡ true → IsWritten text wires (name_at new q)
  pub port : is_name_in Ports q ≡ false
  pub assigned : is_name_in Assignment q ≡ false

pub data IsFrom (text : List ℕ) (wires : List (List ℕ)) (new : List ℕ) (q : Row) : Type 0 where
  same : (r : Row) → In r (rows_of text) → IsSame text new r q → IsFrom text wires new q
  put : IsPut text wires new q → IsFrom text wires new q

pub and_none : (b : Bool) → (b && false) ≡ false
and_none true = refl
and_none false = refl

pub not_both : (a b : Bool) → b ≡ false → (a && b) ≡ false
not_both a b e = ap (λ c. a && c) e ∙ and_none a

-- an identifier of a net gives its name
pub name_is : (net : Net) → (net.escaped ≡ false → is_simple net.base ≡ true) → name_of (identifier_bytes net.escaped net.base) ≡ net.base
name_is net plain = by_escape net.escaped plain
  where
    by_escape : (b : Bool) → (b ≡ false → is_simple net.base ≡ true) → name_of (identifier_bytes b net.base) ≡ net.base
    by_escape true f = refl
    by_escape false f = simple_name net.base (f refl)

module _ (text : List ℕ) (wires : List (List ℕ)) where
  -- ---- words

  -- the identifiers among some words
  abbrev pub IsKnownWord : Word → Type 0
  IsKnownWord w = is Identifier w.kind ≡ true → IsWritten text wires (name_of w.bytes)

  select_known : (bit : Option ℕ) → Each IsKnownWord (select_words bit)
  select_known None = tt
  select_known (Some k) = (
    λ e. absurd (cc),
    (λ e. (let none : is Identifier (digits_kind (decimal k)) ≡ false = no_number (is Identifier) refl refl refl refl (decimal k) in absurd (cc)), (λ e. absurd (cc), tt)),
  )

  pub net_known : (net : List ℕ) (t : IsNetText net) → IsWritten text wires t.net.base → Each IsKnownWord (words_of net)
  net_known net t h =
      subst (Each IsKnownWord) (sym (net_named net t))
      (λ e. subst (IsWritten text wires) (sym (name_is t.net t.writable.plain)) h, select_known t.net.bit)

  -- a word here
  record IsOk (p : Place) (w : Word) : Type 0 where
    name : (is Identifier w.kind && is_net_place p) ≡ true → IsWritten text wires (name_of w.bytes)
    port : is_place Ports p ≡ false
    assigned : is_place Assignment p ≡ false

  abbrev AreOk : Place → List Word → Type 0
  AreOk p [] = ⊤
  AreOk p (w ∷ ws) = IsOk p w × AreOk (place_after p w.kind) ws

  ok_append : (p : Place) (ws vs : List Word) → AreOk p ws → AreOk (place_after_all p (word_kinds ws)) vs → AreOk p (ws ++ vs)
  ok_append p [] vs h k = k
  ok_append p (w ∷ ws) vs h k = (h.0, ok_append (place_after p w.kind) ws vs h.1 k)

  -- here no identifier is one of nets
  no_net : (p : Place) (w : Word) → is_net_place p ≡ false → is_place Ports p ≡ false → is_place Assignment p ≡ false → IsOk p w
  no_net p w e f g = record { name = λ t. (let n : (is Identifier w.kind && is_net_place p) ≡ false = not_both (is Identifier w.kind) (is_net_place p) e in absurd (cc)); port = f; assigned = g }

  no_name : (p : Place) (w : Word) → is Identifier w.kind ≡ false → is_place Ports p ≡ false → is_place Assignment p ≡ false → IsOk p w
  no_name p w e f g = record {
    name = λ t. (let i = (and_parts (is Identifier w.kind) (is_net_place p) t).0 in absurd (cc));
    port = f;
    assigned = g;
  }

  ok_stay : (ws : List Word) → Stay (word_kinds ws) → Each IsKnownWord ws → AreOk Connection ws
  ok_stay [] h k = tt
  ok_stay (w ∷ ws) h k = (
    record { name = λ t. k.0 (and_parts (is Identifier w.kind) true t).0; port = refl; assigned = refl },
    subst (λ p. AreOk p ws) (sym h.0) (ok_stay ws h.1 k.1),
  )

  net_ok : (net : List ℕ) (t : IsNetText net) → IsWritten text wires t.net.base → (rest : List Word) → AreOk Connection rest → AreOk Connection (words_of net ++ rest)
  net_ok net t h rest k =
      let stay : Stay (word_kinds (words_of net)) = subst (λ ws. Stay (word_kinds ws)) (sym (net_named net t)) (net_stays t.net) in
      ok_append Connection (words_of net) rest (ok_stay (words_of net) stay (net_known net t h))
      (subst (λ p. AreOk p rest) (sym (place_stays (word_kinds (words_of net)) stay)) k)

  wires_ok : (ws : List (List ℕ)) → Each (λ name. is_simple name ≡ true) ws → ((name : List ℕ) → In name ws → In name wires) → AreOk Start (flat_map wire_words ws)
  wires_ok [] h k = tt
  wires_ok (name ∷ ws) h k = (
    no_name Start (word Wire (codes "wire")) refl refl refl,
    (
      record { name = λ t. subst (IsWritten text wires) (sym (simple_name name h.0)) (inr (k name (inl refl))); port = refl; assigned = refl },
      (no_name Declaration (word Semicolon (codes ";")) refl refl refl, wires_ok ws h.1 (λ n i. k n (inr i))),
    ),
  )

  -- the nets of new instances are written
  pub record IsOwnCell (c : NewCell) : Type 0 where
    pub from : IsNetText c.from
    pub to : IsNetText c.to
    pub from_known : IsWritten text wires from.net.base
    pub to_known : IsWritten text wires to.net.base

  pin_ok : (pin net : List ℕ) (t : IsNetText net) → IsWritten text wires t.net.base → (rest : List Word) → AreOk Pins rest → AreOk Pins (pin_words pin (words_of net) ++ rest)
  pin_ok pin net t h rest k = (
    no_net Pins (word Dot (codes ".")) refl refl refl,
    (
      no_net Pins (printed_word pin) refl refl refl,
      (
        no_net Pins (word Open (codes "(")) refl refl refl,
        subst (AreOk Connection) (sym (append_assoc (words_of net) (word Close (codes ")") ∷ []) rest))
            (net_ok net t h (word Close (codes ")") ∷ rest) (no_name Connection (word Close (codes ")")) refl refl refl, k)),
      ),
    ),
  )

  cell_ok : (c : NewCell) → IsOwnCell c → (rest : List Word) → AreOk Start rest → AreOk Start (cell_words c ++ rest)
  cell_ok c h rest k =
      let ends : List Word = word Close (codes ")") ∷ word Semicolon (codes ";") ∷ [] in
      let last : AreOk Pins (ends ++ rest) = (no_net Pins (word Close (codes ")")) refl refl refl, (no_net Instances (word Semicolon (codes ";")) refl refl refl, k)) in
      let second = pin_ok c.output c.to h.to h.to_known (ends ++ rest) last in
      let first = pin_ok c.input c.from h.from h.from_known (word Comma (codes ",") ∷ (pin_words c.output (words_of c.to) ++ (ends ++ rest)))
      (no_net Pins (word Comma (codes ",")) refl refl refl, second) in (
        no_net Start (printed_word c.cell) refl refl refl,
        (
          no_net Instances (word Identifier c.name) refl refl refl,
          (
            no_net Instances (word Open (codes "(")) refl refl refl,
            subst (AreOk Pins) (sym (append_assoc (pin_words c.input (words_of c.from)) (word Comma (codes ",") ∷ (pin_words c.output (words_of c.to) ++ ends)) rest
                ∙ ap (λ ws. pin_words c.input (words_of c.from) ++ word Comma (codes ",") ∷ ws) (append_assoc (pin_words c.output (words_of c.to)) ends rest))) first,
          ),
        ),
      )

  cells_ok : (cells : List NewCell) → Each IsOwnCell cells → AreOk Start (flat_map cell_words cells)
  cells_ok [] h = tt
  cells_ok (c ∷ cells) h = cell_ok c h.0 (flat_map cell_words cells) (cells_ok cells h.1)

  -- ---- rows

  module _ (new : List ℕ) where
    ok_rows : (ws : List Word) (p : Place) (rows : List Row) → AreOk p ws → RowsAre new p ws rows → Each (IsPut text wires new) rows
    ok_rows [] p rows h e = subst (Each (IsPut text wires new)) (sym e) tt
    ok_rows (w ∷ ws) p rows h (r, more, e, own, rest) =
        subst (Each (IsPut text wires new)) (sym e) (
          record {
            name = λ t. subst (λ bytes. IsWritten text wires (name_of bytes)) (sym own.bytes) (h.0.name ((λ i. is Identifier (sym own.kind i) && is_net_place (sym own.place i)) ∙ t));
            port = not_both (is_identifier r) (stands_in Ports r) (ap (is_place Ports) own.place ∙ h.0.port);
            assigned = not_both (is_identifier r) (stands_in Assignment r) (ap (is_place Assignment) own.place ∙ h.0.assigned);
          },
          ok_rows ws (place_after p w.kind) more h.1 rest,
        )

    pub wire_rows : (rows : List Row) → Each (λ name. is_simple name ≡ true) wires → RowsAre new Start (flat_map wire_words wires) rows → Each (IsPut text wires new) rows
    wire_rows rows h e = ok_rows (flat_map wire_words wires) Start rows (wires_ok wires h (λ n i. i)) e

    pub cell_rows : (cells : List NewCell) (rows : List Row) → Each IsOwnCell cells → RowsAre new Start (flat_map cell_words cells) rows → Each (IsPut text wires new) rows
    cell_rows cells rows h e = ok_rows (flat_map cell_words cells) Start rows (cells_ok cells h) e

    -- the tokens of a net that is written
    pub net_rows : (rows : List Row) → EachRow InOne rows → Each (λ r. IsKnownWord (word_at new r)) rows → Each (IsPut text wires new) rows
    net_rows [] h k = tt
    net_rows (r ∷ rows) h k = (
      record {
        name = λ t. k.0 (and_parts (is_identifier r) (is_net_place r.place) t).0;
        port = names_off Ports refl r h.0;
        assigned = names_off Assignment refl r h.0;
      },
      net_rows rows h.1 k.1,
    )
