-- The numbers of identifiers and of nets.
use Rattle.std.proofs.Common.{◌≡◌, ℕ, zero, suc, ◌+◌, ◌<◌, Bool, true, false, not, ◌||◌, List, [], ◌∷◌, ◌++◌, length, map, flat_map, take, get_or, slice_get, option_map, Option, Some, None, is_some, refl, sym, ap, ◌∙◌, subst, arith, append_assoc, length-append}
use Rattle.std.specs.List.{All, list_any}
use Rattle.std.specs.Str.{bytes_eq}
use Rattle.std.proofs.lemmas.List.{get_or-map, length-map}
use Rattle.std.proofs.lemmas.Option.{get_or_from_slice_get, slice_get-get_or, slice_get-map, slice_get_within}
use Rattle.name_tables.specs.Distinct.{number_in, number_of, with_name}
use Rattle.name_tables.proofs.NameTableLemmas.{known_of}
use Rattle.ver_module.proofs.NameLemmas.{is_there, with_new}
use Rattle.ver_text.specs.declared.kind.Kind.TheVariants.{Module}
use Rattle.ver_syntax.specs.declared.row.Place.TheVariants.{Start}
use Rattle.ver_syntax.specs.declared.row.Row.{Row}
use Rattle.ver_syntax.specs.Rows.{rows_of}
use Rattle.ver_module.specs.Ranges.{bits_of}
use Rattle.ver_items.specs.Declarations.{declared_of, direction_in, range_in}
use Rattle.ver_module.specs.declared.range.Range.{Range}
use Rattle.ver_items.specs.Sections.{name_at}
use Rattle.vg_scan.specs.Lines.{part}
use Rattle.vg_scan.proofs.FirstLemmas.{lt_yes}
use Rattle.ver_text.specs.Names.{name_of}
use Rattle.ver_file.specs.declared.uses.Use.{Use}
use Rattle.ver_module.specs.Flat.{count_in}
use Rattle.ver_module.specs.Netlists.{NetTable}
use Rattle.ver_file.specs.Flaws.{Named, given, name_flaws, named_nets, repeated, unless}
use Rattle.ver_file.specs.Nets.{first_tokens, is_first, net, net_names, nets_at, tokens_of_nets}
use Rattle.ver_file.specs.Netlists.{number_of_bit}
use Rattle.ver_file.specs.Said.{identifiers_of}
use Rattle.ver_file.specs.Tables.{IsNetTable, IsUse, identifier_at}
use Rattle.ver_file.proofs.FlawLemmas.{next_repeated}
use Rattle.ver_file.proofs.ListLemmas.{bytes_same}
use Rattle.ver_file.proofs.NetLemmas.{names_given, no_left, no_right, not_any, passes}
use Rattle.ver_file.proofs.SaidLemmas.{no_direction_in, no_range_in}
use Rattle.ver_module.specs.declared.net.Identifier.{Identifier}
use Rattle.ver_file.proofs.TableLemmas.{first_is_new, new_token, no_token, old_token}

-- a name that none before it is
past_front : (names more : List (List ℕ)) (name : List ℕ) → list_any (bytes_eq name) names ≡ false → number_in (names ++ name ∷ more) name ≡ length names
past_front [] more name t = rw (bytes_same name) refl
past_front (n ∷ ns) more name t = by_first (bytes_eq name n) refl (past_front ns more name)
  where
    by_first : (b : Bool) → bytes_eq name n ≡ b → (list_any (bytes_eq name) ns ≡ false → number_in (ns ++ name ∷ more) name ≡ length ns)
        → number_in (n ∷ ns ++ name ∷ more) name ≡ length (n ∷ ns)
    by_first true f rest = let clash : (true || list_any (bytes_eq name) ns) ≡ false = rw f at t in absurd (cc)
    by_first false f rest =
        let none : (false || list_any (bytes_eq name) ns) ≡ false = rw f at t in
        let e : number_in (ns ++ name ∷ more) name ≡ length ns = rest none in
        rw f (omega (arith, e))

one_longer : (names : List (List ℕ)) (name : List ℕ) (k : ℕ) → length (names ++ name ∷ []) + k ≡ length names + suc k
one_longer names name k = omega (arith, length-append names (name ∷ []))

pub some_is : {X : Type 0} (x y : X) → Some x ≡ Some y → x ≡ y
some_is x y e = cc

-- ---- identifiers

-- each identifier has the number of its first token
pub first_numbered : (text : List ℕ) (names : List (List ℕ)) (rows : List Row) (at : ℕ) (token : Row) → slice_get (first_tokens text names rows) at ≡ Some token
    → number_in (names ++ map (name_at text) (first_tokens text names rows)) (name_at text token) ≡ length names + at
first_numbered text names [] at token e =
    let none : None ≡ Some token = sym (ap (λ ts. slice_get ts at) (no_token text names)) ∙ e in absurd (cc)
first_numbered text names (r ∷ rows) at token e =
    by_test (is_first text names r) refl (first_numbered text (names ++ name_at text r ∷ []) rows) (first_numbered text names rows)
  where
    Numbered : List (List ℕ) → List Row → ℕ → Type 0
    Numbered ns ts k = number_in (ns ++ map (name_at text) ts) (name_at text token) ≡ k

    by_test : (b : Bool) → is_first text names r ≡ b
        → ((k : ℕ) (t : Row) → slice_get (first_tokens text (names ++ name_at text r ∷ []) rows) k ≡ Some t
        → number_in ((names ++ name_at text r ∷ []) ++ map (name_at text) (first_tokens text (names ++ name_at text r ∷ []) rows)) (name_at text t) ≡ length (names ++ name_at text r ∷ []) + k)
        → ((k : ℕ) (t : Row) → slice_get (first_tokens text names rows) k ≡ Some t
        → number_in (names ++ map (name_at text) (first_tokens text names rows)) (name_at text t) ≡ length names + k)
        → number_in (names ++ map (name_at text) (first_tokens text names (r ∷ rows))) (name_at text token) ≡ length names + at
    by_test true t new old =
        let rest = first_tokens text (names ++ name_at text r ∷ []) rows in
        let cut = new_token text names r rows t in
        let there : slice_get (r ∷ rest) at ≡ Some token = sym (ap (λ ts. slice_get ts at) cut) ∙ e in
        ap (λ ts. number_in (names ++ map (name_at text) ts) (name_at text token)) cut ∙ by_place at there
      where
        by_place : (k : ℕ) → slice_get (r ∷ first_tokens text (names ++ name_at text r ∷ []) rows) k ≡ Some token
            → number_in (names ++ name_at text r ∷ map (name_at text) (first_tokens text (names ++ name_at text r ∷ []) rows)) (name_at text token) ≡ length names + k
        by_place zero f =
            let same : token ≡ r = sym (some_is r token f) in
            ap (λ q. number_in (names ++ name_at text r ∷ map (name_at text) (first_tokens text (names ++ name_at text r ∷ []) rows)) (name_at text q)) same
            ∙ past_front names (map (name_at text) (first_tokens text (names ++ name_at text r ∷ []) rows)) (name_at text r) (first_is_new text names r t)
            ∙ (let n : length names ≡ length names + zero = omega arith in n)
        by_place (suc k) f =
            ap (λ ns. number_in ns (name_at text token)) (sym (append_assoc names (name_at text r ∷ []) (map (name_at text) (first_tokens text (names ++ name_at text r ∷ []) rows))))
            ∙ new k token f ∙ one_longer names (name_at text r) k
    by_test false t new old =
        let cut = old_token text names r rows t in
        ap (λ ts. number_in (names ++ map (name_at text) ts) (name_at text token)) cut
        ∙ old at token (sym (ap (λ ts. slice_get ts at) cut) ∙ e)

-- where an identifier stands, a token is that identifier
pub use_numbered : (text : List ℕ) (uses : List Use) (at : ℕ) (place : Use) (r : Row) → All (IsUse text (identifiers_of text)) uses → slice_get uses at ≡ Some place
    → place.from ≡ r.from → place.to ≡ r.to → Some place.id ≡ number_of (identifiers_of text) (name_at text r)
use_numbered text uses at place r all e from to =
    let names = identifiers_of text in
    let same : get_or uses at place ≡ place = get_or_from_slice_get uses at place place e in
    let here : IsUse text names place = subst (IsUse text names) same (all at place (slice_get_within uses at place e)) in
    let id = place.id in
    let tokens = tokens_of_nets text in
    let other : Row = record { place = Start; kind = Module; from = 0; to = 0 } in
    let low : id < length tokens = omega (arith, here.within, length-map tokens (name_at text)) in
    let its : get_or names id [] ≡ name_at text (get_or tokens id other) = get_or-map (name_at text) tokens id other [] low in
    let name : name_at text r ≡ name_at text (get_or tokens id other) = sym (here.is ∙ (λ i. name_of (part text (from i) (to i)))) ∙ its in
    let number : number_in names (name_at text r) ≡ id =
    ap (number_in names) name
    ∙ first_numbered text [] (rows_of text) id (get_or tokens id other) (slice_get-get_or tokens id other low)
    ∙ (let n : 0 + id ≡ id = omega arith in n) in
    rw number (rw (lt_yes id (length names) here.within) refl)

-- ---- nets

-- where no name is given twice, each has the number of its place
given_numbered : (names : List (List ℕ)) (named : List Named) (k : ℕ) (n : Named) → repeated names named ≡ [] → slice_get named k ≡ Some n
    → number_in (names ++ map (λ m. m.name) named) n.name ≡ length names + k
given_numbered names [] k n none e = absurd (cc)
given_numbered names (m ∷ ms) k n none e = by_place (λ j f. given_numbered (names ++ m.name ∷ []) ms j n rest f) k e
  where
    both : unless (not (list_any (bytes_eq m.name) names)) m.place ++ repeated (with_name names m.name) ms ≡ []
    both = sym (next_repeated names m ms) ∙ none

    new : list_any (bytes_eq m.name) names ≡ false
    new = not_any (list_any (bytes_eq m.name) names) (passes (not (list_any (bytes_eq m.name) names)) m.place (no_left (unless (not (list_any (bytes_eq m.name) names)) m.place) (repeated (with_name names m.name) ms) both))

    rest : repeated (names ++ m.name ∷ []) ms ≡ []
    rest =
        ap (λ ns. repeated ns ms) (sym (with_new names m.name new))
        ∙ no_right (unless (not (list_any (bytes_eq m.name) names)) m.place) (repeated (with_name names m.name) ms) both

    by_place : ((j : ℕ) → slice_get ms j ≡ Some n → number_in ((names ++ m.name ∷ []) ++ map (λ m. m.name) ms) n.name ≡ length (names ++ m.name ∷ []) + j)
        → (j : ℕ) → slice_get (m ∷ ms) j ≡ Some n → number_in (names ++ m.name ∷ map (λ m. m.name) ms) n.name ≡ length names + j
    by_place others zero f =
        let same : n ≡ m = sym (some_is m n f) in
        ap (λ (p : Named). number_in (names ++ m.name ∷ map (λ m. m.name) ms) p.name) same
        ∙ past_front names (map (λ m. m.name) ms) m.name new
        ∙ (let n : length names ≡ length names + zero = omega arith in n)
    by_place others (suc j) f =
        ap (λ ns. number_in ns n.name) (sym (append_assoc names (m.name ∷ []) (map (λ m. m.name) ms)))
        ∙ others j f ∙ one_longer names m.name j

pub in_front : {X : Type 0} (xs ys : List X) (i : ℕ) (x : X) → slice_get xs i ≡ Some x → slice_get (xs ++ ys) i ≡ Some x
in_front [] ys i x e = absurd (cc)
in_front (y ∷ xs) ys zero x e = e
in_front (y ∷ xs) ys (suc i) x e = in_front xs ys i x e

behind : {X : Type 0} (xs ys : List X) (i : ℕ) → slice_get (xs ++ ys) (length xs + i) ≡ slice_get ys i
behind [] ys i = ap (slice_get ys) (let e : 0 + i ≡ i = omega arith in e)
behind (x ∷ xs) ys i = ap (slice_get (x ∷ xs ++ ys)) (let e : suc (length xs) + i ≡ suc (length xs + i) = omega arith in e) ∙ behind xs ys i

-- a part of a list that is made part by part
pub in_parts : {X : Type 0} (f : Row → List X) (tokens : List Row) (id : ℕ) (token : Row) (at : ℕ) (x : X) → slice_get tokens id ≡ Some token
    → slice_get (f token) at ≡ Some x → slice_get (flat_map f tokens) (length (flat_map f (take id tokens)) + at) ≡ Some x
in_parts f [] id token at x t e = absurd (cc)
in_parts f (u ∷ us) zero token at x t e =
    let same : token ≡ u = sym (some_is u token t) in
    ap (slice_get (f u ++ flat_map f us)) (let n : 0 + at ≡ at = omega arith in n)
    ∙ in_front (f u) (flat_map f us) at x (ap (λ q. slice_get (f q) at) (sym same) ∙ e)
in_parts f (u ∷ us) (suc id) token at x t e =
    ap (slice_get (f u ++ flat_map f us))
    (let n : length (f u ++ flat_map f (take id us)) + at ≡ length (f u) + (length (flat_map f (take id us)) + at) = omega (arith, length-append (f u) (flat_map f (take id us))) in n)
    ∙ behind (f u) (flat_map f us) (length (flat_map f (take id us)) + at)
    ∙ in_parts f us id token at x t e

named_count : (text : List ℕ) (r : Row) → length (nets_at text (declared_of text) r) ≡ length (named_nets text r)
named_count text r = sym (length-map (nets_at text (declared_of text) r) (given r.from))

-- how many nets stand before those of an identifier
counted : (text : List ℕ) (tokens : List Row) (id : ℕ)
    → count_in (take id (map (identifier_at text (declared_of text)) tokens)) ≡ length (flat_map (named_nets text) (take id tokens))
unfolding count_in
counted text [] zero = refl
counted text [] (suc id) = refl
counted text (u ∷ us) zero = refl
counted text (u ∷ us) (suc id) =
    omega (
      arith,
      counted text us id,
      named_count text u,
      length-map (bits_of (range_in (declared_of text) (name_at text u))) (net text (declared_of text) u),
      length-append (named_nets text u) (flat_map (named_nets text) (take id us)),
    )

-- the number of a net, by that of its identifier's first one
pub net_numbered : (text : List ℕ) (id at : ℕ) (token : Row) (bit : Option ℕ) → name_flaws text ≡ [] → slice_get (tokens_of_nets text) id ≡ Some token
    → slice_get (bits_of (range_in (declared_of text) (name_at text token))) at ≡ Some bit
    → number_in (net_names text) (net text (declared_of text) token bit).name ≡ count_in (take id (map (identifier_at text (declared_of text)) (tokens_of_nets text))) + at
net_numbered text id at token bit none t b =
    let tokens = tokens_of_nets text in
    let n : Named = given token.from (net text (declared_of text) token bit) in
    let here : slice_get (named_nets text token) at ≡ Some n =
    slice_get-map (given token.from) (nets_at text (declared_of text) token) at
    ∙ ap (option_map (given token.from)) (slice_get-map (net text (declared_of text) token) (bits_of (range_in (declared_of text) (name_at text token))) at)
    ∙ ap (λ o. option_map (given token.from) (option_map (net text (declared_of text) token) o)) b in
    let there = in_parts (named_nets text) tokens id token at n t here in
    ap (λ names. number_in names n.name) (sym (names_given text tokens))
    ∙ given_numbered [] (flat_map (named_nets text) tokens) (length (flat_map (named_nets text) (take id tokens)) + at) n none there
    ∙ (let e : 0 + (length (flat_map (named_nets text) (take id tokens)) + at) ≡ count_in (take id (map (identifier_at text (declared_of text)) tokens)) + at = omega (arith, counted text tokens id) in e)

-- an identifier that was looked up is in the table
pub in_table : (text : List ℕ) (table : NetTable) (base : List ℕ) (id : ℕ) → IsNetTable text table → Some id ≡ number_of (identifiers_of text) base
    → id < length table.identifiers
in_table text table base id is e =
    let k = known_of (identifiers_of text) base id e in
    omega (
      arith,
      k.0,
      length-map (tokens_of_nets text) (name_at text),
      ap length is.identifiers,
      length-map (tokens_of_nets text) (identifier_at text (declared_of text)),
    )

-- the number of a net, where its identifier is looked up
pub own_numbered : (text : List ℕ) (table : NetTable) (base : List ℕ) (bit : Option ℕ) (id at : ℕ) (range : Option Range) → IsNetTable text table
    → name_flaws text ≡ [] → Some id ≡ number_of (identifiers_of text) base → range ≡ range_in (declared_of text) base
    → slice_get (bits_of range) at ≡ Some bit → count_in (take id table.identifiers) + at ≡ number_of_bit text base bit
own_numbered text table base bit id at range is none e r b =
    let other : Row = record { place = Start; kind = Module; from = 0; to = 0 } in
    let tokens = tokens_of_nets text in
    let token : Row = get_or tokens id other in
    let k = known_of (identifiers_of text) base id e in
    let low : id < length tokens = omega (arith, k.0, length-map tokens (name_at text)) in
    let its : name_at text token ≡ base = sym (get_or-map (name_at text) tokens id other [] low) ∙ k.1 in
    let bounds : range_in (declared_of text) (name_at text token) ≡ range = ap (range_in (declared_of text)) its ∙ sym r in
    ap (λ is. count_in (take id is) + at) is.identifiers
    ∙ sym (net_numbered text id at token bit none (slice_get-get_or tokens id other low) (ap (λ o. slice_get (bits_of o) at) bounds ∙ b))
    ∙ ap (λ name. number_of_bit text name bit) its

-- what the table has of an identifier is what the text says of it
pub looked_up : (text : List ℕ) (table : NetTable) (base : List ℕ) (id : ℕ) (found : Identifier) → IsNetTable text table
    → Some id ≡ number_of (identifiers_of text) base → slice_get table.identifiers id ≡ Some found
    → (found.range ≡ range_in (declared_of text) base) × (found.port ≡ direction_in (declared_of text) base)
looked_up text table base id found is e f =
    let other : Row = record { place = Start; kind = Module; from = 0; to = 0 } in
    let tokens = tokens_of_nets text in
    let token : Row = get_or tokens id other in
    let k = known_of (identifiers_of text) base id e in
    let low : id < length tokens = omega (arith, k.0, length-map tokens (name_at text)) in
    let its : name_at text token ≡ base = sym (get_or-map (name_at text) tokens id other [] low) ∙ k.1 in
    let there : slice_get table.identifiers id ≡ Some (identifier_at text (declared_of text) token) =
    ap (λ is. slice_get is id) is.identifiers ∙ slice_get-map (identifier_at text (declared_of text)) tokens id
    ∙ ap (option_map (identifier_at text (declared_of text))) (slice_get-get_or tokens id other low) in
    let same : found ≡ identifier_at text (declared_of text) token = some_is found (identifier_at text (declared_of text) token) (sym f ∙ there) in (
      ap (λ (i : Identifier). i.range) same ∙ ap (range_in (declared_of text)) its,
      ap (λ (i : Identifier). i.port) same ∙ ap (direction_in (declared_of text)) its,
    )

-- it says nothing of a name that is none of its identifiers
pub not_looked_up : (text : List ℕ) (table : NetTable) (base : List ℕ) → IsNetTable text table → None ≡ number_of (identifiers_of text) base
    → (None ≡ range_in (declared_of text) base) × (None ≡ direction_in (declared_of text) base)
not_looked_up text table base is e =
    let names = identifiers_of text in
    let absent : list_any (bytes_eq base) names ≡ false = sym (is_there names base) ∙ sym (ap is_some e) in
    let none = is.only base absent in
    (sym (no_range_in base (declared_of text) none), sym (no_direction_in base (declared_of text) none))
