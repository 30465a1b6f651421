-- Two nets of one name.
use Rattle.std.proofs.Common.{◌≡◌, ◌⊎◌, inl, inr, ℕ, zero, suc, ◌+◌, ◌-◌, ◌<◌, ◌≤◌, Bool, true, false, not, ◌||◌, List, [], ◌∷◌, ◌++◌, length, map, flat_map, take, get_or, Option, Some, None, IfSome, min, is_none, is_some, refl, sym, ap, ◌∙◌, subst, arith}
use Rattle.std.specs.List.{Contains, list_any}
use Rattle.std.specs.Prelude.{option_map, slice_get}
use Rattle.std.specs.Str.{bytes_eq}
use Rattle.std.proofs.lemmas.List.{length-map}
use Rattle.std.proofs.lemmas.List.Elements.{All-contains, Contains-append_cases, Contains-append_left, Contains-append_right}
use Rattle.std.proofs.lemmas.List.Folds.{list_any-append}
use Rattle.std.proofs.lemmas.List.Sums.{fails_before_first, passes_at_first}
use Rattle.std.proofs.lemmas.Option.{get_or_from_slice_get, slice_get-get_or, slice_get-map, slice_get_within}
use Rattle.name_tables.specs.Distinct.{number_in, number_of, with_name}
use Rattle.name_tables.proofs.NameTableLemmas.{absent_of, known_of}
use Rattle.name_tables.proofs.ChainLemmas.{lt_or_le}
use Rattle.ver_syntax.specs.declared.row.Row.{Row}
use Rattle.ver_syntax.specs.Rows.{rows_of}
use Rattle.ver_module.specs.Names.{AreApart, IsOf, is_bit, is_scalar}
use Rattle.ver_module.specs.Netlists.{Net, NetTable, net_name}
use Rattle.ver_module.specs.declared.range.Range.{Range}
use Rattle.ver_module.specs.Ranges.{bits_from, bits_of}
use Rattle.ver_module.proofs.NetLemmas.{behind, in_front}
use Rattle.ver_items.specs.Declarations.{declared_of, range_in}
use Rattle.ver_items.specs.Sections.{name_at}
use Rattle.ver_file.specs.Clashes.{AreFound, FindsClash, IsClash, all_named, place_in}
use Rattle.ver_file.specs.Flaws.{Named, given, name_flaws, named_nets, repeated, unless}
use Rattle.ver_file.specs.Nets.{net, nets_at, nets_of, tokens_of_nets}
use Rattle.ver_file.specs.Firsts.{earlier, first_of}
use Rattle.ver_file.proofs.FaultLemmas.{Least, find_least}
use Rattle.ver_file.proofs.FlawLemmas.{next_repeated, none_repeated}
use Rattle.ver_file.proofs.ListLemmas.{bytes_are, bytes_same}
use Rattle.ver_file.proofs.NetLemmas.{names_given}
use Rattle.ver_file.proofs.NumberLemmas.{first_numbered, in_parts}
use Rattle.ver_file.specs.Said.{identifiers_of}
use Rattle.ver_file.specs.Tables.{IsNetTable, identifier_at}
use Rattle.ver_module.specs.declared.net.Identifier.{Identifier}

some_inside : {X : Type 0} (a b : X) → Some a ≡ Some b → a ≡ b
some_inside a b e = cc

-- ---- names that are given twice

either : (a b : Bool) → (a || b) ≡ true → (a ≡ true) ⊎ (b ≡ true)
either true b t = inl refl
either false b t = inr t

or_first : (a b : Bool) → a ≡ true → (a || b) ≡ true
or_first true b t = refl
or_first false b t = absurd (cc)

or_second : (a b : Bool) → b ≡ true → (a || b) ≡ true
or_second true b t = refl
or_second false b t = t

module _ (names : List (List ℕ)) (x y : List ℕ) where
  appended : list_any (bytes_eq x) names ≡ false → list_any (bytes_eq y) (with_name names x) ≡ (list_any (bytes_eq y) names || (bytes_eq y x || false))
  appended e = rw e (list_any-append (bytes_eq y) names (x ∷ []))

  kept : list_any (bytes_eq x) names ≡ true → with_name names x ≡ names
  kept e = rw e refl

  any_with : list_any (bytes_eq y) (with_name names x) ≡ true → (list_any (bytes_eq y) names ≡ true) ⊎ (x ≡ y)
  any_with t = by_test (list_any (bytes_eq x) names) refl
    where
      by_test : (b : Bool) → list_any (bytes_eq x) names ≡ b → (list_any (bytes_eq y) names ≡ true) ⊎ (x ≡ y)
      by_test true e = inl (ap (list_any (bytes_eq y)) (sym (kept e)) ∙ t)
      by_test false e =
          elim (either (list_any (bytes_eq y) names) (bytes_eq y x || false) (sym (appended e) ∙ t)) as (λ _. (list_any (bytes_eq y) names ≡ true) ⊎ (x ≡ y)) [
            | inl old ↦ inl old
            | inr new ↦
                elim (either (bytes_eq y x) false new) as (λ _. (list_any (bytes_eq y) names ≡ true) ⊎ (x ≡ y)) [ inl same ↦ inr (sym (bytes_are y x same)) | inr none ↦ absurd (cc) ]
          ]

  any_stays : list_any (bytes_eq y) names ≡ true → list_any (bytes_eq y) (with_name names x) ≡ true
  any_stays t = by_test (list_any (bytes_eq x) names) refl
    where
      by_test : (b : Bool) → list_any (bytes_eq x) names ≡ b → list_any (bytes_eq y) (with_name names x) ≡ true
      by_test true e = ap (list_any (bytes_eq y)) (kept e) ∙ t
      by_test false e = appended e ∙ or_first (list_any (bytes_eq y) names) (bytes_eq y x || false) t

  any_new : x ≡ y → list_any (bytes_eq y) (with_name names x) ≡ true
  any_new f = by_test (list_any (bytes_eq x) names) refl
    where
      by_test : (b : Bool) → list_any (bytes_eq x) names ≡ b → list_any (bytes_eq y) (with_name names x) ≡ true
      by_test true e = any_stays (ap (λ n. list_any (bytes_eq n) names) (sym f) ∙ e)
      by_test false e =
          appended e
          ∙ or_second (list_any (bytes_eq y) names) (bytes_eq y x || false) (or_first (bytes_eq y x) false (ap (bytes_eq y) f ∙ bytes_same y))

-- one before has this name
record Earlier (named : List Named) (k : ℕ) (name : List ℕ) : Type 0 where
  before : ℕ
  its : Named
  rise : before < k
  is : slice_get named before ≡ Some its
  same : its.name ≡ name

abbrev IsTwice : List (List ℕ) → List Named → ℕ → Named → Type 0
IsTwice names named k later = (list_any (bytes_eq later.name) names ≡ true) ⊎ Earlier named k later.name

record Again (names : List (List ℕ)) (named : List Named) (place : ℕ) : Type 0 where
  at : ℕ
  later : Named
  is : slice_get named at ≡ Some later
  here : later.place ≡ place
  twice : IsTwice names named at later

again : (names : List (List ℕ)) (named : List Named) (place : ℕ) → Contains (repeated names named) place → Again names named place
again names [] place h = let none = subst (λ ps. Contains ps place) (none_repeated names) h in absurd (omega (arith, none.1))
again names (n ∷ ns) place h =
    elim (Contains-append_cases (unless (not (list_any (bytes_eq n.name) names)) n.place) (repeated (with_name names n.name) ns) place (subst (λ ps. Contains ps place) (next_repeated names n ns) h))
    as (λ _. Again names (n ∷ ns) place) [ inl now ↦ first (list_any (bytes_eq n.name) names) refl now | inr rest ↦ more (again (with_name names n.name) ns place rest) ]
  where
    first : (b : Bool) → list_any (bytes_eq n.name) names ≡ b → Contains (unless (not b) n.place) place → Again names (n ∷ ns) place
    first true e (zero, l, f) = record { at = 0; later = n; is = refl; here = f; twice = inl e }
    first true e (suc k, l, f) = absurd (omega (arith, l))
    first false e (k, l, f) = absurd (omega (arith, l))

    more : Again (with_name names n.name) ns place → Again names (n ∷ ns) place
    more a = record { at = suc a.at; later = a.later; is = a.is; here = a.here; twice = shifted a.twice }
      where
        shifted : IsTwice (with_name names n.name) ns a.at a.later → IsTwice names (n ∷ ns) (suc a.at) a.later
        shifted (inl t) =
            elim (any_with names n.name a.later.name t) as (λ _. IsTwice names (n ∷ ns) (suc a.at) a.later) [
              | inl old ↦ inl old
              | inr same ↦ inr (record { before = 0; its = n; rise = omega arith; is = refl; same = same })
            ]
        shifted (inr e) = inr (record { before = suc e.before; its = e.its; rise = omega (arith, e.rise); is = e.is; same = e.same })

given_again : (names : List (List ℕ)) (named : List Named) (k : ℕ) (later : Named) → slice_get named k ≡ Some later → IsTwice names named k later
    → Contains (repeated names named) later.place
given_again names [] k later e t = absurd (cc)
given_again names (n ∷ ns) zero later e t =
    subst (λ ps. Contains ps later.place) (sym (next_repeated names n ns))
    (Contains-append_left (unless (not (list_any (bytes_eq n.name) names)) n.place) (repeated (with_name names n.name) ns) later.place (now t))
  where
    same : n ≡ later
    same = some_inside n later e

    now : IsTwice names (n ∷ ns) zero later → Contains (unless (not (list_any (bytes_eq n.name) names)) n.place) later.place
    now (inl old) =
        let any : list_any (bytes_eq n.name) names ≡ true = ap (λ (m : Named). list_any (bytes_eq m.name) names) same ∙ old in
        subst (λ b. Contains (unless (not b) n.place) later.place) (sym any) (0, omega arith, ap (λ (m : Named). m.place) same)
    now (inr before) = absurd (omega (arith, before.rise))
given_again names (n ∷ ns) (suc k) later e t =
    subst (λ ps. Contains ps later.place) (sym (next_repeated names n ns))
    (Contains-append_right (unless (not (list_any (bytes_eq n.name) names)) n.place) (repeated (with_name names n.name) ns) later.place
    (given_again (with_name names n.name) ns k later e (shifted t)))
  where
    by_place : (before : ℕ) (its : Named) → before < suc k → slice_get (n ∷ ns) before ≡ Some its → its.name ≡ later.name → IsTwice (with_name names n.name) ns k later
    by_place zero its rise is same = inl (any_new names n.name later.name (ap (λ (m : Named). m.name) (some_inside n its is) ∙ same))
    by_place (suc b) its rise is same = inr (record { before = b; its = its; rise = omega (arith, rise); is = is; same = same })

    shifted : IsTwice names (n ∷ ns) (suc k) later → IsTwice (with_name names n.name) ns k later
    shifted (inl old) = inl (any_stays names n.name later.name old)
    shifted (inr before) = by_place before.before before.its before.rise before.is before.same

-- a name that is given twice is a flaw
pub clash_is : (text name : List ℕ) (later : Named) → IsClash text name later → Contains (name_flaws text) later.place
clash_is text name later h =
    given_again [] (all_named text) h.at later h.is
    (inr (record { before = h.before; its = h.earlier; rise = h.rise; is = h.is_earlier; same = h.named_earlier ∙ sym h.named }))

-- and each flaw is one
pub record Flawed (text : List ℕ) (place : ℕ) : Type 0 where
  pub later : Named
  pub here : later.place ≡ place
  pub is : IsClash text later.name later

pub flaw_is : (text : List ℕ) (place : ℕ) → Contains (name_flaws text) place → Flawed text place
flaw_is text place h =
    let a = again [] (all_named text) place h in
    record { later = a.later; here = a.here; is = twice a a.twice }
  where
    twice : (a : Again [] (all_named text) place) → IsTwice [] (all_named text) a.at a.later → IsClash text a.later.name a.later
    twice a (inl t) = absurd (cc)
    twice a (inr e) =
        record { at = a.at; before = e.before; earlier = e.its; rise = e.rise; is = a.is; is_earlier = e.is; named = refl; named_earlier = e.same }

-- ---- nets of identifiers

-- the identifier of a net, by its first token, and the bit that the net is
pub record Owned (text : List ℕ) (tokens : List Row) (k : ℕ) (named : Named) : Type 0 where
  pub at : ℕ
  pub token : Row
  pub place : ℕ
  pub bit : Option ℕ
  pub is_token : slice_get tokens at ≡ Some token
  pub is_bit : slice_get (bits_of (range_in (declared_of text) (name_at text token))) place ≡ Some bit
  pub net_is : slice_get (flat_map (nets_at text (declared_of text)) tokens) k ≡ Some (net text (declared_of text) token bit)
  pub named_is : named ≡ given token.from (net text (declared_of text) token bit)

owned : (text : List ℕ) (tokens : List Row) (k : ℕ) (named : Named) → slice_get (flat_map (named_nets text) tokens) k ≡ Some named → Owned text tokens k named
owned text [] k named e = absurd (cc)
owned text (u ∷ us) k named e =
    elim (lt_or_le k (length (named_nets text u))) as (λ _. Owned text (u ∷ us) k named) [
      | inl less ↦ here less
      | inr ge ↦
          there ge
          (owned text us (k - length (named_nets text u)) named
          (sym (behind (named_nets text u) (flat_map (named_nets text) us) k (k - length (named_nets text u)) (let f : k ≡ length (named_nets text u) + (k - length (named_nets text u)) = omega (arith, ge) in f)) ∙ e))
    ]
  where
    bits : List (Option ℕ)
    bits = bits_of (range_in (declared_of text) (name_at text u))

    its : List Net
    its = nets_at text (declared_of text) u

    counts : length (named_nets text u) ≡ length its
    counts = length-map its (given u.from)

    here : k < length (named_nets text u) → Owned text (u ∷ us) k named
    here less =
        let low : k < length bits = omega (arith, less, counts, length-map bits (net text (declared_of text) u)) in
        let bit = get_or bits k None in
        let bit_is = slice_get-get_or bits k None low in
        let its_is : slice_get its k ≡ Some (net text (declared_of text) u bit) =
        slice_get-map (net text (declared_of text) u) bits k ∙ ap (option_map (net text (declared_of text) u)) bit_is in
        let named_is : Some named ≡ Some (given u.from (net text (declared_of text) u bit)) =
        sym e ∙ in_front (named_nets text u) (flat_map (named_nets text) us) k less ∙ slice_get-map (given u.from) its k ∙ ap (option_map (given u.from)) its_is in
        record {
          at = 0;
          token = u;
          place = k;
          bit = bit;
          is_token = refl;
          is_bit = bit_is;
          net_is = in_front its (flat_map (nets_at text (declared_of text)) us) k (omega (arith, less, counts)) ∙ its_is;
          named_is = some_inside _ _ named_is;
        }

    there : length (named_nets text u) ≤ k → Owned text us (k - length (named_nets text u)) named → Owned text (u ∷ us) k named
    there ge rest =
        let j = k - length (named_nets text u) in
        let at : k ≡ length (named_nets text u) + j = omega (arith, ge) in
        record {
          at = suc rest.at;
          token = rest.token;
          place = rest.place;
          bit = rest.bit;
          is_token = rest.is_token;
          is_bit = rest.is_bit;
          net_is = behind its (flat_map (nets_at text (declared_of text)) us) k j (omega (arith, at, counts)) ∙ rest.net_is;
          named_is = rest.named_is;
        }

pub owner : (text : List ℕ) (k : ℕ) (named : Named) → slice_get (all_named text) k ≡ Some named → Owned text (tokens_of_nets text) k named
owner text k named e = owned text (tokens_of_nets text) k named e

-- identifiers have names of their own
pub same_token : (text : List ℕ) (i j : ℕ) (t u : Row) → slice_get (tokens_of_nets text) i ≡ Some t → slice_get (tokens_of_nets text) j ≡ Some u
    → name_at text t ≡ name_at text u → (i ≡ j) × (t ≡ u)
same_token text i j t u e f same =
    let a = first_numbered text [] (rows_of text) i t e in
    let b = first_numbered text [] (rows_of text) j u f in
    let at : i ≡ j = omega (arith, a, b, ap (number_in ([] ++ map (name_at text) (tokens_of_nets text))) same) in
    (at, some_inside _ _ (sym e ∙ ap (slice_get (tokens_of_nets text)) at ∙ f))

-- ---- what is known of an identifier

pub some_range : (range : Option Range) → is_some range ≡ true → (r : Range) × (range ≡ Some r)
some_range None e = absurd (cc)
some_range (Some r) e = (r, refl)

pub no_range : (range : Option Range) → is_some range ≡ false → range ≡ None
no_range None e = refl
no_range (Some r) e = absurd (cc)

-- ---- identifiers in the table of nets

pub identifier_there : (text : List ℕ) (table : NetTable) (at : ℕ) (token : Row) (found : Identifier) → IsNetTable text table
    → slice_get (tokens_of_nets text) at ≡ Some token → slice_get table.identifiers at ≡ Some found → found ≡ identifier_at text (declared_of text) token
identifier_there text table at token found is t f =
    let there : slice_get table.identifiers at ≡ Some (identifier_at text (declared_of text) token) =
    ap (λ is. slice_get is at) is.identifiers ∙ slice_get-map (identifier_at text (declared_of text)) (tokens_of_nets text) at
    ∙ ap (option_map (identifier_at text (declared_of text))) t in
    cc

pub token_named : (text : List ℕ) (v : ℕ) (token : Row) (base : List ℕ) → slice_get (tokens_of_nets text) v ≡ Some token
    → Some v ≡ number_of (identifiers_of text) base → name_at text token ≡ base
token_named text v token base e f =
    let names = identifiers_of text in
    let name : slice_get names v ≡ Some (name_at text token) = slice_get-map (name_at text) (tokens_of_nets text) v ∙ ap (option_map (name_at text)) e in
    sym (get_or_from_slice_get names v (name_at text token) [] name) ∙ (known_of names base v f).1

pub token_missing : (text : List ℕ) (v : ℕ) (token : Row) (base : List ℕ) → slice_get (tokens_of_nets text) v ≡ Some token → name_at text token ≡ base
    → None ≡ number_of (identifiers_of text) base → ⊥
token_missing text v token base e f none =
    let names = identifiers_of text in
    let name : slice_get names v ≡ Some base =
    slice_get-map (name_at text) (tokens_of_nets text) v ∙ ap (option_map (name_at text)) e ∙ ap Some f in
    absent_of names base none v (slice_get_within names v base name) (get_or_from_slice_get names v base [] name)

-- ---- a scalar and a bit

bit_kind : (bit : Option ℕ) → ((bit ≡ None) × (is_none bit ≡ true)) ⊎ (is_some bit ≡ true)
bit_kind None = inl (refl, refl)
bit_kind (Some k) = inr refl

scalar_range : (text : List ℕ) (t : Row) (place : ℕ) → slice_get (bits_of (range_in (declared_of text) (name_at text t))) place ≡ Some None
    → range_in (declared_of text) (name_at text t) ≡ None
scalar_range text t place e = by_range (range_in (declared_of text) (name_at text t)) e
  where
    no_some : (found : Option ℕ) → option_map Some found ≡ Some None → ⊥
    no_some None f = cc
    no_some (Some k) f = let g : Some k ≡ None = some_inside _ _ f in cc

    by_range : (range : Option Range) → slice_get (bits_of range) place ≡ Some None → range ≡ None
    by_range None f = refl
    by_range (Some r) f = absurd (no_some (slice_get (bits_from r) place) (sym (slice_get-map Some (bits_from r) place) ∙ f))

-- of the nets of a text the scalars, and so the bits, have names of their own
module _ (text : List ℕ) (apart : AreApart (nets_of text)) (at : ℕ) (t : Row) (is_token : slice_get (tokens_of_nets text) at ≡ Some t) where
  abbrev pub name : List ℕ
  name = name_at text t

  -- a net of this name is the scalar that the identifier is, or a bit
  record Named_so (k : ℕ) (named : Named) : Type 0 where
    owner_is : Owned text (tokens_of_nets text) k named
    kind_is : ((owner_is.bit ≡ None) × IsOf is_scalar (nets_of text) name k × (named.place ≡ t.from) × (range_in (declared_of text) name ≡ None))
        ⊎ IsOf is_bit (nets_of text) name k

  named_so : (k : ℕ) (named : Named) → slice_get (all_named text) k ≡ Some named → named.name ≡ name → Named_so k named
  named_so k named e f =
      let o = owner text k named e in
      let its : net_name (name_at text o.token) o.bit ≡ name = sym (ap (λ (n : Named). n.name) o.named_is) ∙ f in
      record {
        owner_is = o;
        kind_is = elim (bit_kind o.bit) as (λ _. ((o.bit ≡ None) × IsOf is_scalar (nets_of text) name k × (named.place ≡ t.from) × (range_in (declared_of text) name ≡ None)) ⊎ IsOf is_bit (nets_of text) name k) [
          | inl none ↦
              let same : name_at text o.token ≡ name = ap (net_name (name_at text o.token)) (sym none.0) ∙ its in
              let token = same_token text o.at at o.token t o.is_token is_token same in
              inl (
                none.0,
                record { net = net text (declared_of text) o.token o.bit; is = o.net_is; kind = none.1; named = its },
                ap (λ (n : Named). n.place) o.named_is ∙ ap (λ (r : Row). r.from) token.1,
                ap (λ (r : Row). range_in (declared_of text) (name_at text r)) (sym token.1) ∙ scalar_range text o.token o.place (o.is_bit ∙ ap Some none.0),
              )
          | inr some ↦ inr (record { net = net text (declared_of text) o.token o.bit; is = o.net_is; kind = some; named = its })
        ];
      }

  -- of two nets of this name one is the scalar and the other one a bit
  pub record Pair (later : Named) (k m : ℕ) : Type 0 where
    pub scalar : range_in (declared_of text) name ≡ None
    pub which : (IsOf is_scalar (nets_of text) name k × IsOf is_bit (nets_of text) name m × (later.place ≡ t.from))
        ⊎ (IsOf is_bit (nets_of text) name k × IsOf is_scalar (nets_of text) name m)

  pub pair : (later : Named) (h : IsClash text name later) → Pair later h.at h.before
  pair later h =
      let a = named_so h.at later h.is h.named in
      let b = named_so h.before h.earlier h.is_earlier h.named_earlier in
      elim a.kind_is as (λ _. Pair later h.at h.before) [
        | inl x ↦
            elim b.kind_is as (λ _. Pair later h.at h.before) [
              | inl y ↦ absurd (let same = apart.scalars name h.at h.before x.1 y.1 in omega (arith, same, h.rise))
              | inr y ↦ record { scalar = x.3; which = inl (x.1, y, x.2) }
            ]
        | inr x ↦
            elim b.kind_is as (λ _. Pair later h.at h.before) [
              | inl y ↦ record { scalar = y.3; which = inr (x, y.1) }
              | inr y ↦ absurd (let same = apart.bits name h.at h.before x y in omega (arith, same, h.rise))
            ]
      ]

  -- ---- what is found

  pub finds_none : ((later : Named) → IsClash text name later → ⊥) → FindsClash text at None
  finds_none none = record {
    is = tt;
    each = λ token later e h. absurd (none later (subst (λ (r : Row). IsClash text (name_at text r) later) (some_inside _ _ (sym e ∙ is_token)) h));
  }

  finds : (place : ℕ) → Contains (name_flaws text) place → ((later : Named) → IsClash text name later → place ≡ later.place) → FindsClash text at (Some place)
  finds place is each = record {
    is = is;
    each = λ token later e h. ap Some (each later (subst (λ (r : Row). IsClash text (name_at text r) later) (some_inside _ _ (sym e ∙ is_token)) h));
  }

  pub no_vector : (range : Range) → range_in (declared_of text) name ≡ Some range → FindsClash text at None
  no_vector range e = finds_none (λ later h. let clash : Some range ≡ None = sym e ∙ (pair later h).scalar in cc)

  pub no_bit : ((id : ℕ) → IsOf is_bit (nets_of text) name id → ⊥) → FindsClash text at None
  no_bit none = finds_none (λ later h. elim (pair later h).which as (λ _. ⊥) [ inl x ↦ none h.before x.1 | inr x ↦ none h.at x.0 ])

  named_inside : (found : Option Named) → option_map (λ (n : Named). n.name) found ≡ Some name → (n : Named) × (found ≡ Some n) × (n.name ≡ name)
  named_inside None e = absurd (cc)
  named_inside (Some n) e = (n, refl, some_inside _ _ e)

  abbrev names : List (List ℕ)
  names = map (λ (n : Net). n.name) (nets_of text)

  given_at : (k : ℕ) → slice_get names k ≡ Some name → (n : Named) × (slice_get (all_named text) k ≡ Some n) × (n.name ≡ name)
  given_at k e =
      named_inside (slice_get (all_named text) k)
      (sym (slice_get-map (λ (n : Named). n.name) (all_named text) k) ∙ ap (λ ns. slice_get ns k) (names_given text (tokens_of_nets text)) ∙ e)

  name_of : (kind : Net → Bool) (k : ℕ) → IsOf kind (nets_of text) name k → slice_get names k ≡ Some name
  name_of kind k of = slice_get-map (λ (n : Net). n.name) (nets_of text) k ∙ ap (option_map (λ (n : Net). n.name)) of.is ∙ ap Some of.named

  -- the first net of this name
  first_low : (k : ℕ) → slice_get names k ≡ Some name → number_in names name ≤ k
  first_low k e = elim (lt_or_le k (number_in names name)) as (λ _. number_in names name ≤ k) [
    | inl less ↦
        let no : bytes_eq name (get_or names k []) ≡ false = fails_before_first (bytes_eq name) names k [] less in
        let yes_is : bytes_eq name (get_or names k []) ≡ true = ap (bytes_eq name) (get_or_from_slice_get names k name [] e) ∙ bytes_same name in
        absurd (cc)
    | inr ge ↦ ge
  ]

  first_there : (k : ℕ) → slice_get names k ≡ Some name → slice_get names (number_in names name) ≡ Some name
  first_there k e =
      let low : number_in names name < length names = omega (arith, first_low k e, slice_get_within names k name e) in
      let is = passes_at_first (bytes_eq name) names [] low in
      slice_get-get_or names (number_in names name) [] low ∙ ap Some (sym (bytes_are name (get_or names (number_in names name) []) is))

  not_both : (k : ℕ) → IsOf is_scalar (nets_of text) name k → IsOf is_bit (nets_of text) name k → ⊥
  not_both k a b =
      let same : a.net ≡ b.net = some_inside _ _ (sym a.is ∙ b.is) in
      let none : is_none b.net.bit ≡ true = ap (λ (n : Net). is_none n.bit) (sym same) ∙ a.kind in
      none_some b.net.bit none b.kind
    where
      none_some : (bit : Option ℕ) → is_none bit ≡ true → is_some bit ≡ true → ⊥
      none_some None x y = cc
      none_some (Some k) x y = cc

  -- the scalar
  module _ (scalar : range_in (declared_of text) name ≡ None) where
    abbrev number : ℕ
    number = length (flat_map (named_nets text) (take at (tokens_of_nets text))) + 0

    abbrev its : Named
    its = given t.from (net text (declared_of text) t None)

    there : slice_get (all_named text) number ≡ Some its
    there =
        in_parts (named_nets text) (tokens_of_nets text) at t 0 its is_token
        (ap (λ range. slice_get (map (given t.from) (map (net text (declared_of text) t) (bits_of range))) 0) scalar)

    same_count : number ≡ length (flat_map (nets_at text (declared_of text)) (take at (tokens_of_nets text))) + 0
    same_count =
        let named = flat_map (named_nets text) (take at (tokens_of_nets text)) in
        let nets = flat_map (nets_at text (declared_of text)) (take at (tokens_of_nets text)) in
        omega (arith, length-map named (λ (n : Named). n.name), length-map nets (λ (n : Net). n.name), ap length (names_given text (take at (tokens_of_nets text))))

    scalar_is : IsOf is_scalar (nets_of text) name number
    scalar_is = record {
      net = net text (declared_of text) t None;
      is =
          ap (slice_get (nets_of text)) same_count
          ∙ in_parts (nets_at text (declared_of text)) (tokens_of_nets text) at t 0 (net text (declared_of text) t None) is_token
          (ap (λ range. slice_get (map (net text (declared_of text) t) (bits_of range)) 0) scalar);
      kind = refl;
      named = refl;
    }

    module _ (bit : ℕ) (of : IsOf is_bit (nets_of text) name bit) where
      other : (number ≡ bit) → ⊥
      other e = not_both bit (subst (IsOf is_scalar (nets_of text) name) e scalar_is) of

      first_is : (number_in names name ≡ bit → ⊥) → number_in names name ≡ number
      first_is no_bit =
          let f = first_there bit (name_of is_bit bit of) in
          let g = given_at (number_in names name) f in
          let so = named_so (number_in names name) g.0 g.1 g.2 in
          elim so.kind_is as (λ _. number_in names name ≡ number) [
            | inl x ↦ apart.scalars name (number_in names name) number x.1 scalar_is
            | inr x ↦ absurd (no_bit (apart.bits name (number_in names name) bit x of))
          ]

      -- the bit comes first
      pub scalar_later : number_in names name ≡ bit → FindsClash text at (Some t.from)
      scalar_later e =
          let low = first_low number (name_of is_scalar number scalar_is) in
          let g = given_at bit (name_of is_bit bit of) in
          let rise : bit < number = elim (lt_or_le bit number) as (λ _. bit < number) [
            | inl less ↦ less
            | inr ge ↦ absurd (other (omega (arith, ge, low, e)))
          ] in
          finds t.from
          (clash_is text name its (record { at = number; before = bit; earlier = g.0; rise = rise; is = there; is_earlier = g.1; named = refl; named_earlier = g.2 }))
          (λ later h. elim (pair later h).which as (λ _. t.from ≡ later.place) [
            | inl x ↦ sym x.2
            | inr x ↦
                absurd (let one = apart.bits name h.at bit x.0 of in omega (arith, one, first_low h.before (name_of is_scalar h.before x.1), e, h.rise))
          ])

      -- the bit's identifier is one of the text
      pub known : (its_net : Net) → slice_get (nets_of text) bit ≡ Some its_net → (v : ℕ) × (token : Row) × (slice_get (tokens_of_nets text) v ≡ Some token) × (name_at text token ≡ its_net.base)
      known its_net is_net =
          let g = given_at bit (name_of is_bit bit of) in
          let o = owner text bit g.0 g.1 in
          (o.at, o.token, o.is_token, ap (λ (n : Net). n.base) (some_inside _ _ (sym o.net_is ∙ is_net)))

      -- the scalar comes first
      pub bit_later : (number_in names name ≡ bit → ⊥) → (v : ℕ) (token : Row) (its_net : Net) → slice_get (nets_of text) bit ≡ Some its_net
          → slice_get (tokens_of_nets text) v ≡ Some token → name_at text token ≡ its_net.base → FindsClash text at (Some token.from)
      bit_later no_bit v token its_net is_net is_v base =
          let g = given_at bit (name_of is_bit bit of) in
          let o = owner text bit g.0 g.1 in
          let one : its_net ≡ net text (declared_of text) o.token o.bit = some_inside _ _ (sym is_net ∙ o.net_is) in
          let same = same_token text v o.at token o.token is_v o.is_token (base ∙ ap (λ (n : Net). n.base) one) in
          let place : g.0.place ≡ token.from = ap (λ (n : Named). n.place) o.named_is ∙ ap (λ (r : Row). r.from) (sym same.1) in
          let first = first_is no_bit in
          let rise : number < bit = elim (lt_or_le number bit) as (λ _. number < bit) [
            | inl less ↦ less
            | inr ge ↦ absurd (other (omega (arith, ge, first, first_low bit (name_of is_bit bit of))))
          ] in
          finds token.from
          (subst (Contains (name_flaws text)) place
          (clash_is text name g.0 (record { at = bit; before = number; earlier = its; rise = rise; is = g.1; is_earlier = there; named = g.2; named_earlier = refl })))
          (λ later h. elim (pair later h).which as (λ _. token.from ≡ later.place) [
            | inl x ↦
                absurd (let one_scalar = apart.scalars name h.at number x.0 scalar_is in let one_bit = apart.bits name h.before bit x.1 of in omega (arith, one_scalar, one_bit, rise, h.rise))
            | inr x ↦
                let one_bit = apart.bits name h.at bit x.0 of in
                let both : g.0 ≡ later = some_inside _ _ (sym g.1 ∙ ap (slice_get (all_named text)) (sym one_bit) ∙ h.is) in
                sym place ∙ ap (λ (n : Named). n.place) both
          ])

-- ---- the first of all

earlier_is : (first : Option ℕ) (place : ℕ) → first_of first (place ∷ []) ≡ earlier first place
earlier_is first place = refl

pub found_more : (text : List ℕ) (at : ℕ) (first found result : Option ℕ) → AreFound text at first → FindsClash text at found
    → result ≡ first_of first (place_in found) → AreFound text (at + 1) result
found_more text at first found result old new e = subst (AreFound text (at + 1)) (sym e) (by_found found first old new)
  where
    last : (k : ℕ) → k < at + 1 → (k < at) ⊎ (k ≡ at)
    last k l = elim (lt_or_le k at) as (λ _. (k < at) ⊎ (k ≡ at)) [ inl less ↦ inl less | inr ge ↦ inr (omega (arith, l, ge)) ]

    by_found : (found first : Option ℕ) → AreFound text at first → FindsClash text at found → AreFound text (at + 1) (first_of first (place_in found))
    by_found None first old new = record {
      among = old.among;
      least = λ k token later l e h. elim (last k l) as (λ _. (place : ℕ) × (first ≡ Some place) × (place ≤ later.place)) [
        | inl less ↦ old.least k token later less e h
        | inr same ↦
            let none : None ≡ Some later.place = new.each token later (ap (slice_get (tokens_of_nets text)) (sym same) ∙ e) h in
            absurd (cc)
      ];
    }
    by_found (Some p) None old new = record {
      among = new.is;
      least = λ k token later l e h. elim (last k l) as (λ _. (place : ℕ) × (Some p ≡ Some place) × (place ≤ later.place)) [
        | inl less ↦ let o = old.least k token later less e h in let none : None ≡ Some o.0 = o.1 in absurd (cc)
        | inr same ↦
            let one : p ≡ later.place = some_inside _ _ (new.each token later (ap (slice_get (tokens_of_nets text)) (sym same) ∙ e) h) in
            (p, refl, omega (arith, one))
      ];
    }
    by_found (Some p) (Some q) old new = record {
      among = elim (lt_or_le q p) as (λ _. Contains (name_flaws text) (min q p)) [
        | inl less ↦ subst (Contains (name_flaws text)) (let f : q ≡ min q p = omega (arith, less) in f) old.among
        | inr ge ↦ subst (Contains (name_flaws text)) (let f : p ≡ min q p = omega (arith, ge) in f) new.is
      ];
      least = λ k token later l e h. elim (last k l) as (λ _. (place : ℕ) × (Some (min q p) ≡ Some place) × (place ≤ later.place)) [
        | inl less ↦
            let o = old.least k token later less e h in
            let same : q ≡ o.0 = some_inside _ _ o.1 in
            (min q p, refl, omega (arith, o.2, same))
        | inr same ↦
            let one : p ≡ later.place = some_inside _ _ (new.each token later (ap (slice_get (tokens_of_nets text)) (sym same) ∙ e) h) in
            (min q p, refl, omega (arith, one))
      ];
    }

pub none_found : (text : List ℕ) → AreFound text 0 None
none_found text = record { among = tt; least = λ at token later l e h. absurd (omega (arith, l)) }

-- one of two nets of one name is a scalar
scalar_token : (text : List ℕ) (apart : AreApart (nets_of text)) (later : Named) → IsClash text later.name later
    → (at : ℕ) × (token : Row) × (slice_get (tokens_of_nets text) at ≡ Some token) × (name_at text token ≡ later.name)
scalar_token text apart later h =
    let a = owner text h.at later h.is in
    let b = owner text h.before h.earlier h.is_earlier in
    by_bits a b (bit_kind a.bit) (bit_kind b.bit)
  where
    Token : Type 0
    Token = (at : ℕ) × (token : Row) × (slice_get (tokens_of_nets text) at ≡ Some token) × (name_at text token ≡ later.name)

    by_bits : (a : Owned text (tokens_of_nets text) h.at later) (b : Owned text (tokens_of_nets text) h.before h.earlier)
        → ((a.bit ≡ None) × (is_none a.bit ≡ true)) ⊎ (is_some a.bit ≡ true) → ((b.bit ≡ None) × (is_none b.bit ≡ true)) ⊎ (is_some b.bit ≡ true)
        → (at : ℕ) × (token : Row) × (slice_get (tokens_of_nets text) at ≡ Some token) × (name_at text token ≡ later.name)
    by_bits a b (inl none) y = (a.at, a.token, a.is_token, ap (net_name (name_at text a.token)) (sym none.0) ∙ ap (λ (n : Named). n.name) (sym a.named_is))
    by_bits a b (inr some) (inl none) =
        (b.at, b.token, b.is_token, ap (net_name (name_at text b.token)) (sym none.0) ∙ ap (λ (n : Named). n.name) (sym b.named_is) ∙ h.named_earlier)
    by_bits a b (inr some) (inr other) =
        let one = apart.bits later.name h.at h.before
        (record { net = net text (declared_of text) a.token a.bit; is = a.net_is; kind = some; named = ap (λ (n : Named). n.name) (sym a.named_is) })
        (record { net = net text (declared_of text) b.token b.bit; is = b.net_is; kind = other; named = ap (λ (n : Named). n.name) (sym b.named_is) ∙ h.named_earlier }) in
        absurd (omega (arith, one, h.rise))

pub all_found : (text : List ℕ) (apart : AreApart (nets_of text)) (count : ℕ) (first : Option ℕ) → length (tokens_of_nets text) ≤ count → AreFound text count first
    → first ≡ first_of None (name_flaws text)
all_found text apart count first l h =
    elim (find_least (name_flaws text)) as (λ _. first ≡ first_of None (name_flaws text)) [
      | inl none ↦ no_first first h.among none ∙ ap (first_of None) (sym none)
      | inr some ↦ least some.0 some.2 ∙ sym some.1
    ]
  where
    no_first : (first : Option ℕ) → IfSome first (Contains (name_flaws text)) → name_flaws text ≡ [] → first ≡ None
    no_first None c e = refl
    no_first (Some p) c e = let there = subst (λ ps. Contains ps p) e c in absurd (omega (arith, there.1))

    least : (m : ℕ) → Least (name_flaws text) m → first ≡ Some m
    least m is =
        let flaw = flaw_is text m is.among in
        let token = scalar_token text apart flaw.later flaw.is in
        let clash = subst (λ n. IsClash text n flaw.later) (sym token.3) flaw.is in
        let found = h.least token.0 token.1 flaw.later (omega (arith, slice_get_within (tokens_of_nets text) token.0 token.1 token.2, l)) token.2 clash in
        let among : Contains (name_flaws text) found.0 = subst (λ o. IfSome o (Contains (name_flaws text))) found.1 h.among in
        let low : m ≤ found.0 = All-contains (λ place. m ≤ place) (name_flaws text) found.0 is.least among in
        found.1 ∙ ap Some (omega (arith, low, found.2, flaw.here))
