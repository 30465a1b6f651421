-- Nets that are found by their names.
use Rattle.std.proofs.Common.{◌≡◌, ◌≢◌, ◌⊎◌, ℕ, ◌+◌, ◌-◌, ◌^◌, ◌<◌, ◌≤◌, inl, inr, Bool, true, false, List, [], length, map, take, get_or, min, Option, Some, None, IfSome, is_none, is_some, refl, sym, ap, ◌∙◌, subst, arith}
use Rattle.std.specs.List.{position_or_len}
use Rattle.std.specs.Str.{bytes_eq}
use Rattle.std.proofs.lemmas.List.Sums.{position_or_len_is}
use Rattle.std.proofs.lemmas.Slice.Eq.{bytes_eq-Decides}
use Rattle.vg_scan.proofs.FirstLemmas.{lt_yes}
use Rattle.std.specs.Prelude.{option_map, slice_get}
use Rattle.std.proofs.lemmas.List.{length-map}
use Rattle.std.proofs.lemmas.Option.{get_or_from_slice_get, slice_get-get_or, slice_get-map, slice_get_within}
use Rattle.name_tables.specs.Distinct.{number_of}
use Rattle.name_tables.proofs.ChainLemmas.{lt_or_le}
use Rattle.name_tables.proofs.NameTableLemmas.{absent_of, eq_no, known_of, no_number}
use Rattle.ver_module.specs.declared.net.Identifier.{Identifier}
use Rattle.ver_module.specs.declared.range.Range.{Range}
use Rattle.ver_module.specs.Netlists.{Net, net_name, net_of, nets_with}
use Rattle.ver_module.specs.Ranges.{bits_from, bits_of, is_within}
use Rattle.ver_module.specs.Names.{AreApart, IsBitName, IsNoBitName}
use Rattle.ver_module.specs.Names.{IsOf, IsOnly, is_bit, is_scalar}
use Rattle.ver_module.specs.Flat.{AreNets, IsBounded, IsPlace, count_in, earlier}
use Rattle.ver_module.proofs.BitNameLemmas.{one_bit}
use Rattle.ver_module.proofs.NetLemmas.{count_firsts, count_nets, first_at, net_at, own_number, stands}
use Rattle.ver_module.proofs.RangeLemmas.{bit_below, bit_inside_range, place_of_bit}

-- a net of a kind, as it stands among those of its identifier
pub record Found (names : List (List ℕ)) (identifiers : List Identifier) (id : ℕ) (net : Net) : Type 0 where
  at : ℕ
  place : ℕ
  identifier : Identifier
  bit : Option ℕ
  is : IsPlace identifiers id at place identifier
  bit_is : slice_get (bits_of identifier.range) place ≡ Some bit
  net_is : net ≡ net_of (get_or names at []) identifier bit

number_first : (names : List (List ℕ)) (name : List ℕ) (row : ℕ) → row < length names → get_or names row [] ≡ name
    → ((k : ℕ) → k < row → get_or names k [] ≢ name) → Some row ≡ number_of names name
number_first names name row l e before =
    let first : position_or_len (bytes_eq name) names ≡ row =
    position_or_len_is (bytes_eq name) names row [] (omega arith) (λ k less. eq_no name (get_or names k []) (before k less))
    (λ _. (bytes_eq-Decides name (get_or names row [])).1 (sym e))
    in
    rw first (rw (lt_yes row (length names) l) refl)

some_inside : {X : Type 0} (a b : X) → Some a ≡ Some b → a ≡ b
some_inside a b e = cc

module _ (names : List (List ℕ)) (identifiers : List Identifier) (firsts : List ℕ) (count : ℕ) (h : AreNets names identifiers firsts count) where
  abbrev nets : List Net
  nets = nets_with names identifiers

  -- the net of an identifier at a place
  net_there : (id at place : ℕ) (identifier : Identifier) (bit : Option ℕ) → IsPlace identifiers id at place identifier
      → slice_get (bits_of identifier.range) place ≡ Some bit → slice_get nets id ≡ Some (net_of (get_or names at []) identifier bit)
  net_there id at place identifier bit is e =
      net_at names identifiers id at place identifier h.named is
      ∙ slice_get-map (net_of (get_or names at []) identifier) (bits_of identifier.range) place
      ∙ ap (option_map (net_of (get_or names at []) identifier)) e

  found : (id : ℕ) (net : Net) → slice_get nets id ≡ Some net → Found names identifiers id net
  found id net e =
      let low : id < count_in identifiers = omega (arith, slice_get_within nets id net e, count_nets names identifiers h.named) in
      let s = stands identifiers id low in
      let bit_is = slice_get-get_or (bits_of s.identifier.range) s.place None s.is.within in
      record {
        at = s.at;
        place = s.place;
        identifier = s.identifier;
        bit = get_or (bits_of s.identifier.range) s.place None;
        is = s.is;
        bit_is = bit_is;
        net_is = some_inside net _ (sym e ∙ net_there id s.at s.place s.identifier _ s.is bit_is);
      }

  first_number : (at : ℕ) → at < length identifiers → get_or firsts at 0 ≡ count_in (take at identifiers)
  first_number at l = ap (λ ns. get_or ns at 0) h.numbers ∙ first_at 0 identifiers at l ∙ omega arith

  pub firsts_count : length firsts ≡ length names
  firsts_count = ap length h.numbers ∙ count_firsts 0 identifiers ∙ h.named

  -- ---- scalars

  pub record ScalarAt (name : List ℕ) (id : ℕ) : Type 0 where
    at : ℕ
    identifier : Identifier
    is : slice_get identifiers at ≡ Some identifier
    scalar : identifier.range ≡ None
    named : get_or names at [] ≡ name
    number : id ≡ get_or firsts at 0

  no_bit : (bit : Option ℕ) → is_none bit ≡ true → bit ≡ None
  no_bit None e = refl
  no_bit (Some k) e = absurd (cc)

  no_range : (range : Option Range) (place : ℕ) → slice_get (bits_of range) place ≡ Some None → range ≡ None
  no_range None place e = refl
  no_range (Some r) place e = absurd (let f = sym (slice_get-map Some (bits_from r) place) ∙ e in not_none (slice_get (bits_from r) place) f)
    where
      not_none : (found : Option ℕ) → option_map Some found ≡ Some None → ⊥
      not_none None f = cc
      not_none (Some k) f = let g : Some k ≡ None = some_inside _ _ f in cc

  first_place : (range : Option Range) (place : ℕ) → range ≡ None → place < length (bits_of range) → place ≡ 0
  first_place None place e l = omega (arith, l)
  first_place (Some r) place e l = absurd (cc)

  scalar_at : (name : List ℕ) (id : ℕ) → IsOf is_scalar nets name id → ScalarAt name id
  scalar_at name id of =
      let f = found id of.net of.is in
      let none : f.bit ≡ None = no_bit f.bit (ap (λ (net : Net). is_none net.bit) (sym f.net_is) ∙ of.kind) in
      let scalar = no_range f.identifier.range f.place (f.bit_is ∙ ap Some none) in
      let zero_is = first_place f.identifier.range f.place scalar f.is.within in
      record {
        at = f.at;
        identifier = f.identifier;
        is = f.is.is;
        scalar = scalar;
        named = ap (net_name (get_or names f.at [])) (sym none) ∙ ap (λ (net : Net). net.name) (sym f.net_is) ∙ of.named;
        number = omega (arith, f.is.number, zero_is, first_number f.at (slice_get_within identifiers f.at f.identifier f.is.is));
      }

  pub no_scalar : (name : List ℕ) → None ≡ number_of names name → (id : ℕ) → IsOf is_scalar nets name id → ⊥
  no_scalar name e id of =
      let s = scalar_at name id of in
      absent_of names name e s.at (omega (arith, slice_get_within identifiers s.at s.identifier s.is, h.named)) s.named

  module _ (name : List ℕ) (at : ℕ) (identifier : Identifier) (e : Some at ≡ number_of names name) (is : slice_get identifiers at ≡ Some identifier) where
    there : (at < length names) × (get_or names at [] ≡ name)
    there = known_of names name at e

    same_at : (other : ℕ) → other < length names → get_or names other [] ≡ name → other ≡ at
    same_at other l f = own_number names other at h.distinct l there.0 (f ∙ sym there.1)

    pub not_scalar : (range : Range) → identifier.range ≡ Some range → (id : ℕ) → IsOf is_scalar nets name id → ⊥
    not_scalar range r id of =
        let s = scalar_at name id of in
        let same = same_at s.at (omega (arith, slice_get_within identifiers s.at s.identifier s.is, h.named)) s.named in
        let one : s.identifier ≡ identifier = some_inside _ _ (sym s.is ∙ ap (slice_get identifiers) same ∙ is) in
        let clash : Some range ≡ None = sym r ∙ ap (λ (i : Identifier). i.range) (sym one) ∙ s.scalar in
        cc

    pub one_scalar : identifier.range ≡ None → IsOf is_scalar nets name (get_or firsts at 0) × ((id : ℕ) → IsOf is_scalar nets name id → id ≡ get_or firsts at 0)
    one_scalar none = (
      record {
        net = net_of (get_or names at []) identifier None;
        is = net_there (get_or firsts at 0) at 0 identifier None
            (record { is = is; within = subst (λ range. 0 < length (bits_of range)) (sym none) (omega arith); number = first_number at (slice_get_within identifiers at identifier is) ∙ omega arith })
            (ap (λ range. slice_get (bits_of range) 0) none);
        kind = refl;
        named = there.1;
      },
      (λ id of.
          let s = scalar_at name id of in
          s.number ∙ ap (λ n. get_or firsts n 0) (same_at s.at (omega (arith, slice_get_within identifiers s.at s.identifier s.is, h.named)) s.named)),
    )

  -- ---- bits

  pub record BitAt (name : List ℕ) (id : ℕ) : Type 0 where
    at : ℕ
    place : ℕ
    identifier : Identifier
    range : Range
    bit : ℕ
    is : slice_get identifiers at ≡ Some identifier
    vector : identifier.range ≡ Some range
    within : place < length (bits_from range)
    bit_is : get_or (bits_from range) place 0 ≡ bit
    few : bit < 2 ^ 32
    named : name ≡ net_name (get_or names at []) (Some bit)
    number : id ≡ get_or firsts at 0 + place

  bounded_at : (at : ℕ) (identifier : Identifier) → slice_get identifiers at ≡ Some identifier → IsBounded identifier
  bounded_at at identifier e =
      subst IsBounded (get_or_from_slice_get identifiers at identifier identifier e) (h.bounded at identifier (slice_get_within identifiers at identifier e))

  bit_inside : (bits : Option ℕ) (k : ℕ) → option_map Some bits ≡ Some (Some k) → bits ≡ Some k
  bit_inside None k e = absurd (cc)
  bit_inside (Some n) k e = some_inside _ _ e

  bit_stands : (name : List ℕ) (id : ℕ) → IsOf is_bit nets name id → BitAt name id
  bit_stands name id of = go f.bit f.identifier.range refl refl (ap (λ (net : Net). is_some net.bit) (sym f.net_is) ∙ of.kind)
    where
      f : Found names identifiers id of.net
      f = found id of.net of.is

      bounds : (range : Range) → f.identifier.range ≡ Some range → (range.left < 2 ^ 32) × (range.right < 2 ^ 32)
      bounds range e = subst (λ r. IfSome r (λ (x : Range). (x.left < 2 ^ 32) × (x.right < 2 ^ 32))) e (bounded_at f.at f.identifier f.is.is)

      go : (bit : Option ℕ) (range : Option Range) → f.bit ≡ bit → f.identifier.range ≡ range → is_some bit ≡ true → BitAt name id
      go None range b r t = absurd (cc)
      go (Some k) None b r t =
          let zero_is = first_place f.identifier.range f.place r f.is.within in
          let one : slice_get (bits_of None) 0 ≡ Some (Some k) = ap (slice_get (bits_of None)) (sym zero_is) ∙ ap (λ range. slice_get (bits_of range) f.place) (sym r) ∙ f.bit_is ∙ ap Some b in
          let clash : None ≡ Some k = some_inside _ _ one in
          absurd (cc)
      go (Some k) (Some range) b r t =
          let all : option_map Some (slice_get (bits_from range) f.place) ≡ Some (Some k) =
          sym (slice_get-map Some (bits_from range) f.place) ∙ ap (λ range. slice_get (bits_of range) f.place) (sym r) ∙ f.bit_is ∙ ap Some b
          in
          let one = bit_inside (slice_get (bits_from range) f.place) k all in
          let within = slice_get_within (bits_from range) f.place k one in
          let is = get_or_from_slice_get (bits_from range) f.place k 0 one in
          let low = bounds range r in
          record {
            at = f.at;
            place = f.place;
            identifier = f.identifier;
            range = range;
            bit = k;
            is = f.is.is;
            vector = r;
            within = within;
            bit_is = is;
            few = omega (arith, bit_below range f.place (2 ^ 32) low.0 low.1 within, is);
            named = sym of.named ∙ ap (λ (net : Net). net.name) f.net_is ∙ ap (net_name (get_or names f.at [])) b;
            number = omega (arith, f.is.number, first_number f.at (slice_get_within identifiers f.at f.identifier f.is.is));
          }

  pub no_bit_named : (name : List ℕ) → IsNoBitName name → (id : ℕ) → IsOf is_bit nets name id → ⊥
  no_bit_named name none id of = let s = bit_stands name id of in none (get_or names s.at []) s.bit s.few s.named

  module _ (name base : List ℕ) (bit : ℕ) (is_name : IsBitName name base bit) (few : bit < 2 ^ 32) where
    same_base : (id : ℕ) (of : IsOf is_bit nets name id) → (base ≡ get_or names (bit_stands name id of).at []) × (bit ≡ (bit_stands name id of).bit)
    same_base id of =
        let s = bit_stands name id of in
        one_bit base (get_or names s.at []) bit s.bit few s.few (sym is_name ∙ s.named)

    pub no_base : None ≡ number_of names base → (id : ℕ) → IsOf is_bit nets name id → ⊥
    no_base e id of =
        let s = bit_stands name id of in
        absent_of names base e s.at (omega (arith, slice_get_within identifiers s.at s.identifier s.is, h.named)) (sym (same_base id of).0)

    module _ (at : ℕ) (identifier : Identifier) (e : Some at ≡ number_of names base) (is : slice_get identifiers at ≡ Some identifier) where
      same_identifier : (id : ℕ) (of : IsOf is_bit nets name id) → ((bit_stands name id of).at ≡ at) × ((bit_stands name id of).identifier ≡ identifier)
      same_identifier id of =
          let s = bit_stands name id of in
          let there = known_of names base at e in
          let same = own_number names s.at at h.distinct (omega (arith, slice_get_within identifiers s.at s.identifier s.is, h.named)) there.0 (sym (same_base id of).0 ∙ sym there.1) in
          (same, some_inside _ _ (sym s.is ∙ ap (slice_get identifiers) same ∙ is))

      pub no_vector : identifier.range ≡ None → (id : ℕ) → IsOf is_bit nets name id → ⊥
      no_vector none id of =
          let s = bit_stands name id of in
          let clash : Some s.range ≡ None = sym s.vector ∙ ap (λ (i : Identifier). i.range) (same_identifier id of).1 ∙ none in
          cc

      module _ (range : Range) (vector : identifier.range ≡ Some range) where
        same_range : (id : ℕ) (of : IsOf is_bit nets name id) → (bit_stands name id of).range ≡ range
        same_range id of = let s = bit_stands name id of in some_inside _ _ (sym s.vector ∙ ap (λ (i : Identifier). i.range) (same_identifier id of).1 ∙ vector)

        pub outside : is_within range bit ≡ false → (id : ℕ) → IsOf is_bit nets name id → ⊥
        outside out id of =
            let s = bit_stands name id of in
            let inside : is_within range bit ≡ true =
            (λ i. is_within (sym (same_range id of) i) ((same_base id of).1 i)) ∙ bit_inside_range s.range s.place s.bit s.within s.bit_is
            in
            absurd (cc)

        pub one_bit_there : (place : ℕ) → place < length (bits_from range) → get_or (bits_from range) place 0 ≡ bit
            → IsOf is_bit nets name (get_or firsts at 0 + place) × ((id : ℕ) → IsOf is_bit nets name id → id ≡ get_or firsts at 0 + place)
        one_bit_there place within found_is = (
          record {
            net = net_of (get_or names at []) identifier (Some bit);
            is = net_there (get_or firsts at 0 + place) at place identifier (Some bit)
                (record {
                  is = is;
                  within = subst (λ r. place < length (bits_of r)) (sym vector) (omega (arith, within, length-map (bits_from range) Some));
                  number = ap (λ n. n + place) (first_number at (slice_get_within identifiers at identifier is));
                })
                (ap (λ r. slice_get (bits_of r) place) vector ∙ slice_get-map Some (bits_from range) place
                ∙ ap (option_map Some) (slice_get-get_or (bits_from range) place 0 within ∙ ap Some found_is));
            kind = refl;
            named = ap (λ b. net_name b (Some bit)) (known_of names base at e).1 ∙ sym is_name;
          },
          (λ id of.
              let s = bit_stands name id of in
              let same : s.place ≡ place =
              place_of_bit s.range s.place s.bit s.within s.bit_is
              ∙ (λ i. ((same_range id of i).left - sym (same_base id of).1 i) + (sym (same_base id of).1 i - (same_range id of i).left))
              ∙ sym (place_of_bit range place bit within found_is)
              in
              omega (arith, s.number, ap (λ n. get_or firsts n 0) (same_identifier id of).0, same)),
        )

  -- a net that is found has a number below 2^32
  pub below : (kind : Net → Bool) (name : List ℕ) (id : ℕ) → IsOf kind nets name id → id < 2 ^ 32
  below kind name id of = omega (arith, slice_get_within nets id of.net of.is, count_nets names identifiers h.named, h.counts, h.few)

  -- ---- the first of both

  one_kind : (net : Net) → (is_scalar net ≡ true) ⊎ (is_bit net ≡ true)
  one_kind net = by_bit net.bit
    where
      by_bit : (bit : Option ℕ) → (is_none bit ≡ true) ⊎ (is_some bit ≡ true)
      by_bit None = inl refl
      by_bit (Some k) = inr refl

  abbrev names_of : List (List ℕ)
  names_of = map (λ net. net.name) nets

  record NamedNet (id : ℕ) (name : List ℕ) : Type 0 where
    net : Net
    is : slice_get nets id ≡ Some net
    named : net.name ≡ name

  inside : (found : Option Net) (name : List ℕ) → option_map (λ (net : Net). net.name) found ≡ Some name → (net : Net) × (found ≡ Some net) × (net.name ≡ name)
  inside None name e = absurd (cc)
  inside (Some net) name e = (net, refl, some_inside _ _ e)

  named_at : (id : ℕ) (name : List ℕ) → id < length names_of → get_or names_of id [] ≡ name → NamedNet id name
  named_at id name l e =
      let all = inside (slice_get nets id) name (sym (slice_get-map (λ (net : Net). net.name) nets id) ∙ slice_get-get_or names_of id [] l ∙ ap Some e) in
      record { net = all.0; is = all.1; named = all.2 }

  name_at : (kind : Net → Bool) (name : List ℕ) (id : ℕ) → IsOf kind nets name id → (id < length names_of) × (get_or names_of id [] ≡ name)
  name_at kind name id of =
      let e : slice_get names_of id ≡ Some name = slice_get-map (λ (net : Net). net.name) nets id ∙ ap (option_map (λ (net : Net). net.name)) of.is ∙ ap Some of.named in
      (slice_get_within names_of id name e, get_or_from_slice_get names_of id name [] e)

  -- a net of a name is the first one where no other is before it
  first_is : (kind : Net → Bool) (name : List ℕ) (id : ℕ) → IsOf kind nets name id
      → ((k : ℕ) → IsOf is_scalar nets name k ⊎ IsOf is_bit nets name k → id ≤ k) → Some id ≡ number_of names_of name
  first_is kind name id of least =
      let here = name_at kind name id of in
      number_first names_of name id here.0 here.1
      (λ k less e.
      let there = named_at k name (omega (arith, less, here.0)) e in
      elim (one_kind there.net) as (λ _. ⊥) [
        | inl t ↦ let low = least k (inl (record { net = there.net; is = there.is; kind = t; named = there.named })) in omega (arith, less, low)
        | inr t ↦ let low = least k (inr (record { net = there.net; is = there.is; kind = t; named = there.named })) in omega (arith, less, low)
      ])

  pub first_of_both : (name : List ℕ) (scalar bit : Option ℕ) → IsOnly is_scalar nets name scalar → IsOnly is_bit nets name bit
      → earlier scalar bit ≡ number_of (map (λ net. net.name) nets) name
  first_of_both name None None s b =
      no_number names_of name
      (λ k l e.
      let there = named_at k name l e in
      elim (one_kind there.net) as (λ _. ⊥) [
        | inl t ↦ s k (record { net = there.net; is = there.is; kind = t; named = there.named })
        | inr t ↦ b k (record { net = there.net; is = there.is; kind = t; named = there.named })
      ])
  first_of_both name (Some i) None s b =
      first_is is_scalar name i s.0 (λ k of. elim of as (λ _. i ≤ k) [ inl one ↦ omega (arith, s.1 k one) | inr other ↦ absurd (b k other) ])
  first_of_both name None (Some j) s b =
      first_is is_bit name j b.0 (λ k of. elim of as (λ _. j ≤ k) [ inl other ↦ absurd (s k other) | inr one ↦ omega (arith, b.1 k one) ])
  first_of_both name (Some i) (Some j) s b =
      elim (lt_or_le i j) as (λ _. Some (min i j) ≡ number_of names_of name) [
        | inl less ↦
            ap Some (let e : min i j ≡ i = omega (arith, less) in e)
            ∙ first_is is_scalar name i s.0 (λ k of. elim of as (λ _. i ≤ k) [ inl one ↦ omega (arith, s.1 k one) | inr one ↦ omega (arith, b.1 k one, less) ])
        | inr ge ↦
            ap Some (let e : min i j ≡ j = omega (arith, ge) in e)
            ∙ first_is is_bit name j b.0 (λ k of. elim of as (λ _. j ≤ k) [ inl one ↦ omega (arith, s.1 k one, ge) | inr one ↦ omega (arith, b.1 k one) ])
      ]

  -- ---- apart

  one_scalar_named : (name : List ℕ) (one other : ℕ) → IsOf is_scalar nets name one → IsOf is_scalar nets name other → one ≡ other
  one_scalar_named name one other a b =
      let s = scalar_at name one a in
      let t = scalar_at name other b in
      let same = own_number names s.at t.at h.distinct (omega (arith, slice_get_within identifiers s.at s.identifier s.is, h.named))
      (omega (arith, slice_get_within identifiers t.at t.identifier t.is, h.named)) (s.named ∙ sym t.named) in
      s.number ∙ ap (λ n. get_or firsts n 0) same ∙ sym t.number

  one_bit_named : (name : List ℕ) (one other : ℕ) → IsOf is_bit nets name one → IsOf is_bit nets name other → one ≡ other
  one_bit_named name one other a b =
      let s = bit_stands name one a in
      let t = bit_stands name other b in
      let same_name = one_bit (get_or names s.at []) (get_or names t.at []) s.bit t.bit s.few t.few (sym s.named ∙ t.named) in
      let same = own_number names s.at t.at h.distinct (omega (arith, slice_get_within identifiers s.at s.identifier s.is, h.named))
      (omega (arith, slice_get_within identifiers t.at t.identifier t.is, h.named)) same_name.0 in
      let identifier : s.identifier ≡ t.identifier = some_inside _ _ (sym s.is ∙ ap (slice_get identifiers) same ∙ t.is) in
      let range : s.range ≡ t.range = some_inside _ _ (sym s.vector ∙ ap (λ (i : Identifier). i.range) identifier ∙ t.vector) in
      let place : s.place ≡ t.place =
      place_of_bit s.range s.place s.bit s.within s.bit_is
      ∙ (λ i. ((range i).left - same_name.1 i) + (same_name.1 i - (range i).left))
      ∙ sym (place_of_bit t.range t.place t.bit t.within t.bit_is)
      in
      omega (arith, s.number, t.number, ap (λ n. get_or firsts n 0) same, place)

  pub apart : AreApart nets
  apart = record { scalars = one_scalar_named; bits = one_bit_named }
