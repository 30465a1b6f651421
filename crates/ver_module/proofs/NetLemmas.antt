-- Nets, by their identifiers.
use Rattle.std.proofs.Common.{◌≡◌, ◌⊎◌, ℕ, zero, suc, ◌+◌, ◌-◌, ◌<◌, ◌≤◌, nat_lt, inl, inr, false, List, [], ◌∷◌, ◌++◌, length, take, drop, get_or, Option, Some, None, refl, sym, ap, ◌∙◌, subst, arith, length-append, append_assoc, append-nil}
use Rattle.std.specs.Prelude.{option_map, slice_get}
use Rattle.std.proofs.Math.ListN.{drop_of_length-le}
use Rattle.std.proofs.Math.Seq.{drop-cons, take-length}
use Rattle.std.specs.List.{All}
use Rattle.std.proofs.lemmas.Bool.Decides.{nat_tests}
use Rattle.std.proofs.lemmas.List.{length-map, take_all}
use Rattle.std.proofs.lemmas.Option.{slice_get-map, slice_get_within}
use Rattle.name_tables.specs.NameTables.{AreDistinct}
use Rattle.name_tables.proofs.ChainLemmas.{lt_or_le}
use Rattle.ver_module.specs.declared.net.Identifier.{Identifier}
use Rattle.ver_module.specs.Netlists.{IsNamed, Net, net_of, nets_by, nets_with}
use Rattle.ver_module.specs.declared.range.Range.{Range}
use Rattle.ver_module.specs.Ranges.{bits_from, bits_of}
use Rattle.ver_module.proofs.RangeLemmas.{bits_count}
use Rattle.ver_module.specs.Flat.{AreNets, IsBounded, IsPlace, count_in, firsts_of}
use Rattle.ver_module.specs.Runs.{IsRun}

-- ---- lists

pub in_front : {X : Type 0} (xs ys : List X) (i : ℕ) → i < length xs → slice_get (xs ++ ys) i ≡ slice_get xs i
in_front [] ys i l = absurd (omega (arith, l))
in_front (x ∷ xs) ys zero l = refl
in_front (x ∷ xs) ys (suc i) l = in_front xs ys i (omega (arith, l))

pub behind : {X : Type 0} (xs ys : List X) (at i : ℕ) → at ≡ length xs + i → slice_get (xs ++ ys) at ≡ slice_get ys i
behind [] ys at i e = ap (slice_get ys) (let f : at ≡ i = omega (arith, e) in f)
behind (x ∷ xs) ys zero i e = absurd (omega (arith, e))
behind (x ∷ xs) ys (suc at) i e = behind xs ys at i (omega (arith, e))

pub get_or_same : (xs : List ℕ) (i d e : ℕ) → i < length xs → d ≡ get_or xs i d → d ≡ get_or xs i e
get_or_same [] i d e l h = absurd (omega (arith, l))
get_or_same (x ∷ xs) zero d e l h = h
get_or_same (x ∷ xs) (suc i) d e l h = get_or_same xs i d e (omega (arith, l)) h

pub not_below : (a b : ℕ) → nat_lt a b ≡ false → b ≤ a
not_below a b e = grind (arith, nat_tests, e)

-- ---- counts

count_by : (base : List ℕ) (identifier : Identifier) → length (nets_by base identifier) ≡ length (bits_of identifier.range)
count_by base identifier = length-map (bits_of identifier.range) (net_of base identifier)

pub count_nets : (names : List (List ℕ)) (identifiers : List Identifier) → length identifiers ≡ length names
    → length (nets_with names identifiers) ≡ count_in identifiers
unfolding count_in nets_with
count_nets [] [] e = refl
count_nets [] (i ∷ more) e = absurd (omega (arith, e))
count_nets (n ∷ names) [] e = absurd (omega (arith, e))
count_nets (n ∷ names) (i ∷ more) e =
    omega (arith, length-append (nets_by n i) (nets_with names more), count_by n i, count_nets names more (omega (arith, e)))

pub count_firsts : (n : ℕ) (identifiers : List Identifier) → length (firsts_of n identifiers) ≡ length identifiers
unfolding firsts_of
count_firsts n [] = refl
count_firsts n (i ∷ more) = ap suc (count_firsts (n + length (bits_of i.range)) more)

-- the number of the first net of an identifier
pub first_at : (n : ℕ) (identifiers : List Identifier) (at : ℕ) → at < length identifiers
    → get_or (firsts_of n identifiers) at 0 ≡ n + count_in (take at identifiers)
unfolding count_in firsts_of
first_at n [] at l = absurd (omega (arith, l))
first_at n (i ∷ more) zero l = omega arith
first_at n (i ∷ more) (suc at) l = first_at (n + length (bits_of i.range)) more at (omega (arith, l)) ∙ omega arith

pub take_more : (identifiers : List Identifier) (at : ℕ) (identifier : Identifier) → slice_get identifiers at ≡ Some identifier
    → count_in (take (suc at) identifiers) ≡ count_in (take at identifiers) + length (bits_of identifier.range)
unfolding count_in
take_more [] at identifier e = absurd (cc)
take_more (i ∷ more) zero identifier e =
    let same : i ≡ identifier = cc in ap (λ (j : Identifier). length (bits_of j.range) + 0) same ∙ omega arith
take_more (i ∷ more) (suc at) identifier e = ap (λ n. length (bits_of i.range) + n) (take_more more at identifier e) ∙ omega arith

some_identifier : (identifiers : List Identifier) (id : ℕ) → id < count_in identifiers → 0 < length identifiers
unfolding count_in
some_identifier [] id l = absurd (omega (arith, l))
some_identifier (i ∷ more) id l = omega arith

none_before : (identifiers : List Identifier) → count_in (take 0 identifiers) ≡ 0
unfolding count_in
none_before identifiers = refl

-- ---- places

-- a net of an identifier at a place
pub net_at : (names : List (List ℕ)) (identifiers : List Identifier) (id at place : ℕ) (identifier : Identifier) → length identifiers ≡ length names
    → IsPlace identifiers id at place identifier
    → slice_get (nets_with names identifiers) id ≡ slice_get (nets_by (get_or names at []) identifier) place
unfolding count_in nets_with
net_at [] [] id at place identifier e h = absurd (let x : Option.None ≡ Some identifier = h.is in cc)
net_at [] (i ∷ more) id at place identifier e h = absurd (omega (arith, e))
net_at (n ∷ names) [] id at place identifier e h = absurd (omega (arith, e))
net_at (n ∷ names) (i ∷ more) id zero place identifier e h =
    let same : i ≡ identifier = let f : Some i ≡ Some identifier = h.is in cc in
    let low : place < length (nets_by n i) = omega (arith, count_by n i, h.within, ap (λ (j : Identifier). length (bits_of j.range)) same) in
    let is : id ≡ place = omega (arith, h.number) in
    ap (slice_get (nets_by n i ++ nets_with names more)) is ∙ in_front (nets_by n i) (nets_with names more) place low
    ∙ ap (λ j. slice_get (nets_by n j) place) same
net_at (n ∷ names) (i ∷ more) id (suc at) place identifier e h =
    let rest : ℕ = count_in (take at more) + place in
    let is : id ≡ length (nets_by n i) + rest = omega (arith, h.number, count_by n i) in
    behind (nets_by n i) (nets_with names more) id rest is
    ∙ net_at names more rest at place identifier (omega (arith, e)) (record { is = h.is; within = h.within; number = refl })

-- where a net stands
pub record Stands (identifiers : List Identifier) (id : ℕ) : Type 0 where
  pub at : ℕ
  pub place : ℕ
  pub identifier : Identifier
  pub is : IsPlace identifiers id at place identifier

pub stands : (identifiers : List Identifier) (id : ℕ) → id < count_in identifiers → Stands identifiers id
unfolding count_in
stands [] id l = absurd (omega (arith, l))
stands (i ∷ more) id l =
    elim (lt_or_le id (length (bits_of i.range))) as (λ _. Stands (i ∷ more) id) [
      | inl less ↦ record { at = 0; place = id; identifier = i; is = record { is = refl; within = less; number = omega arith } }
      | inr ge ↦
          let rest = stands more (id - length (bits_of i.range)) (omega (arith, l, ge)) in
          record {
            at = suc rest.at;
            place = rest.place;
            identifier = rest.identifier;
            is = record { is = rest.is.is; within = rest.is.within; number = omega (arith, rest.is.number, ge) };
          }
    ]

-- the identifier whose first net is the last one up to a net
pub owned : (identifiers : List Identifier) (id at : ℕ) (identifier : Identifier) → id < count_in identifiers → slice_get identifiers at ≡ Some identifier
    → count_in (take at identifiers) ≤ id → (at + 1 < length identifiers → id < count_in (take (at + 1) identifiers))
    → IsPlace identifiers id at (id - count_in (take at identifiers)) identifier
owned identifiers id at identifier l is low next = record { is = is; within = below (lt_or_le (at + 1) (length identifiers)); number = omega (arith, low) }
  where
    within : at < length identifiers
    within = slice_get_within identifiers at identifier is

    more : count_in (take (at + 1) identifiers) ≡ count_in (take at identifiers) + length (bits_of identifier.range)
    more = let e : at + 1 ≡ suc at = omega arith in ap (λ n. count_in (take n identifiers)) e ∙ take_more identifiers at identifier is

    all : length identifiers ≤ at + 1 → take (at + 1) identifiers ≡ identifiers
    all h = ap (λ n. take n identifiers) (let e : at + 1 ≡ length identifiers = omega (arith, h, within) in e) ∙ take-length identifiers

    below : (at + 1 < length identifiers) ⊎ (length identifiers ≤ at + 1) → id - count_in (take at identifiers) < length (bits_of identifier.range)
    below (inl less) = let h = next less in omega (arith, h, more, low)
    below (inr ge) = let e : count_in (take (at + 1) identifiers) ≡ count_in identifiers = ap count_in (all ge) in omega (arith, e, more, low, l)

-- ---- one identifier after another

-- with the next of these identifiers the numbers of first nets go on
pub next_first : (identifiers : List Identifier) (at count next : ℕ) (firsts more : List ℕ) (d : Identifier) → at < length identifiers
    → next ≡ count + length (bits_of (get_or identifiers at d).range) → more ≡ firsts ++ count ∷ []
    → (firsts_of 0 identifiers ≡ firsts ++ firsts_of count (drop at identifiers)) × (count_in identifiers ≡ count + count_in (drop at identifiers))
    → (firsts_of 0 identifiers ≡ more ++ firsts_of next (drop (at + 1) identifiers)) × (count_in identifiers ≡ next + count_in (drop (at + 1) identifiers))
unfolding count_in firsts_of
next_first identifiers at count next firsts more d l e f h = (
  h.0 ∙ ap (λ is. firsts ++ firsts_of count is) rest
      ∙ ap (λ n. firsts ++ count ∷ firsts_of n (drop (at + 1) identifiers)) (sym e)
      ∙ sym (append_assoc firsts (count ∷ []) (firsts_of next (drop (at + 1) identifiers)))
      ∙ ap (λ ns. ns ++ firsts_of next (drop (at + 1) identifiers)) (sym f),
  omega (arith, h.1, ap count_in rest, e),
)
  where
    rest : drop at identifiers ≡ get_or identifiers at d ∷ drop (at + 1) identifiers
    rest = drop-cons identifiers at d l ∙ ap (λ n. get_or identifiers at d ∷ drop n identifiers) (let g : suc at ≡ at + 1 = omega arith in g)

-- behind the last one they are all
pub no_more : (identifiers : List Identifier) (at count : ℕ) (firsts : List ℕ) → length identifiers ≤ at
    → (firsts_of 0 identifiers ≡ firsts ++ firsts_of count (drop at identifiers)) × (count_in identifiers ≡ count + count_in (drop at identifiers))
    → (firsts ≡ firsts_of 0 identifiers) × (count ≡ count_in identifiers)
unfolding count_in firsts_of
no_more identifiers at count firsts l h =
    let none : drop at identifiers ≡ [] = drop_of_length-le identifiers l in
    (sym (h.0 ∙ ap (λ is. firsts ++ firsts_of count is) none ∙ append-nil firsts), omega (arith, h.1, ap count_in none))

pub all_bounded : (identifiers : List Identifier) (at : ℕ) → length identifiers ≤ at → All IsBounded (take at identifiers) → All IsBounded identifiers
all_bounded identifiers at l h = subst (All IsBounded) (take_all at identifiers l) h

-- ---- the identifier of a net

-- distinct names have numbers of their own
pub own_number : (names : List (List ℕ)) (i j : ℕ) → AreDistinct names → i < length names → j < length names → get_or names i [] ≡ get_or names j [] → i ≡ j
own_number names i j distinct li lj e =
    elim (lt_or_le i j) as (λ _. i ≡ j) [
      | inl less ↦ absurd (distinct i j less lj e)
      | inr ge ↦ elim (lt_or_le j i) as (λ _. i ≡ j) [ inl more ↦ absurd (distinct j i more li (sym e)) | inr le ↦ omega arith ]
    ]

some_bit : (range : Option Range) → 1 ≤ length (bits_of range)
some_bit None = omega arith
some_bit (Some r) = omega (arith, bits_count r, length-map (bits_from r) Some)

pub fewer : (identifiers : List Identifier) → length identifiers ≤ count_in identifiers
unfolding count_in
fewer [] = omega arith
fewer (i ∷ more) = omega (arith, fewer more, some_bit i.range)

pub take_within : (identifiers : List Identifier) (n : ℕ) → count_in (take n identifiers) ≤ count_in identifiers
unfolding count_in
take_within [] zero = omega arith
take_within [] (suc n) = omega arith
take_within (i ∷ more) zero = omega arith
take_within (i ∷ more) (suc n) = omega (arith, take_within more n)

-- what a net is that an identifier of this name has
record IsOne (name : List ℕ) (identifier : Identifier) (net : Net) : Type 0 where
  base : net.base ≡ name
  supply : net.supply ≡ identifier.supply
  named : IsNamed net

of_one : (base : List ℕ) (identifier : Identifier) (place : ℕ) (net : Net) → slice_get (nets_by base identifier) place ≡ Some net
    → IsOne base identifier net
of_one base identifier place net e =
    by_bit (slice_get (bits_of identifier.range) place) (sym (slice_get-map (net_of base identifier) (bits_of identifier.range) place) ∙ e)
  where
    by_bit : (bit : Option (Option ℕ)) → option_map (net_of base identifier) bit ≡ Some net → IsOne base identifier net
    by_bit None f = absurd (cc)
    by_bit (Some bit) f =
        let same : net_of base identifier bit ≡ net = cc in
        subst (IsOne base identifier) same (record { base = refl; supply = refl; named = refl })

module _ (names : List (List ℕ)) (identifiers : List Identifier) (firsts : List ℕ) (count : ℕ) (h : AreNets names identifiers firsts count) (id : ℕ)
    (low : id < length (nets_with names identifiers)) where
  pub low_count : id < count_in identifiers
  low_count = omega (arith, low, count_nets names identifiers h.named)

  pub firsts_as_many : length firsts ≡ length identifiers
  firsts_as_many = ap length h.numbers ∙ count_firsts 0 identifiers

  pub some_first : 0 < length firsts
  some_first = omega (arith, firsts_as_many, some_identifier identifiers id low_count)

  pub first_low : get_or firsts 0 0 ≤ id
  first_low = omega (arith, ap (λ ns. get_or ns 0 0) h.numbers, first_at 0 identifiers 0 (some_identifier identifiers id low_count), none_before identifiers)

  first_number : (at : ℕ) → at < length identifiers → get_or firsts at 0 ≡ count_in (take at identifiers)
  first_number at l = ap (λ ns. get_or ns at 0) h.numbers ∙ first_at 0 identifiers at l ∙ omega arith

  -- the last identifier whose first net is not behind a net has it
  pub owner : (at : ℕ) (identifier : Identifier) → slice_get identifiers at ≡ Some identifier → get_or firsts at 0 ≤ id
      → (at + 1 < length firsts → id < get_or firsts (at + 1) 0) → IsPlace identifiers id at (id - get_or firsts at 0) identifier
  owner at identifier is from next =
      let within = slice_get_within identifiers at identifier is in
      subst (λ (n : ℕ). IsPlace identifiers id at (id - n) identifier) (sym (first_number at within))
      (owned identifiers id at identifier low_count is (omega (arith, from, first_number at within))
      (λ l. omega (arith, next (omega (arith, l, firsts_as_many)), first_number (at + 1) l)))

  -- the nets up to the next first one are of this identifier
  pub run_to : (at : ℕ) (identifier : Identifier) (end : ℕ) → IsPlace identifiers id at (id - get_or firsts at 0) identifier → get_or firsts at 0 ≤ id
      → end ≡ get_or firsts at 0 + length (bits_of identifier.range) → IsRun (nets_with names identifiers) id end
  run_to at identifier end place from e = record {
    some = omega (arith, place.within, from, e);
    within =
        omega (arith, e, first_number at within, take_more identifiers at identifier place.is, take_within identifiers (suc at), count_nets names identifiers h.named);
    same = λ n first net low high a b.
        let one = member n net low high b in
        let other = first_one first a in
        (one.base ∙ sym other.base, one.supply ∙ sym other.supply);
    named = λ n net low high b. (member n net low high b).named;
    ends = λ first next a b same.
        let other = stands identifiers end (omega (arith, slice_get_within (nets_with names identifiers) end next b, count_nets names identifiers h.named)) in
        let of = of_one (get_or names other.at []) other.identifier other.place next (sym (net_at names identifiers end other.at other.place other.identifier h.named other.is) ∙ b) in
        not_here other (own_number names other.at at h.distinct (omega (arith, slice_get_within identifiers other.at other.identifier other.is.is, h.named)) (omega (arith, within, h.named))
        (sym of.base ∙ same ∙ (first_one first a).base));
  }
    where
      within : at < length identifiers
      within = slice_get_within identifiers at identifier place.is

      there : (n : ℕ) → id ≤ n → n < end
          → slice_get (nets_with names identifiers) n ≡ slice_get (nets_by (get_or names at []) identifier) (n - get_or firsts at 0)
      there n low high =
          net_at names identifiers n at (n - get_or firsts at 0) identifier h.named
          (record { is = place.is; within = omega (arith, low, high, from, e); number = omega (arith, low, from, first_number at within) })

      member : (n : ℕ) (net : Net) → id ≤ n → n < end → slice_get (nets_with names identifiers) n ≡ Some net → IsOne (get_or names at []) identifier net
      member n net low high b = of_one (get_or names at []) identifier (n - get_or firsts at 0) net (sym (there n low high) ∙ b)

      first_one : (first : Net) → slice_get (nets_with names identifiers) id ≡ Some first → IsOne (get_or names at []) identifier first
      first_one first a = member id first (omega arith) (omega (arith, place.within, from, e)) a

      -- the net behind them is not of this identifier, all of whose nets stand before
      not_here : (other : Stands identifiers end) → other.at ≡ at → ⊥
      not_here other same =
          let one : other.identifier ≡ identifier = let f : Some other.identifier ≡ Some identifier = sym other.is.is ∙ ap (slice_get identifiers) same ∙ place.is in cc in
          omega (arith, other.is.within, other.is.number, ap (λ (i : Identifier). length (bits_of i.range)) one, ap (λ n. count_in (take n identifiers)) same, e, first_number at within)

  -- where the nets of an identifier end that another one follows, and where those of the last one do
  pub next_end : (at : ℕ) (identifier : Identifier) → slice_get identifiers at ≡ Some identifier → at + 1 < length identifiers
      → get_or firsts (at + 1) 0 ≡ get_or firsts at 0 + length (bits_of identifier.range)
  next_end at identifier is l =
      let within = slice_get_within identifiers at identifier is in
      let e : count_in (take (at + 1) identifiers) ≡ count_in (take (suc at) identifiers) = ap (λ n. count_in (take n identifiers)) (let f : at + 1 ≡ suc at = omega arith in f) in
      omega (arith, first_number (at + 1) l, first_number at within, e, take_more identifiers at identifier is)

  pub last_end : (at : ℕ) (identifier : Identifier) → slice_get identifiers at ≡ Some identifier → length identifiers ≤ at + 1
      → count ≡ get_or firsts at 0 + length (bits_of identifier.range)
  last_end at identifier is l =
      let within = slice_get_within identifiers at identifier is in
      let e : count_in (take (suc at) identifiers) ≡ count_in identifiers = ap count_in (take_all (suc at) identifiers (omega (arith, l))) in
      omega (arith, first_number at within, e, take_more identifiers at identifier is, h.counts)
