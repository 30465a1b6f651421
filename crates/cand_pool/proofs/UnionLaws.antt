-- The turns of a union.
use Rattle.std.proofs.Common.{◌≡◌, ◌≢◌, ℕ, suc, true, false, [], ◌∷◌, ◌++◌, length, refl, sym, ap, ◌∙◌, subst, arith, inl, inr, ℤ}
use Rattle.std.proofs.lemmas.List.{append-nil}
use Rattle.std.specs.Prelude.{int_lt}
use Rattle.cand_pool.specs.Links.{none, IsIn}
use Rattle.cand_pool.specs.Candidates.{Candidate, Candidates}
use Rattle.cand_pool.specs.Pools.{Block, candidate, spare, items, KeepsOthers}
use Rattle.cand_pool.specs.Sequences.{kept, dropped, union, comes_first, lowest, undominated, dominated}
use Rattle.cand_pool.specs.Laws.{RisesOver, RisesInTime}
use Rattle.cand_pool.specs.Moves.{IsAppended}
use Rattle.cand_pool.specs.Sieves.{IsAt, IsSplit, IsSieve, Sifts, IsTurned, IsSiftedTo, names}
use Rattle.cand_pool.specs.Unions.{IsBeside, AreLeft, IsUniting, IsEnding}
use Rattle.cand_pool.specs.declared.ends.Ends.{Ends}
use Rattle.cand_pool.specs.declared.sieve.Sieve.{Sieve}
use Rattle.cand_pool.specs.declared.absorb.Union.{Union}
use Rattle.cand_pool.proofs.PoolMoves.{keeps_then, keeps_itself}
use Rattle.cand_pool.proofs.PublicLaws.{first_held, none_holds, none_items, empty_held, held_items, keeps_with, stays_any}
use Rattle.cand_pool.proofs.SieveLaws.{keeps_like}
use Rattle.cand_pool.proofs.WireLaws.{split_start, named_sieve}

-- the union begins with the first of the first list
union_first : (x y : Candidate) (xs ys zs : Candidates) → zs ≡ y ∷ ys → comes_first y x ≡ false → union (x ∷ xs) zs ≡ x ∷ union xs zs
union_first x y xs ys zs e which = rw e (rw which refl)

-- the union begins with the first of the second list
union_second : (x y : Candidate) (xs ys zs : Candidates) → zs ≡ x ∷ xs → comes_first y x ≡ true → union zs (y ∷ ys) ≡ y ∷ union zs ys
union_second x y xs ys zs e which = rw e (rw which refl)

-- the union of a list and none
union_none : (xs : Candidates) → union xs [] ≡ xs
union_none [] = refl
union_none (x ∷ xs) = ap (λ (l : Candidates). x ∷ l) (union_none xs)

-- what rises, without its first
rises_rest : (x : Candidate) (xs : Candidates) → RisesInTime (x ∷ xs) → RisesInTime xs
rises_rest x [] rises = tt
rises_rest x (y ∷ ys) rises = rises.1

-- of candidates that rise over the best all are kept
all_kept : (best : ℤ) (xs : Candidates) → RisesOver best xs → kept best xs ≡ xs
all_kept best [] rises = refl
all_kept best (x ∷ xs) (over, rises) = rw over (ap (λ (l : Candidates). x ∷ l) (all_kept x.q xs rises))

none_dropped : (best : ℤ) (xs : Candidates) → RisesOver best xs → dropped best xs ≡ []
none_dropped best [] rises = refl
none_dropped best (x ∷ xs) (over, rises) = rw over (none_dropped x.q xs rises)

-- the list beside a sieve whose first was moved
pub beside_turned : (s s' : Block) (at at' : Sieve) (other : Ends) (xs ks ds ys : Candidates) (y : Candidate) → IsTurned s s' at at' xs ks ds y → IsBeside s other at ys → IsBeside s' other at' ys
beside_turned s s' at at' other xs ks ds ys y turned beside = record {
  held = stays_any s s' (names at) (names at') other.first other.last ys turned.others turned.sieve.more.few beside.apart beside.held;
  apart = λ some m. turned.others.fresh other.first other.last ys beside.held some (beside.apart some) m;
}

-- the two lists change places
pub other_sieve : (s : Block) (at : Sieve) (other : Ends) (xs ys ks ds : Candidates) → Sifts s at xs ks ds → IsBeside s other at ys → IsSieve s other at.kept at.dropped ys ks ds
other_sieve s at other xs ys ks ds sieve beside = record {
  more = beside.held;
  one = sieve.one;
  two = sieve.two;
  rest_one = λ some e. beside.apart some (inr (inl e));
  rest_two = λ some e. beside.apart some (inr (inr (inl e)));
  one_two = sieve.one_two;
}

pub rest_beside : (s : Block) (at : Sieve) (other : Ends) (xs ys ks ds : Candidates) → Sifts s at xs ks ds → IsBeside s other at ys
    → IsBeside s at.rest (record { rest = other; kept = at.kept; dropped = at.dropped; best = at.best }) xs
rest_beside s at other xs ys ks ds sieve beside = record {
  held = sieve.more;
  apart = λ some m. elim m [
    | inl e ↦ beside.apart (λ z. some (e ∙ z)) (inl (sym e))
    | inr (inl e) ↦ sieve.rest_one some e
    | inr (inr (inl e)) ↦ sieve.rest_two some e
    | inr (inr (inr o)) ↦ o
  ];
}

-- what is left, said by the map
pub left_items : (t : Block) (at : Union) (xs ys ks ds : Candidates) → Sifts t at.sieve xs ks ds → IsBeside t at.other at.sieve ys → AreLeft t at (items t at.sieve.rest.first) (items t at.other.first)
left_items t at xs ys ks ds sieve beside = record {
  ks = items t at.sieve.kept.first;
  ds = items t at.sieve.dropped.first;
  sieve = named_sieve t at.sieve.rest at.sieve.kept at.sieve.dropped xs ks ds sieve;
  other = record { held = subst (λ (l : Candidates). IsAt t at.other l) (sym (held_items t at.other.first at.other.last ys beside.held)) beside.held; apart = beside.apart };
}

-- the first of the first list goes into the sieve
pub first_turned : (s : Block) (one two : ℕ) (all : Candidates) (t u : Block) (at : Union) (at' : Sieve) → IsUniting s one two all t at → at.sieve.rest.first ≢ none → at.other.first ≢ none
    → false ≡ comes_first (candidate t at.other.first) (candidate t at.sieve.rest.first)
    → ((x : Candidate) (xs ks ds : Candidates) → Sifts t at.sieve (x ∷ xs) ks ds → candidate t at.sieve.rest.first ≡ x → IsTurned t u at.sieve at' xs ks ds x)
    → IsUniting s one two all u (record { sieve = at'; other = at.other })
first_turned s one two all t u at at' w some some_other which turn =
    let (xs, e) = first_held t at.sieve.rest.first at.sieve.rest.last w.xs some w.sieve.more in
    let (ys, f) = first_held t at.other.first at.other.last w.ys some_other w.other.held in
    let sieve : Sifts t at.sieve (candidate t at.sieve.rest.first ∷ xs) w.ks w.ds = subst (λ (l : Candidates). Sifts t at.sieve l w.ks w.ds) e w.sieve in
    let done : IsTurned t u at.sieve at' xs w.ks w.ds (candidate t at.sieve.rest.first) = turn (candidate t at.sieve.rest.first) xs w.ks w.ds sieve refl in
    let split : IsSplit all w.ks w.ds (candidate t at.sieve.rest.first ∷ union xs w.ys) at.sieve.best
    = subst (λ (l : Candidates). IsSplit all w.ks w.ds l at.sieve.best)
    (ap (λ (l : Candidates). union l w.ys) e ∙ union_first (candidate t at.sieve.rest.first) (candidate t at.other.first) xs ys w.ys f (sym which)) w.split in
    record {
      xs = xs;
      ys = w.ys;
      ks = done.ks';
      ds = done.ds';
      sieve = done.sieve;
      other = beside_turned t u at.sieve at' at.other xs w.ks w.ds w.ys (candidate t at.sieve.rest.first) done w.other;
      rises_xs = rises_rest (candidate t at.sieve.rest.first) xs (subst (λ (l : Candidates). RisesInTime l) e w.rises_xs);
      rises_ys = w.rises_ys;
      split = done.split all (union xs w.ys) split;
      others = keeps_then s t u (one ∷ two ∷ []) (at.other.first ∷ names at.sieve) (at.other.first ∷ names at.sieve) (at.other.first ∷ names at') (at.other.first ∷ names at') w.others
          (keeps_with t u at.other.first (names at.sieve) (names at') done.others) (λ k m. m) (λ k m. inl m);
      free = done.free ∙ w.free;
    }

-- the first of the second list goes into the sieve
pub second_turned : (s : Block) (one two : ℕ) (all : Candidates) (t u : Block) (at : Union) (at' : Sieve) → IsUniting s one two all t at → at.sieve.rest.first ≢ none → at.other.first ≢ none
    → true ≡ comes_first (candidate t at.other.first) (candidate t at.sieve.rest.first)
    → ((y : Candidate) (ys ks ds : Candidates) → Sifts t (record { rest = at.other; kept = at.sieve.kept; dropped = at.sieve.dropped; best = at.sieve.best }) (y ∷ ys) ks ds → candidate t at.other.first ≡ y
    → IsTurned t u (record { rest = at.other; kept = at.sieve.kept; dropped = at.sieve.dropped; best = at.sieve.best }) at' ys ks ds y)
    → IsUniting s one two all u (record { sieve = record { rest = at.sieve.rest; kept = at'.kept; dropped = at'.dropped; best = at'.best }; other = at'.rest })
second_turned s one two all t u at at' w some some_other which turn =
    let (xs, e) = first_held t at.sieve.rest.first at.sieve.rest.last w.xs some w.sieve.more in
    let (ys, f) = first_held t at.other.first at.other.last w.ys some_other w.other.held in
    let sieve : Sifts t (record { rest = at.other; kept = at.sieve.kept; dropped = at.sieve.dropped; best = at.sieve.best }) w.ys w.ks w.ds
    = other_sieve t at.sieve at.other w.xs w.ys w.ks w.ds w.sieve w.other in
    let beside : IsBeside t at.sieve.rest (record { rest = at.other; kept = at.sieve.kept; dropped = at.sieve.dropped; best = at.sieve.best }) w.xs
    = rest_beside t at.sieve at.other w.xs w.ys w.ks w.ds w.sieve w.other in
    let sieve' : Sifts t (record { rest = at.other; kept = at.sieve.kept; dropped = at.sieve.dropped; best = at.sieve.best }) (candidate t at.other.first ∷ ys) w.ks w.ds
    = subst (λ (l : Candidates). IsSieve t at.other at.sieve.kept at.sieve.dropped l w.ks w.ds) f sieve in
    let done : IsTurned t u (record { rest = at.other; kept = at.sieve.kept; dropped = at.sieve.dropped; best = at.sieve.best }) at' ys w.ks w.ds (candidate t at.other.first)
    = turn (candidate t at.other.first) ys w.ks w.ds sieve' refl in
    let beside' : IsBeside u at.sieve.rest at' w.xs = beside_turned t u (record { rest = at.other; kept = at.sieve.kept; dropped = at.sieve.dropped; best = at.sieve.best }) at' at.sieve.rest ys w.ks w.ds w.xs (candidate t at.other.first) done beside in
    let split : IsSplit all w.ks w.ds (candidate t at.other.first ∷ union w.xs ys) at.sieve.best
    = subst (λ (l : Candidates). IsSplit all w.ks w.ds l at.sieve.best)
    (ap (λ (l : Candidates). union w.xs l) f ∙ union_second (candidate t at.sieve.rest.first) (candidate t at.other.first) xs ys w.xs e (sym which)) w.split in
    record {
      xs = w.xs;
      ys = ys;
      ks = done.ks';
      ds = done.ds';
      sieve = other_sieve u at' at.sieve.rest ys w.xs done.ks' done.ds' done.sieve beside';
      other = rest_beside u at' at.sieve.rest ys w.xs done.ks' done.ds' done.sieve beside';
      rises_xs = w.rises_xs;
      rises_ys = rises_rest (candidate t at.other.first) ys (subst (λ (l : Candidates). RisesInTime l) f w.rises_ys);
      split = done.split all (union w.xs ys) split;
      others = keeps_then s t u (one ∷ two ∷ []) (at.other.first ∷ names at.sieve) (at.sieve.rest.first ∷ at.other.first ∷ at.sieve.kept.first ∷ at.sieve.dropped.first ∷ []) (at.sieve.rest.first ∷ names at')
          (at'.rest.first ∷ at.sieve.rest.first ∷ at'.kept.first ∷ at'.dropped.first ∷ []) w.others
          (keeps_with t u at.sieve.rest.first (at.other.first ∷ at.sieve.kept.first ∷ at.sieve.dropped.first ∷ []) (names at') done.others)
          (λ k m. elim m [ inl e ↦ inr (inl e) | inr (inl e) ↦ inl e | inr (inr o) ↦ inr (inr o) ])
          (λ k m. elim m [ inl e ↦ inl (inr (inl e)) | inr (inl e) ↦ inl (inl e) | inr (inr o) ↦ inl (inr (inr o)) ]);
      free = done.free ∙ w.free;
    }

-- a turn takes one candidate off its list
pub fewer : (t u : Block) (at at' : Sieve) (xs ks ds : Candidates) → Sifts t at xs ks ds → at.rest.first ≢ none
    → ((x : Candidate) (xs ks ds : Candidates) → Sifts t at (x ∷ xs) ks ds → candidate t at.rest.first ≡ x → IsTurned t u at at' xs ks ds x)
    → (suc (length (items u at'.rest.first)) ≡ length (items t at.rest.first))
fewer t u at at' xs ks ds sieve some turn =
    let (ys, e) = first_held t at.rest.first at.rest.last xs some sieve.more in
    let done : IsTurned t u at at' ys ks ds (candidate t at.rest.first) = turn (candidate t at.rest.first) ys ks ds (subst (λ (l : Candidates). Sifts t at l ks ds) e sieve) refl in
    let f : length (items u at'.rest.first) ≡ length ys = ap (λ (l : Candidates). length l) (held_items u at'.rest.first at'.rest.last ys done.sieve.more) in
    let g : length (items t at.rest.first) ≡ length xs = ap (λ (l : Candidates). length l) (held_items t at.rest.first at.rest.last xs sieve.more) in
    let h : length xs ≡ length (candidate t at.rest.first ∷ ys) = ap (λ (l : Candidates). length l) e in
    omega arith

-- and none off the list beside it
pub beside_same : (t u : Block) (at at' : Sieve) (other : Ends) (xs ks ds ys : Candidates) → Sifts t at xs ks ds → IsBeside t other at ys → at.rest.first ≢ none
    → ((x : Candidate) (xs ks ds : Candidates) → Sifts t at (x ∷ xs) ks ds → candidate t at.rest.first ≡ x → IsTurned t u at at' xs ks ds x)
    → items u other.first ≡ items t other.first
beside_same t u at at' other xs ks ds ys sieve beside some turn =
    let (zs, e) = first_held t at.rest.first at.rest.last xs some sieve.more in
    let done : IsTurned t u at at' zs ks ds (candidate t at.rest.first) = turn (candidate t at.rest.first) zs ks ds (subst (λ (l : Candidates). Sifts t at l ks ds) e sieve) refl in
    let k : IsBeside u other at' ys = beside_turned t u at at' other zs ks ds ys (candidate t at.rest.first) done beside in
    held_items u other.first other.last ys k.held ∙ sym (held_items t other.first other.last ys beside.held)

-- a candidate that was told
pub passed_same : (t u : Block) (at at' : Sieve) (q : ℤ) → q ≡ (candidate t at.rest.first).q
    → ((x : Candidate) (xs ks ds : Candidates) → Sifts t at (x ∷ xs) ks ds → q ≡ x.q → IsTurned t u at at' xs ks ds (record { q = q; c = x.c; tag = x.tag }))
    → (x : Candidate) (xs ks ds : Candidates) → Sifts t at (x ∷ xs) ks ds → candidate t at.rest.first ≡ x → IsTurned t u at at' xs ks ds x
passed_same t u at at' q told turn x xs ks ds sieve is =
    let own : q ≡ x.q = told ∙ ap (λ (y : Candidate). y.q) is in
    subst (λ (y : Candidate). IsTurned t u at at' xs ks ds y) (λ i. record { q = own i; c = x.c; tag = x.tag }) (turn x xs ks ds sieve own)

-- before the first turn both lists are left
pub union_start : (s : Block) (one two empty : Ends) (xs ys : Candidates) → empty.first ≡ none → IsAt s one xs → IsAt s two ys → (one.first ≡ two.first → one.first ≡ none)
    → RisesInTime xs → RisesInTime ys → IsUniting s one.first two.first (union xs ys) s (record { sieve = record { rest = one; kept = empty; dropped = empty; best = lowest }; other = two })
union_start s one two empty xs ys e h k differ rises_xs rises_ys = record {
  xs = xs;
  ys = ys;
  ks = [];
  ds = [];
  sieve = record {
    more = h;
    one = empty_held s empty.first empty.last h.few e;
    two = empty_held s empty.first empty.last h.few e;
    rest_one = λ z f. z (f ∙ e);
    rest_two = λ z f. z (f ∙ e);
    one_two = λ z f. z e;
  };
  other = record {
    held = k;
    apart = λ some m. elim m [
      | inl f ↦ some (f ∙ differ (sym f))
      | inr (inl f) ↦ some (f ∙ e)
      | inr (inr (inl f)) ↦ some (f ∙ e)
      | inr (inr (inr o)) ↦ o
    ];
  };
  rises_xs = rises_xs;
  rises_ys = rises_ys;
  split = split_start (union xs ys);
  others = record {
    few = λ few. few;
    stays = λ first last zs held some out. held;
    fresh = λ first last zs held some out is_new. elim is_new [
      | inl f ↦ out (inr (inl f))
      | inr (inl f) ↦ out (inl f)
      | inr (inr (inl f)) ↦ some (f ∙ e)
      | inr (inr (inr (inl f))) ↦ some (f ∙ e)
      | inr (inr (inr (inr o))) ↦ o
    ];
  };
  free = refl;
}

-- the second list is used up
pub first_ends : (s : Block) (one two : ℕ) (all : Candidates) (t : Block) (at : Union) → IsUniting s one two all t at → at.other.first ≡ none → IsEnding s one two all t at.sieve
first_ends s one two all t at w e =
    let no_ys : w.ys ≡ [] = none_holds t at.other.first at.other.last w.ys e w.other.held in
    let left : union w.xs w.ys ≡ w.xs = ap (λ (l : Candidates). union w.xs l) no_ys ∙ union_none w.xs in
    record {
      xs = w.xs;
      ks = w.ks;
      ds = w.ds;
      sieve = w.sieve;
      rises = w.rises_xs;
      split = subst (λ (l : Candidates). IsSplit all w.ks w.ds l at.sieve.best) left w.split;
      others = keeps_like s t (one ∷ two ∷ []) (at.other.first ∷ names at.sieve) (one ∷ two ∷ []) (names at.sieve) w.others (λ k m. m) (λ k m. inr m);
      free = w.free;
    }

-- the first list is used up
pub second_ends : (s : Block) (one two : ℕ) (all : Candidates) (t : Block) (at : Union) → IsUniting s one two all t at → at.sieve.rest.first ≡ none
    → IsEnding s one two all t (record { rest = at.other; kept = at.sieve.kept; dropped = at.sieve.dropped; best = at.sieve.best })
second_ends s one two all t at w e =
    let no_xs : w.xs ≡ [] = none_holds t at.sieve.rest.first at.sieve.rest.last w.xs e w.sieve.more in
    record {
      xs = w.ys;
      ks = w.ks;
      ds = w.ds;
      sieve = other_sieve t at.sieve at.other w.xs w.ys w.ks w.ds w.sieve w.other;
      rises = w.rises_ys;
      split = subst (λ (l : Candidates). IsSplit all w.ks w.ds l at.sieve.best) (ap (λ (l : Candidates). union l w.ys) no_xs) w.split;
      others = keeps_like s t (one ∷ two ∷ []) (at.other.first ∷ names at.sieve) (one ∷ two ∷ []) (at.other.first ∷ at.sieve.kept.first ∷ at.sieve.dropped.first ∷ []) w.others (λ k m. m)
          (λ k m. elim m [ inl e ↦ inl e | inr o ↦ inr (inr o) ]);
      free = w.free;
    }

-- what is left at the end, said by the map
pub ending_sieve : (s : Block) (one two : ℕ) (all : Candidates) (t : Block) (at : Sieve) → IsEnding s one two all t at → Sifts t at (items t at.rest.first) (items t at.kept.first) (items t at.dropped.first)
ending_sieve s one two all t at w = named_sieve t at.rest at.kept at.dropped w.xs w.ks w.ds w.sieve

pub ending_rises : (s : Block) (one two : ℕ) (all : Candidates) (t : Block) (at : Sieve) → IsEnding s one two all t at → RisesInTime (items t at.rest.first)
ending_rises s one two all t at w = subst (λ (l : Candidates). RisesInTime l) (sym (held_items t at.rest.first at.rest.last w.xs w.sieve.more)) w.rises

-- before the first candidate is dropped
pub sifted_start : (s : Block) (at : Sieve) → Sifts s at (items s at.rest.first) (items s at.kept.first) (items s at.dropped.first) → IsSiftedTo s s at at (items s at.rest.first)
sifted_start s at sieve = record {
  ks = items s at.kept.first;
  ds = items s at.dropped.first;
  sieve = sieve;
  split = λ all xs ps rs named split. rw (
    held_items s at.rest.first at.rest.last xs named.more,
    held_items s at.kept.first at.kept.last ps named.one,
    held_items s at.dropped.first at.dropped.last rs named.two,
  ) split;
  others = keeps_itself s (names at);
  free = refl;
}

-- the first of what is left is kept or dropped
pub sifted_next : (s t u : Block) (at at' at'' : Sieve) → IsSiftedTo s t at at' (items t at'.rest.first) → at'.rest.first ≢ none
    → ((x : Candidate) (xs ks ds : Candidates) → Sifts t at' (x ∷ xs) ks ds → candidate t at'.rest.first ≡ x → IsTurned t u at' at'' xs ks ds x) → IsSiftedTo s u at at'' (items u at''.rest.first)
sifted_next s t u at at' at'' w some turn =
    let (xs, e) = first_held t at'.rest.first at'.rest.last (items t at'.rest.first) some w.sieve.more in
    let sieve : Sifts t at' (candidate t at'.rest.first ∷ xs) w.ks w.ds = subst (λ (l : Candidates). Sifts t at' l w.ks w.ds) e w.sieve in
    let done : IsTurned t u at' at'' xs w.ks w.ds (candidate t at'.rest.first) = turn (candidate t at'.rest.first) xs w.ks w.ds sieve refl in
    let left : items u at''.rest.first ≡ xs = held_items u at''.rest.first at''.rest.last xs done.sieve.more in
    record {
      ks = done.ks';
      ds = done.ds';
      sieve = subst (λ (l : Candidates). Sifts u at'' l done.ks' done.ds') (sym left) done.sieve;
      split = λ all ys ps rs named split.
          let split' : IsSplit all w.ks w.ds (candidate t at'.rest.first ∷ xs) at'.best = subst (λ (l : Candidates). IsSplit all w.ks w.ds l at'.best) e (w.split all ys ps rs named split) in
          subst (λ (l : Candidates). IsSplit all done.ks' done.ds' l at''.best) (sym left) (done.split all xs split');
      others = keeps_then s t u (names at) (names at') (names at') (names at'') (names at'') w.others done.others (λ k m. m) (λ k m. inl m);
      free = done.free ∙ w.free;
    }

-- and what then is left rises too
pub left_rises : (t u : Block) (at at' : Sieve) (ks ds : Candidates) → Sifts t at (items t at.rest.first) ks ds → at.rest.first ≢ none → RisesInTime (items t at.rest.first)
    → ((x : Candidate) (xs ks ds : Candidates) → Sifts t at (x ∷ xs) ks ds → candidate t at.rest.first ≡ x → IsTurned t u at at' xs ks ds x) → RisesInTime (items u at'.rest.first)
left_rises t u at at' ks ds sieve some rises turn =
    let (xs, e) = first_held t at.rest.first at.rest.last (items t at.rest.first) some sieve.more in
    let done : IsTurned t u at at' xs ks ds (candidate t at.rest.first) = turn (candidate t at.rest.first) xs ks ds (subst (λ (l : Candidates). Sifts t at l ks ds) e sieve) refl in
    let left : items u at'.rest.first ≡ xs = held_items u at'.rest.first at'.rest.last xs done.sieve.more in
    subst (λ (l : Candidates). RisesInTime l) (sym left) (rises_rest (candidate t at.rest.first) xs (subst (λ (l : Candidates). RisesInTime l) e rises))

-- what is left is over the best where its first candidate is
pub over_all : (t : Block) (at : Ends) (best : ℤ) → IsAt t at (items t at.first) → at.first ≢ none → RisesInTime (items t at.first) → int_lt best (candidate t at.first).q ≡ true → RisesOver best (items t at.first)
over_all t at best held some rises over =
    let (xs, e) = first_held t at.first at.last (items t at.first) some held in
    subst (λ (l : Candidates). RisesOver best l) (sym e) (over, subst (λ (l : Candidates). RisesInTime l) e rises)

pub over_none : (t : Block) (at : Ends) (best : ℤ) → IsAt t at (items t at.first) → at.first ≡ none → RisesOver best (items t at.first)
over_none t at best held none_left = subst (λ (l : Candidates). RisesOver best l) (sym (none_items t at.first none_left held.few)) tt

-- what both lists leave
pub record IsUnited (s : Block) (one two : ℕ) (all : Candidates) (t : Block) (list bag : Ends) : Type 0 where
  pub list_is : IsAt t list (undominated all)
  pub bag_is : IsAt t bag (dominated all)
  pub differ : list.first ≢ none → list.first ≢ bag.first
  pub others : KeepsOthers s (one ∷ two ∷ []) t (list.first ∷ bag.first ∷ [])
  pub free : spare t ≡ spare s

-- all that is left stays linked, after what was kept
pub union_end : (s : Block) (one two : ℕ) (all : Candidates) (t u v : Block) (at at' : Sieve) (left : Candidates) (list : Ends) → IsEnding s one two all t at → IsSiftedTo t u at at' left → RisesOver at'.best left
    → IsAppended u at'.kept.first at'.kept.last at'.rest.first at'.rest.last v list.first list.last → IsUnited s one two all v list at'.dropped
union_end s one two all t u v at at' left list w sifted over appended =
    let split : IsSplit all sifted.ks sifted.ds left at'.best = sifted.split all w.xs w.ks w.ds w.sieve w.split in
    let joined : IsAt v list (sifted.ks ++ left) = appended.joined sifted.ks left sifted.sieve.one sifted.sieve.more in
    let list_is : sifted.ks ++ left ≡ undominated all = ap (λ (l : Candidates). sifted.ks ++ l) (sym (all_kept at'.best left over)) ∙ split.kept_is in
    let bag_is : sifted.ds ≡ dominated all = sym (append-nil sifted.ds) ∙ ap (λ (l : Candidates). sifted.ds ++ l) (sym (none_dropped at'.best left over)) ∙ split.dropped_is in
    let out : at'.dropped.first ≢ none → IsIn at'.dropped.first (at'.kept.first ∷ at'.rest.first ∷ []) → ⊥
    = λ (some : at'.dropped.first ≢ none) (m : IsIn at'.dropped.first (at'.kept.first ∷ at'.rest.first ∷ [])). elim m [
      | inl e ↦ sifted.sieve.one_two (λ z. some (e ∙ z)) (sym e)
      | inr (inl e) ↦ sifted.sieve.rest_two (λ z. some (e ∙ z)) (sym e)
      | inr (inr o) ↦ o
    ] in
    let bag : IsAt v at'.dropped sifted.ds = stays_any u v (at'.kept.first ∷ at'.rest.first ∷ []) (list.first ∷ []) at'.dropped.first at'.dropped.last sifted.ds appended.others joined.few out sifted.sieve.two in
    let to_here : KeepsOthers s (one ∷ two ∷ []) u (names at') = keeps_then s t u (one ∷ two ∷ []) (names at) (names at) (names at') (names at') w.others sifted.others (λ k m. m) (λ k m. inl m) in
    record {
      list_is = subst (λ (l : Candidates). IsAt v list l) list_is joined;
      bag_is = subst (λ (l : Candidates). IsAt v at'.dropped l) bag_is bag;
      differ = λ some e. appended.others.fresh at'.dropped.first at'.dropped.last sifted.ds sifted.sieve.two (λ z. some (e ∙ z)) (out (λ z. some (e ∙ z))) (inl (sym e));
      others = keeps_then s u v (one ∷ two ∷ []) (names at') (at'.kept.first ∷ at'.rest.first ∷ []) (list.first ∷ []) (list.first ∷ at'.dropped.first ∷ []) to_here appended.others
          (λ k m. elim m [ inl e ↦ inr (inl e) | inr (inl e) ↦ inl e | inr (inr o) ↦ absurd o ])
          (λ k m. elim m [ inl e ↦ inl (inl e) | inr (inl e) ↦ inr (inr (inr (inl e))) | inr (inr o) ↦ absurd o ]);
      free = appended.free ∙ sifted.free ∙ w.free;
    }
