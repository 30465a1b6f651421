-- Swaps follow each other, and leave what stands beside them.
use Rattle.std.proofs.Common.{◌≡◌, ◌≢◌, ℕ, ◌+◌, ◌<◌, ◌≤◌, ◌==◌, ◌⊎◌, [], ◌∷◌, ◌++◌, get_or, length, refl, sym, ap, ◌∙◌, subst, arith, inl, inr, zero, suc}
use Rattle.std.proofs.lemmas.Bool.{cases_eq, cases_lt}
use Rattle.std.proofs.lemmas.List.{length-append}
use Rattle.std.proofs.lemmas.List.Sums.{sum_by-cons, sum_by-append}
use Rattle.std.proofs.lemmas.List.Sorted.{sum_by-IsPermutation, All-permutation, IsPermutation-sym}
use Rattle.std.proofs.lemmas.List.Elements.{All-append, All-contains, Contains-append_left, Contains-append_right, Contains-get_or}
use Rattle.std.specs.List.{Contains, sum_by}
use Rattle.std.specs.List.Sorted.{IsPermutation}
use Rattle.sol_arena.specs.declared.arena.Arena.{Arena}
use Rattle.sol_arena.specs.Arenas.{made_of}
use Rattle.sol_arena.specs.Uses.{one_if}
use Rattle.sol_arena.proofs.OneLemmas.{one_same, one_other}
use Rattle.cand_pool.specs.Links.{none, IsIn}
use Rattle.cand_pool.specs.Candidates.{Candidate, Candidates}
use Rattle.cand_pool.specs.Pools.{Block, Holds, IsLive, items_of, name}
use Rattle.cand_pool.specs.declared.ends.List.{List as NamedList}
use Rattle.cand_pool.proofs.PublicLaws.{held_items, held_named, stays}
use Rattle.cand_pool.proofs.PoolMoves.{keeps_then}
use Rattle.cand_pool.proofs.SieveLaws.{keeps_like}
use Rattle.cand_uses.specs.Uses.{uses_by, IsExchange, MeanTheSame}
use Rattle.cand_uses.proofs.ExchangeLemmas.{uses_of_both, exchange_then, exchange_same, exchange_among, exchanged_held, stays_same}
use Rattle.cand_turns.specs.Swaps.{Search, search, Lists, names, named, all_of, AreHeld, IsSwap, IsTurn, AreOf}

pub swap_then : (a b c : Search) (given middle made : Lists) → IsSwap a given b middle → IsSwap b middle c made → IsSwap a given c made
swap_then a b c given middle made one two = record {
  uses = exchange_then a.slots b.slots c.slots (all_of a.pool given) (all_of b.pool middle) (all_of c.pool made) one.uses two.uses;
  others = keeps_then a.pool b.pool c.pool (names given) (names middle) (names middle) (names made) (names made) one.others two.others (λ k m. m) (λ k m. inl m);
  spare = omega (arith, one.spare, two.spare);
}

pub turn_then : (a b c : Search) (given middle made : Lists) → IsTurn a given b middle → IsTurn b middle c made → IsTurn a given c made
turn_then a b c given middle made one two = record { held = two.held; swap = swap_then a b c given middle made one.swap two.swap }

-- sums over the lists
pub uses_of_all : (s : Block) (lists : Lists) (t : ℕ) → uses_by (all_of s lists) t ≡ sum_by (λ list. uses_by (items_of s list) t) lists
uses_of_all s [] t = refl
uses_of_all s (list ∷ lists) t =
    omega (arith, uses_of_both (items_of s list) (all_of s lists) t, sum_by-cons (λ l. uses_by (items_of s l) t) list lists, uses_of_all s lists t)

pub length_of_all : (s : Block) (lists : Lists) → length (all_of s lists) ≡ sum_by (λ list. length (items_of s list)) lists
length_of_all s [] = refl
length_of_all s (list ∷ lists) =
    omega (arith, length-append (items_of s list) (all_of s lists), sum_by-cons (λ l. length (items_of s l)) list lists, length_of_all s lists)

-- a list of these
pub named_some : (k : ℕ) (lists : Lists) → IsIn k (names lists) → 0 < named k lists
named_some k [] m = absurd m
named_some k (l ∷ ls) (inl e) = omega (arith, sum_by-cons (λ (x : NamedList). one_if (name x == k)) l ls, one_same (name l) k (sym e))
named_some k (l ∷ ls) (inr m) = omega (arith, sum_by-cons (λ (x : NamedList). one_if (name x == k)) l ls, named_some k ls m)

pub some_named : (k : ℕ) (lists : Lists) → 0 < named k lists → (l : NamedList) × Contains lists l × (name l ≡ k)
some_named k [] positive = absurd (omega arith)
some_named k (l ∷ ls) positive = elim (cases_eq (name l) k) [
  | inl e ↦ (l, (0, omega arith, refl), e)
  | inr d ↦
      let (x, (j, j_n, f), e) = some_named k ls (omega (arith, sum_by-cons (λ (x : NamedList). one_if (name x == k)) l ls, one_other (name l) k d, positive)) in
      (x, (suc j, omega arith, f), e)
]

pub in_names : (lists : Lists) (l : NamedList) → Contains lists l → IsIn (name l) (names lists)
in_names [] l (k, k_n, e) = absurd (omega arith)
in_names (x ∷ xs) l (zero, k_n, e) = inl (ap (λ (y : NamedList). name y) (sym e))
in_names (x ∷ xs) l (suc k, k_n, e) = inr (in_names xs l (k, omega arith, e))

pub name_in : (k : ℕ) (lists : Lists) → IsIn k (names lists) → (l : NamedList) × Contains lists l × (name l ≡ k)
name_in k lists m = some_named k lists (named_some k lists m)

in_either : (k : ℕ) (xs ys : Lists) → IsIn k (names (xs ++ ys)) → IsIn k (names xs) ⊎ IsIn k (names ys)
in_either k [] ys m = inr m
in_either k (x ∷ xs) ys (inl e) = inl (inl e)
in_either k (x ∷ xs) ys (inr m) = elim (in_either k xs ys m) [ inl a ↦ inl (inr a) | inr b ↦ inr b ]

in_first : (k : ℕ) (xs ys : Lists) → IsIn k (names xs) → IsIn k (names (xs ++ ys))
in_first k [] ys m = absurd m
in_first k (x ∷ xs) ys (inl e) = inl e
in_first k (x ∷ xs) ys (inr m) = inr (in_first k xs ys m)

in_second : (k : ℕ) (xs ys : Lists) → IsIn k (names ys) → IsIn k (names (xs ++ ys))
in_second k [] ys m = m
in_second k (x ∷ xs) ys m = inr (in_second k xs ys m)

-- lists in another order
pub in_order : (k : ℕ) (xs ys : Lists) → IsPermutation xs ys → IsIn k (names xs) → IsIn k (names ys)
in_order k xs ys order m =
    let (l, found, e) = some_named k ys (omega (arith, named_some k xs m, sum_by-IsPermutation (λ (x : NamedList). one_if (name x == k)) xs ys order)) in
    subst (λ (n : ℕ). IsIn n (names ys)) e (in_names ys l found)

pub order_uses : (s : Block) (xs ys : Lists) → IsPermutation xs ys → (t : ℕ) → uses_by (all_of s ys) t ≡ uses_by (all_of s xs) t
order_uses s xs ys order t =
    omega (arith, uses_of_all s xs t, uses_of_all s ys t, sum_by-IsPermutation (λ (l : NamedList). uses_by (items_of s l) t) xs ys order)

pub order_length : (s : Block) (xs ys : Lists) → IsPermutation xs ys → length (all_of s ys) ≡ length (all_of s xs)
order_length s xs ys order =
    omega (arith, length_of_all s xs, length_of_all s ys, sum_by-IsPermutation (λ (l : NamedList). length (items_of s l)) xs ys order)

pub order_held : (at : Search) (xs ys : Lists) → IsPermutation xs ys → AreHeld at xs → AreHeld at ys
order_held at xs ys order held = record {
  live = All-permutation (IsLive at.pool) xs ys order held.live;
  apart = λ k some. omega (arith, held.apart k some, sum_by-IsPermutation (λ (x : NamedList). one_if (name x == k)) xs ys order);
  uses = λ s some. omega (arith, held.uses s some, order_uses at.pool xs ys order s);
}

-- A swap of some lists beside others.
module _ (old new : Search) (given made others : Lists) (held : AreHeld old (given ++ others)) (turn : IsTurn old given new made) where
  named_both : (k : ℕ) (xs ys : Lists) → named k (xs ++ ys) ≡ named k xs + named k ys
  named_both k xs ys = sum_by-append (λ (x : NamedList). one_if (name x == k)) xs ys

  -- none of the others was given
  not_given : (l : NamedList) → Contains others l → name l ≢ none → IsIn (name l) (names given) → ⊥
  not_given l found some m =
      omega (arith, held.apart (name l) some, named_both (name l) given others, named_some (name l) given m, named_some (name l) others (in_names others l found))

  other_live : (l : NamedList) → Contains others l → IsLive old.pool l
  other_live l found = All-contains (IsLive old.pool) (given ++ others) l held.live (Contains-append_right given others l found)

  pub other_stays : (l : NamedList) → Contains others l → Holds new.pool l (items_of old.pool l)
  other_stays l found = stays old.pool new.pool (names given) (names made) _ _ _ turn.swap.others (not_given l found) (other_live l found)

  pub other_items : (l : NamedList) → Contains others l → items_of new.pool l ≡ items_of old.pool l
  other_items l found = held_items _ _ _ _ (other_stays l found)

  not_made : (l : NamedList) → Contains others l → name l ≢ none → IsIn (name l) (names made) → ⊥
  not_made l found some = turn.swap.others.fresh _ _ _ (other_live l found) some (not_given l found some)

  pub others_same : all_of new.pool others ≡ all_of old.pool others
  others_same = same others (λ l found. other_items l found) where
    same : (ls : Lists) → ((l : NamedList) → Contains ls l → items_of new.pool l ≡ items_of old.pool l) → all_of new.pool ls ≡ all_of old.pool ls
    same [] each = refl
    same (l ∷ ls) each =
        let first : items_of new.pool l ≡ items_of old.pool l = each l (0, omega arith, refl) in
        let rest : all_of new.pool ls ≡ all_of old.pool ls = same ls (λ x (k, k_n, e). each x (suc k, omega arith, e)) in
        λ i. first i ++ rest i

  all_both : (s : Block) (xs ys : Lists) (t : ℕ) → uses_by (all_of s (xs ++ ys)) t ≡ uses_by (all_of s xs) t + uses_by (all_of s ys) t
  all_both s xs ys t =
      omega (arith, uses_of_all s (xs ++ ys) t, uses_of_all s xs t, uses_of_all s ys t, sum_by-append (λ (l : NamedList). uses_by (items_of s l) t) xs ys)

  long_both : (s : Block) (xs ys : Lists) → length (all_of s (xs ++ ys)) ≡ length (all_of s xs) + length (all_of s ys)
  long_both s xs ys =
      omega (arith, length_of_all s (xs ++ ys), length_of_all s xs, length_of_all s ys, sum_by-append (λ (l : NamedList). length (items_of s l)) xs ys)

  beside_uses : IsExchange old.slots (all_of old.pool (given ++ others)) new.slots (all_of new.pool (made ++ others))
  beside_uses =
      exchange_among old.slots new.slots (all_of old.pool others) (all_of old.pool given) (all_of new.pool made) (all_of old.pool (given ++ others)) (all_of new.pool (made ++ others))
      (λ t. omega (arith, all_both old.pool given others t))
      (λ t. omega (arith, all_both new.pool made others t, ap (λ (xs : Candidates). uses_by xs t) others_same))
      turn.swap.uses

  beside_apart : (k : ℕ) → k ≢ none → named k (made ++ others) ≤ 1
  beside_apart k some =
      elim (cases_lt 0 (named k made)) [
        | inr none_made ↦ omega (arith, none_made, named_both k made others, named_both k given others, held.apart k some)
        | inl made_so ↦ elim (cases_lt 0 (named k others)) [
          | inr none_other ↦ omega (arith, none_other, named_both k made others, turn.held.apart k some)
          | inl other_so ↦
              let (x, x_in, x_is) = some_named k made made_so in
              let (l, l_in, l_is) = some_named k others other_so in
              absurd (not_made l l_in (λ e. some (sym l_is ∙ e)) (subst (λ (n : ℕ). IsIn n (names made)) (x_is ∙ sym l_is) (in_names made x x_in)))
        ]
      ]

  pub beside : IsTurn old (given ++ others) new (made ++ others)
  beside = record {
    held = record {
      live = All-append (IsLive new.pool) made others turn.held.live (λ k d k_n. held_named _ _ _ _ (other_stays (get_or others k d) (Contains-get_or others k d k_n)));
      apart = beside_apart;
      uses = exchanged_held old.slots new.slots (all_of old.pool (given ++ others)) (all_of new.pool (made ++ others)) held.uses beside_uses;
    };
    swap = record {
      uses = beside_uses;
      others = record {
        few = turn.swap.others.few;
        stays = λ first last xs h some out. turn.swap.others.stays first last xs h some (λ m. out (in_first first given others m));
        fresh = λ first last xs h some out m. elim (in_either first made others m) [
          | inl a ↦ turn.swap.others.fresh first last xs h some (λ b. out (in_first first given others b)) a
          | inr b ↦ out (in_second first given others b)
        ];
      };
      spare = omega (
        arith,
        turn.swap.spare,
        long_both old.pool given others,
        long_both new.pool made others,
        ap (λ (xs : Candidates). length xs) others_same,
      );
    };
  }

-- the same of lists in any order
pub turn_among : (old new : Search) (given made others before after : Lists) → AreHeld old before → AreOf given others before → AreOf made others after
    → IsTurn old given new made → IsTurn old before new after
turn_among old new given made others before after held of_before of_after turn =
    let back : IsPermutation before (given ++ others) = IsPermutation-sym (given ++ others) before of_before in
    let whole : IsTurn old (given ++ others) new (made ++ others) = beside old new given made others (order_held old before (given ++ others) back held) turn in
    record {
      held = order_held new (made ++ others) after of_after whole.held;
      swap = record {
        uses = exchange_same old.slots new.slots (all_of old.pool (given ++ others)) (all_of old.pool before) (all_of new.pool (made ++ others)) (all_of new.pool after)
            (order_uses old.pool (given ++ others) before of_before)
            (λ t. sym (order_uses new.pool (made ++ others) after of_after t)) whole.swap.uses;
        others = keeps_like old.pool new.pool _ _ _ _ whole.swap.others (λ k m. in_order k (given ++ others) before of_before m)
            (λ k m. in_order k after (made ++ others) (IsPermutation-sym (made ++ others) after of_after) m);
        spare = omega (arith, whole.swap.spare, order_length old.pool (given ++ others) before of_before, order_length new.pool (made ++ others) after of_after);
      };
    }

-- the solutions of the others mean what they did
pub others_meant : (old new : Arena) (s t : Block) (given made others : Lists) → AreHeld (search s old) (given ++ others) → IsTurn (search s old) given (search t new) made
    → MeanTheSame (made_of old) (made_of new) (all_of s others)
others_meant old new s t given made others held turn =
    stays_same old new (all_of s others) (all_of s given) (all_of t made)
    (λ u some. omega (arith, held.uses u some, all_both (search s old) (search t new) given made others held turn s given others u, uses_of_both (all_of s others) (all_of s given) u))
    turn.swap.uses

-- the first of some lists are held
pub front_held : (at : Search) (xs ys : Lists) → AreHeld at (xs ++ ys) → AreHeld at xs
front_held at xs ys held = record {
  live = λ k d k_n. All-contains (IsLive at.pool) (xs ++ ys) (get_or xs k d) held.live (Contains-append_left xs ys (get_or xs k d) (Contains-get_or xs k d k_n));
  apart = λ k some. omega (arith, held.apart k some, sum_by-append (λ (x : NamedList). one_if (name x == k)) xs ys);
  uses = λ s some.
      omega (
        arith,
        held.uses s some,
        uses_of_all at.pool (xs ++ ys) s,
        uses_of_all at.pool xs s,
        sum_by-append (λ (l : NamedList). uses_by (items_of at.pool l) s) xs ys,
      );
}

pub in_all : (s : Block) (lists : Lists) (list : NamedList) (x : Candidate) → Contains lists list → Contains (items_of s list) x → Contains (all_of s lists) x
in_all s [] list x (k, k_n, e) x_in = absurd (omega arith)
in_all s (l ∷ ls) list x (zero, k_n, e) x_in = Contains-append_left (items_of s l) (all_of s ls) x (subst (λ (k : NamedList). Contains (items_of s k) x) (sym e) x_in)
in_all s (l ∷ ls) list x (suc k, k_n, e) x_in = Contains-append_right (items_of s l) (all_of s ls) x (in_all s ls list x (k, omega arith, e) x_in)

-- the candidates of a list beside a swap stay, and so do their solutions
pub list_meant : (old new : Arena) (s t : Block) (given made others : Lists) → AreHeld (search s old) (given ++ others) → IsTurn (search s old) given (search t new) made
    → (l : NamedList) → Contains others l → MeanTheSame (made_of old) (made_of new) (items_of s l)
list_meant old new s t given made others held turn l found x x_in =
    others_meant old new s t given made others held turn x (in_all s others l x found x_in)
