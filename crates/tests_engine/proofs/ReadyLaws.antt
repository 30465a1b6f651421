-- Lists that rise strictly, as they are made, and what a merge needs of them.
use Rattle.std.proofs.Common.{◌≡◌, ◌≢◌, ℕ, zero, suc, ◌+◌, ◌*◌, ◌<◌, ◌≤◌, List, [], ◌∷◌, ◌++◌, length, refl, sym, ap, ◌∙◌, subst, arith, inl, length-append, get_or, Option, None, Some, pos}
use Rattle.std.specs.Prelude.{ℤ, ◌+ℤ◌, ◌≤ℤ◌, ◌<ℤ◌}
use Rattle.std.specs.List.{All, AllPairs, Contains}
use Rattle.std.proofs.lemmas.Int.{ints}
use Rattle.std.proofs.lemmas.List.{map-append}
use Rattle.std.proofs.lemmas.List.Quantifiers.{all_pairs_push}
use Rattle.elmore.specs.Pairs.{IsBelow}
use Rattle.elmore.specs.declared.pair.Pair.{Pair}
use Rattle.sol_arena.specs.Slots.{none, IsLive}
use Rattle.sol_arena.specs.declared.arena.Arena.{Arena}
use Rattle.sol_arena.specs.declared.slot.Slot.{Slot}
use Rattle.sol_arena.specs.Arenas.{slots_of, made_of}
use Rattle.sol_arena.specs.Uses.{held_of}
use Rattle.sol_arena.specs.Meanings.{cells_of}
use Rattle.sol_arena.proofs.OneLemmas.{one_other}
use Rattle.cand_pool.specs.Candidates.{Candidate, Candidates, IsModest, AreModest}
use Rattle.cand_pool.specs.Pools.{Block, items_of, spare, Holds, KeepsOthers, Differ, name}
use Rattle.cand_pool.specs.declared.ends.List.{List as NamedList}
use Rattle.cand_pool.proofs.PublicLaws.{held_items, held_named, nothing_held, stays}
use Rattle.cand_pool.proofs.PoolMoves.{keeps_then}
use Rattle.cand_pool.proofs.CallLaws.{keeps_none, fresh_differs}
use Rattle.cand_uses.specs.Pairs.{pair_of, pairs_of}
use Rattle.cand_uses.specs.Uses.{uses_by, HoldsFor, IsExchange}
use Rattle.cand_uses.proofs.ExchangeLemmas.{uses_of_one, empty_cells}
use Rattle.vg_convex.specs.Lists.{AreBareAt}
use Rattle.vg_merge.specs.Merges.{CanMeet}
use Rattle.tests_engine.specs.Ready.{AreBare, IsReady, AreUnder, IsListed}

modest_append : (xs : List Candidate) (x : Candidate) → AreModest xs → IsModest x → AreModest (xs ++ x ∷ [])
modest_append [] x all one = (one, tt)
modest_append (y ∷ ys) x all one = (all.0, modest_append ys x all.1 one)

bare_append : (xs ys : List Candidate) → AreBare xs → AreBare ys → AreBare (xs ++ ys)
bare_append [] ys one two = two
bare_append (x ∷ xs) ys one two = (one.0, bare_append xs ys one.1 two)

under_at : (top : Pair) (xs : List Pair) → AreUnder top xs → (k : ℕ) (d : Pair) → k < length xs → IsBelow (get_or xs k d) top
under_at top [] under k d low = absurd (omega arith)
under_at top (x ∷ xs) under zero d low = under.0
under_at top (x ∷ xs) under (suc k) d low = under_at top xs under.1 k d (omega arith)

below_then : (x y z : Pair) → IsBelow x y → y.q ≤ℤ z.q → y.c ≤ z.c → IsBelow x z
below_then x y z below q c = record { time = let a = below.time in omega (arith, ints, a, q); room = let a = below.room in omega (arith, a, c) }

under_more : (top higher : Pair) (xs : List Pair) → top.q ≤ℤ higher.q → top.c ≤ higher.c → AreUnder top xs → AreUnder higher xs
under_more top higher [] q c under = tt
under_more top higher (x ∷ xs) q c under = (below_then x top higher under.0 q c, under_more top higher xs q c under.1)

under_append : (top x : Pair) (xs : List Pair) → AreUnder top xs → IsBelow x top → AreUnder top (xs ++ x ∷ [])
under_append top x [] under below = (below, tt)
under_append top x (y ∷ ys) under below = (under.0, under_append top x ys under.1 below)

-- the place of a list from which its candidate at n is at least
abbrev pub floor : ℕ → Pair
floor n = record { q = pos (8 * n); c = 4 * n }

-- how far a list is made: it has n candidates
pub record IsRising (s t : Block) (list : NamedList) (n : ℕ) : Type 0 where
  pub xs : Candidates
  pub held : Holds t list xs
  pub modest : AreModest xs
  pub rises : AllPairs IsBelow (pairs_of xs)
  pub under : AreUnder (floor n) (pairs_of xs)
  pub bare : AreBare xs
  pub long : length xs ≡ n
  pub others : KeepsOthers s [] t (name list ∷ [])
  pub free : spare s ≡ spare t + n

none_pairs : AllPairs IsBelow []
none_pairs i j d before low = absurd (omega arith)

pub rising_start : (s t : Block) (list : NamedList) → t ≡ s → Holds t list [] → IsRising s t list 0
rising_start s t list same h = record {
  xs = [];
  held = h;
  modest = tt;
  rises = none_pairs;
  under = tt;
  bare = tt;
  long = refl;
  others = subst (λ (b : Block). KeepsOthers b [] t (name list ∷ [])) same (keeps_none t (name list) (nothing_held t list.ends.first list.ends.last h));
  free = let e : spare t ≡ spare s = ap spare same in omega (arith, e);
}

-- the next candidate of a list
pub record IsNext (n : ℕ) (x : Candidate) : Type 0 where
  pub from_q : pos (8 * n) ≤ℤ x.q
  pub to_q : x.q <ℤ pos (8 * n + 8)
  pub from_c : 4 * n ≤ x.c
  pub to_c : x.c < 4 * n + 4
  pub empty : x.tag ≡ none

next_modest : (n : ℕ) (x : Candidate) → n < 1000 → IsNext n x → IsModest x
next_modest n x few next = let a = next.from_q in let b = next.to_q in let c = next.to_c in record { low = omega (arith, ints, a, few); high = omega (arith, ints, b, few); load = omega (arith, c, few) }

next_below : (n : ℕ) (x : Candidate) → IsNext n x → IsBelow (pair_of x) (floor (n + 1))
next_below n x next = let b = next.to_q in let c = next.to_c in record { time = omega (arith, ints, b); room = omega (arith, c) }

floor_rises : (n : ℕ) → pos (8 * n) ≤ℤ pos (8 * (n + 1))
floor_rises n = omega (arith, ints)

pub rising_more : (s t u : Block) (list list' : NamedList) (n : ℕ) (x : Candidate) → IsRising s t list n → n < 1000 → IsNext n x → ((xs : Candidates) → Holds t list xs → Holds u list' (xs ++ x ∷ []))
    → KeepsOthers t (name list ∷ []) u (name list' ∷ []) → spare t ≡ suc (spare u) → IsRising s u list' (n + 1)
rising_more s t u list list' n x f few next pushed others free =
    let e : pairs_of (f.xs ++ x ∷ []) ≡ pairs_of f.xs ++ pair_of x ∷ [] = map-append pair_of f.xs (x ∷ []) in
    let under : AreUnder (pair_of x) (pairs_of f.xs) = under_more (floor n) (pair_of x) (pairs_of f.xs) next.from_q next.from_c f.under in
    record {
      xs = f.xs ++ x ∷ [];
      held = pushed f.xs f.held;
      modest = modest_append f.xs x f.modest (next_modest n x few next);
      rises = subst (λ (ps : List Pair). AllPairs IsBelow ps) (sym e) (all_pairs_push IsBelow (pairs_of f.xs) (pair_of x) f.rises (under_at (pair_of x) (pairs_of f.xs) under));
      under = subst (λ (ps : List Pair). AreUnder (floor (n + 1)) ps) (sym e)
          (under_append (floor (n + 1)) (pair_of x) (pairs_of f.xs) (under_more (floor n) (floor (n + 1)) (pairs_of f.xs) (floor_rises n) (omega arith) f.under) (next_below n x next));
      bare = bare_append f.xs (x ∷ []) f.bare (next.empty, tt);
      long = let long = f.long in omega (arith, long, length-append f.xs (x ∷ []));
      others = keeps_then s t u [] (name list ∷ []) (name list ∷ []) (name list' ∷ []) (name list' ∷ []) f.others others (λ k m. m) (λ k m. inl m);
      free = let before = f.free in omega (arith, before, free);
    }

pub ready_of : (s : Block) (list : NamedList) (xs : Candidates) → Holds s list xs → AreModest xs → AllPairs IsBelow (pairs_of xs) → AreBare xs → IsReady s list
ready_of s list xs h modest rises are_bare =
    let is : xs ≡ items_of s list = sym (held_items s list.ends.first list.ends.last xs h) in
    record {
      live = held_named s list.ends.first list.ends.last xs h;
      modest = subst AreModest is modest;
      rises = subst (λ (ys : Candidates). AllPairs IsBelow (pairs_of ys)) is rises;
      bare = subst AreBare is are_bare;
    }

pub rising_ready : (s t : Block) (list : NamedList) (n : ℕ) → IsRising s t list n → IsReady t list
rising_ready s t list n f = ready_of t list f.xs f.held f.modest f.rises f.bare

pub rising_long : (s t : Block) (list : NamedList) (n : ℕ) → IsRising s t list n → length (items_of t list) ≡ n
rising_long s t list n f = ap length (held_items t list.ends.first list.ends.last f.xs f.held) ∙ f.long

-- a list stays ready while another one is made
pub record IsSecond (s t : Block) (list other : NamedList) : Type 0 where
  pub ready : IsReady t list
  pub same : length (items_of t list) ≡ length (items_of s list)
  pub differ : Differ (name list) (name other)

pub second : (s t : Block) (list other : NamedList) → IsReady s list → KeepsOthers s [] t (name other ∷ []) → IsSecond s t list other
second s t list other ready keeps =
    let there : Holds t list (items_of s list) = stays s t [] (name other ∷ []) list.ends.first list.ends.last (items_of s list) keeps (λ some m. m) ready.live in
    record {
      ready = ready_of t list (items_of s list) there ready.modest ready.rises ready.bare;
      same = ap length (held_items t list.ends.first list.ends.last (items_of s list) there);
      differ = fresh_differs s t [] (name other ∷ []) list.ends.first list.ends.last (items_of s list) keeps ready.live (λ some m. m) (name other) (inl refl);
    }

-- candidates without cells use nothing
no_uses : (xs : Candidates) → AreBare xs → (s : ℕ) → s ≢ none → uses_by xs s ≡ 0
no_uses [] are_bare s some = refl
no_uses (x ∷ xs) are_bare s some =
    omega (arith, uses_of_one x xs s, one_other x.tag s (λ e. some (sym e ∙ are_bare.0)), no_uses xs are_bare.1 s some)

bare_at : (xs : Candidates) (x : Candidate) → AreBare xs → Contains xs x → x.tag ≡ none
bare_at [] x are_bare (k, low, e) = absurd (omega arith)
bare_at (y ∷ ys) x are_bare (zero, low, e) = sym (ap (λ (z : Candidate). z.tag) e) ∙ are_bare.0
bare_at (y ∷ ys) x are_bare (suc k, low, e) = bare_at ys x are_bare.1 (k, omega arith, e)

no_cells : (arena : Arena) (sol v y : ℕ) → sol ≡ none → cells_of (made_of arena) sol v ≡ Some y → ⊥
no_cells arena sol v y empty some =
    let e : cells_of (made_of arena) sol v ≡ None = ap (λ (k : ℕ). cells_of (made_of arena) k v) empty ∙ ap (λ (f : ℕ → Option ℕ). f v) (empty_cells arena) in
    let clash : Some y ≡ None = sym some ∙ e in cc

-- two lists without cells can meet
pub can_meet : (arena : Arena) (s : Block) (a b : NamedList) → IsReady s a → IsReady s b → CanMeet (slots_of arena) (items_of s a) (items_of s b)
can_meet arena s a b one two = record {
  xs_rise = one.rises;
  ys_rise = two.rises;
  xs_modest = one.modest;
  ys_modest = two.modest;
  held = λ k some. let e = no_uses (items_of s a ++ items_of s b) (bare_append (items_of s a) (items_of s b) one.bare two.bare) k some in omega (arith, e);
  apart = λ x y x_in y_in v p q first then. no_cells arena x.tag v p (bare_at (items_of s a) x one.bare x_in) first;
}

-- what a merge makes of them is held
pub met_held : (old new : List Slot) (xs zs : Candidates) → AreBare xs → IsExchange old xs new zs → HoldsFor new zs
met_held old new xs zs are_bare one s some =
    let e = one.held (held_of old) (λ k k_some. let z = no_uses xs are_bare k k_some in omega (arith, z)) s some in omega (arith, e)

one_pair : (x : Pair) → AllPairs IsBelow (x ∷ [])
one_pair x i j d before low = absurd (omega arith)

-- a candidate of small numbers, without cells
abbrev pub plain : ℕ → ℕ → Candidate
plain q c = record { q = pos q; c = c; tag = none }

plain_modest : (q c : ℕ) → q ≤ 1000 → c ≤ 1000 → IsModest (plain q c)
plain_modest q c low light = record { low = omega (arith, ints); high = omega (arith, ints, low); load = omega (arith, light) }

pub empty_ready : (s : Block) (list : NamedList) → Holds s list [] → IsReady s list
empty_ready s list h = ready_of s list [] h tt none_pairs tt

pub one_ready : (s : Block) (list : NamedList) (q c : ℕ) → q ≤ 1000 → c ≤ 1000 → Holds s list (plain q c ∷ []) → IsReady s list
one_ready s list q c low light h = ready_of s list (plain q c ∷ []) h (plain_modest q c low light, tt) (one_pair (pair_of (plain q c))) (refl, tt)

pub two_ready : (s : Block) (list : NamedList) (q c r d : ℕ) → q < r → c < d → r ≤ 1000 → d ≤ 1000 → Holds s list (plain q c ∷ plain r d ∷ []) → IsReady s list
two_ready s list q c r d slow light low heavy h =
    let below : IsBelow (pair_of (plain q c)) (pair_of (plain r d)) = record { time = omega (arith, ints, slow); room = light } in
    ready_of s list (plain q c ∷ plain r d ∷ []) h (plain_modest q c (omega arith) (omega arith), (plain_modest r d low heavy, tt))
    (all_pairs_push IsBelow (pair_of (plain q c) ∷ []) (pair_of (plain r d)) (one_pair (pair_of (plain q c))) (under_at (pair_of (plain r d)) (pair_of (plain q c) ∷ []) (below, tt)))
    (refl, (refl, tt))

-- an empty list that is made names nothing
pub empty_others : (s t : Block) (list : NamedList) → t ≡ s → Holds t list [] → KeepsOthers s [] t (name list ∷ [])
empty_others s t list same h = subst (λ (b : Block). KeepsOthers b [] t (name list ∷ [])) same (keeps_none t (name list) (nothing_held t list.ends.first list.ends.last h))

pub bare_both : (s : Block) (a b : NamedList) → IsReady s a → IsReady s b → AreBare (items_of s a ++ items_of s b)
bare_both s a b one two = bare_append (items_of s a) (items_of s b) one.bare two.bare

pub listed_start : (s t : Block) (list : NamedList) → t ≡ s → Holds t list [] → IsListed s t list (record { q = pos 0; c = 0 }) 0
listed_start s t list same h = record {
  xs = [];
  held = h;
  modest = tt;
  rises = none_pairs;
  under = tt;
  bare = tt;
  low = omega (arith, ints);
  others = empty_others s t list same h;
  room = let e : spare t ≡ spare s = ap spare same in omega (arith, e);
}

-- a pair that does not rise is left out
pub listed_skip : (s t : Block) (list : NamedList) (floor : Pair) (n : ℕ) → IsListed s t list floor n → IsListed s t list floor (suc n)
listed_skip s t list floor n f = record {
  xs = f.xs;
  held = f.held;
  modest = f.modest;
  rises = f.rises;
  under = f.under;
  bare = f.bare;
  low = f.low;
  others = f.others;
  room = let room = f.room in omega (arith, room);
}

-- a pair that rises over the floor and is small
pub record IsOver (floor : Pair) (q : ℤ) (c : ℕ) : Type 0 where
  pub time : floor.q ≤ℤ q
  pub load : floor.c ≤ c
  pub early : q ≤ℤ pos 1000
  pub light : c ≤ 1000

over_modest : (floor : Pair) (q : ℤ) (c : ℕ) → pos 0 ≤ℤ floor.q → IsOver floor q c → IsModest (record { q = q; c = c; tag = none })
over_modest floor q c low over = let a = over.time in let b = over.early in let d = over.light in record { low = omega (arith, ints, a, low); high = omega (arith, ints, b); load = omega (arith, d) }

next_up : (q : ℤ) → q ≤ℤ (q +ℤ pos 1)
next_up q = omega (arith, ints)

next_over : (q : ℤ) → q <ℤ (q +ℤ pos 1)
next_over q = omega (arith, ints)

up_low : (a q : ℤ) → pos 0 ≤ℤ a → a ≤ℤ q → pos 0 ≤ℤ (q +ℤ pos 1)
up_low a q low up = omega (arith, ints)

up_floor : (a q : ℤ) → a ≤ℤ q → a ≤ℤ (q +ℤ pos 1)
up_floor a q up = omega (arith, ints)

pub listed_more : (s t u : Block) (list list' : NamedList) (floor : Pair) (n : ℕ) (q : ℤ) (c : ℕ) → IsListed s t list floor n → IsOver floor q c
    → ((xs : Candidates) → Holds t list xs → Holds u list' (xs ++ record { q = q; c = c; tag = none } ∷ []))
    → KeepsOthers t (name list ∷ []) u (name list' ∷ []) → spare t ≡ suc (spare u) → IsListed s u list' (record { q = q +ℤ pos 1; c = c + 1 }) (suc n)
listed_more s t u list list' floor n q c f over pushed others free =
    let x : Candidate = record { q = q; c = c; tag = none } in
    let top : Pair = record { q = q +ℤ pos 1; c = c + 1 } in
    let e : pairs_of (f.xs ++ x ∷ []) ≡ pairs_of f.xs ++ pair_of x ∷ [] = map-append pair_of f.xs (x ∷ []) in
    let under : AreUnder (pair_of x) (pairs_of f.xs) = under_more floor (pair_of x) (pairs_of f.xs) over.time over.load f.under in
    let light : floor.c ≤ c + 1 = let a = over.load in omega (arith, a) in
    record {
      xs = f.xs ++ x ∷ [];
      held = pushed f.xs f.held;
      modest = modest_append f.xs x f.modest (over_modest floor q c f.low over);
      rises = subst (λ (ps : List Pair). AllPairs IsBelow ps) (sym e) (all_pairs_push IsBelow (pairs_of f.xs) (pair_of x) f.rises (under_at (pair_of x) (pairs_of f.xs) under));
      under = subst (λ (ps : List Pair). AreUnder top ps) (sym e)
          (under_append top (pair_of x) (pairs_of f.xs) (under_more floor top (pairs_of f.xs) (up_floor floor.q q over.time) light f.under) (record { time = next_over q; room = omega arith }));
      bare = bare_append f.xs (x ∷ []) f.bare (refl, tt);
      low = up_low floor.q q f.low over.time;
      others = keeps_then s t u [] (name list ∷ []) (name list ∷ []) (name list' ∷ []) (name list' ∷ []) f.others others (λ k m. m) (λ k m. inl m);
      room = let room = f.room in omega (arith, room, free);
    }

pub listed_ready : (s t : Block) (list : NamedList) (floor : Pair) (n : ℕ) → IsListed s t list floor n → IsReady t list
listed_ready s t list floor n f = ready_of t list f.xs f.held f.modest f.rises f.bare

all_live : (arena : Arena) (xs : Candidates) → AreBare xs → All (λ x. IsLive (made_of arena) x.tag) xs
all_live arena [] are_bare k d low = absurd (omega arith)
all_live arena (x ∷ xs) are_bare zero d low = λ some. absurd (some are_bare.0)
all_live arena (x ∷ xs) are_bare (suc k) d low = all_live arena xs are_bare.1 k d (omega arith)

all_uncut : (arena : Arena) (node : ℕ) (xs : Candidates) → AreBare xs → All (λ x. cells_of (made_of arena) x.tag node ≡ None) xs
all_uncut arena node [] are_bare k d low = absurd (omega arith)
all_uncut arena node (x ∷ xs) are_bare zero d low = ap (λ (j : ℕ). cells_of (made_of arena) j node) are_bare.0 ∙ ap (λ (f : ℕ → Option ℕ). f node) (empty_cells arena)
all_uncut arena node (x ∷ xs) are_bare (suc k) d low = all_uncut arena node xs are_bare.1 k d (omega arith)

-- candidates without cells are bare at each node
pub bare_of : (arena : Arena) (node : ℕ) (xs : Candidates) → AreBare xs → AreBareAt (made_of arena) node xs
bare_of arena node xs are_bare = record { live = all_live arena xs are_bare; bare = all_uncut arena node xs are_bare }
