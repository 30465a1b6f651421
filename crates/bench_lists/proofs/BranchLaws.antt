-- Branches as they are made, and what a merge needs of them.
use Rattle.std.proofs.Common.{◌≡◌, ◌≢◌, ℕ, zero, suc, ◌+◌, ◌*◌, ◌^◌, ◌<◌, ◌≤◌, List, [], ◌∷◌, ◌++◌, length, refl, sym, ap, ◌∙◌, subst, arith, get_or, Option, None, Some, pos}
use Rattle.std.specs.Prelude.{ℤ, ◌≤ℤ◌, ◌<ℤ◌}
use Rattle.std.specs.List.{All, AllPairs, Contains}
use Rattle.std.proofs.lemmas.Int.{ints}
use Rattle.std.proofs.lemmas.List.{map-append}
use Rattle.std.proofs.lemmas.List.Quantifiers.{all_pairs_push}
use Rattle.elmore.specs.Pairs.{IsBelow}
use Rattle.elmore.specs.declared.pair.Pair.{Pair}
use Rattle.sol_arena.specs.Slots.{none, IsLive as IsLiveSolution}
use Rattle.sol_arena.specs.declared.arena.Arena.{Arena}
use Rattle.sol_arena.specs.declared.slot.Slot.{Slot}
use Rattle.sol_arena.specs.Arenas.{slots_of, made_of}
use Rattle.sol_arena.specs.Uses.{held_of}
use Rattle.sol_arena.specs.Meanings.{cells_of}
use Rattle.sol_arena.proofs.OneLemmas.{one_other}
use Rattle.cand_pool.specs.Candidates.{Candidate, Candidates}
use Rattle.cand_pool.specs.Pools.{Block, items_of, spare, Holds, KeepsOthers, IsLive, Differ, name}
use Rattle.cand_pool.specs.declared.ends.List.{List as NamedList}
use Rattle.cand_pool.proofs.PublicLaws.{held_items}
use Rattle.cand_uses.specs.Pairs.{pair_of, pairs_of}
use Rattle.cand_uses.specs.Uses.{uses_by, HoldsFor, IsExchange}
use Rattle.cand_uses.proofs.ExchangeLemmas.{uses_of_one, empty_cells}
use Rattle.vg_merge.specs.Merges.{CanMeet}
use Rattle.bench_lists.specs.Turns.{IsSmall, IsMade}
use Rattle.bench_lists.specs.declared.random.Top.{Top}
use Rattle.bench_lists.specs.Branches.{AreBare, IsReady}
use Rattle.bench_lists.proofs.Lengths.{small_modest}
use Rattle.bench_lists.proofs.TurnLaws.{IsFilling, filling_start, filling_more, filled_made}
use Rattle.bench_lists.proofs.OperationLaws.{IsSecond, second}

-- the candidate at place n of a list that is made
pub record IsAt (n : ℕ) (x : Candidate) : Type 0 where
  pub from_q : pos (16384 * n) ≤ℤ x.q
  pub to_q : x.q <ℤ pos (16384 * n + 16384)
  pub from_c : 256 * n ≤ x.c
  pub to_c : x.c < 256 * n + 256

pub small_at : (n : ℕ) (x : Candidate) → n < 10 ^ 6 → IsAt n x → IsSmall x
small_at n x few at = let a = at.from_q in let b = at.to_q in let c = at.to_c in record { low = omega (arith, ints, a); high = omega (arith, ints, b, few); load = omega (arith, c, few) }

-- each pair is below this one
abbrev AreUnder : Pair → List Pair → Type 0
AreUnder top [] = Unit {0}
AreUnder top (x ∷ xs) = IsBelow x top × AreUnder top xs

under_at : (top : Pair) (xs : List Pair) → AreUnder top xs → (k : ℕ) (d : Pair) → k < length xs → IsBelow (get_or xs k d) top
under_at top [] under k d low = absurd (omega arith)
under_at top (x ∷ xs) under zero d low = under.0
under_at top (x ∷ xs) under (suc k) d low = under_at top xs under.1 k d (omega arith)

below_then : (x y z : Pair) → IsBelow x y → y.q ≤ℤ z.q → y.c ≤ z.c → IsBelow x z
below_then x y z below q c = record { time = let a = below.time in omega (arith, ints, a, q); room = let a = below.room in omega (arith, a, c) }

under_more : (top higher : Pair) (xs : List Pair) → top.q ≤ℤ higher.q → top.c ≤ higher.c → AreUnder top xs → AreUnder higher xs
under_more top higher [] q c under = tt
under_more top higher (x ∷ xs) q c under = (below_then x top higher under.0 q c, under_more top higher xs q c under.1)

under_append : (top x : Pair) (xs : List Pair) → AreUnder top xs → IsBelow x top → AreUnder top (xs ++ x ∷ [])
under_append top x [] under below = (below, tt)
under_append top x (y ∷ ys) under below = (under.0, under_append top x ys under.1 below)

bare_append : (xs ys : List Candidate) → AreBare xs → AreBare ys → AreBare (xs ++ ys)
bare_append [] ys one two = two
bare_append (x ∷ xs) ys one two = (one.0, bare_append xs ys one.1 two)

-- the pair that those before place n are below
abbrev pub floor : ℕ → Pair
floor n = record { q = pos (16384 * n); c = 256 * n }

at_below : (n : ℕ) (x : Candidate) → IsAt n x → IsBelow (pair_of x) (floor (n + 1))
at_below n x at = let b = at.to_q in let c = at.to_c in record { time = omega (arith, ints, b); room = omega (arith, c) }

-- how far a branch is made: it has these n candidates, all below the top
pub record IsRising (s t : Block) (list : NamedList) (n : ℕ) (top : Pair) (xs : Candidates) : Type 0 where
  pub filling : IsFilling s t list n xs
  rises : AllPairs IsBelow (pairs_of xs)
  under : AreUnder top (pairs_of xs)
  bare : AreBare xs

no_pairs : AllPairs IsBelow []
no_pairs i j d before low = absurd (omega arith)

pub rising_start : (s t : Block) (list : NamedList) (top : Pair) → t ≡ s → Holds t list [] → IsRising s t list 0 top []
rising_start s t list top same h = record { filling = filling_start s t list same h; rises = no_pairs; under = tt; bare = tt }

-- a small candidate without cells, from one top on and below the next one
pub record IsBetween (top higher : Pair) (x : Candidate) : Type 0 where
  pub small : IsSmall x
  pub empty : x.tag ≡ none
  pub from_q : top.q ≤ℤ x.q
  pub from_c : top.c ≤ x.c
  pub below : IsBelow (pair_of x) higher

between_q : (q x r : ℤ) → q ≤ℤ x → x <ℤ r → q ≤ℤ r
between_q q x r low high = omega (arith, ints)

pub rising_more : (s t u : Block) (list list' : NamedList) (n : ℕ) (top higher : Pair) (xs : Candidates) (x : Candidate) → IsRising s t list n top xs → IsBetween top higher x
    → ((ys : Candidates) → Holds t list ys → Holds u list' (ys ++ x ∷ [])) → KeepsOthers t (name list ∷ []) u (name list' ∷ []) → spare t ≡ suc (spare u)
    → IsRising s u list' (n + 1) higher (xs ++ x ∷ [])
rising_more s t u list list' n top higher xs x f here pushed others free =
    let e : pairs_of (xs ++ x ∷ []) ≡ pairs_of xs ++ pair_of x ∷ [] = map-append pair_of xs (x ∷ []) in
    let under : AreUnder (pair_of x) (pairs_of xs) = under_more top (pair_of x) (pairs_of xs) here.from_q here.from_c f.under in
    let below : IsBelow (pair_of x) higher = here.below in
    let low : top.q ≤ℤ higher.q = between_q top.q x.q higher.q here.from_q below.time in
    let light : top.c ≤ higher.c = let a = here.from_c in let b = below.room in omega (arith, a, b) in
    record {
      filling = filling_more s t u list list' n xs x f.filling here.small pushed others free;
      rises = subst (λ (ps : List Pair). AllPairs IsBelow ps) (sym e) (all_pairs_push IsBelow (pairs_of xs) (pair_of x) f.rises (under_at (pair_of x) (pairs_of xs) under));
      under = subst (λ (ps : List Pair). AreUnder higher ps) (sym e) (under_append higher (pair_of x) (pairs_of xs) (under_more top higher (pairs_of xs) low light f.under) below);
      bare = bare_append xs (x ∷ []) f.bare (here.empty, tt);
    }

pub at_between : (n : ℕ) (x : Candidate) → n < 10 ^ 6 → IsAt n x → x.tag ≡ none → IsBetween (floor n) (floor (n + 1)) x
at_between n x few at empty = record { small = small_at n x few at; empty = empty; from_q = at.from_q; from_c = at.from_c; below = at_below n x at }

-- how far a list that bends is made: what comes next is small
pub record IsTop (n : ℕ) (top : Top) (gain : ℕ) : Type 0 where
  pub early : top.q ≤ 2 ^ 19 * n
  pub light : top.c ≤ 256 * n
  pub less : gain ≤ 2 ^ 18

abbrev pub pair_at : Top → Pair
pair_at top = record { q = pos top.q; c = top.c }

top_small : (n q : ℕ) (x : Candidate) → n < 10 ^ 6 → x.q ≡ pos q → q ≤ 2 ^ 19 * n → x.c ≤ 256 * n → IsSmall x
top_small n q x few is early light = record { low = omega (arith, ints, is); high = omega (arith, ints, is, early, few); load = omega (arith, light, few) }

pos_below : (x : ℤ) (q r : ℕ) → x ≡ pos q → q < r → x <ℤ pos r
pos_below x q r is slow = omega (arith, ints, is, slow)

pos_from : (x : ℤ) (q : ℕ) → x ≡ pos q → pos q ≤ℤ x
pos_from x q is = omega (arith, ints, is)

-- the candidate at the top
pub top_between : (n : ℕ) (top higher : Top) (gain : ℕ) (x : Candidate) → n < 10 ^ 6 → IsTop n top gain → x.q ≡ pos top.q → x.c ≡ top.c → x.tag ≡ none → top.q < higher.q → top.c < higher.c
    → IsBetween (pair_at top) (pair_at higher) x
top_between n top higher gain x few is q c empty slow light = record {
  small = top_small n top.q x few q is.early (let a = is.light in omega (arith, a, c));
  empty = empty;
  from_q = pos_from x.q top.q q;
  from_c = omega (arith, c);
  below = record { time = pos_below x.q top.q higher.q q slow; room = omega (arith, c, light) };
}

pub top_more : (n : ℕ) (top higher : Top) (gain less : ℕ) → IsTop n top gain → higher.q ≤ top.q + 2 ^ 19 → higher.c ≤ top.c + 256 → less ≤ gain → IsTop (n + 1) higher less
top_more n top higher gain less is early light fewer =
    let a = is.early in let b = is.light in let c = is.less in record { early = omega (arith, a, early); light = omega (arith, b, light); less = omega (arith, c, fewer) }

ready_of : (s : Block) (list : NamedList) (xs : Candidates) → xs ≡ items_of s list → IsMade s list → AllPairs IsBelow (pairs_of xs) → AreBare xs → IsReady s list
ready_of s list xs is made rises bare =
    record { made = made; rises = subst (λ (ys : Candidates). AllPairs IsBelow (pairs_of ys)) is rises; bare = subst AreBare is bare }

pub rising_ready : (s t : Block) (list : NamedList) (n : ℕ) (top : Pair) (xs : Candidates) → IsRising s t list n top xs → IsReady t list
rising_ready s t list n top xs f = ready_of t list xs (sym (held_items t list.ends.first list.ends.last xs f.filling.held)) (filled_made s t list n xs f.filling) f.rises f.bare

-- a branch that was made stays while another list is made
pub record IsBeside (s t : Block) (list other : NamedList) : Type 0 where
  pub ready : IsReady t list
  pub same : items_of t list ≡ items_of s list
  pub differ : Differ (name list) (name other)

pub stays_beside : (s t : Block) (list other : NamedList) → IsReady s list → IsLive t other → KeepsOthers s [] t (name other ∷ []) → IsBeside s t list other
stays_beside s t list other ready beside keeps =
    let two : IsSecond s t list other = second s t list other ready.made beside.few keeps in
    record {
      ready = ready_of t list (items_of s list) (sym two.items) two.made ready.rises ready.bare;
      same = two.items;
      differ = two.differ;
    }

-- candidates without cells use nothing
no_uses : (xs : Candidates) → AreBare xs → (s : ℕ) → s ≢ none → uses_by xs s ≡ 0
no_uses [] bare s some = refl
no_uses (x ∷ xs) bare s some = omega (arith, uses_of_one x xs s, one_other x.tag s (λ e. some (sym e ∙ bare.0)), no_uses xs bare.1 s some)

pub held_bare : (slots : List Slot) (xs : Candidates) → AreBare xs → HoldsFor slots xs
held_bare slots xs bare s some = let e = no_uses xs bare s some in omega (arith, e)

bare_at : (xs : Candidates) (x : Candidate) → AreBare xs → Contains xs x → x.tag ≡ none
bare_at [] x bare (k, low, e) = absurd (omega arith)
bare_at (y ∷ ys) x bare (zero, low, e) = sym (ap (λ (z : Candidate). z.tag) e) ∙ bare.0
bare_at (y ∷ ys) x bare (suc k, low, e) = bare_at ys x bare.1 (k, omega arith, e)

no_cells : (arena : Arena) (sol v y : ℕ) → sol ≡ none → cells_of (made_of arena) sol v ≡ Some y → ⊥
no_cells arena sol v y empty some =
    let e : cells_of (made_of arena) sol v ≡ None = ap (λ (k : ℕ). cells_of (made_of arena) k v) empty ∙ ap (λ (f : ℕ → Option ℕ). f v) (empty_cells arena) in
    let clash : Some y ≡ None = sym some ∙ e in cc

pub bare_both : (s : Block) (a b : NamedList) → IsReady s a → IsReady s b → AreBare (items_of s a ++ items_of s b)
bare_both s a b one two = bare_append (items_of s a) (items_of s b) one.bare two.bare

-- two branches without cells can meet
pub can_meet : (arena : Arena) (s : Block) (a b : NamedList) → IsReady s a → IsReady s b → CanMeet (slots_of arena) (items_of s a) (items_of s b)
can_meet arena s a b one two = record {
  xs_rise = one.rises;
  ys_rise = two.rises;
  xs_modest = small_modest (items_of s a) one.made.1;
  ys_modest = small_modest (items_of s b) two.made.1;
  held = held_bare (slots_of arena) (items_of s a ++ items_of s b) (bare_both s a b one two);
  apart = λ x y x_in y_in v p q first then. no_cells arena x.tag v p (bare_at (items_of s a) x one.bare x_in) first;
}

-- what was made of candidates without cells is held
pub made_held : (old new : List Slot) (xs zs : Candidates) → AreBare xs → IsExchange old xs new zs → HoldsFor new zs
made_held old new xs zs bare one s some =
    let e = one.held (held_of old) (λ k k_some. let z = no_uses xs bare k k_some in omega (arith, z)) s some in omega (arith, e)

-- a branch without cells that stays where another one ends
pub other_apart : (a b : ℕ) → Differ a b → Differ b a
other_apart a b differ = λ e. e ∙ differ (sym e)

pub beside_held : (slots : List Slot) (s t : Block) (list : NamedList) → IsReady s list → Holds t list (items_of s list) → HoldsFor slots (items_of t list)
beside_held slots s t list ready held =
    held_bare slots (items_of t list) (subst AreBare (sym (held_items t list.ends.first list.ends.last (items_of s list) held)) ready.bare)

pub beside_long : (s t : Block) (list : NamedList) → Holds t list (items_of s list) → length (items_of t list) ≡ length (items_of s list)
beside_long s t list held = ap length (held_items t list.ends.first list.ends.last (items_of s list) held)

-- solutions of candidates without cells are live, and have no cell at a node
pub all_live : (arena : Arena) (xs : Candidates) → AreBare xs → All (λ x. IsLiveSolution (made_of arena) x.tag) xs
all_live arena [] bare k d low = absurd (omega arith)
all_live arena (x ∷ xs) bare zero d low = λ some. absurd (some bare.0)
all_live arena (x ∷ xs) bare (suc k) d low = all_live arena xs bare.1 k d (omega arith)

pub all_uncut : (arena : Arena) (node : ℕ) (xs : Candidates) → AreBare xs → All (λ x. cells_of (made_of arena) x.tag node ≡ None) xs
all_uncut arena node [] bare k d low = absurd (omega arith)
all_uncut arena node (x ∷ xs) bare zero d low = ap (λ (j : ℕ). cells_of (made_of arena) j node) bare.0 ∙ ap (λ (f : ℕ → Option ℕ). f node) (empty_cells arena)
all_uncut arena node (x ∷ xs) bare (suc k) d low = all_uncut arena node xs bare.1 k d (omega arith)
