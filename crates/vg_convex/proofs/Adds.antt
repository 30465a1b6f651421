-- Candidates with new solutions, put on a list.
use Rattle.std.proofs.Common.{◌≡◌, ◌≢◌, ℕ, suc, ◌+◌, ◌<◌, List, [], ◌∷◌, ◌++◌, length, get_or, take, refl, sym, ap, ◌∙◌, subst, arith, inl, inr, Some, false}
use Rattle.std.specs.List.{AllZip}
use Rattle.std.proofs.lemmas.Bool.{cases_eq, true≢false}
use Rattle.std.proofs.lemmas.List.{length_push, take_more}
use Rattle.sol_arena.specs.declared.arena.Arena.{Arena}
use Rattle.sol_arena.specs.declared.slot.Made.{Made}
use Rattle.sol_arena.specs.declared.slot.Made.TheVariants.{Cell}
use Rattle.sol_arena.specs.declared.slot.Slot.{Slot}
use Rattle.sol_arena.specs.Slots.{none, made_in, made_at, is_solution, IsSolution, IsLive}
use Rattle.sol_arena.specs.Uses.{held_of}
use Rattle.sol_arena.specs.Meanings.{with_own, cells_of}
use Rattle.sol_arena.specs.Changes.{IsNew}
use Rattle.sol_arena.specs.Arenas.{slots_of, made_of}
use Rattle.sol_arena.specs.Reach.{AreHeld, IsFrame, IsRestored}
use Rattle.sol_arena.proofs.ReachLemmas.{reached_live, frames, restored}
use Rattle.sol_arena.proofs.WalkLemmas.{none_means}
use Rattle.cand_pool.specs.Candidates.{Candidate, Candidates}
use Rattle.cand_pool.specs.Pools.{Block, spare, Holds, KeepsOthers, name}
use Rattle.cand_pool.specs.declared.ends.List.{List as NamedList}
use Rattle.cand_pool.proofs.PublicLaws.{nothing_held}
use Rattle.cand_pool.proofs.PoolMoves.{keeps_then}
use Rattle.cand_uses.specs.Uses.{uses_by, HoldsBeside, IsExchange}
use Rattle.cand_uses.proofs.ExchangeLemmas.{uses_of_one, uses_of_both}
use Rattle.vg_convex.specs.Lists.{KeepsSolutions, AreAdded, IsWithCell, AreWithCells}
use Rattle.vg_convex.specs.declared.work.Made.{Made as Result}

pub added_none : (s : Block) (slots : List Slot) (list : NamedList) → Holds s list [] → AreAdded s s slots slots list []
added_none s slots list h = record {
  held = h;
  others = record {
    few = λ few. few;
    stays = λ first last xs held some out. held;
    fresh = λ first last xs held some out m. elim m [ inl e ↦ some (e ∙ nothing_held s list.ends.first list.ends.last h) | inr more ↦ more ];
  };
  room = omega arith;
  uses = λ u some. omega arith;
  solutions = record { made = λ t is. refl; cells = λ t is. refl };
}

-- a solution that was live is live, and no new one
still : (old now : List Made) → KeepsSolutions old now → (t : ℕ) → IsSolution old t → IsSolution now t
still old now keeps t is = ap is_solution (keeps.made t is) ∙ is

not_new : (now : List Made) (sol t : ℕ) → is_solution (made_at now sol) ≡ false → IsSolution now t → t ≢ sol
not_new now sol t fresh is e = true≢false (sym is ∙ ap (λ k. is_solution (made_at now k)) e ∙ fresh)

new_keeps : (now new : List Slot) (sol : ℕ) (made_so : Made) → IsNew now new sol made_so → KeepsSolutions (made_in now) (made_in new)
new_keeps now new sol made_so n = record {
  made = λ t is. n.others t (not_new (made_in now) sol t n.fresh is);
  cells = λ t is. n.cells t (λ _. is);
}

keeps_both : (a b c : List Made) → KeepsSolutions a b → KeepsSolutions b c → KeepsSolutions a c
keeps_both a b c one two = record {
  made = λ t is. two.made t (still a b one t is) ∙ one.made t is;
  cells = λ t is. two.cells t (still a b one t is) ∙ one.cells t is;
}

-- a live solution, the empty one among them, means what it did
pub same_meaning : (old now : Arena) → KeepsSolutions (made_of old) (made_of now) → (t : ℕ) → IsLive (made_of old) t → cells_of (made_of now) t ≡ cells_of (made_of old) t
same_meaning old now keeps t live = elim (cases_eq t none) [
  | inl e ↦
      ap (cells_of (made_of now)) e ∙ none_means (slots_of now) now.free now.sound ∙ sym (none_means (slots_of old) old.free old.sound)
      ∙ ap (cells_of (made_of old)) (sym e)
  | inr some ↦ keeps.cells t (live some)
]

-- a candidate more
pub added_one : (s t t' : Block) (old now new : List Slot) (list list' : NamedList) (zs : Candidates) (z : Candidate) (made_so : Made)
    → AreAdded s t old now list zs → IsNew now new z.tag made_so → ((xs : Candidates) → Holds t list xs → Holds t' list' (xs ++ z ∷ []))
    → KeepsOthers t (name list ∷ []) t' (name list' ∷ []) → spare t ≡ suc (spare t') → AreAdded s t' old new list' (zs ++ z ∷ [])
added_one s t t' old now new list list' zs z made_so a n pushed others room = record {
  held = pushed zs a.held;
  others = keeps_then s t t' [] (name list ∷ []) (name list ∷ []) (name list' ∷ []) (name list' ∷ []) a.others others (λ k m. m) (λ k m. inl m);
  room = omega (arith, a.room, room, length_push zs z);
  uses = λ u some. omega (arith, a.uses u some, n.held u some, uses_of_both zs (z ∷ []) u, uses_of_one z [] u);
  solutions = keeps_both (made_in old) (made_in now) (made_in new) a.solutions (new_keeps now new z.tag made_so n);
}

-- candidates with cells
zip_weaker : (R R' : Result → Candidate → Type 0) → ((r : Result) (z : Candidate) → R r z → R' r z) → (rs : List Result) (zs : Candidates) → AllZip R rs zs → AllZip R' rs zs
zip_weaker R R' to [] [] all = all
zip_weaker R R' to [] (z ∷ zs) all = all
zip_weaker R R' to (r ∷ rs) [] all = all
zip_weaker R R' to (r ∷ rs) (z ∷ zs) all = (to r z all.0, zip_weaker R R' to rs zs all.1)

zip_push : (R : Result → Candidate → Type 0) (rs : List Result) (zs : Candidates) (r : Result) (z : Candidate) → AllZip R rs zs → R r z → AllZip R (rs ++ r ∷ []) (zs ++ z ∷ [])
zip_push R [] [] r z all one = (one, tt)
zip_push R [] (y ∷ zs) r z all one = absurd all
zip_push R (x ∷ rs) [] r z all one = absurd all
zip_push R (x ∷ rs) (y ∷ zs) r z all one = (all.0, zip_push R rs zs r z all.1 one)

kept_cell : (old now new : List Made) (node : ℕ) → KeepsSolutions now new → (r : Result) (z : Candidate) → IsWithCell old now node r z → IsWithCell old new node r z
kept_cell old now new node keeps r z is =
    let live : IsSolution now z.tag = ap is_solution is.cell.made in
    record { pair = is.pair; cell = record { made = keeps.made z.tag live ∙ is.cell.made; means = keeps.cells z.tag live ∙ is.cell.means } }

pub cells_one : (old now : Arena) (new : List Slot) (node i : ℕ) (results : List Result) (d : Result) (zs : Candidates) (z : Candidate) → i < length results
    → AreWithCells (made_of old) (made_of now) node (take i results) zs → KeepsSolutions (made_of old) (made_of now)
    → IsLive (made_of old) (get_or results i d).tag → IsNew (slots_of now) new z.tag (Cell node (get_or results i d).rep (get_or results i d).tag)
    → record { q = z.q; c = z.c } ≡ (get_or results i d).pair
    → AreWithCells (made_of old) (made_in new) node (take (i + 1) results) (zs ++ z ∷ [])
cells_one old now new node i results d zs z low all keeps live n pair =
    subst (λ (l : List Result). AreWithCells (made_of old) (made_in new) node l (zs ++ z ∷ [])) (sym (take_more results i d low))
    (zip_push (IsWithCell (made_of old) (made_in new) node) (take i results) zs (get_or results i d) z
    (zip_weaker (IsWithCell (made_of old) (made_of now) node) (IsWithCell (made_of old) (made_in new) node)
    (kept_cell (made_of old) (made_of now) (made_in new) node (new_keeps (slots_of now) new z.tag (Cell node (get_or results i d).rep (get_or results i d).tag) n)) (take i results) zs all)
    (record {
      pair = pair;
      cell = record {
        made = n.made;
        means = n.means ∙ ap (with_own node (Some (get_or results i d).rep)) (same_meaning old now keeps (get_or results i d).tag live);
      };
    }))

-- as many candidates as results
pub zip_length : (R : Result → Candidate → Type 0) (rs : List Result) (zs : Candidates) → AllZip R rs zs → length zs ≡ length rs
zip_length R [] [] all = refl
zip_length R [] (z ∷ zs) all = absurd all
zip_length R (r ∷ rs) [] all = absurd all
zip_length R (r ∷ rs) (z ∷ zs) all = omega (arith, zip_length R rs zs all.1)

-- uses that callers hold, and what they reach
added_frame : (old t : Arena) (held : ℕ → ℕ) → AreHeld held (slots_of old) → KeepsSolutions (made_of old) (made_of t) → IsFrame held (made_of old) (made_of t)
added_frame old t held are keeps = record {
  made = λ s reached. keeps.made s (reached_live old held are s reached);
  cells = λ s reached. keeps.cells s (reached_live old held are s reached);
}

-- the uses of the list that was made came in exchange for none
pub added_exchange : (old t : Arena) (zs : Candidates) → ((u : ℕ) → u ≢ none → held_of (slots_of t) u ≡ held_of (slots_of old) u + uses_by zs u)
    → KeepsSolutions (made_of old) (made_of t) → IsExchange (slots_of old) [] (slots_of t) zs
added_exchange old t zs uses keeps = record {
  held = λ others h u some. omega (arith, uses u some, h u some);
  frame = λ others h. added_frame old t others (λ u some. omega (arith, h u some)) keeps;
}

-- an arena is as before when what was added was given up
pub given_back : (old t new : Arena) (zs : Candidates) → ((u : ℕ) → u ≢ none → held_of (slots_of t) u ≡ held_of (slots_of old) u + uses_by zs u)
    → KeepsSolutions (made_of old) (made_of t) → IsExchange (slots_of t) zs (slots_of new) [] → IsRestored (slots_of old) (slots_of new)
given_back old t new zs uses keeps back =
    restored old new (λ u some. omega (arith, back.held (held_of (slots_of old)) beside u some))
    (frames (held_of (slots_of old)) (made_of old) (made_of t) (made_of new) (added_frame old t (held_of (slots_of old)) (λ u some. omega arith) keeps)
    (back.frame (held_of (slots_of old)) beside))
  where
    beside : HoldsBeside (slots_of t) zs (held_of (slots_of old))
    beside u some = omega (arith, uses u some)
