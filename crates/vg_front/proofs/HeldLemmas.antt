-- The uses that lists of candidates hold.
use Rattle.std.proofs.Common.{◌≡◌, ◌≢◌, ℕ, zero, suc, ◌+◌, ◌<◌, ◌≤◌, ◌==◌, List, [], ◌∷◌, ◌++◌, length, refl, sym, ap, ◌∙◌, subst, arith}
use Rattle.std.proofs.lemmas.List.{map-append}
use Rattle.std.proofs.lemmas.List.Elements.{Contains-push}
use Rattle.std.specs.List.{Contains}
use Rattle.sol_arena.specs.declared.arena.Arena.{Arena}
use Rattle.sol_arena.specs.declared.slot.Slot.{Slot}
use Rattle.sol_arena.specs.Arenas.{slots_of, made_of}
use Rattle.sol_arena.specs.Changes.{IsReleased}
use Rattle.sol_arena.specs.Slots.{none, IsLive}
use Rattle.sol_arena.specs.Uses.{one_if, held_of}
use Rattle.sol_arena.proofs.OneLemmas.{one_same}
use Rattle.sol_arena.proofs.ReachLemmas.{held_live}
use Rattle.cand_pool.specs.Candidates.{Candidates as TaggedList}
use Rattle.cand_uses.specs.Uses.{uses_by}
use Rattle.cand_uses.proofs.ExchangeLemmas.{uses_of_one, uses_of_both, no_exchange, exchange_then, exchange_among, exchange_same, exchanged_held}
use Rattle.cand_uses.proofs.ExchangeLemmas.{released_one, stays_same}
use Rattle.vg_front.specs.declared.offer.Candidate.{Candidate}
use Rattle.vg_front.specs.Held.{tagged, tagged_all, AreHeld, IsGiven, MeanTheSame}
use Rattle.vg_front.proofs.OfferLemmas.{in_map}

-- how many of these have this solution
abbrev pub uses : List Candidate → ℕ → ℕ
uses xs s = uses_by (tagged_all xs) s

pub uses_cons : (x : Candidate) (xs : List Candidate) (s : ℕ) → uses (x ∷ xs) s ≡ one_if (x.sol.0 == s) + uses xs s
uses_cons x xs s = uses_of_one (tagged x) (tagged_all xs) s

pub uses_both : (xs ys : List Candidate) (s : ℕ) → uses (xs ++ ys) s ≡ uses xs s + uses ys s
uses_both xs ys s = ap (λ (l : TaggedList). uses_by l s) (map-append tagged xs ys) ∙ uses_of_both (tagged_all xs) (tagged_all ys) s

pub uses_some : (xs : List Candidate) (x : Candidate) → Contains xs x → 0 < uses xs x.sol.0
uses_some [] x (k, k_n, e) = absurd (omega arith)
uses_some (y ∷ xs) x (zero, k_n, e) = omega (arith, uses_cons y xs x.sol.0, one_same y.sol.0 x.sol.0 (ap (λ (z : Candidate). z.sol.0) e))
uses_some (y ∷ xs) x (suc k, k_n, e) = omega (arith, uses_cons y xs x.sol.0, uses_some xs x (k, omega arith, e))

-- a use of each is held, so its solution is live
pub one_held : (slots : List Slot) (xs : List Candidate) (x : Candidate) → AreHeld slots xs → Contains xs x → x.sol.0 ≢ none → 0 < held_of slots x.sol.0
one_held slots xs x held found some = omega (arith, held x.sol.0 some, uses_some xs x found)

pub one_live : (arena : Arena) (xs : List Candidate) (x : Candidate) → AreHeld (slots_of arena) xs → Contains xs x → IsLive (made_of arena) x.sol.0
one_live arena xs x held found some = held_live arena x.sol.0 some (one_held (slots_of arena) xs x held found some)

pub given_none : (slots : List Slot) (xs : List Candidate) → IsGiven slots xs slots xs
given_none slots xs = no_exchange slots (tagged_all xs)

pub given_then : (a b c : List Slot) (xs ys zs : List Candidate) → IsGiven a xs b ys → IsGiven b ys c zs → IsGiven a xs c zs
given_then a b c xs ys zs one two = exchange_then a b c (tagged_all xs) (tagged_all ys) (tagged_all zs) one two

pub given_held : (a b : List Slot) (xs ys : List Candidate) → AreHeld a xs → IsGiven a xs b ys → AreHeld b ys
given_held a b xs ys held one = exchanged_held a b (tagged_all xs) (tagged_all ys) held one

-- of the same uses, in another order
pub given_as : (a b : List Slot) (xs xs' ys ys' : List Candidate) → ((s : ℕ) → uses xs' s ≡ uses xs s) → ((s : ℕ) → uses ys s ≡ uses ys' s)
    → IsGiven a xs b ys
    → IsGiven a xs' b ys'
given_as a b xs xs' ys ys' before after one = exchange_same a b (tagged_all xs) (tagged_all xs') (tagged_all ys) (tagged_all ys') before after one

pub held_as : (slots : List Slot) (xs ys : List Candidate) → ((s : ℕ) → uses ys s ≤ uses xs s) → AreHeld slots xs → AreHeld slots ys
held_as slots xs ys fewer held s some = omega (arith, held s some, fewer s)

-- beside others that stay
pub given_beside : (a b : List Slot) (ws xs ys : List Candidate) → IsGiven a xs b ys → IsGiven a (ws ++ xs) b (ws ++ ys)
given_beside a b ws xs ys one =
    exchange_among a b (tagged_all ws) (tagged_all xs) (tagged_all ys) (tagged_all (ws ++ xs)) (tagged_all (ws ++ ys)) (uses_both ws xs) (uses_both ws ys)
    one

-- these mean what they did
pub beside_same : (old new : Arena) (ws xs ys : List Candidate) → AreHeld (slots_of old) (ws ++ xs) → IsGiven (slots_of old) xs (slots_of new) ys
    → MeanTheSame (made_of old) (made_of new) ws
beside_same old new ws xs ys held one w found =
    stays_same old new (tagged_all ws) (tagged_all xs) (tagged_all ys)
    (λ s some. omega (arith, held s some, uses_both ws xs s, uses_of_both (tagged_all ws) (tagged_all xs) s)) one
    (tagged w) (in_map tagged ws w found)

-- one is released, and the others stay
pub released_given : (old new : Arena) (x : Candidate) (ws all : List Candidate) → ((s : ℕ) → uses all s ≡ uses ws s + one_if (x.sol.0 == s))
    → IsReleased (slots_of old) (slots_of new) x.sol.0 → IsGiven (slots_of old) all (slots_of new) ws
released_given old new x ws all all_are released =
    given_as (slots_of old) (slots_of new) (ws ++ x ∷ []) all (ws ++ []) ws (λ s. omega (arith, all_are s, uses_both ws (x ∷ []) s, uses_cons x [] s))
    (λ s. omega (arith, uses_both ws [] s))
    (given_beside (slots_of old) (slots_of new) ws (x ∷ []) [] (released_one old new (tagged x) released))

-- a list that is given up from its end
pub record IsGivingUp (old : Arena) (xs : List Candidate) (new : Arena) (zs : List Candidate) : Type 0 where
  pub held : AreHeld (slots_of new) zs
  pub given : IsGiven (slots_of old) xs (slots_of new) zs

pub giving_up_one : (old mid new : Arena) (xs ys zs : List Candidate) (x : Candidate) → IsGivingUp old xs mid ys → ys ≡ zs ++ x ∷ []
    → IsReleased (slots_of mid) (slots_of new) x.sol.0 → IsGivingUp old xs new zs
giving_up_one old mid new xs ys zs x is e released = record {
  held = given_held (slots_of mid) (slots_of new) ys zs is.held one;
  given = given_then (slots_of old) (slots_of mid) (slots_of new) xs ys zs is.given one;
}
  where
    one : IsGiven (slots_of mid) ys (slots_of new) zs
    one =
        released_given mid new x zs ys (λ s. omega (arith, ap (λ (l : List Candidate). uses l s) e, uses_both zs (x ∷ []) s, uses_cons x [] s)) released

pub last_in : (ys zs : List Candidate) (x : Candidate) → ys ≡ zs ++ x ∷ [] → Contains ys x
last_in ys zs x e = subst (λ (l : List Candidate). Contains l x) (sym e) (Contains-push zs x)

pub is_empty : {X : Type 0} (xs : List X) → length xs ≡ 0 → xs ≡ []
is_empty [] e = refl
is_empty (x ∷ xs) e = absurd (omega (arith, e))
