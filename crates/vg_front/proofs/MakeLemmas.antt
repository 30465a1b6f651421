-- Candidates that are made of proposals.
use Rattle.std.proofs.Common.{◌≡◌, ℕ, suc, ◌+◌, ◌<◌, ◌≤◌, List, [], ◌∷◌, ◌++◌, length, get_or, Option, Some, None, Result, Ok, Err, OnErr, refl, sym}
use Rattle.std.proofs.Common.{ap, ◌∙◌, subst, arith, inl, inr}
use Rattle.std.proofs.lemmas.Bool.{cases_eq, cases_lt}
use Rattle.std.proofs.lemmas.List.Elements.{Contains-append_left, Contains-push, Contains-push_cases}
use Rattle.std.specs.List.{Contains}
use Rattle.sol_arena.specs.declared.arena.Arena.{Arena}
use Rattle.sol_arena.specs.declared.arena.Sol.{Sol}
use Rattle.sol_arena.specs.declared.slot.Made.TheVariants.{Cell as MadeCell, Join as MadeJoin}
use Rattle.sol_arena.specs.declared.slot.Slot.{Slot}
use Rattle.sol_arena.specs.Arenas.{slots_of, made_of}
use Rattle.sol_arena.specs.Changes.{IsNew}
use Rattle.sol_arena.specs.Meanings.{bare, with_own, joined, cells_of, AreApart}
use Rattle.sol_arena.specs.Slots.{none, IsLive}
use Rattle.cand_uses.specs.Uses.{IsExchange}
use Rattle.cand_uses.proofs.ExchangeLemmas.{new_one, empty_one, empty_cells}
use Rattle.vg_front.specs.declared.offer.Candidate.{Candidate}
use Rattle.vg_front.specs.declared.offer.Origin.{Origin}
use Rattle.vg_front.specs.declared.offer.Origin.TheVariants.{Cell, Join}
use Rattle.vg_front.specs.declared.offer.Proposal.{Proposal}
use Rattle.vg_front.specs.Offers.{priced, offers_of}
use Rattle.vg_front.specs.Held.{tagged, AreHeld, IsGiven, MeanTheSame}
use Rattle.vg_front.specs.Making.{cells_from, IsMakable, IsFrom, AreFrom, IsSolutionOf, IsMade, IsMadeOf, AreMadeOf}
use Rattle.vg_front.proofs.OfferLemmas.{in_map}
use Rattle.vg_front.proofs.HeldLemmas.{uses_both, given_none, given_then, given_held, given_as, given_beside, beside_same, one_live, held_as}
use Rattle.vg_front.proofs.ListLemmas.{any_default, push_candidates}

-- ONE SOLUTION
pub cell_made : (old new : Arena) (node rep : ℕ) (below sol : Sol) → IsNew (slots_of old) (slots_of new) sol.0 (MadeCell node rep below.0)
    → IsSolutionOf (slots_of old) (slots_of new) (Cell node rep below) sol
cell_made old new node rep below sol is_new = record {
  means = is_new.means;
  given = λ z same. new_one old new (tagged z) (MadeCell node rep below.0)
      (subst (λ (s : ℕ). IsNew (slots_of old) (slots_of new) s (MadeCell node rep below.0)) (sym same) is_new);
}

pub join_made : (old new : Arena) (a b sol : Sol) → (a.0 ≡ none → b.0 ≡ none → sol.0 ≡ none) → (a.0 ≡ none → b.0 ≡ none → slots_of new ≡ slots_of old)
    → (((a.0 ≡ none) × (b.0 ≡ none) → ⊥) → IsNew (slots_of old) (slots_of new) sol.0 (MadeJoin a.0 b.0))
    → IsSolutionOf (slots_of old) (slots_of new) (Join a b) sol
join_made old new a b sol empty same is_new =
    elim (cases_eq a.0 none) [
      | inr some ↦ made (λ both. some both.0)
      | inl a_none ↦ elim (cases_eq b.0 none) [
        | inr some ↦ made (λ both. some both.1)
        | inl b_none ↦
            let a_bare : cells_of (made_of old) a.0 ≡ bare = ap (cells_of (made_of old)) a_none ∙ empty_cells old in
            let b_bare : cells_of (made_of old) b.0 ≡ bare = ap (cells_of (made_of old)) b_none ∙ empty_cells old in
            let both_bare : joined (cells_of (made_of old) a.0) (cells_of (made_of old) b.0) ≡ bare = λ i. joined (a_bare i) (b_bare i) in
            record {
              means = ap (cells_of (made_of new)) (empty a_none b_none) ∙ empty_cells new ∙ sym both_bare;
              given = λ z z_is.
                  subst (λ (slots : List Slot). IsExchange (slots_of old) [] slots (tagged z ∷ [])) (sym (same a_none b_none))
                  (empty_one (slots_of old) (tagged z) (z_is ∙ empty a_none b_none));
            }
      ]
    ]
  where
    made : ((a.0 ≡ none) × (b.0 ≡ none) → ⊥) → IsSolutionOf (slots_of old) (slots_of new) (Join a b) sol
    made some = record {
      means = (is_new some).means;
      given = λ z z_is. new_one old new (tagged z) (MadeJoin a.0 b.0)
          (subst (λ (s : ℕ). IsNew (slots_of old) (slots_of new) s (MadeJoin a.0 b.0)) (sym z_is) (is_new some));
    }

-- ONE AFTER THE OTHER
-- of candidates xs that are held, so many proposals were made
pub record AreMaking (old : Arena) (xs : List Candidate) (ps : List Proposal) (k : ℕ) (zs : List Candidate) (new : Arena) : Type 0 where
  pub held : AreHeld (slots_of new) (xs ++ zs)
  pub given : IsGiven (slots_of old) [] (slots_of new) zs
  pub same : MeanTheSame (made_of old) (made_of new) xs
  pub part : (z : Candidate) → Contains zs z → (p : Proposal) × Contains ps p × IsMadeOf (made_of old) (made_of new) p z
  pub all : (m : ℕ) (d : Proposal) → m < k → Contains (offers_of zs) (priced (get_or ps m d).offer)

pub making_begins : (arena : Arena) (xs : List Candidate) (ps : List Proposal) (zs : List Candidate) → AreHeld (slots_of arena) xs → zs ≡ []
    → AreMaking arena xs ps 0 zs arena
making_begins arena xs ps zs held none = subst (λ (l : List Candidate). AreMaking arena xs ps 0 l arena) (sym none) (record {
  held = held_as (slots_of arena) xs (xs ++ []) (λ s. omega (arith, uses_both xs [] s)) held;
  given = given_none (slots_of arena) [];
  same = λ x found. refl;
  part = λ z (k, k_n, e). absurd (omega arith);
  all = λ m d low. absurd (omega arith);
})

-- what comes of held candidates may be made, also later
pub from_makable : (old new : Arena) (xs : List Candidate) (origin : Origin) → AreHeld (slots_of new) xs → MeanTheSame (made_of old) (made_of new) xs
    → IsFrom (made_of old) xs origin → IsMakable (made_of new) origin
from_makable old new xs (Cell node rep below) held same (x, found, is, free) =
    subst (λ (s : ℕ). IsLive (made_of new) s × (cells_of (made_of new) s node ≡ None)) (sym is)
    (one_live new xs x held found, ap (λ (f : ℕ → Option ℕ). f node) (same x found) ∙ free)
from_makable old new xs (Join a b) held same (x, y, x_in, y_in, a_is, b_is, apart) =
    subst (λ (s : ℕ). IsLive (made_of new) s × IsLive (made_of new) b.0 × AreApart (cells_of (made_of new) s) (cells_of (made_of new) b.0)) (sym a_is)
    (subst (λ (t : ℕ). IsLive (made_of new) x.sol.0 × IsLive (made_of new) t × AreApart (cells_of (made_of new) x.sol.0) (cells_of (made_of new) t))
    (sym b_is) (
      one_live new xs x held x_in,
      one_live new xs y held y_in,
      λ v m n e f. apart v m n (sym (ap (λ (h : ℕ → Option ℕ). h v) (same x x_in)) ∙ e) (sym (ap (λ (h : ℕ → Option ℕ). h v) (same y y_in)) ∙ f),
    ))

-- and means the same
from_same : (old new : Arena) (xs : List Candidate) (origin : Origin) → MeanTheSame (made_of old) (made_of new) xs → IsFrom (made_of old) xs origin
    → cells_from origin (cells_of (made_of new)) ≡ cells_from origin (cells_of (made_of old))
from_same old new xs (Cell node rep below) same (x, found, is, free) =
    ap (λ (f : ℕ → Option ℕ). with_own node (Some rep) f) (ap (cells_of (made_of new)) is ∙ same x found ∙ sym (ap (cells_of (made_of old)) is))
from_same old new xs (Join a b) same (x, y, x_in, y_in, a_is, b_is, apart) =
    let a_same : cells_of (made_of new) a.0 ≡ cells_of (made_of old) a.0 = ap (cells_of (made_of new)) a_is ∙ same x x_in
    ∙ sym (ap (cells_of (made_of old)) a_is) in
    let b_same : cells_of (made_of new) b.0 ≡ cells_of (made_of old) b.0 = ap (cells_of (made_of new)) b_is ∙ same y y_in
    ∙ sym (ap (cells_of (made_of old)) b_is) in
    λ i. joined (a_same i) (b_same i)

module _ (old mid new : Arena) (xs : List Candidate) (ps : List Proposal) (k : ℕ) (zs : List Candidate) (p : Proposal) (at : AreMaking old xs ps k zs mid)
    (inside : k < length ps) (p_is : p ≡ get_or ps k p) (from : IsFrom (made_of old) xs p.origin) where
  -- it is made
  pub making_on : (z : Candidate) → IsMade (slots_of mid) (slots_of new) p z → AreMaking old xs ps (k + 1) (zs ++ z ∷ []) new
  making_on z made = record {
    held = held_as (slots_of new) ((xs ++ zs) ++ z ∷ []) (xs ++ (zs ++ z ∷ []))
        (λ s. omega (arith, uses_both (xs ++ zs) (z ∷ []) s, uses_both xs zs s, uses_both xs (zs ++ z ∷ []) s, uses_both zs (z ∷ []) s)) held_then;
    given =
        given_then (slots_of old) (slots_of mid) (slots_of new) [] zs (zs ++ z ∷ []) at.given
        (given_as (slots_of mid) (slots_of new) (zs ++ []) zs (zs ++ z ∷ []) (zs ++ z ∷ [])
        (λ s. omega (arith, uses_both zs [] s)) (λ s. refl) (given_beside (slots_of mid) (slots_of new) zs [] (z ∷ []) made.given));
    same = λ x found. stays x (Contains-append_left xs zs x found) ∙ at.same x found;
    part = λ y found. elim (Contains-push_cases zs z y found) [
      | inl before ↦
          let (q, q_in, is) = at.part y before in
          (q, q_in, record { offer = is.offer; means = stays y (in_right xs zs y before) ∙ is.means })
      | inr e ↦
          subst (λ (t : Candidate). (q : Proposal) × Contains ps q × IsMadeOf (made_of old) (made_of new) q t) e
          (p, (k, inside, sym p_is), record { offer = made.offer; means = made.means ∙ from_same old mid xs p.origin at.same from })
    ];
    all = λ m d low. elim (cases_lt m k) [
      | inl before ↦ subst (λ (l : List _). Contains l (priced (get_or ps m d).offer)) (sym (push_candidates zs z))
          (Contains-append_left (offers_of zs) (priced z.offer ∷ []) (priced (get_or ps m d).offer) (at.all m d before))
      | inr high ↦
          let is : m ≡ k = omega (arith, high, low) in
          let q_is : get_or ps m d ≡ p = ap (λ (n : ℕ). get_or ps n d) is ∙ any_default ps k d p inside ∙ sym p_is in
          subst (λ (q : Proposal). Contains (offers_of (zs ++ z ∷ [])) (priced q.offer)) (sym q_is)
          (subst (λ o. Contains (offers_of (zs ++ z ∷ [])) (priced o)) made.offer
          (in_map (λ (y : Candidate). priced y.offer) (zs ++ z ∷ []) z (Contains-push zs z)))
    ];
  }
    where
      in_right : (ws vs : List Candidate) (y : Candidate) → Contains vs y → Contains (ws ++ vs) y
      in_right [] vs y found = found
      in_right (w ∷ ws) vs y found = let (j, j_n, e) = in_right ws vs y found in (suc j, omega arith, e)

      beside : IsGiven (slots_of mid) ((xs ++ zs) ++ []) (slots_of new) ((xs ++ zs) ++ z ∷ [])
      beside = given_beside (slots_of mid) (slots_of new) (xs ++ zs) [] (z ∷ []) made.given

      held_before : AreHeld (slots_of mid) ((xs ++ zs) ++ [])
      held_before = held_as (slots_of mid) (xs ++ zs) ((xs ++ zs) ++ []) (λ s. omega (arith, uses_both (xs ++ zs) [] s)) at.held

      held_then : AreHeld (slots_of new) ((xs ++ zs) ++ z ∷ [])
      held_then = given_held (slots_of mid) (slots_of new) ((xs ++ zs) ++ []) ((xs ++ zs) ++ z ∷ []) held_before beside

      stays : MeanTheSame (made_of mid) (made_of new) (xs ++ zs)
      stays = beside_same mid new (xs ++ zs) [] (z ∷ []) held_before made.given

  pub making_may : IsMakable (made_of mid) p.origin
  making_may = from_makable old mid xs p.origin (held_as (slots_of mid) (xs ++ zs) xs (λ s. omega (arith, uses_both xs zs s)) at.held) at.same from

-- and none more is made
pub making_lost : (old mid new : Arena) (xs : List Candidate) (ps : List Proposal) (k : ℕ) (zs : List Candidate) → AreMaking old xs ps k zs mid
    → IsGiven (slots_of mid) [] (slots_of new) [] → AreHeld (slots_of new) zs × IsGiven (slots_of old) [] (slots_of new) zs
making_lost old mid new xs ps k zs at lost =
    let beside : IsGiven (slots_of mid) zs (slots_of new) zs = given_as (slots_of mid) (slots_of new) (zs ++ []) zs (zs ++ []) zs
    (λ s. omega (arith, uses_both zs [] s))
    (λ s. omega (arith, uses_both zs [] s)) (given_beside (slots_of mid) (slots_of new) zs [] [] lost) in (
      given_held (slots_of mid) (slots_of new) zs zs (held_as (slots_of mid) (xs ++ zs) zs (λ s. omega (arith, uses_both xs zs s)) at.held) beside,
      given_then (slots_of old) (slots_of mid) (slots_of new) [] zs zs at.given beside,
    )

pub making_ends : (old new : Arena) (xs : List Candidate) (ps : List Proposal) (k : ℕ) (zs : List Candidate) → AreMaking old xs ps k zs new → length ps ≤ k
    → AreMadeOf (made_of old) (made_of new) ps zs
making_ends old new xs ps k zs at all = record {
  part = at.part;
  all = λ p (m, m_n, e). subst (λ (q : Proposal). Contains (offers_of zs) (priced q.offer)) e (at.all m p (omega (arith, m_n, all)));
}

pub making_held : (old new : Arena) (xs : List Candidate) (ps : List Proposal) (k : ℕ) (zs : List Candidate) → AreMaking old xs ps k zs new
    → AreHeld (slots_of new) zs
making_held old new xs ps k zs at = held_as (slots_of new) (xs ++ zs) zs (λ s. omega (arith, uses_both xs zs s)) at.held

-- of some candidates
pub record AreMakingSome (old : Arena) (ps : List Proposal) (k : ℕ) (zs : List Candidate) (new : Arena) : Type 0 where
  pub xs : List Candidate
  pub from : AreFrom (made_of old) xs ps
  pub at : AreMaking old xs ps k zs new

-- the candidate of a new solution
pub solution_made : (old new : List Slot) (p : Proposal) (sol : Sol) → IsSolutionOf old new p.origin sol
    → IsMade old new p (record { offer = p.offer; sol = sol })
solution_made old new p sol is = record { offer = refl; means = is.means; given = is.given (record { offer = p.offer; sol = sol }) refl }

pub made_held : (old new : List Slot) (z : Candidate) → IsGiven old [] new (z ∷ []) → AreHeld new (z ∷ [])
made_held old new z given = given_held old new [] (z ∷ []) (λ s some. omega arith) given

-- what holds where an error is answered, holds of the answer
pub on_err : {A E : Type 0} (r : Result A E) (Q : Type 0) → Q → OnErr r Q
on_err (Ok x) Q q = tt
on_err (Err e) Q q = q
