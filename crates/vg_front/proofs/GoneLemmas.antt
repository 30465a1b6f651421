-- Two branches that give way to what was made of both.
use Rattle.std.proofs.Common.{◌≡◌, ℕ, ◌+◌, ◌<◌, Bool, true, false, List, [], ◌++◌, length, sym, ◌∙◌, subst, arith, append_assoc, Option, Result, Ok}
use Rattle.std.proofs.Common.{Err, MatchResult, IfOk, inl, inr}
use Rattle.std.proofs.lemmas.List.Elements.{Contains-append_left, Contains-append_right, Contains-append_cases}
use Rattle.std.specs.List.{Contains}
use Rattle.elmore.specs.Problems.{is_live}
use Rattle.elmore.specs.Trees.{parent_of}
use Rattle.elmore.specs.declared.problem.Problem.{Problem}
use Rattle.sol_arena.specs.declared.arena.Arena.{Arena}
use Rattle.sol_arena.specs.declared.slot.Made.{Made}
use Rattle.sol_arena.specs.declared.slot.Slot.{Slot}
use Rattle.sol_arena.specs.Arenas.{slots_of, made_of}
use Rattle.vg_num.specs.declared.memory.Memory.{Memory}
use Rattle.vg_front.specs.declared.branch.Branch.{Branch}
use Rattle.vg_front.specs.declared.offer.Candidate.{Candidate}
use Rattle.vg_front.specs.Branches.{list_of, all_of}
use Rattle.vg_front.specs.Fronts.{IsOpenAt}
use Rattle.vg_front.specs.Held.{AreHeld, IsGiven, MeanTheSame, IsPruned}
use Rattle.vg_front.specs.Joining.{AreMet, IsCarriedAt}
use Rattle.vg_front.proofs.HeldLemmas.{uses_both, given_then, given_held, held_as}
use Rattle.vg_front.proofs.JoinLemmas.{met_later, met_open}
use Rattle.vg_front.proofs.PlaceLemmas.{in_branch, both_held, given_more, branch_same}
use Rattle.vg_front.proofs.TwoLemmas.{front_held, mid_given, second_held, second_same, both_given, both_same}

-- THE CLASSES of two branches
pub class_held : (slots : List Slot) (a b : Branch) (odd : Bool) → AreHeld slots (all_of a ++ all_of b) → AreHeld slots (list_of a odd ++ list_of b odd)
class_held slots a b false held =
    held_as slots (all_of a ++ all_of b) (a.even.items ++ b.even.items)
    (λ s. omega (
      arith,
      uses_both a.even.items b.even.items s,
      uses_both (all_of a) (all_of b) s,
      uses_both a.even.items a.odd.items s,
      uses_both b.even.items b.odd.items s,
    )) held
class_held slots a b true held =
    held_as slots (all_of a ++ all_of b) (a.odd.items ++ b.odd.items)
    (λ s. omega (
      arith,
      uses_both a.odd.items b.odd.items s,
      uses_both (all_of a) (all_of b) s,
      uses_both a.even.items a.odd.items s,
      uses_both b.even.items b.odd.items s,
    )) held

pub upper_same : (ms ms' : List Made) (a b : Branch) (odd : Bool) → MeanTheSame ms ms' (all_of a ++ all_of b) → MeanTheSame ms ms' (list_of a odd)
upper_same ms ms' a b odd same x found = same x (Contains-append_left (all_of a) (all_of b) x (in_branch a odd x found))

pub lower_same : (ms ms' : List Made) (a b : Branch) (odd : Bool) → MeanTheSame ms ms' (all_of a ++ all_of b) → MeanTheSame ms ms' (list_of b odd)
lower_same ms ms' a b odd same x found = same x (Contains-append_right (all_of a) (all_of b) x (in_branch b odd x found))

pub pruned_in : (old new : Branch) → ((odd : Bool) → IsPruned (list_of old odd) (list_of new odd)) → (x : Candidate) → Contains (all_of new) x
    → Contains (all_of old) x
pruned_in old new pruned x found =
    elim (Contains-append_cases new.even.items new.odd.items x found) [
      | inl even ↦ in_branch old false x ((pruned false).part x even)
      | inr odd ↦ in_branch old true x ((pruned true).part x odd)
    ]

-- both are pruned, one after the other
pub record ArePruned (old new : Arena) (upper lower ups lows : Branch) : Type 0 where
  pub held : AreHeld (slots_of new) (all_of ups ++ all_of lows)
  pub given : IsGiven (slots_of old) (all_of upper ++ all_of lower) (slots_of new) (all_of ups ++ all_of lows)
  pub same : MeanTheSame (made_of old) (made_of new) (all_of ups ++ all_of lows)

pub both_pruned : (old mid new : Arena) (upper lower ups lows : Branch) → AreHeld (slots_of old) (all_of upper ++ all_of lower)
    → IsGiven (slots_of old) (all_of upper) (slots_of mid) (all_of ups) → MeanTheSame (made_of old) (made_of mid) (all_of ups)
    → IsGiven (slots_of mid) (all_of lower) (slots_of new) (all_of lows) → MeanTheSame (made_of mid) (made_of new) (all_of lows)
    → ((odd : Bool) → IsPruned (list_of lower odd) (list_of lows odd)) → ArePruned old new upper lower ups lows
both_pruned old mid new upper lower ups lows held one one_same two two_same pruned = record {
  held = given_held (slots_of old) (slots_of new) (all_of upper ++ all_of lower) (all_of ups ++ all_of lows) held given;
  given = given;
  same = both_same old mid (all_of upper) (all_of ups) (all_of lower) held one new (all_of lows) two one_same two_same (pruned_in lower lows pruned);
}
  where
    given : IsGiven (slots_of old) (all_of upper ++ all_of lower) (slots_of new) (all_of ups ++ all_of lows)
    given = both_given old mid (all_of upper) (all_of ups) (all_of lower) held one new (all_of lows) two

-- WHAT WAS MADE, if it was
abbrev pub made_in_all : Result Branch Memory → List Candidate
made_in_all (Ok branch) = all_of branch
made_in_all (Err memory) = []

-- these were given for what was made, or for nothing
abbrev pub IsGivenFor : List Slot → List Candidate → List Slot → Result Branch Memory → Type 0
IsGivenFor old ws new r = MatchResult r (λ made. IsGiven old ws new (all_of made)) (λ _. IsGiven old ws new [])

for_made : (old new : List Slot) (ws : List Candidate) (r : Result Branch Memory) → IsGivenFor old ws new r → IsGiven old ws new (made_in_all r)
for_made old new ws (Ok branch) given = given
for_made old new ws (Err memory) given = given

made_for : (old new : List Slot) (ws : List Candidate) (r : Result Branch Memory) → IsGiven old ws new (made_in_all r) → IsGivenFor old ws new r
made_for old new ws (Ok branch) given = given
made_for old new ws (Err memory) given = given

-- first the one goes, and then the other
module _ (mid one : Arena) (ups lows : Branch) (r : Result Branch Memory) (held : AreHeld (slots_of mid) (all_of ups ++ all_of lows))
    (given : IsGivenFor (slots_of mid) [] (slots_of one) r) where
  given_all : IsGiven (slots_of mid) [] (slots_of one) (made_in_all r)
  given_all = for_made (slots_of mid) (slots_of one) [] r given

  all_held : AreHeld (slots_of one) (all_of ups ++ (all_of lows ++ made_in_all r))
  all_held =
      subst (AreHeld (slots_of one)) (append_assoc (all_of ups) (all_of lows) (made_in_all r))
      (both_held mid one (all_of ups ++ all_of lows) (made_in_all r) held given_all)

  pub ups_held : AreHeld (slots_of one) (all_of ups)
  ups_held = front_held (slots_of one) (all_of ups) (all_of lows ++ made_in_all r) all_held

  module _ (two : Arena) (first : IsGiven (slots_of one) (all_of ups) (slots_of two) []) where
    rest_held : AreHeld (slots_of two) (all_of lows ++ made_in_all r)
    rest_held = second_held one two (all_of ups) [] (all_of lows ++ made_in_all r) all_held first

    pub lows_held : AreHeld (slots_of two) (all_of lows)
    lows_held = front_held (slots_of two) (all_of lows) (made_in_all r) rest_held

    module _ (last : Arena) (second : IsGiven (slots_of two) (all_of lows) (slots_of last) []) where
      gone : IsGiven (slots_of mid) (all_of ups ++ all_of lows) (slots_of last) (made_in_all r)
      gone =
          given_more (slots_of mid) (slots_of one) (slots_of last) (all_of ups ++ all_of lows) (made_in_all r) (made_in_all r) given_all
          (subst (λ (l : List Candidate). IsGiven (slots_of one) l (slots_of last) (made_in_all r))
          (sym (append_assoc (all_of ups) (all_of lows) (made_in_all r)))
          (given_then (slots_of one) (slots_of two) (slots_of last) (all_of ups ++ (all_of lows ++ made_in_all r)) (all_of lows ++ made_in_all r)
          (made_in_all r)
          (mid_given one two (all_of ups) [] (all_of lows ++ made_in_all r) all_held first)
          (mid_given two last (all_of lows) [] (made_in_all r) rest_held second)))

      pub gone_for : (old : Arena) (ws : List Candidate) → IsGiven (slots_of old) ws (slots_of mid) (all_of ups ++ all_of lows)
          → IsGivenFor (slots_of old) ws (slots_of last) r
      gone_for old ws before =
          made_for (slots_of old) (slots_of last) ws r
          (given_then (slots_of old) (slots_of mid) (slots_of last) ws (all_of ups ++ all_of lows) (made_in_all r) before gone)

      pub gone_same : MeanTheSame (made_of one) (made_of last) (made_in_all r)
      gone_same x found =
          second_same two last (all_of lows) [] (made_in_all r) rest_held second x found
          ∙ second_same one two (all_of ups) [] (all_of lows ++ made_in_all r) all_held first x
          (Contains-append_right (all_of lows) (made_in_all r) x found)

-- what was made of the pruned branches is open at the node
pub gone_open : (p : Problem) (cap : Option ℕ) (i : ℕ) (ms mid made last : List Made) (upper lower ups lows : Branch) (r : Result Branch Memory) → 0 < i
    → i < length p.tree.nodes
    → is_live p.tree.nodes p.sinks i ≡ true → IsOpenAt p cap (i + 1) (parent_of p.tree.nodes i) ms (list_of upper)
    → IsCarriedAt p cap i 0 ms (list_of lower)
    → ((odd : Bool) → IsPruned (list_of upper odd) (list_of ups odd)) → ((odd : Bool) → IsPruned (list_of lower odd) (list_of lows odd))
    → MeanTheSame ms mid (all_of ups ++ all_of lows)
    → IfOk r (λ met. (odd : Bool) → AreMet cap mid made (list_of ups odd) (list_of lows odd) (list_of met odd))
    → MeanTheSame made last (made_in_all r) → IfOk r (λ met. IsOpenAt p cap i (parent_of p.tree.nodes i) last (list_of met))
gone_open p cap i ms mid made last upper lower ups lows (Ok branch) some i_n live opens lowers first second same met later =
    met_open p cap i some i_n live ms (list_of upper) (list_of lower) opens lowers mid last (list_of ups) (list_of lows) (list_of branch) first second
    (λ odd. met_later cap mid made last (list_of ups odd) (list_of lows odd) (list_of branch odd) (branch_same made last branch later odd) (met odd))
    (λ odd. upper_same ms mid ups lows odd same) (λ odd. lower_same ms mid ups lows odd same)
gone_open p cap i ms mid made last upper lower ups lows (Err memory) some i_n live opens lowers first second same met later = tt
