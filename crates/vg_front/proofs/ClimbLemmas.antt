-- The parts of nodes, while they come in to one another.
use Rattle.std.proofs.Common.{◌≡◌, ◌≢◌, ℕ, zero, suc, ◌+◌, ◌<◌, ◌≤◌, true, List, [], ◌∷◌, ◌++◌, length, get_or, set, refl, sym, ap, ◌∙◌, subst, arith}
use Rattle.std.proofs.Common.{inl, inr, Option}
use Rattle.std.proofs.Common.{Result, Ok, Err, IsErr, MatchResult}
use Rattle.std.proofs.Math.ListN.{get_or-append}
use Rattle.std.proofs.Math.Seq.{get_or-append_seam}
use Rattle.std.proofs.lemmas.Bool.{cases_eq, cases_lt}
use Rattle.std.proofs.lemmas.List.{length-append, length-set, get_or-set_same, get_or-set_other}
use Rattle.std.proofs.lemmas.List.Elements.{Contains-append_left, Contains-append_right}
use Rattle.std.specs.List.{Contains}
use Rattle.elmore.specs.Problems.{is_live}
use Rattle.elmore.specs.Trees.{parent_of}
use Rattle.elmore.specs.declared.problem.Problem.{Problem}
use Rattle.elmore.specs.declared.tree.Node.{Node}
use Rattle.sol_arena.specs.declared.arena.Arena.{Arena}
use Rattle.sol_arena.specs.declared.slot.Made.{Made}
use Rattle.sol_arena.specs.declared.slot.Slot.{Slot}
use Rattle.sol_arena.specs.Arenas.{slots_of, made_of}
use Rattle.sol_arena.specs.Reach.{IsRestored}
use Rattle.sol_arena.specs.Uses.{held_of}
use Rattle.sol_arena.proofs.ReachLemmas.{restored}
use Rattle.cand_uses.specs.Uses.{HoldsBeside}
use Rattle.cand_pairs.specs.Candidates.{fork_of, Fork}
use Rattle.cand_pairs.specs.Merging.{HasEnd, live_from, own_from, fork_from}
use Rattle.cand_pairs.specs.Priced.{IsPricedPart, IsPricedOpenWith, IsPricedAt}
use Rattle.cand_pairs.specs.Solutions.{IsOpenSolutionOf}
use Rattle.cand_pairs.proofs.ChildLemmas.{IsChild}
use Rattle.cand_pairs.proofs.FromLemmas.{other_live, other_own, live_all, end_live}
use Rattle.cand_pairs.proofs.TurnLemmas.{dead_stays}
use Rattle.vg_front.specs.Branches.{list_of, all_of}
use Rattle.vg_front.specs.Fronts.{In, AreSolved}
use Rattle.vg_front.specs.Held.{AreHeld, IsGiven, MeanTheSame}
use Rattle.vg_front.specs.Parts.{held_in, IsPart, all_held, part_at, AreParts}
use Rattle.vg_front.specs.declared.branch.Branch.{Branch}
use Rattle.vg_front.specs.declared.offer.Candidate.{Candidate}
use Rattle.vg_front.specs.declared.part.Part.{Part}
use Rattle.vg_front.specs.declared.part.Part.TheVariants.{Dead, Live}
use Rattle.vg_front.proofs.HeldLemmas.{is_empty, uses, uses_both, given_then, given_as, given_held, given_beside, held_as, beside_same}
use Rattle.vg_front.proofs.ListLemmas.{any_default}
use Rattle.vg_front.proofs.PlaceLemmas.{still_solved, branch_same}
use Rattle.vg_front.proofs.TwoLemmas.{front_held}

-- ALL PARTS
pub uses_more : (parts : List Part) (part : Part) (s : ℕ) → uses (all_held (parts ++ part ∷ [])) s ≡ uses (all_held parts) s + uses (held_in part) s
uses_more [] part s = omega (arith, uses_both (held_in part) [] s)
uses_more (x ∷ xs) part s =
    omega (
      arith,
      uses_both (held_in x) (all_held (xs ++ part ∷ [])) s,
      uses_both (held_in x) (all_held xs) s,
      uses_more xs part s,
    )

-- one part in the place of another
pub uses_set : (parts : List Part) (v : ℕ) (x : Part) (s : ℕ) → v < length parts
    → uses (all_held (set parts v x)) s + uses (held_in (part_at parts v)) s ≡ uses (all_held parts) s + uses (held_in x) s
uses_set [] v x s v_n = absurd (omega arith)
uses_set (y ∷ ys) zero x s v_n = omega (arith, uses_both (held_in x) (all_held ys) s, uses_both (held_in y) (all_held ys) s)
uses_set (y ∷ ys) (suc v) x s v_n =
    omega (
      arith,
      uses_both (held_in y) (all_held (set ys v x)) s,
      uses_both (held_in y) (all_held ys) s,
      uses_set ys v x s (omega arith),
    )

pub in_all : (parts : List Part) (v : ℕ) (x : Candidate) → v < length parts → Contains (held_in (part_at parts v)) x → Contains (all_held parts) x
in_all [] v x v_n found = absurd (omega arith)
in_all (y ∷ ys) zero x v_n found = Contains-append_left (held_in y) (all_held ys) x found
in_all (y ∷ ys) (suc v) x v_n found = Contains-append_right (held_in y) (all_held ys) x (in_all ys v x (omega arith) found)

-- A PART THAT STAYS
-- its solutions mean what they did
pub part_same : (p : Problem) (cap : Option ℕ) (i v : ℕ) (ms ms' : List Made) (x : Part) → MeanTheSame ms ms' (held_in x)
    → IsPart p cap i v ms x → IsPart p cap i v ms' x
part_same p cap i v ms ms' (Dead c) same part = part
part_same p cap i v ms ms' (Live branch) same part = record {
  end = part.end;
  part = part.part;
  solved = λ odd. still_solved p (IsOpenSolutionOf p odd (fork_from p v i)) ms ms' (list_of branch odd)
      (branch_same ms ms' branch same odd) (part.solved odd);
}

-- node i is no child of the part's node
pub part_stays : (p : Problem) (cap : Option ℕ) (i v : ℕ) (ms : List Made) (x : Part) → i < length p.tree.nodes → (IsChild p.tree.nodes v i → ⊥)
    → IsPart p cap (i + 1) v ms x → IsPart p cap i v ms x
part_stays p cap i v ms (Dead c) i_n no_child part = dead_stays p v i c i_n no_child part
part_stays p cap i v ms (Live branch) i_n no_child part = record {
  end = subst (HasEnd p v) (sym (other_live p v i i_n no_child)) part.end;
  part = λ odd. as_before (λ (fork : Fork). IsPricedPart cap (In (list_of branch odd)) (IsPricedOpenWith p (IsPricedAt p) odd fork)) (part.part odd);
  solved = λ odd. as_before (λ (fork : Fork). AreSolved p (IsOpenSolutionOf p odd fork) ms (list_of branch odd)) (part.solved odd);
}
  where
    as_before : (P : Fork → Type 0) → P (fork_from p v (i + 1)) → P (fork_from p v i)
    as_before P is =
        subst (λ (us : List ℕ). P (fork_of v (own_from p v i) us)) (sym (other_live p v i i_n no_child))
        (subst (λ (own : ℕ). P (fork_of v own (live_from p v (i + 1)))) (sym (other_own p v i i_n no_child)) is)

-- a branch to which all children of its node came in is that of a live node
pub branch_live : (p : Problem) (cap : Option ℕ) (i : ℕ) (ms : List Made) (branch : Branch)
    → i < length p.tree.nodes → IsPart p cap (i + 1) i ms (Live branch)
    → is_live p.tree.nodes p.sinks i ≡ true
branch_live p cap i ms branch i_n part = end_live p i (subst (HasEnd p i) (live_all p i i_n) part.end)

-- THE START
-- one part more, of the node after them
module _ (p : Problem) (cap : Option ℕ) (ms : List Made) (parts : List Part) (part : Part) where
  pub parts_more : ((v : ℕ) → v < length parts → IsPart p cap (length p.tree.nodes) v ms (part_at parts v))
      → IsPart p cap (length p.tree.nodes) (length parts) ms part
      → (v : ℕ) → v < length (parts ++ part ∷ []) → IsPart p cap (length p.tree.nodes) v ms (part_at (parts ++ part ∷ []) v)
  parts_more are is v v_n =
      elim (cases_lt v (length parts)) [
        | inl low ↦ subst (IsPart p cap (length p.tree.nodes) v ms) (sym (get_or-append parts (part ∷ []) (Dead 0) v low)) (are v low)
        | inr high ↦
            let last : v ≡ length parts = omega (arith, high, v_n, length-append parts (part ∷ [])) in
            subst (λ (u : ℕ). IsPart p cap (length p.tree.nodes) u ms (part_at (parts ++ part ∷ []) u)) (sym last)
            (subst (IsPart p cap (length p.tree.nodes) (length parts) ms) (sym (get_or-append_seam parts part [] (Dead 0))) is)
      ]

pub start_more : (slots : List Slot) (parts : List Part) (part : Part) → IsGiven slots [] slots (all_held parts) → IsGiven slots [] slots (held_in part)
    → IsGiven slots [] slots (all_held (parts ++ part ∷ []))
start_more slots parts part before one =
    given_then slots slots slots [] (all_held parts) (all_held (parts ++ part ∷ [])) before
    (given_as slots slots (all_held parts ++ []) (all_held parts) (all_held parts ++ held_in part) (all_held (parts ++ part ∷ []))
    (λ s. omega (arith, uses_both (all_held parts) [] s))
    (λ s. omega (arith, uses_both (all_held parts) (held_in part) s, uses_more parts part s))
    (given_beside slots slots (all_held parts) [] (held_in part) one))

-- THE LAST PART IS GIVEN UP
-- what is held and was given, of what was there at first
pub record HasGiven (old : Arena) (xs : List Candidate) (new : Arena) (zs : List Candidate) : Type 0 where
  pub held : AreHeld (slots_of new) zs
  pub given : IsGiven (slots_of old) xs (slots_of new) zs

pub given_on : (old mid new : Arena) (xs ys zs : List Candidate) → HasGiven old xs mid ys → IsGiven (slots_of mid) ys (slots_of new) zs
    → HasGiven old xs new zs
given_on old mid new xs ys zs is one = record {
  held = given_held (slots_of mid) (slots_of new) ys zs is.held one;
  given = given_then (slots_of old) (slots_of mid) (slots_of new) xs ys zs is.given one;
}

module _ (all rest : List Part) (last : Part) (all_are : all ≡ rest ++ last ∷ []) where
  uses_all : (s : ℕ) → uses (all_held all) s ≡ uses (all_held rest) s + uses (held_in last) s
  uses_all s = omega (arith, ap (λ (xs : List Part). uses (all_held xs) s) all_are, uses_more rest last s)

  pub last_held : (slots : List Slot) → AreHeld slots (all_held all) → AreHeld slots (held_in last)
  last_held slots held = held_as slots (all_held all) (held_in last) (λ s. omega (arith, uses_all s)) held

  pub last_given : (old new : List Slot) → IsGiven old (held_in last) new [] → IsGiven old (all_held all) new (all_held rest)
  last_given old new one =
      given_as old new (all_held rest ++ held_in last) (all_held all) (all_held rest ++ []) (all_held rest)
      (λ s. omega (arith, uses_all s, uses_both (all_held rest) (held_in last) s)) (λ s. omega (arith, uses_both (all_held rest) [] s))
      (given_beside old new (all_held rest) (held_in last) [] one)

-- A TURN: the last part, of node i, and that of its parent are taken away
pub record IsTurning (p : Problem) (all rest : List Part) (last upper none : Part) (up i : ℕ) : Type 0 where
  pub all_are : all ≡ rest ++ last ∷ []
  pub number : i ≡ length rest
  pub some : 0 < i
  pub node : i < length p.tree.nodes
  pub up_is : up ≡ parent_of p.tree.nodes i
  pub upper_is : upper ≡ part_at rest up
  pub none_is : none ≡ Dead 0

pub turning : (p : Problem) (d : Node) {all rest : List Part} {last upper none now : Part} {nodes : List Node} {i : ℕ}
    → all ≡ rest ++ last ∷ [] → i ≡ length rest
    → 1 < length all → length all ≤ length p.tree.nodes → nodes ≡ p.tree.nodes → upper ≡ now
    → now ≡ get_or rest (get_or nodes i d).parent now → none ≡ Dead 0
    → IsTurning p all rest last upper none (get_or nodes i d).parent i
turning p d {all} {rest} {last} {upper} {none} {now} {nodes} {i} all_are number more within nodes_are upper_is now_is none_is = record {
  all_are = all_are;
  number = number;
  some = some;
  node = node;
  up_is = up_is;
  upper_is = upper_is ∙ now_is ∙ any_default rest (get_or nodes i d).parent now (Dead 0) (omega (arith, up_is, p.tree.a_tree.smaller i some node, number));
  none_is = none_is;
}
  where
    long : length all ≡ length rest + 1
    long = ap (λ (xs : List Part). length xs) all_are ∙ length-append rest (last ∷ [])

    some : 0 < i
    some = omega (arith, more, long, number)

    node : i < length p.tree.nodes
    node = omega (arith, within, long, number)

    up_is : (get_or nodes i d).parent ≡ parent_of p.tree.nodes i
    up_is = ap (λ (xs : List Node). (get_or xs i d).parent) nodes_are ∙ ap (λ (x : Node). x.parent) (any_default p.tree.nodes i d _ node)

module _ {p : Problem} {all rest : List Part} {last upper none : Part} {up i : ℕ} (at : IsTurning p all rest last upper none up i) where
  abbrev left : List Part
  left = set rest up none

  up_n : up < length rest
  up_n = omega (arith, at.up_is, p.tree.a_tree.smaller i at.some at.node, at.number)

  up_left : up < length left
  up_left = omega (arith, up_n, length-set rest up none)

  longer : length all ≡ i + 1
  longer = ap (λ (xs : List Part). length xs) at.all_are ∙ length-append rest (last ∷ []) ∙ ap (λ (k : ℕ). k + 1) (sym at.number)

  uses_two : (s : ℕ) → uses (all_held all) s ≡ uses (all_held left ++ (held_in upper ++ held_in last)) s
  uses_two s =
      omega (
        arith,
        uses_all all rest last at.all_are s,
        uses_set rest up none s up_n,
        ap (λ (x : Part). uses (held_in x) s) at.upper_is,
        ap (λ (x : Part). uses (held_in x) s) at.none_is,
        uses_both (all_held left) (held_in upper ++ held_in last) s,
        uses_both (held_in upper) (held_in last) s,
      )

  two_beside : (slots : List Slot) → AreHeld slots (all_held all) → AreHeld slots (all_held left ++ (held_in upper ++ held_in last))
  two_beside slots held = held_as slots (all_held all) (all_held left ++ (held_in upper ++ held_in last)) (λ s. omega (arith, uses_two s)) held

  pub two_held : (slots : List Slot) → AreHeld slots (all_held all) → AreHeld slots (held_in upper ++ held_in last)
  two_held slots held =
      held_as slots (all_held all) (held_in upper ++ held_in last)
      (λ s. omega (arith, uses_two s, uses_both (all_held left) (held_in upper ++ held_in last) s)) held

  -- both are lost
  pub turn_lost : (old new : List Slot) → IsGiven old (held_in upper ++ held_in last) new [] → IsGiven old (all_held all) new (all_held (set rest up none))
  turn_lost old new one =
      given_as old new (all_held left ++ (held_in upper ++ held_in last)) (all_held all) (all_held left ++ []) (all_held left) uses_two
      (λ s. omega (arith, uses_both (all_held left) [] s)) (given_beside old new (all_held left) (held_in upper ++ held_in last) [] one)

  -- the parts that come together
  pub upper_part : (cap : Option ℕ) (ms : List Made) → AreParts p cap (length all) ms all → IsPart p cap (i + 1) (parent_of p.tree.nodes i) ms upper
  upper_part cap ms are =
      subst (λ (u : ℕ). IsPart p cap (i + 1) u ms upper) at.up_is
      (subst (IsPart p cap (i + 1) up ms)
      (ap (λ (xs : List Part). part_at xs up) at.all_are ∙ get_or-append rest (last ∷ []) (Dead 0) up up_n ∙ sym at.upper_is)
      (subst (λ (k : ℕ). IsPart p cap k up ms (part_at all up)) longer (are.each up (omega (arith, up_n, longer, at.number)))))

  -- one is made of them
  module _ (x : Part) where
    uses_new : (s : ℕ) → uses (all_held left ++ held_in x) s ≡ uses (all_held (set left up x)) s
    uses_new s =
        omega (
          arith,
          uses_both (all_held left) (held_in x) s,
          uses_set left up x s up_left,
          ap (λ (y : Part). uses (held_in y) s) (get_or-set_same rest up none (Dead 0) up_n ∙ at.none_is),
        )

    pub turn_given : (old new : List Slot) → IsGiven old (held_in upper ++ held_in last) new (held_in x)
        → IsGiven old (all_held all) new (all_held (set (set rest up none) up x))
    turn_given old new one =
        given_as old new (all_held left ++ (held_in upper ++ held_in last)) (all_held all) (all_held left ++ held_in x) (all_held (set left up x))
        uses_two uses_new
        (given_beside old new (all_held left) (held_in upper ++ held_in last) (held_in x) one)

    module _ (cap : Option ℕ) (old new : Arena) (held : AreHeld (slots_of old) (all_held all))
        (one : IsGiven (slots_of old) (held_in upper ++ held_in last) (slots_of new) (held_in x))
        (are : AreParts p cap (length all) (made_of old) all) where
      stays : (v : ℕ) → v < i → v ≢ up → IsPart p cap i v (made_of new) (part_at (set left up x) v)
      stays v v_n other =
          let v_in : v < length rest = omega (arith, v_n, at.number) in
          let same : part_at left v ≡ part_at rest v = get_or-set_other rest up v none (Dead 0) other in
          let was : part_at all v ≡ part_at rest v = ap (λ (xs : List Part). part_at xs v) at.all_are ∙ get_or-append rest (last ∷ []) (Dead 0) v v_in in
          let before : IsPart p cap (i + 1) v (made_of old) (part_at left v)
          = subst (IsPart p cap (i + 1) v (made_of old)) (was ∙ sym same)
          (subst (λ (k : ℕ). IsPart p cap k v (made_of old) (part_at all v)) longer (are.each v (omega (arith, v_n, longer)))) in
          subst (IsPart p cap i v (made_of new)) (sym (get_or-set_other left up v x (Dead 0) other))
          (part_same p cap i v (made_of old) (made_of new) (part_at left v)
          (λ y found. beside_same old new (all_held left) (held_in upper ++ held_in last) (held_in x) (two_beside (slots_of old) held) one y
          (in_all left v y (omega (arith, v_in, length-set rest up none)) found))
          (part_stays p cap i v (made_of old) (part_at left v) at.node (λ child. other (sym child.parent ∙ sym at.up_is)) before))

      turn_each : IsPart p cap i (parent_of p.tree.nodes i) (made_of new) x → (v : ℕ) → v < i → IsPart p cap i v (made_of new) (part_at (set left up x) v)
      turn_each is v v_n = elim (cases_eq v up) [
        | inl e ↦
            subst (λ (u : ℕ). IsPart p cap i u (made_of new) (part_at (set left up x) u)) (sym e)
            (subst (IsPart p cap i up (made_of new)) (sym (get_or-set_same left up x (Dead 0) up_left))
            (subst (λ (u : ℕ). IsPart p cap i u (made_of new) x) (sym at.up_is) is))
        | inr other ↦ stays v v_n other
      ]

      pub turn_parts : IsPart p cap i (parent_of p.tree.nodes i) (made_of new) x
          → AreParts p cap (length (set (set rest up none) up x)) (made_of new) (set (set rest up none) up x)
      turn_parts is =
          let same : i ≡ length (set left up x) = at.number ∙ sym (length-set left up x ∙ length-set rest up none) in
          record {
            one_each = refl;
            each = subst (λ (k : ℕ). (v : ℕ) → v < k → IsPart p cap k v (made_of new) (part_at (set left up x) v)) same (turn_each is);
          }

-- A PART COMES IN TO ANOTHER
module _ (old mid : Arena) (upper part : Part) (branch : Branch) (part_is : part ≡ Live branch)
    (held : AreHeld (slots_of old) (held_in upper ++ held_in part)) where
  with_branch : AreHeld (slots_of old) (held_in upper ++ all_of branch)
  with_branch = subst (λ (x : Part). AreHeld (slots_of old) (held_in upper ++ held_in x)) part_is held

  module _ (zs : List Candidate) (one : IsGiven (slots_of old) (all_of branch) (slots_of mid) zs) where
    beside_upper : IsGiven (slots_of old) (held_in upper ++ all_of branch) (slots_of mid) (held_in upper ++ zs)
    beside_upper = given_beside (slots_of old) (slots_of mid) (held_in upper) (all_of branch) zs one

    pub closed_held : AreHeld (slots_of mid) (held_in upper ++ zs)
    closed_held = given_held (slots_of old) (slots_of mid) (held_in upper ++ all_of branch) (held_in upper ++ zs) with_branch beside_upper

    pub upper_held : AreHeld (slots_of mid) (held_in upper)
    upper_held = front_held (slots_of mid) (held_in upper) zs closed_held

    pub upper_same : MeanTheSame (made_of old) (made_of mid) (held_in upper)
    upper_same = beside_same old mid (held_in upper) (all_of branch) zs with_branch one

    pub closed_then : (new : Arena) (ys : List Candidate) → IsGiven (slots_of mid) (held_in upper ++ zs) (slots_of new) ys
        → IsGiven (slots_of old) (held_in upper ++ held_in part) (slots_of new) ys
    closed_then new ys two =
        subst (λ (x : Part). IsGiven (slots_of old) (held_in upper ++ held_in x) (slots_of new) ys) (sym part_is)
        (given_then (slots_of old) (slots_of mid) (slots_of new) (held_in upper ++ all_of branch) (held_in upper ++ zs) ys beside_upper two)

  pub lost_then : IsGiven (slots_of old) (all_of branch) (slots_of mid) [] → (new : Arena) → IsGiven (slots_of mid) (held_in upper) (slots_of new) []
      → IsGiven (slots_of old) (held_in upper ++ held_in part) (slots_of new) []
  lost_then one new two =
      closed_then [] one new []
      (given_as (slots_of mid) (slots_of new) (held_in upper) (held_in upper ++ []) [] []
      (λ s. omega (arith, uses_both (held_in upper) [] s)) (λ s. refl) two)

-- THE ROOT
-- the one part that is left
module _ (p : Problem) (cap : Option ℕ) (ms : List Made) (all rest : List Part) (root : Part)
    (all_are : all ≡ rest ++ root ∷ []) (are : AreParts p cap 1 ms all) where
  none_left : rest ≡ []
  none_left = is_empty rest (omega (arith, are.one_each, ap (λ (xs : List Part). length xs) all_are, length-append rest (root ∷ [])))

  pub root_part : IsPart p cap 1 0 ms root
  root_part =
      subst (IsPart p cap 1 0 ms) (ap (λ (xs : List Part). part_at xs 0) (all_are ∙ ap (λ (xs : List Part). xs ++ root ∷ []) none_left))
      (are.each 0 (omega arith))

  pub root_given : (old new : List Slot) → IsGiven old (held_in root) new [] → IsGiven old (all_held all) new []
  root_given old new one =
      subst (λ (xs : List Part). IsGiven old (all_held all) new (all_held xs)) none_left (last_given all rest root all_are old new one)

-- where nothing was held and nothing is, the arena is as it was
pub given_restores : (old new : Arena) → IsGiven (slots_of old) [] (slots_of new) [] → IsRestored (slots_of old) (slots_of new)
given_restores old new given =
    restored old new (λ u some. omega (arith, given.held (held_of (slots_of old)) beside u some)) (given.frame (held_of (slots_of old)) beside)
  where
    beside : HoldsBeside (slots_of old) [] (held_of (slots_of old))
    beside u some = omega arith

-- an error is answered
pub err_answers : {A E : Type 0} (r : Result A E) (P : A → Type 0) (Q : Type 0) → IsErr r → Q → MatchResult r P (λ (_ : E). Q)
err_answers (Ok x) P Q is q = absurd (cc)
err_answers (Err e) P Q is q = q
