-- The placement of the candidate that was chosen is best, and so is the one without a cell where it has the same slack.
use Rattle.std.proofs.Common.{◌≡◌, ◌≢◌, ℕ, zero, suc, ◌*◌, ◌<◌, true, false, List, [], ◌∷◌, length, take, sym, ap, ◌∙◌, subst, arith}
use Rattle.std.proofs.Common.{Option, Some, None, ℤ, ◌≤ℤ◌}
use Rattle.std.specs.Prelude.{slice_index_or, is_some, MatchOption}
use Rattle.std.specs.List.{Contains}
use Rattle.std.proofs.lemmas.Int.{ints}
use Rattle.std.proofs.lemmas.List.{ext_get_or, get_or-take, length-take-le}
use Rattle.std.proofs.lemmas.List.FromFn.{length-map-range_with_len}
use Rattle.elmore.specs.Best.{IsBest}
use Rattle.elmore.specs.Legal.{IsPlaced, IsLegal, IsFirstIllegal}
use Rattle.elmore.specs.Pairs.{IsUndominated}
use Rattle.elmore.specs.Placements.{IsPlacement, IsSlack, HasPolarity, IsFirstWrong}
use Rattle.elmore.specs.declared.problem.Problem.{Problem}
use Rattle.sol_arena.specs.Arenas.{slots_of, made_of}
use Rattle.sol_arena.specs.Meanings.{cells_of, AreBelow}
use Rattle.sol_arena.specs.Slots.{none, IsLive}
use Rattle.sol_arena.specs.Uses.{held_of}
use Rattle.sol_arena.specs.declared.arena.Arena.{Arena}
use Rattle.sol_arena.specs.declared.slot.Slot.{Slot}
use Rattle.sol_arena.proofs.ReachLemmas.{held_live}
use Rattle.cand_pairs.specs.Candidates.{IsBoundedBy}
use Rattle.cand_pairs.specs.Solutions.{cells_by}
use Rattle.wire_widths.specs.Widths.{plain, IsWideBest}
use Rattle.wire_widths.specs.WidePairs.{IsWidePairAt}
use Rattle.wire_widths.specs.WideSolutions.{IsWideSolutionOf, rows_by}
use Rattle.wire_widths.specs.declared.width.Width.{Width}
use Rattle.wire_widths.proofs.PlainLemmas.{first_rows, plain_good, plain_best}
use Rattle.wire_widths.proofs.WideSolutionLemmas.{wide_below}
use Rattle.wire_widths.proofs.WideTurnLemmas.{wide_root_exact}
use Rattle.cand_pairs.proofs.SolutionLemmas.{read_by}
use Rattle.cand_pool.specs.Candidates.{Candidate, Candidates}
use Rattle.cand_uses.specs.Pairs.{pair_of, pairs_of}
use Rattle.cand_uses.specs.Uses.{HoldsFor}
use Rattle.cand_uses.proofs.ExchangeLemmas.{uses_of_one, first_use}
use Rattle.cand_turns.specs.Solved.{CanWiden, AreSolved}
use Rattle.vg_slack.specs.Roots.{IsChosen}
use Rattle.vg_slack.specs.Bests.{IsGoodWith, HasNoCell, HasNoGood, IsBare, NoneIsBare, IsFound}
use Rattle.vg_slack.specs.Choices.{HasNoWideGood, AreBestChoices, choice_at}
use Rattle.vg_slack.specs.declared.choices.Choices.{Choices}

-- PLACEMENTS
one_slack : (p : Problem) (cells : List (Option ℕ)) (x y : ℤ) → IsSlack p cells x → IsSlack p cells y → x ≡ y
one_slack p cells x y is_x is_y =
    let (w, sink, here, e) = is_x.met in
    let (u, other, there, d) = is_y.met in
    omega (arith, ints, e, d, is_y.least w sink here, is_x.least u other there)

pub good_if : (p : Problem) (cells : List (Option ℕ)) (x y : ℤ) → IsPlacement p cells → IsLegal p cells → ((w : ℕ) → HasPolarity p cells w)
    → IsSlack p cells x → x ≡ y → IsGoodWith p cells y
good_if p cells x y placement legal wanted slack same = record {
  good = record { placement = placement; legal = legal; wanted = wanted };
  slack = subst (IsSlack p cells) same slack;
}

pub not_legal : (p : Problem) (cells : List (Option ℕ)) (y : ℤ) (first : Option ℕ) → is_some first ≡ true
    → MatchOption first (IsLegal p cells) (λ (v : ℕ). IsFirstIllegal p cells v) → IsGoodWith p cells y → ⊥
not_legal p cells y None some is = absurd (cc)
not_legal p cells y (Some v) some is = λ good. is.illegal (good.good.legal v)

pub not_wanted : (p : Problem) (cells : List (Option ℕ)) (y : ℤ) (first : Option ℕ) → is_some first ≡ true
    → MatchOption first ((w : ℕ) → HasPolarity p cells w) (λ (w : ℕ). IsFirstWrong p cells w) → IsGoodWith p cells y → ⊥
not_wanted p cells y None some is = absurd (cc)
not_wanted p cells y (Some w) some is = λ good. let (sink, here, other) = is.wrong in other (good.good.wanted w sink here)

pub other_slack : (p : Problem) (cells : List (Option ℕ)) (x y : ℤ) → IsSlack p cells x → (x ≡ y → ⊥) → IsGoodWith p cells y → ⊥
other_slack p cells x y slack other good = other (one_slack p cells x y slack good.slack)

-- WITHOUT A CELL
pub bare_placement : (p : Problem) (cells : List (Option ℕ)) → length cells ≡ length p.tree.nodes → HasNoCell cells → IsPlacement p cells
bare_placement p cells long bare = record { one_each = long; named = λ v b e. absurd (let clash : None ≡ Some b = sym (bare v) ∙ e in cc) }

pub bare_placed : (p : Problem) (cells : List (Option ℕ)) → HasNoCell cells → IsPlaced p cells
bare_placed p cells bare = λ v b e. absurd (let clash : None ≡ Some b = sym (bare v) ∙ e in cc)

-- there is one such placement
pub one_bare : (p : Problem) (cells : List (Option ℕ)) (x : ℤ) → length cells ≡ length p.tree.nodes → HasNoCell cells
    → (IsGoodWith p cells x → ⊥) → NoneIsBare p x
one_bare p cells x long bare never = λ others (others_bare, good).
    let same : others ≡ cells
    = ext_get_or None others cells (good.good.placement.one_each ∙ sym long) (λ i i_n. others_bare i ∙ sym (bare i)) in
    never (subst (λ (at : List (Option ℕ)). IsGoodWith p at x) same good)

-- THE CHOSEN CANDIDATE
tag_held : (slots : List Slot) (xs : Candidates) (x : Candidate) → HoldsFor slots xs → Contains xs x → x.tag ≢ none → 0 < held_of slots x.tag
tag_held slots [] x held (k, k_n, e) some = absurd (omega (arith, k_n))
tag_held slots (y ∷ xs) x held (zero, k_n, e) some =
    subst (λ (z : Candidate). 0 < held_of slots z.tag) e
    (first_use slots y xs held (λ none_is. some (ap (λ (z : Candidate). z.tag) (sym e) ∙ none_is)))
tag_held slots (y ∷ xs) x held (suc k, k_n, e) some =
    tag_held slots xs x (λ s s_some. omega (arith, held s s_some, uses_of_one y xs s)) (k, omega arith, e) some

pub chosen_live : (p : Problem) (arena : Arena) (xs : Candidates) (slack : ℤ) (sol : ℕ) → HoldsFor (slots_of arena) xs → IsChosen p xs slack sol
    → IsLive (made_of arena) sol
chosen_live p arena xs slack sol held is = λ some.
    held_live arena sol some
    (subst (λ (s : ℕ). 0 < held_of (slots_of arena) s) (sym is.solution)
    (tag_held (slots_of arena) xs is.candidate held is.among (λ e. some (is.solution ∙ e))))

-- what its solution chooses
module _ (p : Problem) (ws : List Width) (can : CanWiden p ws) (arena : Arena) (xs : Candidates) (slack : ℤ) (sol : ℕ)
    (exact : IsUndominated (IsWidePairAt p ws 0 false) (pairs_of xs)) (solved : AreSolved (IsWideSolutionOf p ws 0 false) (made_of arena) xs) (is : IsChosen p xs slack sol) where
  held_by : IsWideSolutionOf p ws 0 false (cells_of (made_of arena) sol) (pair_of is.candidate)
  held_by =
      subst (λ (s : ℕ). IsWideSolutionOf p ws 0 false (cells_of (made_of arena) s) (pair_of is.candidate)) (sym is.solution)
      (solved is.candidate is.among)

  -- at the sites of nodes and of wires alone
  pub chosen_inside : AreBelow (2 * length p.tree.nodes) (cells_of (made_of arena) sol)
  chosen_inside = λ s b e. wide_below p ws 0 false (cells_of (made_of arena) sol) (pair_of is.candidate) held_by s b e

  chosen_best : IsWideBest p ws (cells_by p (cells_of (made_of arena) sol)) (rows_by p (cells_of (made_of arena) sol)) slack
  chosen_best =
      subst (IsWideBest p ws (cells_by p (cells_of (made_of arena) sol)) (rows_by p (cells_of (made_of arena) sol))) (sym is.worth)
      (wide_root_exact p ws (pairs_of xs) (cells_by p (cells_of (made_of arena) sol)) (rows_by p (cells_of (made_of arena) sol)) (pair_of is.candidate) can.are exact held_by.pair is.drives
      (subst (λ (x : ℤ). IsBoundedBy p (Contains (pairs_of xs)) x) is.worth is.most))

  -- is best
  pub best_sites : (sites : List (Option ℕ)) → length sites ≡ 2 * length p.tree.nodes → ((s : ℕ) → slice_index_or sites s None ≡ cells_of (made_of arena) sol s)
      → AreBestChoices p ws (record { slack = slack; sites = sites })
  best_sites sites each are = record {
    each = each;
    best = subst (λ (f : ℕ → Option ℕ). IsWideBest p ws (cells_by p f) (rows_by p f) slack) (λ i s. sym (are s) i) chosen_best;
  }

-- THE PLACEMENT of what was chosen with one width
pub first_sites : (p : Problem) (sites : List (Option ℕ)) → length sites ≡ 2 * length p.tree.nodes → cells_by p (choice_at sites) ≡ take (length p.tree.nodes) sites
first_sites p sites each =
    ext_get_or None (cells_by p (choice_at sites)) (take (length p.tree.nodes) sites) (by_length ∙ sym took)
    (λ i i_n. read_by p (choice_at sites) i (omega (arith, i_n, by_length)) ∙ sym (get_or-take (length p.tree.nodes) sites i None (omega (arith, i_n, by_length))))
  where
    by_length : length (cells_by p (choice_at sites)) ≡ length p.tree.nodes
    by_length = length-map-range_with_len (choice_at sites) 0 (length p.tree.nodes)

    took : length (take (length p.tree.nodes) sites) ≡ length p.tree.nodes
    took = length-take-le (length p.tree.nodes) sites (omega (arith, each))

pub placed_best : (p : Problem) (choices : Choices) (cells : List (Option ℕ)) → AreBestChoices p (plain ∷ []) choices → cells ≡ take (length p.tree.nodes) choices.sites
    → NoneIsBare p choices.slack → IsFound p (record { slack = choices.slack; placement = record { cells = cells } })
placed_best p choices cells are cells_are none_bare = record {
  best = best;
  bare = λ others x others_bare is_best.
      absurd (none_bare others (
        others_bare,
        record {
          good = is_best.good;
          slack = subst (IsSlack p others)
              (let more : x ≤ℤ choices.slack = best.most others x is_best.good is_best.slack in
              let less : choices.slack ≤ℤ x = is_best.most cells choices.slack best.good best.slack in
              omega (arith, ints, more, less)) is_best.slack;
        },
      ));
}
  where
    best : IsBest p cells choices.slack
    best =
        subst (λ (at : List (Option ℕ)). IsBest p at choices.slack) (first_sites p choices.sites are.each ∙ sym cells_are)
        (plain_best p (cells_by p (choice_at choices.sites)) (rows_by p (choice_at choices.sites)) choices.slack are.best)

-- and so is the one without a cell that is good with the same slack
pub bare_best : (p : Problem) (choices : Choices) (cells : List (Option ℕ)) → AreBestChoices p (plain ∷ []) choices → IsBare p choices.slack cells
    → IsFound p (record { slack = choices.slack; placement = record { cells = cells } })
bare_best p choices cells are (bare, good) = record {
  best = record {
    good = good.good;
    slack = good.slack;
    most = (plain_best p (cells_by p (choice_at choices.sites)) (rows_by p (choice_at choices.sites)) choices.slack are.best).most;
  };
  bare = λ others x others_bare is_best. bare;
}

-- where nothing is good with one width, nothing is good
pub none_plain : (p : Problem) → HasNoWideGood p (plain ∷ []) → HasNoGood p
none_plain p none cells good = none cells (first_rows p) (plain_good p cells good)
