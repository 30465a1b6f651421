-- The branch of a sink alone.
use Rattle.std.proofs.Common.{◌≡◌, ℕ, ◌⊎◌, Bool, true, false, List, [], ◌∷◌, ◌++◌, length, refl, sym, ap, ◌∙◌, subst, arith, inl, inr, zero, suc, cond}
use Rattle.std.proofs.lemmas.List.Sorted.{IsPermutation-refl, IsPermutation-append_comm}
use Rattle.std.proofs.lemmas.List.Elements.{All-cons, All-nil}
use Rattle.std.specs.List.{Contains}
use Rattle.std.proofs.lemmas.Bool.{cases_Bool}
use Rattle.std.specs.Bool.{beq}
use Rattle.elmore.specs.Pairs.{IsUndominated}
use Rattle.elmore.specs.Placements.{IsSinkAt}
use Rattle.elmore.specs.Trees.{capacitance}
use Rattle.elmore.specs.declared.parts.Sink.{Sink}
use Rattle.elmore.specs.declared.problem.Problem.{Problem}
use Rattle.cand_pairs.specs.Candidates.{fork_of}
use Rattle.cand_pairs.specs.Merging.{fork_from, own_from}
use Rattle.wire_widths.specs.Widths.{AreWidths}
use Rattle.wire_widths.specs.WideParts.{IsWideOpenFrom, IsWideLivePart}
use Rattle.wire_widths.specs.WideSolutions.{IsWideOpenSolutionOf}
use Rattle.wire_widths.specs.declared.width.Width.{Width}
use Rattle.wire_widths.proofs.WideSolutionLemmas.{wide_sink}
use Rattle.wire_widths.proofs.WideWordLemmas.{wide_start}
use Rattle.cand_pairs.proofs.TurnLemmas.{sink_lists, start_live, start_own}
use Rattle.sol_arena.specs.declared.slot.Made.{Made}
use Rattle.sol_arena.specs.Meanings.{cells_of, bare}
use Rattle.sol_arena.specs.Slots.{none}
use Rattle.cand_pool.specs.Links.{none as no_link}
use Rattle.cand_pool.specs.Candidates.{Candidate, Candidates}
use Rattle.cand_pool.specs.Pools.{Block, Holds, IsLive, items_of, spare, name, KeepsOthers}
use Rattle.cand_pool.specs.declared.ends.List.{List as NamedList}
use Rattle.cand_pool.proofs.PublicLaws.{held_items, held_named, nothing_held}
use Rattle.cand_uses.specs.Uses.{IsExchange}
use Rattle.cand_uses.proofs.ExchangeLemmas.{empty_one, exchange_as, exchanged_held}
use Rattle.cand_turns.specs.Swaps.{Slots, Search, at_slots, all_of, AreHeld, IsTurn}
use Rattle.cand_uses.specs.Pairs.{pairs_of}
use Rattle.cand_turns.specs.Branches.{classes_in}
use Rattle.cand_turns.specs.Solved.{sink_classes, IsOpenAt, AreSolved}
use Rattle.cand_turns.specs.declared.branch.Branch.{Branch}
use Rattle.cand_turns.proofs.PartLemmas.{open_at_as}
use Rattle.cand_turns.proofs.SwapLemmas.{turn_among}
use Rattle.cand_turns.proofs.BranchLemmas.{two_all, named_two}

-- nothing is held
pub held_nothing : (at : Search) → AreHeld at []
held_nothing at = record { live = All-nil (IsLive at.pool); apart = λ k some. omega arith; uses = λ s some. omega arith }

-- a list of one candidate with the empty solution, and an empty list
pub sink_turn : (s t : Block) (slots : Slots) (a b : NamedList) (x : Candidate) → x.tag ≡ none → Holds t a (x ∷ []) → Holds t b [] → KeepsOthers s [] t (name a ∷ [])
    → spare s ≡ suc (spare t) → IsTurn (at_slots s slots) [] (at_slots t slots) (a ∷ b ∷ [])
sink_turn s t slots a b x empty one no_other others free =
    let all : all_of t (a ∷ b ∷ []) ≡ x ∷ [] = two_all t a b ∙ (λ i. held_items _ _ _ _ one i ++ held_items _ _ _ _ no_other i) in
    let b_none : name b ≡ no_link = nothing_held _ _ _ no_other in
    let uses : IsExchange slots [] slots (all_of t (a ∷ b ∷ [])) = exchange_as _ _ _ _ _ (sym all) (empty_one slots x empty) in
    record {
      held = record {
        live = All-cons (IsLive t) a (b ∷ []) (held_named _ _ _ _ one) (All-cons (IsLive t) b [] (held_named _ _ _ _ no_other) (All-nil (IsLive t)));
        apart = λ k some. named_two k a b (λ e. some (sym e ∙ b_none));
        uses = exchanged_held slots slots [] (all_of t (a ∷ b ∷ [])) (λ u some. omega arith) uses;
      };
      swap = record {
        uses = uses;
        others = record {
          few = others.few;
          stays = others.stays;
          fresh = λ first last xs h some out m. elim m [
            | inl e ↦ others.fresh first last xs h some out (inl e)
            | inr m' ↦ elim m' [ inl e ↦ some (e ∙ b_none) | inr o ↦ o ]
          ];
        };
        spare = omega (arith, free, ap (λ (l : Candidates). length l) all);
      };
    }

pub turned_round : (s t : Block) (slots : Slots) (a b : NamedList) → IsTurn (at_slots s slots) [] (at_slots t slots) (a ∷ b ∷ []) → IsTurn (at_slots s slots) [] (at_slots t slots) (b ∷ a ∷ [])
turned_round s t slots a b turn =
    turn_among (at_slots s slots) (at_slots t slots) [] (a ∷ b ∷ []) [] [] (b ∷ a ∷ []) (held_nothing (at_slots s slots)) (IsPermutation-refl []) (IsPermutation-append_comm (a ∷ []) (b ∷ [])) turn

-- the candidate stands in the class that the sink wants
pub classes_are : (t : Block) (list other : NamedList) (sink : Sink) (c : ℕ) → Holds t list (record { q = sink.required; c = c; tag = none } ∷ []) → Holds t other []
    → (odd : Bool) → items_of t (cond (beq odd sink.inverted) list other) ≡ sink_classes sink c odd
classes_are t list other sink c one no_other odd = by_class (beq odd sink.inverted) where
  by_class : (wanted : Bool) → items_of t (cond wanted list other) ≡ cond wanted (record { q = sink.required; c = c; tag = none } ∷ []) []
  by_class true = held_items _ _ _ _ one
  by_class false = held_items _ _ _ _ no_other

same_class : (a b : Bool) → beq a b ≡ true → a ≡ b
same_class true true e = refl
same_class false false e = refl
same_class true false e = absurd (cc)
same_class false true e = absurd (cc)

one_of : (x y : Candidate) → Contains (y ∷ []) x → x ≡ y
one_of x y (zero, k_n, e) = sym e
one_of x y (suc k, k_n, e) = absurd (omega arith)

-- the part of a sink
pub sink_part : (p : Problem) (ws : List Width) (v : ℕ) (sink : Sink) (ms : List Made) (s : Block) (branch : Branch) → AreWidths ws → IsSinkAt p v sink → cells_of ms none ≡ bare
    → ((odd : Bool) → classes_in s branch odd ≡ sink_classes sink (capacitance p.tree.nodes v) odd) → IsOpenAt p ws (length p.tree.nodes) v ms (classes_in s branch)
sink_part p ws v sink ms s branch are here empty classes =
    open_at_as p ws (length p.tree.nodes) v ms s branch (sink_classes sink (capacitance p.tree.nodes v)) classes (record {
      part = record { end = live.end; exact = λ odd. subst (λ xs. IsUndominated (IsWideOpenFrom p ws (length p.tree.nodes) v odd) xs) (sym (pairs_are (beq odd sink.inverted))) (live.exact odd) };
      solved = λ odd x found. only odd (cases_Bool (beq odd sink.inverted)) x found;
    })
  where
    live : IsWideLivePart p ws (length p.tree.nodes) v (sink_lists sink (capacitance p.tree.nodes v))
    live = wide_start p ws v sink here

    pairs_are : (wanted : Bool) → pairs_of (cond wanted (record { q = sink.required; c = capacitance p.tree.nodes v; tag = none } ∷ []) []) ≡ cond wanted (record { q = sink.required; c = capacitance p.tree.nodes v } ∷ []) []
    pairs_are true = refl
    pairs_are false = refl

    only : (odd : Bool) → (beq odd sink.inverted ≡ true) ⊎ (beq odd sink.inverted ≡ false) → AreSolved (IsWideOpenSolutionOf p ws odd (fork_from p v (length p.tree.nodes))) ms (sink_classes sink (capacitance p.tree.nodes v) odd)
    only odd (inr other) x found =
        let (k, k_n, e) = subst (λ (wanted : Bool). Contains (cond wanted (record { q = sink.required; c = capacitance p.tree.nodes v; tag = none } ∷ []) []) x) other found in absurd (omega arith)
    only odd (inl wanted) x found =
        let class_is : odd ≡ sink.inverted = same_class odd sink.inverted wanted in
        let is : x ≡ record { q = sink.required; c = capacitance p.tree.nodes v; tag = none }
        = one_of x (record { q = sink.required; c = capacitance p.tree.nodes v; tag = none }) (subst (λ (w : Bool). Contains (cond w (record { q = sink.required; c = capacitance p.tree.nodes v; tag = none } ∷ []) []) x) wanted found) in
        rw is (subst (λ held. IsWideOpenSolutionOf p ws odd (fork_from p v (length p.tree.nodes)) held (record { q = sink.required; c = capacitance p.tree.nodes v })) (sym empty)
        (subst (λ (o : Bool). IsWideOpenSolutionOf p ws o (fork_from p v (length p.tree.nodes)) bare (record { q = sink.required; c = capacitance p.tree.nodes v })) (sym class_is)
        (subst (λ (us : List ℕ). IsWideOpenSolutionOf p ws sink.inverted (fork_of v (own_from p v (length p.tree.nodes)) us) bare (record { q = sink.required; c = capacitance p.tree.nodes v })) (sym (start_live p v))
        (subst (λ (own : ℕ). IsWideOpenSolutionOf p ws sink.inverted (fork_of v own []) bare (record { q = sink.required; c = capacitance p.tree.nodes v })) (sym (start_own p v))
        (wide_sink p ws v (capacitance p.tree.nodes v) sink are here)))))

pub odd_class : (t : Block) (list other : NamedList) (sink : Sink) (c : ℕ) → sink.inverted ≡ true → Holds t list (record { q = sink.required; c = c; tag = none } ∷ []) → Holds t other []
    → (odd : Bool) → items_of t (cond odd list other) ≡ sink_classes sink c odd
odd_class t list other sink c inverted one no_other true = subst (λ (w : Bool). items_of t (cond w list other) ≡ sink_classes sink c true) (ap (beq true) inverted) (classes_are t list other sink c one no_other true)
odd_class t list other sink c inverted one no_other false = subst (λ (w : Bool). items_of t (cond w list other) ≡ sink_classes sink c false) (ap (beq false) inverted) (classes_are t list other sink c one no_other false)

pub even_class : (t : Block) (list other : NamedList) (sink : Sink) (c : ℕ) → sink.inverted ≡ false → Holds t list (record { q = sink.required; c = c; tag = none } ∷ []) → Holds t other []
    → (odd : Bool) → items_of t (cond odd other list) ≡ sink_classes sink c odd
even_class t list other sink c inverted one no_other true = subst (λ (w : Bool). items_of t (cond w list other) ≡ sink_classes sink c true) (ap (beq true) inverted) (classes_are t list other sink c one no_other true)
even_class t list other sink c inverted one no_other false = subst (λ (w : Bool). items_of t (cond w list other) ≡ sink_classes sink c false) (ap (beq false) inverted) (classes_are t list other sink c one no_other false)
