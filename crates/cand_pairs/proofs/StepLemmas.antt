-- Steps from children to their parent: no worse pairs below come to no worse pairs above.
use Rattle.std.proofs.Common.{◌≡◌, ◌⊎◌, ℕ, ◌+◌, Bool, List, refl, sym, ap, ◌∙◌, arith, inl, inr, ℤ, ◌≤ℤ◌, int_lt, Option, Some, None, ◌≤◌, slice_index_or, false}
use Rattle.std.proofs.lemmas.Bool.{cases_Bool}
use Rattle.std.proofs.lemmas.Int.{ints}
use Rattle.std.proofs.Math.Nat.{mul-le-mul_left}
use Rattle.std.specs.List.{Contains, sum_by}
use Rattle.elmore.specs.Allowances.{allowed_at}
use Rattle.elmore.specs.Cells.{rep_of, rep_at}
use Rattle.elmore.specs.Legal.{MayHave, IsWithin, IsFit}
use Rattle.elmore.specs.Pairs.{Dominates}
use Rattle.elmore.specs.Placements.{IsSinkAt}
use Rattle.elmore.specs.Problems.{sink_of}
use Rattle.elmore.specs.Trees.{resistance}
use Rattle.cand_pairs.specs.Candidates.{live_children, own_capacitance, carried, IsJoinOf, IsOpen, with_cell, past_cell, IsStep, PairSets, fork_of}
use Rattle.cand_pairs.specs.Merging.{HasEnd}
use Rattle.elmore.specs.declared.rep.Rep.{Rep}
use Rattle.elmore.specs.declared.parts.Sink.{Sink}
use Rattle.elmore.specs.declared.pair.Pair.{Pair}
use Rattle.elmore.specs.declared.problem.Problem.{Problem}
use Rattle.cand_pairs.proofs.ChoiceLemmas.{choose, sum_le_in, IsLeastIn, least_in}

pub has_end : (p : Problem) (v own : ℕ) (children : List ℕ) (pick : ℕ → Pair) (x : Pair) → IsJoinOf p (fork_of v own children) pick x → HasEnd p v children
has_end p v own children pick x is =
    elim is.met [
      | inl (u, found, e) ↦ inl (u, found)
      | inr (sink, here, e) ↦ inr (sink, here)
    ]

-- so any pairs of the children can be joined
pub join_exists : (p : Problem) (v own : ℕ) (children : List ℕ) (pick : ℕ → Pair) → HasEnd p v children → (x : Pair) × IsJoinOf p (fork_of v own children) pick x
join_exists p v own children pick some = go (sink_of p.sinks v) refl (least_in (λ u. (carried p u (pick u)).q) children)
  where
    same : (a b : Sink) → sink_of p.sinks v ≡ Some a → IsSinkAt p v b → b.required ≡ a.required
    same a b at_a at_b = let both : Some b ≡ Some a = sym at_b ∙ at_a in let e : b ≡ a = cc (both) in ap (λ (s : Sink). s.required) e

    go : (o : Option Sink) → sink_of p.sinks v ≡ o
        → (((u : ℕ) → Contains children u → ⊥) ⊎ ((q : ℤ) × IsLeastIn (λ u. (carried p u (pick u)).q) children q))
        → (x : Pair) × IsJoinOf p (fork_of v own children) pick x
    go None none (inl empty) =
        elim some [
          | inl (u, found) ↦ absurd (empty u found)
          | inr (sink, here) ↦ absurd (let e : None ≡ Some sink = sym none ∙ here in cc)
        ]
    go None none (inr (q, is)) = (
      record { q = q; c = own + sum_by (λ u. (pick u).c) children },
      record {
        least = is.least;
        in_time = λ sink here. absurd (let e : None ≡ Some sink = sym none ∙ here in cc);
        met = inl is.met;
        load = refl;
      },
    )
    go (Some sink) at (inl empty) = (
      record { q = sink.required; c = own + sum_by (λ u. (pick u).c) children },
      record {
        least = λ u found. absurd (empty u found);
        in_time = λ other here. omega (arith, ints, same sink other at here);
        met = inr (sink, at, refl);
        load = refl;
      },
    )
    go (Some sink) at (inr (q, is)) =
        elim (cases_Bool (int_lt q sink.required)) [
          | inl less ↦ (
            record { q = q; c = own + sum_by (λ u. (pick u).c) children },
            record {
              least = is.least;
              in_time = λ other here. omega (arith, ints, same sink other at here);
              met = inl is.met;
              load = refl;
            },
          )
          | inr more ↦ (
            record { q = sink.required; c = own + sum_by (λ u. (pick u).c) children },
            record {
              least = λ u found. omega (arith, ints, is.least u found);
              in_time = λ other here. omega (arith, ints, same sink other at here);
              met = inr (sink, at, refl);
              load = refl;
            },
          )
        ]

-- no worse pairs of the children, joined
pub carried_over : (p : Problem) (u : ℕ) (x y : Pair) → Dominates y x → (carried p u x).q ≤ℤ (carried p u y).q
carried_over p u x y over = omega (arith, ints, over.time, mul-le-mul_left (resistance p.tree.nodes u) over.room)

pub join_over : (p : Problem) (v own : ℕ) (children : List ℕ) (pick other : ℕ → Pair) (x y : Pair)
    → ((u : ℕ) → Contains children u → Dominates (other u) (pick u)) → IsJoinOf p (fork_of v own children) pick x → IsJoinOf p (fork_of v own children) other y
    → Dominates y x
join_over p v own children pick other x y over x_is y_is = record {
  time = elim y_is.met [
    | inl (u, found, e) ↦ omega (arith, ints, e, x_is.least u found, carried_over p u (pick u) (other u) (over u found))
    | inr (sink, here, e) ↦ omega (arith, ints, e, x_is.in_time sink here)
  ];
  room =
      omega (
        arith,
        x_is.load,
        y_is.load,
        sum_le_in (λ (u : ℕ). (other u).c) (λ (u : ℕ). (pick u).c) children (λ u found. (over u found).room),
      );
}

-- and seen through a cell
pub cell_over : (o : Option Rep) (x y : Pair) → Dominates y x → Dominates (with_cell o y) (with_cell o x)
cell_over None x y over = over
cell_over (Some rep) x y over = record {
  time = omega (arith, ints, over.time, mul-le-mul_left rep.r over.room);
  room = omega arith;
}

pub over_trans : (x y z : Pair) → Dominates y x → Dominates z y → Dominates z x
over_trans x y z y_x z_y = record { time = omega (arith, ints, y_x.time, z_y.time); room = omega (arith, y_x.room, z_y.room) }

pub over_self : (x : Pair) → Dominates x x
over_self x = record { time = omega (arith, ints); room = omega arith }

-- each pair of A at a live child of v is dominated by one of B
abbrev pub IsNoWorse : Problem → ℕ → PairSets → PairSets → Type 0
IsNoWorse p v A B = (u : ℕ) (odd : Bool) (x : Pair) → Contains (live_children p v) u → A u odd x → (y : Pair) × B u odd y × Dominates y x

pub open_over : (p : Problem) (A B : PairSets) (v : ℕ) (odd : Bool) (x : Pair) → IsNoWorse p v A B → IsOpen p A v odd x
    → (y : Pair) × IsOpen p B v odd y × Dominates y x
open_over p A B v odd x no_worse (pick, is) =
    let (y, joined) = join_exists p v (own_capacitance p v) (live_children p v) other (has_end p v (own_capacitance p v) (live_children p v) pick x is.joined) in (
      y,
      (other, record { chosen = λ u found. ((each u).1 found).0; wanted = is.wanted; joined = joined }),
      join_over p v (own_capacitance p v) (live_children p v) pick other x y (λ u found. ((each u).1 found).1) is.joined joined,
    )
  where
    each : (u : ℕ) → (y : Pair) × (Contains (live_children p v) u → B u odd y × Dominates y (pick u))
    each = choose (live_children p v) (λ u y. B u odd y × Dominates y (pick u)) pick (λ u found.
        let (y, y_in, over) = no_worse u odd (pick u) found (is.chosen u found) in
        (y, (y_in, over)))

    other : ℕ → Pair
    other u = (each u).0

-- less is within a limit, and less load fits, too
pub within_less : (limit : Option ℕ) (j k : ℕ) → j ≤ k → IsWithin limit k → IsWithin limit j
within_less None j k less within = tt
within_less (Some most) j k less within = omega arith

pub may_less : (p : Problem) (v : ℕ) (own : Option ℕ) (less load : ℕ) → less ≤ load → MayHave p v own load → MayHave p v own less
may_less p v own less load low may b e =
    let fit : IsFit (slice_index_or p.places v false) (allowed_at p.allowed v) p.reps b load = may b e in
    record { at_place = fit.at_place; named = fit.named; allows = fit.allows; limit = within_less (rep_at p.reps b).limit less load low fit.limit }

pub step_over : (p : Problem) (A B : PairSets) (v : ℕ) (odd : Bool) (x : Pair) → IsNoWorse p v A B → IsStep p A v odd x
    → (y : Pair) × IsStep p B v odd y × Dominates y x
step_over p A B v odd x no_worse (own, z, may, is_open, x_is) =
    let (y, y_open, over) = open_over p A B v (past_cell (rep_of p.reps own) odd) z no_worse is_open in
    (with_cell (rep_of p.reps own) y, (own, y, may_less p v own y.c z.c over.room may, y_open, refl), rw x_is (cell_over (rep_of p.reps own) z y over))

-- and pairs of a part of a set step to some that the set steps to
abbrev pub IsPart : Problem → ℕ → PairSets → PairSets → Type 0
IsPart p v A B = (u : ℕ) (odd : Bool) (x : Pair) → Contains (live_children p v) u → A u odd x → B u odd x

pub step_part : (p : Problem) (A B : PairSets) (v : ℕ) (odd : Bool) (x : Pair) → IsPart p v A B → IsStep p A v odd x → IsStep p B v odd x
step_part p A B v odd x part (own, z, may, (pick, is), x_is) = (
  own,
  z,
  may,
  (
    pick,
    record {
      chosen = λ u found. part u (past_cell (rep_of p.reps own) odd) (pick u) found (is.chosen u found);
      wanted = is.wanted;
      joined = is.joined;
    },
  ),
  x_is,
)
