-- Each piece drives a sink or a cell.
use Rattle.std.proofs.Common.{◌≡◌, ◌≢◌, ◌⊎◌, ℕ, zero, suc, ◌+◌, ◌<◌, ◌≤◌, ◌==◌, Bool, true, false, not, ◌&&◌, ◌||◌, List, [], ◌∷◌, refl, sym, ap, ◌∙◌, subst, cond, arith, inl, inr, Option, None, Some, is_some, length, slice_index_or}
use Rattle.std.proofs.lemmas.Bool.{cases_Bool, cases_eq, eq-eqb, false≢true}
use Rattle.std.specs.List.{list_any, range_with_len}
use Rattle.elmore.specs.Path.{Falls, is_over}
use Rattle.elmore.specs.Cells.{rep_of, has_cell}
use Rattle.elmore.specs.Stage.{in_stage, ends_stage}
use Rattle.elmore.specs.Problems.{is_sink, is_above_sink, sink_of}
use Rattle.elmore.specs.Legal.{IsPlaced}
use Rattle.elmore.specs.declared.rep.Rep.{Rep}
use Rattle.elmore.specs.declared.parts.Sink.{Sink}
use Rattle.elmore.specs.declared.problem.Problem.{Problem}
use Rattle.elmore.proofs.PathLemmas.{under}
use Rattle.elmore.proofs.RootLemmas.{root_over}
use Rattle.elmore.proofs.StageLemmas.{stage_self, stage_below, end_below}
use Rattle.elmore.proofs.HeadLemmas.{head_other}
use Rattle.elmore.proofs.StageThroughLemmas.{end_other}
use Rattle.cut_laws.specs.CutNets.{Begins, IsDriven}
use Rattle.cut_laws.proofs.ProblemLemmas.{parent_in, cell_in, falls_in, rooted_in}

-- from v down to w the stage goes on to w, or ends on the way
abbrev Reaches : (ℕ → ℕ) → (ℕ → Option Rep) → ℕ → ℕ → Type 0
Reaches parent cell v w = (in_stage parent cell v w ≡ true) ⊎ ((u : ℕ) × (u ≤ w) × (ends_stage parent cell v u ≡ true))

reaches : (parent : ℕ → ℕ) (cell : ℕ → Option Rep) → Falls parent → (v w : ℕ) → is_over parent v w ≡ true
    → Reaches parent cell v w
reaches parent cell falls v =
    under parent falls (Reaches parent cell v) v
    (inl (stage_self parent cell falls v))
    (λ w w_v edge _ _ more.
    elim more as (λ _. Reaches parent cell v w) [
      | inr (u, u_w, ends) ↦ inr (u, omega (arith, falls w), ends)
      | inl inside ↦ elim (cases_Bool (has_cell cell w)) as (λ _. Reaches parent cell v w) [
        | inl has ↦ inr (
          w,
          omega arith,
          end_below parent cell falls v w edge w_v ∙ ap (λ (b : Bool). cond b (in_stage parent cell v (parent w)) false) has ∙ inside,
        )
        | inr bare ↦ inl
            (stage_below parent cell falls v w edge w_v ∙ ap (λ (b : Bool). cond b false (in_stage parent cell v (parent w))) bare ∙ inside)
      ]
    ])

either_true : (a b : Bool) → (a || b) ≡ true → (a ≡ true) ⊎ (b ≡ true)
either_true true b e = inl refl
either_true false b e = inr e

both_true : (a b : Bool) → (a && b) ≡ true → (a ≡ true) × (b ≡ true)
both_true true b e = (refl, e)
both_true false b e = absurd (false≢true e)

not_true : (a : Bool) → not a ≡ true → a ≡ false
not_true true e = absurd (false≢true e)
not_true false e = refl

-- what a search in a list finds
any_number : (p : ℕ → Bool) (a n : ℕ) → list_any p (range_with_len a n) ≡ true → (w : ℕ) × (w < a + n) × (p w ≡ true)
any_number p a zero e = absurd (false≢true e)
any_number p a (suc n) e =
    elim (either_true (p a) (list_any p (range_with_len (a + 1) n)) e) [
      | inl here ↦ (a, omega arith, here)
      | inr there ↦
          let (w, w_n, at) = any_number p (a + 1) n there in
          (w, omega arith, at)
    ]

any_sink : (sinks : List (Option Sink)) → list_any (λ (o : Option Sink). is_some o) sinks ≡ true → (w : ℕ) × (w < length sinks) × (is_sink sinks w ≡ true)
any_sink [] e = absurd (false≢true e)
any_sink (o ∷ sinks) e =
    elim (either_true (is_some o) (list_any (λ (o : Option Sink). is_some o) sinks) e) [
      | inl here ↦ (0, omega arith, here)
      | inr there ↦
          let (w, w_n, at) = any_sink sinks there in
          (suc w, omega arith, at)
    ]

-- at w, strictly below v, stands a sink
record HasBelow (p : Problem) (v w : ℕ) : Type 0 where
  pub node : w < length p.tree.nodes
  pub other : w ≢ v
  pub over : is_over (parent_in p) v w ≡ true
  pub sink : is_sink p.sinks w ≡ true

below_place : (p : Problem) (v : ℕ) → slice_index_or p.places v false ≡ true → (w : ℕ) × HasBelow p v w
unfolding is_above_sink
below_place p v place =
    let (w, w_n, e) = any_number _ 0 (length p.tree.nodes) (p.places_are.above v place) in
    let (sink, rest) = both_true (is_sink p.sinks w) _ e in
    let (over, other) = both_true (is_over (parent_in p) v w) _ rest in (
      w,
      record {
        node = omega arith;
        other = λ same. false≢true (sym (not_true (w == v) other) ∙ eq-eqb w v same);
        over = over;
        sink = sink;
      },
    )

below_root : (p : Problem) → sink_of p.sinks 0 ≡ None → (w : ℕ) × HasBelow p 0 w
below_root p none =
    let (w, w_n, sink) = any_sink p.sinks p.some_sink in
    let node : w < length p.tree.nodes = omega (arith, p.sinks_each) in (
      w,
      record {
        node = node;
        other = λ same. false≢true (sym (ap (λ (o : Option Sink). is_some o) (ap (sink_of p.sinks) same ∙ none)) ∙ sink);
        over = root_over (parent_in p) (length p.tree.nodes) (rooted_in p) w node;
        sink = sink;
      },
    )

-- a cell stands at a place
cell_place : (p : Problem) (cells : List (Option ℕ)) → IsPlaced p cells → (v : ℕ) → has_cell (cell_in p cells) v ≡ true → slice_index_or p.places v false ≡ true
cell_place p cells is_placed v has = at (slice_index_or cells v None) refl has
  where
    at : (o : Option ℕ) → slice_index_or cells v None ≡ o → is_some (rep_of p.reps o) ≡ true → slice_index_or p.places v false ≡ true
    at None e has = absurd (false≢true has)
    at (Some b) e has = is_placed v b e

pub piece_sinks : (p : Problem) (cells : List (Option ℕ)) → IsPlaced p cells → (v : ℕ) → Begins p cells v → sink_of p.sinks v ≡ None
    → (w : ℕ) × IsDriven p cells v w
piece_sinks p cells is_placed v b none =
    elim (cases_eq v 0) [
      | inl z ↦ found (subst (λ u. (w : ℕ) × HasBelow p u w) (sym z) (below_root p (ap (sink_of p.sinks) (sym z) ∙ none)))
      | inr some ↦ found (below_place p v (cell_place p cells is_placed v (head_other (cell_in p cells) v b.head some)))
    ]
  where
    found : (w : ℕ) × HasBelow p v w → (w : ℕ) × IsDriven p cells v w
    found (w, h) =
        elim (reaches (parent_in p) (cell_in p cells) (falls_in p) v w h.over) [
          | inl inside ↦ (w, record { node = h.node; below = h.other; stands = inl (inside, h.sink) })
          | inr (u, u_w, ends) ↦
              let u_n : u < length p.tree.nodes = omega (arith, h.node) in
              let below : u ≢ v = end_other (parent_in p) (cell_in p cells) (falls_in p) v u ends in
              (u, record { node = u_n; below = below; stands = inr ends })
        ]
