-- The numbers of stages, and their nodes.
use Rattle.std.proofs.Common.{◌≡◌, ℕ, zero, suc, ◌+◌, ◌<◌, Bool, true, cond, List, [], ◌∷◌, ◌++◌, length, get_or, slice_index, Vec, Global, sym, ap, ◌∙◌, subst, arith, inl, inr}
use Rattle.std.specs.List.{filter}
use Rattle.std.proofs.lemmas.Bool.{cases_eq, cases_lt}
use Rattle.std.proofs.lemmas.List.{get_or_append_left, get_or_push, get_or-map, length-append}
use Rattle.elmore.specs.Cells.{has_cell}
use Rattle.elmore.specs.Path.{Falls, nodes}
use Rattle.elmore.specs.Stage.{is_head}
use Rattle.elmore.proofs.HeadLemmas.{head_cell, one_stage}
use Rattle.elmore.proofs.StageLemmas.{stage_self}
use Rattle.cut_laws.specs.Pieces.{Forest}
use Rattle.vg_split.specs.Stages.{heads, heads_to, members, members_to, IsInStage, AreStages}
use Rattle.vg_split.specs.declared.stages.Stages.{Stages}
use Rattle.vg_split.proofs.StageLists.{as_many, filter_more, head_is, head_below, heads_differ}

-- what passes stands behind as many as pass before it
pub record StandsAt (p : ℕ → Bool) (n w : ℕ) : Type 0 where
  pub within : length (filter p (nodes w)) < length (filter p (nodes n))
  pub is : slice_index (filter p (nodes n)) (length (filter p (nodes w))) ≡ w

pub stands_at : (p : ℕ → Bool) (n w : ℕ) → w < n → p w ≡ true → StandsAt p n w
stands_at p zero w low pass = absurd (omega (arith, low))
stands_at p (suc n) w low pass =
    let next : n + 1 ≡ suc n = omega arith in
    subst (λ m. StandsAt p m w) next (elim (cases_lt w n) as (λ _. StandsAt p (n + 1) w) [
      | inl less ↦
          let before = stands_at p n w less pass in
          let more = filter_more p n in
          record {
            within = omega (arith, before.within, ap (λ (l : List ℕ). length l) more, length-append (filter p (nodes n)) (cond (p n) (n ∷ []) []));
            is =
                ap (λ (l : List ℕ). slice_index l (length (filter p (nodes w)))) more
                ∙ get_or_append_left (filter p (nodes n)) (cond (p n) (n ∷ []) []) 0 (length (filter p (nodes w))) before.within ∙ before.is;
          }
      | inr past ↦
          let at : w ≡ n = omega (arith, low, past) in
          let more : filter p (nodes (n + 1)) ≡ filter p (nodes n) ++ n ∷ []
          = filter_more p n ∙ ap (λ b. filter p (nodes n) ++ cond b (n ∷ []) []) (ap p (sym at) ∙ pass) in
          let same : length (filter p (nodes w)) ≡ length (filter p (nodes n)) = ap (λ m. length (filter p (nodes m))) at in
          record {
            within = omega (arith, same, ap (λ (l : List ℕ). length l) more, length-append (filter p (nodes n)) (n ∷ []));
            is =
                ap (λ (l : List ℕ). slice_index l (length (filter p (nodes w)))) more
                ∙ get_or_push (filter p (nodes n)) n 0 (length (filter p (nodes w))) (sym same) ∙ sym at;
          }
    ])

-- the stage that begins at w has the number of the heads before w
pub head_number : (f : Forest) (k : ℕ) → k < length (heads f) → length (heads_to f (slice_index (heads f) k)) ≡ k
head_number f k low =
    let w = slice_index (heads f) k in
    let at = stands_at (is_head f.cell) f.n w (head_below f f.n k low) (head_is f f.n k low) in
    elim (cases_eq (length (heads_to f w)) k) [
      | inl e ↦ e
      | inr other ↦ absurd (heads_differ f f.n (length (heads_to f w)) k at.within low other at.is)
    ]

pub number_below : (f : Forest) (w : ℕ) → w < f.n → is_head f.cell w ≡ true → length (heads_to f w) < length (heads f)
number_below f w low head = (stands_at (is_head f.cell) f.n w low head).within

pub number_head : (f : Forest) (w : ℕ) → w < f.n → is_head f.cell w ≡ true → slice_index (heads f) (length (heads_to f w)) ≡ w
number_head f w low head = (stands_at (is_head f.cell) f.n w low head).is

-- the root's stage comes before those of the cells
pub number_some : (f : Forest) (w : ℕ) → 0 < w → 0 < length (heads_to f w)
number_some f zero some = absurd (omega (arith, some))
number_some f (suc w) some = omega arith

-- a cell is in its own stage
pub own_number : (f : Forest) → Falls f.parent → (number w : ℕ) → w < f.n → has_cell f.cell w ≡ true → IsInStage f (heads f) number w
    → number ≡ length (heads_to f w)
own_number f falls number w low has is =
    let head = head_cell f.cell w has in
    let v_is : slice_index (heads f) number ≡ w
    = one_stage f.parent f.cell falls (slice_index (heads f) number) w (head_is f f.n number is.number_is) head w is.inside (stage_self f.parent f.cell falls w) in
    sym (head_number f number is.number_is) ∙ ap (λ v. length (heads_to f v)) v_is

-- the nodes of a stage by its number
pub stage_nodes : (f : Forest) (stages : Stages) (k : ℕ) (d : Vec ℕ Global) → AreStages f stages → k < length (heads f)
    → (get_or stages.nodes.items k d).items ≡ members f (slice_index (heads f) k)
stage_nodes f stages k d are low =
    let items = λ (v : Vec ℕ Global). v.items in
    sym (get_or-map items stages.nodes.items k d [] (omega (arith, low, as_many f f.n f.n stages are)))
    ∙ ap (λ (l : List (List ℕ)). get_or l k []) are.nodes_are
    ∙ get_or-map (members_to f f.n) (heads f) k 0 [] low
