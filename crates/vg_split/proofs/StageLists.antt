-- The nodes of the stages of a forest, when one node more is seen.
use Rattle.std.proofs.Common.{◌≡◌, ◌≢◌, ℕ, zero, suc, ◌+◌, ◌<◌, ◌≤◌, Bool, true, false, not, cond, List, [], ◌∷◌, ◌++◌, length, map, get_or, set, slice_index, Vec, Global, refl, sym, ap, ◌∙◌, subst, arith, inl, inr, Option, Some, None}
use Rattle.std.specs.Prelude.{◌||◌, is_some, slice_index_or}
use Rattle.std.specs.List.{filter, All, AllPairs}
use Rattle.std.proofs.lemmas.Bool.{cases_Bool, cases_eq, cases_lt, false≢true}
use Rattle.std.proofs.lemmas.List.{ext_get_or, get_or_append_left, get_or_push, append-nil, length-append, get_or-map, get_or-set_same, get_or-set_other, length-set, length-map, length_push, map-append, map-id}
use Rattle.std.proofs.lemmas.List.Elements.{All-filter, filter-append, filter_passes}
use Rattle.std.proofs.lemmas.List.FromFn.{get_or-range_with_len, length-range_with_len, map-range_with_len_more}
use Rattle.std.proofs.lemmas.List.Filters.{length-filter_both}
use Rattle.std.proofs.lemmas.List.Kept.{AllPairs-filter}
use Rattle.elmore.specs.Path.{Falls, nodes}
use Rattle.elmore.specs.Cells.{cell_at, has_cell, rep_of}
use Rattle.elmore.specs.declared.rep.Rep.{Rep}
use Rattle.elmore.specs.Stage.{in_stage, ends_stage, is_head}
use Rattle.elmore.proofs.HeadLemmas.{head_other, one_stage}
use Rattle.elmore.proofs.LocalLemmas.{stage_outside, end_outside}
use Rattle.elmore.proofs.PathLemmas.{over_smaller}
use Rattle.elmore.proofs.StageLemmas.{stage_self, stage_below, end_below}
use Rattle.cut_laws.specs.Pieces.{Forest, in_piece}
use Rattle.vg_split.specs.Stages.{heads_to, members_to, IsInStage, AreStagesTo}
use Rattle.vg_split.specs.declared.stages.Stages.{Stages}

-- ---- the first nodes

nodes_more : (n : ℕ) → nodes (n + 1) ≡ nodes n ++ n ∷ []
nodes_more n =
    sym (map-id (nodes (n + 1))) ∙ map-range_with_len_more (λ i. i) 0 n n (omega arith) ∙ ap (λ (l : List ℕ). l ++ n ∷ []) (map-id (nodes n))

pub filter_more : (p : ℕ → Bool) (n : ℕ) → filter p (nodes (n + 1)) ≡ filter p (nodes n) ++ cond (p n) (n ∷ []) []
filter_more p n = ap (filter p) (nodes_more n) ∙ filter-append p (nodes n) (n ∷ [])

pub nodes_rise : (n : ℕ) → AllPairs (λ a b. a < b) (nodes n)
nodes_rise n i j d i_j j_n =
    let j_low : j < n = omega (arith, j_n, length-range_with_len 0 n) in
    omega (arith, i_j, get_or-range_with_len 0 n i d (omega (arith, i_j, j_low)), get_or-range_with_len 0 n j d j_low)

pub nodes_below : (n : ℕ) → All (λ w. w < n) (nodes n)
nodes_below n i d low =
    let i_n : i < n = omega (arith, low, length-range_with_len 0 n) in
    omega (arith, i_n, get_or-range_with_len 0 n i d i_n)

-- ---- heads

pub head_is : (f : Forest) (i k : ℕ) → k < length (heads_to f i) → is_head f.cell (slice_index (heads_to f i) k) ≡ true
head_is f i k low = filter_passes (is_head f.cell) (nodes i) k 0 low

pub head_below : (f : Forest) (i k : ℕ) → k < length (heads_to f i) → slice_index (heads_to f i) k < i
head_below f i k low = All-filter (is_head f.cell) (λ w. w < i) (nodes i) (nodes_below i) k 0 low

pub heads_differ : (f : Forest) (i j k : ℕ) → j < length (heads_to f i) → k < length (heads_to f i) → j ≢ k
    → slice_index (heads_to f i) j ≢ slice_index (heads_to f i) k
heads_differ f i j k j_low k_low other e =
    let rise : AllPairs (λ a b. a < b) (heads_to f i) = AllPairs-filter (λ a b. a < b) (is_head f.cell) (nodes i) (nodes_rise i) in
    elim (cases_lt j k) [
      | inl less ↦ omega (arith, rise j k 0 less k_low, e)
      | inr more ↦ elim (cases_lt k j) [
        | inl less ↦ omega (arith, rise k j 0 less j_low, e)
        | inr same ↦ absurd (other (omega (arith, more, same)))
      ]
    ]

-- ---- one node more

-- a node below one without a parent of its own is in a piece where its parent is in the stage
pub piece_below : (f : Forest) → Falls f.parent → (v w : ℕ) → f.parent w ≢ w → w ≢ v → in_piece f v w ≡ in_stage f.parent f.cell v (f.parent w)
piece_below f falls v w below other =
    ap (λ b. b || ends_stage f.parent f.cell v w) (stage_below f.parent f.cell falls v w below other)
    ∙ ap (λ b. cond (has_cell f.cell w) false (in_stage f.parent f.cell v (f.parent w)) || b) (end_below f.parent f.cell falls v w below other)
    ∙ one (has_cell f.cell w) (in_stage f.parent f.cell v (f.parent w))
  where
    one : (c s : Bool) → cond c false s || cond c s false ≡ s
    one true true = refl
    one true false = refl
    one false true = refl
    one false false = refl

-- no node before v is in its piece
none_before : (f : Forest) → Falls f.parent → (v n : ℕ) → n ≤ v → members_to f n v ≡ []
none_before f falls v zero few = refl
none_before f falls v (suc n) few =
    let over = over_smaller f.parent falls v n (omega (arith, few)) in
    let out : in_piece f v n ≡ false
    = ap (λ b. b || ends_stage f.parent f.cell v n) (stage_outside f.parent f.cell v n over) ∙ end_outside f.parent f.cell v n over in
    let next : n + 1 ≡ suc n = omega arith in
    subst (λ m. members_to f m v ≡ []) next
    (filter_more (in_piece f v) n
    ∙ ap (λ (l : List ℕ). l ++ cond (in_piece f v n) (n ∷ []) []) (none_before f falls v n (omega (arith, few)))
    ∙ ap (λ b. cond b (n ∷ []) []) out)

-- v is the first of its piece
pub first_member : (f : Forest) → Falls f.parent → (v : ℕ) → members_to f (v + 1) v ≡ v ∷ []
first_member f falls v =
    let self : in_piece f v v ≡ true = ap (λ b. b || ends_stage f.parent f.cell v v) (stage_self f.parent f.cell falls v) in
    filter_more (in_piece f v) v
    ∙ ap (λ (l : List ℕ). l ++ cond (in_piece f v v) (v ∷ []) []) (none_before f falls v v (omega arith))
    ∙ ap (λ b. cond b (v ∷ []) []) self

-- a stage more
pub heads_more : (f : Forest) (i : ℕ) → is_head f.cell i ≡ true → heads_to f (i + 1) ≡ heads_to f i ++ i ∷ []
heads_more f i head = filter_more (is_head f.cell) i ∙ ap (λ b. heads_to f i ++ cond b (i ∷ []) []) head

-- no stage more
pub heads_stay : (f : Forest) (i : ℕ) → is_head f.cell i ≡ false → heads_to f (i + 1) ≡ heads_to f i
heads_stay f i none = filter_more (is_head f.cell) i ∙ ap (λ b. heads_to f i ++ cond b (i ∷ []) []) none ∙ append-nil (heads_to f i)

pub in_stage_later : (f : Forest) (i k w : ℕ) (more : List ℕ) → IsInStage f (heads_to f i) k w → IsInStage f (heads_to f i ++ more) k w
in_stage_later f i k w more is = record {
  number_is = omega (arith, is.number_is, length-append (heads_to f i) more);
  inside = subst (λ v. in_stage f.parent f.cell v w ≡ true) (sym (get_or_append_left (heads_to f i) more 0 k is.number_is)) is.inside;
}

-- the node i, whose parent is in the stage of number k, is put into that stage
pub put_last : (f : Forest) → Falls f.parent → (i k : ℕ) (old new : List (List ℕ)) → f.parent i < i → IsInStage f (heads_to f i) k (f.parent i)
    → old ≡ map (members_to f i) (heads_to f i) → new ≡ set old k (get_or old k [] ++ i ∷ []) → new ≡ map (members_to f (i + 1)) (heads_to f i)
put_last f falls i k old new above is old_is new_is = ext_get_or [] new (map (members_to f (i + 1)) (heads_to f i)) long (λ j low. same j (omega (arith, low, count)))
  where
    count : length new ≡ length (heads_to f i)
    count = ap (λ (l : List (List ℕ)). length l) new_is ∙ length-set old k (get_or old k [] ++ i ∷ []) ∙ ap (λ (l : List (List ℕ)). length l) old_is ∙ length-map (heads_to f i) (members_to f i)

    long : length new ≡ length (map (members_to f (i + 1)) (heads_to f i))
    long = count ∙ sym (length-map (heads_to f i) (members_to f (i + 1)))

    -- what was there
    before : (j : ℕ) → j < length (heads_to f i) → get_or old j [] ≡ members_to f i (slice_index (heads_to f i) j)
    before j low = ap (λ (l : List (List ℕ)). get_or l j []) old_is ∙ get_or-map (members_to f i) (heads_to f i) j 0 [] low

    -- what is to be there
    after : (j : ℕ) → j < length (heads_to f i)
        → get_or (map (members_to f (i + 1)) (heads_to f i)) j []
        ≡ members_to f i (slice_index (heads_to f i) j) ++ cond (in_stage f.parent f.cell (slice_index (heads_to f i) j) (f.parent i)) (i ∷ []) []
    after j low =
        get_or-map (members_to f (i + 1)) (heads_to f i) j 0 [] low ∙ filter_more (in_piece f (slice_index (heads_to f i) j)) i
        ∙ ap (λ b. members_to f i (slice_index (heads_to f i) j) ++ cond b (i ∷ []) [])
        (piece_below f falls (slice_index (heads_to f i) j) i (λ e. omega (arith, e, above)) (λ e. omega (arith, sym e, head_below f i j low)))

    same : (j : ℕ) → j < length (heads_to f i) → get_or new j [] ≡ get_or (map (members_to f (i + 1)) (heads_to f i)) j []
    same j low = elim (cases_eq j k) [
      | inl e ↦ own j low e
      | inr other ↦
          ap (λ (l : List (List ℕ)). get_or l j []) new_is ∙ get_or-set_other old k j (get_or old k [] ++ i ∷ []) [] other ∙ before j low
          ∙ sym (append-nil (members_to f i (slice_index (heads_to f i) j)))
          ∙ ap (λ b. members_to f i (slice_index (heads_to f i) j) ++ cond b (i ∷ []) []) (sym (outside j low other)) ∙ sym (after j low)
    ]
      where
        own_k : get_or new k [] ≡ get_or (map (members_to f (i + 1)) (heads_to f i)) k []
        own_k =
            ap (λ (l : List (List ℕ)). get_or l k []) new_is
            ∙ get_or-set_same old k (get_or old k [] ++ i ∷ []) []
            (omega (arith, is.number_is, ap (λ (l : List (List ℕ)). length l) old_is, length-map (heads_to f i) (members_to f i)))
            ∙ ap (λ (l : List ℕ). l ++ i ∷ []) (before k is.number_is)
            ∙ ap (λ b. members_to f i (slice_index (heads_to f i) k) ++ cond b (i ∷ []) []) (sym is.inside) ∙ sym (after k is.number_is)

        own : (j : ℕ) → j < length (heads_to f i) → j ≡ k → get_or new j [] ≡ get_or (map (members_to f (i + 1)) (heads_to f i)) j []
        own j low e = subst (λ m. get_or new m [] ≡ get_or (map (members_to f (i + 1)) (heads_to f i)) m []) (sym e) own_k

        outside : (j : ℕ) → j < length (heads_to f i) → j ≢ k → in_stage f.parent f.cell (slice_index (heads_to f i) j) (f.parent i) ≡ false
        outside j low other = elim (cases_Bool (in_stage f.parent f.cell (slice_index (heads_to f i) j) (f.parent i))) [
          | inl is_in ↦
              absurd (heads_differ f i j k low is.number_is other
              (one_stage f.parent f.cell falls (slice_index (heads_to f i) j) (slice_index (heads_to f i) k) (head_is f i j low) (head_is f i k is.number_is)
              (f.parent i) is_in is.inside))
          | inr out ↦ out
        ]

-- a stage begins at the node i
pub begun_nodes : (f : Forest) → Falls f.parent → (i : ℕ) (old new : List (List ℕ)) → is_head f.cell i ≡ true → old ≡ map (members_to f (i + 1)) (heads_to f i)
    → new ≡ old ++ (i ∷ []) ∷ [] → new ≡ map (members_to f (i + 1)) (heads_to f (i + 1))
begun_nodes f falls i old new head old_is new_is =
    new_is ∙ ap (λ (l : List (List ℕ)). l ++ (i ∷ []) ∷ []) old_is
    ∙ ap (λ (l : List ℕ). map (members_to f (i + 1)) (heads_to f i) ++ l ∷ []) (sym (first_member f falls i))
    ∙ sym (map-append (members_to f (i + 1)) (heads_to f i) (i ∷ [])) ∙ ap (map (members_to f (i + 1))) (sym (heads_more f i head))

-- each of the first i nodes is in the stage whose number stands for it
abbrev pub AreInStages : Forest → ℕ → List ℕ → Type 0
AreInStages f i numbers = (w : ℕ) → w < i → IsInStage f (heads_to f i) (slice_index numbers w) w

-- one node more, where the stages are those, or some more
more_in : (f : Forest) (i number : ℕ) (old new later : List ℕ) → length old ≡ i → AreInStages f i old → new ≡ old ++ number ∷ []
    → heads_to f (i + 1) ≡ heads_to f i ++ later → IsInStage f (heads_to f i ++ later) number i → AreInStages f (i + 1) new
more_in f i number old new later long each new_is heads is w low =
    subst (λ (l : List ℕ). IsInStage f l (slice_index new w) w) (sym heads) (elim (cases_lt w i) [
      | inl less ↦
          let e : slice_index new w ≡ slice_index old w
          = ap (λ (l : List ℕ). slice_index l w) new_is ∙ get_or_append_left old (number ∷ []) 0 w (omega (arith, less, long)) in
          subst (λ m. IsInStage f (heads_to f i ++ later) m w) (sym e) (in_stage_later f i (slice_index old w) w later (each w less))
      | inr past ↦
          let at : w ≡ i = omega (arith, low, past) in
          let e : slice_index new w ≡ number = ap (λ (l : List ℕ). slice_index l w) new_is ∙ get_or_push old number 0 w (omega (arith, at, long)) in
          subst (λ m. IsInStage f (heads_to f i ++ later) m w) (sym e) (subst (λ m. IsInStage f (heads_to f i ++ later) number m) (sym at) is)
    ])

pub begun_each : (f : Forest) → Falls f.parent → (i number : ℕ) (old new : List ℕ) → is_head f.cell i ≡ true → length old ≡ i → AreInStages f i old
    → number ≡ length (heads_to f i) → new ≡ old ++ number ∷ [] → AreInStages f (i + 1) new
begun_each f falls i number old new head long each number_is new_is =
    more_in f i number old new (i ∷ []) long each new_is (heads_more f i head) (record {
      number_is = omega (arith, number_is, length-append (heads_to f i) (i ∷ []));
      inside =
          subst (λ v. in_stage f.parent f.cell v i ≡ true)
          (sym (get_or_push (heads_to f i) i 0 number (omega (arith, number_is)))) (stage_self f.parent f.cell falls i);
    })

-- at a node below the root without a cell no stage begins
no_head : (f : Forest) (i : ℕ) → 0 < i → has_cell f.cell i ≡ false → is_head f.cell i ≡ false
no_head f i some none = elim (cases_Bool (is_head f.cell i)) [
  | inl is_in ↦ absurd (false≢true (sym none ∙ head_other f.cell i is_in (λ e. omega (arith, some, e))))
  | inr out ↦ out
]

-- the node i has no cell and is in its parent's stage
pub joined_each : (f : Forest) → Falls f.parent → (i number : ℕ) (old new : List ℕ) → 0 < i → f.parent i < i → has_cell f.cell i ≡ false → length old ≡ i
    → AreInStages f i old → IsInStage f (heads_to f i) number (f.parent i) → new ≡ old ++ number ∷ [] → AreInStages f (i + 1) new
joined_each f falls i number old new some above none long each is new_is =
    let low = is.number_is in
    let v = slice_index (heads_to f i) number in
    let in_i : in_stage f.parent f.cell v i ≡ true
    = stage_below f.parent f.cell falls v i (λ e. omega (arith, e, above)) (λ e. omega (arith, e, head_below f i number low))
    ∙ ap (λ b. cond b false (in_stage f.parent f.cell v (f.parent i))) none ∙ is.inside in
    more_in f i number old new [] long each new_is (heads_stay f i (no_head f i some none) ∙ sym (append-nil (heads_to f i)))
    (in_stage_later f i number i [] (record { number_is = low; inside = in_i }))

-- there are no more stages than nodes
pub few_heads : (f : Forest) (i : ℕ) → length (heads_to f i) ≤ i
few_heads f i = omega (arith, length-filter_both (is_head f.cell) (λ v. not (is_head f.cell v)) (λ v. refl) (nodes i), length-range_with_len 0 i)

-- there are as many stages as heads
pub as_many : (f : Forest) (i j : ℕ) (stages : Stages) → AreStagesTo f i j stages → length stages.nodes.items ≡ length (heads_to f i)
as_many f i j stages are =
    sym (length-map stages.nodes.items (λ (v : Vec ℕ Global). v.items)) ∙ ap (λ (l : List (List ℕ)). length l) are.nodes_are ∙ length-map (heads_to f i) (members_to f j)

-- before any node there is none
pub first_stages : (f : Forest) (i : ℕ) (stages : Stages) → i ≡ 0 → AreStagesTo f i i stages → AreStagesTo f i (i + 1) stages
first_stages f i stages zero_is are = record {
  nodes_are =
      are.nodes_are ∙ ap (λ m. map (members_to f i) (heads_to f m)) zero_is ∙ sym (ap (λ m. map (members_to f (i + 1)) (heads_to f m)) zero_is);
  one_each = are.one_each;
  each = are.each;
}

-- the node i, which has no cell, was put into its parent's stage
pub joined_stages : (f : Forest) → Falls f.parent → (i number : ℕ) (old new : Stages) → 0 < i → f.parent i < i → has_cell f.cell i ≡ false
    → AreStagesTo f i (i + 1) old → IsInStage f (heads_to f i) number (f.parent i) → new.nodes ≡ old.nodes → new.stage_of.items ≡ old.stage_of.items ++ number ∷ []
    → AreStagesTo f (i + 1) (i + 1) new
joined_stages f falls i number old new some above none are is nodes_are stages_are = record {
  nodes_are =
      ap (λ (v : Vec (Vec ℕ Global) Global). map (λ (v : Vec ℕ Global). v.items) v.items) nodes_are ∙ are.nodes_are
      ∙ ap (map (members_to f (i + 1))) (sym (heads_stay f i (no_head f i some none)));
  one_each = ap (λ (l : List ℕ). length l) stages_are ∙ length_push old.stage_of.items number ∙ ap (λ m. m + 1) are.one_each;
  each = joined_each f falls i number old.stage_of.items new.stage_of.items some above none are.one_each are.each is stages_are;
}

-- whether a placement has a cell at a node
pub some_cell : (reps : List Rep) (cells : List (Option ℕ)) (v : ℕ) → has_cell (cell_at reps cells) v ≡ is_some (slice_index_or cells v None)
some_cell reps cells v = go (slice_index_or cells v None)
  where
    go : (o : Option ℕ) → is_some (rep_of reps o) ≡ is_some o
    go None = refl
    go (Some b) = refl
