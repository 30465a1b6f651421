-- The nodes of stages: the net's pins and ports, each in one stage, and the cells, each where one stage begins and
-- another ends.
use Rattle.std.proofs.Common.{◌≡◌, ◌≢◌, ℕ, ◌<◌, ◌≤◌, ◌&&◌, ◌||◌, not, Bool, true, false, cond, List, [], ◌∷◌, length, get_or, slice_index, refl, sym, ap, ◌∙◌, subst, arith, inl, inr}
use Rattle.std.specs.List.{filter}
use Rattle.std.proofs.lemmas.Bool.{cases_Bool, cases_eq, false≢true}
use Rattle.std.proofs.lemmas.Option.{slice_get-get_or}
use Rattle.elmore.specs.Path.{nodes}
use Rattle.elmore.specs.Stage.{in_stage, ends_stage}
use Rattle.elmore.specs.Trees.{parent_of}
use Rattle.elmore.proofs.HeadLemmas.{head_root, one_stage, head_cell}
use Rattle.elmore.proofs.StageLemmas.{end_below, stage_self}
use Rattle.elmore.proofs.StageThroughLemmas.{end_inner, stage_over}
use Rattle.ver_patch_laws.proofs.RelinkedLemmas.{In}
use Rattle.vg_change.specs.Placed.{above, is_old_end, stage_at}
use Rattle.vg_change.proofs.StageLemmas.{stage_is}
use Rattle.cut_laws.specs.Pieces.{in_piece}
use Rattle.cut_laws.proofs.PieceLemmas.{end_in_piece, piece_cases, stage_in_piece}
use Rattle.vg_split.specs.Conditions.{IsSplit}
use Rattle.vg_split.specs.Splits.{NO_CONN, Split, ends_in, forest, head, is_celled, is_end, old_node, stage_from}
use Rattle.vg_split.proofs.SplitLemmas.{falls, from_head, from_some, head_celled, head_low, cell_below}
use Rattle.vg_split.proofs.StageNumberLemmas.{head_number, number_below, number_head}
use Rattle.vg_split.specs.Stages.{heads, members}
use Rattle.spef_write.specs.Sections.{NO_NODE}
use Rattle.change_netlist_laws.proofs.StageLemmas.{above_stage, in_stage_at}
use Rattle.change_netlist_laws.proofs.WireLemmas.{in_range, range_in}
use Rattle.vg_change.proofs.RewireLemmas.{end_conn}
use Rattle.vg_split.proofs.StageLists.{head_is}
use Rattle.elmore.proofs.PathLemmas.{over_le}

-- ---- what passes a test

pub in_filter : (p : ℕ → Bool) (xs : List ℕ) (x : ℕ) → In x xs → p x ≡ true → In x (filter p xs)
in_filter p [] x i e = absurd i
in_filter p (y ∷ ys) x i e = by_test (p y) refl i (λ j. in_filter p ys x j e)
  where
    by_test : (b : Bool) → p y ≡ b → In x (y ∷ ys) → (In x ys → In x (filter p ys)) → In x (cond b (y ∷ filter p ys) (filter p ys))
    by_test true f (inl same) more = inl same
    by_test true f (inr j) more = inr (more j)
    by_test false f (inl same) more = absurd (false≢true (sym f ∙ ap p (sym same) ∙ e))
    by_test false f (inr j) more = more j

pub filter_in : (p : ℕ → Bool) (xs : List ℕ) (x : ℕ) → In x (filter p xs) → In x xs × (p x ≡ true)
filter_in p [] x i = absurd i
filter_in p (y ∷ ys) x i = by_test (p y) refl i (filter_in p ys x)
  where
    by_test : (b : Bool) → p y ≡ b → In x (cond b (y ∷ filter p ys) (filter p ys)) → (In x (filter p ys) → In x ys × (p x ≡ true)) → In x (y ∷ ys) × (p x ≡ true)
    by_test true f (inl same) more = (inl same, ap p same ∙ f)
    by_test true f (inr j) more = let (k, e) = more j in (inr k, e)
    by_test false f j more = let (k, e) = more j in (inr k, e)

module _ (x : Split) (is : IsSplit x) where
  pub in_members : (k w : ℕ) → w < length x.problem.tree.nodes → in_piece (forest x) (head x k) w ≡ true → In w (members (forest x) (head x k))
  in_members k w low inside = in_filter (in_piece (forest x) (head x k)) (nodes (forest x).n) w (in_range 0 (forest x).n w (omega arith) (omega (arith, low))) inside

  pub of_members : (k w : ℕ) → In w (members (forest x) (head x k)) → (w < length x.problem.tree.nodes) × (in_piece (forest x) (head x k) w ≡ true)
  of_members k w i =
      let (j, inside) = filter_in (in_piece (forest x) (head x k)) (nodes (forest x).n) w i in
      let (low, high) = range_in 0 (forest x).n w j in
      (omega (arith, high), inside)

  pub in_ends : (k w : ℕ) → In w (members (forest x) (head x k)) → is_end x w ≡ true → In w (ends_in x k)
  in_ends k w i e = in_filter (is_end x) (members (forest x) (head x k)) w i e

  pub of_ends : (k w : ℕ) → In w (ends_in x k) → In w (members (forest x) (head x k)) × (is_end x w ≡ true)
  of_ends k w i = filter_in (is_end x) (members (forest x) (head x k)) w i

  -- ---- pins and ports of the net

  pub end_bare : (w : ℕ) → is_old_end x w ≡ true → (is_celled x w ≡ false) × (is_end x w ≡ true)
  end_bare w e = by_bits (is_celled x w) (is_end x w) e
    where
      by_bits : (c t : Bool) → (t && not c) ≡ true → (c ≡ false) × (t ≡ true)
      by_bits true true e = absurd (cc)
      by_bits true false e = absurd (cc)
      by_bits false true e = (refl, refl)
      by_bits false false e = absurd (cc)

  pub bare_end : (w : ℕ) → is_celled x w ≡ false → is_end x w ≡ true → is_old_end x w ≡ true
  bare_end w c e = λ i. e i && not (c i)

  -- a node of the net that is no cell's is in one stage
  pub bare_stage : (k w : ℕ) → k < length (heads (forest x)) → In w (members (forest x) (head x k)) → is_celled x w ≡ false → stage_at (forest x) w ≡ k
  bare_stage k w low i bare =
      elim (piece_cases (forest x) (head x k) w (of_members k w i).1) [
        | inl inside ↦ stage_is (forest x) (falls x) k w (record { number_is = low; inside = inside })
        | inr ends ↦ absurd (false≢true (sym bare ∙ (end_inner (forest x).parent (forest x).cell (falls x) (head x k) w ends).here))
      ]

  pub one_of : (k u w : ℕ) → k < length (heads (forest x)) → u < length (heads (forest x)) → is_celled x w ≡ false
      → In w (members (forest x) (head x k)) → In w (members (forest x) (head x u)) → k ≡ u
  one_of k u w k_low u_low bare i j = sym (bare_stage k w k_low i bare) ∙ bare_stage u w u_low j bare

  -- and it is in some stage
  pub own_stage : (w : ℕ) → w < length x.problem.tree.nodes → (stage_at (forest x) w < length (heads (forest x))) × In w (members (forest x) (head x (stage_at (forest x) w)))
  own_stage w low =
      let s = in_stage_at x.problem x.cells w low in
      (s.number_is, in_members (stage_at (forest x) w) w low (stage_in_piece (forest x) (head x (stage_at (forest x) w)) w s.inside))

  -- a connection of the net is at one of its nodes
  pub record IsNodeOf (v : ℕ) : Type 0 where
    pub w : ℕ
    pub low : w < length x.problem.tree.nodes
    pub at : slice_index x.order w ≡ v
    pub end : is_old_end x w ≡ true

  -- a node that is a connection is a pin or a port
  pub conn_end : (w : ℕ) → slice_index x.order w < length x.par.conns → is_old_end x w ≡ true
  conn_end w low =
      let v = slice_index x.order w in
      let few = x.par.sound.joined.few in
      let v_low : v < length x.par.nodes = omega (arith, low, few) in
      let conn_is = slice_get-get_or x.par.conns v NO_CONN low in
      let node_is = slice_get-get_or x.par.nodes v NO_NODE v_low in
      let inner : (old_node x w).inner ≡ false = (x.par.sound.joined.ends v (get_or x.par.conns v NO_CONN) (get_or x.par.nodes v NO_NODE) conn_is node_is).0 in
      let bare : is_celled x w ≡ false = elim (cases_Bool (is_celled x w)) [
        | inl has ↦ absurd (false≢true (sym inner ∙ is.inner w has))
        | inr none ↦ none
      ] in
      bare_end w bare (ap (λ b. is_celled x w || not b) inner ∙ or_last (is_celled x w))
    where
      or_last : (a : Bool) → (a || true) ≡ true
      or_last true = refl
      or_last false = refl

  pub node_of : (v : ℕ) → v < length x.par.conns → IsNodeOf v
  node_of v low =
      let few = x.par.sound.joined.few in
      let (w, w_low, at) = is.order.each v (omega (arith, low, few)) in
      record { w = w; low = omega (arith, w_low, is.tree); at = at; end = conn_end w (omega (arith, at, low)) }

  -- and each pin or port of the net is one
  pub conn_of : (w : ℕ) → w < length x.problem.tree.nodes → is_old_end x w ≡ true → slice_index x.order w < length x.par.conns
  conn_of w low end = end_conn x w (is.order.within w (omega (arith, low, is.tree))) end

  -- ---- cells

  -- a cell in a stage is where the stage begins, or ends it
  pub data CellIn (k w : ℕ) : Type 0 where
    begins : 0 < k → w ≡ head x k → stage_from x w ≡ k → CellIn k w
    ends : w ≢ head x k → above x (stage_from x w) ≡ k → ends_stage (forest x).parent (forest x).cell (head x k) w ≡ true → CellIn k w

  pub above_is : (k j : ℕ) → k < length (heads (forest x)) → ends_stage (forest x).parent (forest x).cell (head x k) (head x j) ≡ true → above x j ≡ k
  above_is k j low e =
      stage_is (forest x) (falls x) k (parent_of x.problem.tree.nodes (head x j))
      (record { number_is = low; inside = (end_inner (forest x).parent (forest x).cell (falls x) (head x k) (head x j) e).above })

  pub cell_in : (k w : ℕ) → k < length (heads (forest x)) → In w (members (forest x) (head x k)) → is_celled x w ≡ true → CellIn k w
  cell_in k w low i has =
      let (w_low, inside) = of_members k w i in
      let at = from_head x w w_low has in
      elim (cases_eq w (head x k)) [
        | inl e ↦
            let from : stage_from x w ≡ k = ap (stage_from x) e ∙ head_number (forest x) k low in
            CellIn.begins (omega (arith, from, from_some x is w has)) e from
        | inr other ↦ elim (piece_cases (forest x) (head x k) w inside) [
          | inl s ↦ absurd (other (one_stage (forest x).parent (forest x).cell (falls x) w (head x k)
              (head_cell (forest x).cell w has) (head_is (forest x) (forest x).n k low) w
              (stage_self (forest x).parent (forest x).cell (falls x) w) s))
          | inr e ↦ CellIn.ends other
              (above_is k (stage_from x w) low (subst (λ v. ends_stage (forest x).parent (forest x).cell (head x k) v ≡ true) (sym at) e)) e
        ]
      ]

  -- the cell at which a stage begins is in it, and ends the one above
  pub cell_begins : (j : ℕ) → j < length (heads (forest x)) → In (head x j) (members (forest x) (head x j))
  cell_begins j low =
      in_members j (head x j) (head_low x j low) (stage_in_piece (forest x) (head x j) (head x j) (stage_self (forest x).parent (forest x).cell (falls x) (head x j)))

  pub record EndsAbove (j : ℕ) : Type 0 where
    pub ends : ends_stage (forest x).parent (forest x).cell (head x (above x j)) (head x j) ≡ true
    pub inside : In (head x j) (members (forest x) (head x (above x j)))
    pub other : head x j ≢ head x (above x j)

  pub ends_above : (j : ℕ) → 0 < j → j < length (heads (forest x)) → EndsAbove j
  ends_above j some low =
      let f = forest x in
      let w = head x j in
      let has = head_celled x j some low in
      let w_low = head_low x j low in
      let above_w : parent_of x.problem.tree.nodes w < w = x.problem.tree.a_tree.smaller w (cell_below x is w has) w_low in
      let s = above_stage x j low in
      let v = head x (above x j) in
      let v_above : v ≤ parent_of x.problem.tree.nodes w
      = over_le f.parent (falls x) v (f.parent w) (stage_over f.parent f.cell v (f.parent w) s.inside) in
      let other : w ≢ v = (λ e. absurd (omega (arith, e, v_above, above_w))) in
      let e : ends_stage f.parent f.cell v w ≡ true
      = end_below f.parent f.cell (falls x) v w (λ e. omega (arith, e, above_w)) other ∙ ap (λ (b : Bool). cond b (in_stage f.parent f.cell v (f.parent w)) false) has ∙ s.inside in
      record { ends = e; inside = in_members (above x j) w w_low (end_in_piece f v w e); other = other }

  -- the root is in the first stage
  pub root_stage : stage_at (forest x) 0 ≡ 0
  root_stage =
      let f = forest x in
      let some : 0 < f.n = x.problem.tree.a_tree.some_node in
      let low = number_below f 0 some (head_root f.cell) in
      let at : head x 0 ≡ 0 = number_head f 0 some (head_root f.cell) in
      stage_is f (falls x) 0 0 (record { number_is = low; inside = ap (λ v. in_stage f.parent f.cell v 0) at ∙ stage_self f.parent f.cell (falls x) 0 })
