-- The delays and the inverters of a piece are those of the net.
use Rattle.std.proofs.Common.{◌==◌, ◌≡◌, ◌≢◌, ℕ, ◌+◌, ◌*◌, ◌<◌, true, false, List, refl, sym, ap, ◌∙◌, cond, arith, inl, inr, Option, None, Some, length, is_some}
use Rattle.std.proofs.lemmas.Bool.{cases_eq, eq-eqb, ne_eqb, false≢true}
use Rattle.elmore.specs.Path.{Falls}
use Rattle.elmore.specs.Cells.{cell_delay, is_inverter}
use Rattle.elmore.specs.Stage.{in_stage, load, input_load}
use Rattle.elmore.specs.Delay.{delay_from, inverters_from}
use Rattle.elmore.specs.Trees.{parent_of, resistance}
use Rattle.elmore.specs.Wire.{delay_in, downstream_in}
use Rattle.elmore.specs.declared.tree.Node.{Node}
use Rattle.elmore.specs.declared.rep.Rep.{Rep}
use Rattle.elmore.proofs.RootLemmas.{from_root}
use Rattle.elmore.proofs.TreeLemmas.{tree_of, root_delay, next_delay}
use Rattle.elmore.proofs.PlacedDelayLemmas.{delay_self, delay_below}
use Rattle.elmore.proofs.PlacedInverterLemmas.{step_inverters, inverters_self, inverters_below}
use Rattle.elmore.proofs.StageThroughLemmas.{stage_inner}
use Rattle.cut_laws.specs.Pieces.{Forest, IsPieceOf}
use Rattle.cut_laws.proofs.PieceLemmas.{piece_above}
use Rattle.cut_laws.proofs.EmbeddingLemmas.{edge_moves}
use Rattle.cut_laws.proofs.PieceLoadLemmas.{piece_embedded, piece_load}

-- a node of the piece below its root
pub piece_other : (f : Forest) (v : ℕ) (piece : List Node) (at : ℕ → ℕ)
    → IsPieceOf f v piece at → (i : ℕ) → 0 < i → i < length piece → at i ≢ v
piece_other f v piece at p i i_0 i_m e = absurd (omega (arith, p.once i 0 i_m p.a_tree.some_node (e ∙ sym p.root)))

-- no cell stands between the root and another node of the piece
pub none_between : (f : Forest) (v : ℕ) (piece : List Node) (at : ℕ → ℕ)
    → Falls f.parent → IsPieceOf f v piece at → (i : ℕ) → 0 < i → i < length piece → 0 < parent_of piece i
    → f.cell (at (parent_of piece i)) ≡ None
none_between f v piece at falls p i i_0 i_m k_0 =
    let k_m : parent_of piece i < length piece = omega (arith, p.a_tree.smaller i i_0 i_m) in
    let above : in_stage f.parent f.cell v (at (parent_of piece i)) ≡ true =
    ap (in_stage f.parent f.cell v) (p.edges i i_0 i_m)
    ∙ piece_above f falls v (at i) (p.inside i i_m) (piece_other f v piece at p i i_0 i_m) in
    none (f.cell (at (parent_of piece i)))
    (stage_inner f.parent f.cell falls v (at (parent_of piece i)) above (piece_other f v piece at p (parent_of piece i) k_0 k_m)).here
  where
    none : (o : Option Rep) → is_some o ≡ false → o ≡ None
    none None e = refl
    none (Some rep) e = absurd (false≢true (sym e))

-- what is added at a node i of the piece, but not at the root
abbrev pub below_root : ℕ → ℕ → ℕ
below_root i x = cond (i == 0) 0 x

pub none_at_parent : (k x : ℕ) → (0 < k → x ≡ 0) → below_root k x ≡ 0
none_at_parent k x none =
    elim (cases_eq k 0) [
      | inl e ↦ rw (eq-eqb k 0 e) refl
      | inr e ↦ rw (ne_eqb k 0 e) (none (omega arith))
    ]

pub at_node : (i x : ℕ) → 0 < i → below_root i x ≡ x
at_node i x i_0 = let e : i ≢ 0 = λ z. absurd (omega arith) in rw (ne_eqb i 0 e) refl

-- the delay of the cell at u into its load, if there is one
abbrev own_cell : Forest → ℕ → ℕ
own_cell f u = cell_delay (f.cell u) (load f.parent f.c f.cell f.n u)

pub piece_delay : (f : Forest) (v : ℕ) (piece : List Node) (at : ℕ → ℕ)
    → Falls f.parent → IsPieceOf f v piece at → (i : ℕ) → i < length piece
    → delay_from f.parent f.r f.c f.cell f.n v (at i)
    ≡ own_cell f v + delay_in piece i + below_root i (own_cell f (at i))
piece_delay f v piece at falls p =
    from_root (parent_of piece) (length piece) (tree_of piece p.a_tree)
    (λ i. delay_from f.parent f.r f.c f.cell f.n v (at i) ≡ own_cell f v + delay_in piece i + below_root i (own_cell f (at i)))
    (omega (
      arith,
      ap (delay_from f.parent f.r f.c f.cell f.n v) p.root,
      delay_self f.parent falls f.r f.c f.cell f.n v,
      root_delay piece p.a_tree,
    ))
    (λ i i_0 i_m more.
    let small : parent_of piece i < i = p.a_tree.smaller i i_0 i_m in
    omega (
      arith,
      more,
      delay_below f.parent falls f.r f.c f.cell f.n v (at i)
          (edge_moves (parent_of piece) (length piece) f.parent at (piece_embedded f v piece at falls p) i i_0 i_m)
          (piece_other f v piece at p i i_0 i_m),
      ap (delay_from f.parent f.r f.c f.cell f.n v) (p.edges i i_0 i_m),
      next_delay piece p.a_tree i i_0 i_m,
      wire i i_0 i_m,
      none_at_parent (parent_of piece i) (own_cell f (at (parent_of piece i)))
          (λ k_0. ap (λ (o : Option Rep). cell_delay o (load f.parent f.c f.cell f.n (at (parent_of piece i))))
          (none_between f v piece at falls p i i_0 i_m k_0)),
      at_node i (own_cell f (at i)) i_0,
    ))
  where
    wire : (i : ℕ) → 0 < i → i < length piece → resistance piece i * downstream_in piece i ≡ f.r (at i) * input_load f.parent f.c f.cell f.n (at i)
    wire i i_0 i_m = rw (p.wires i i_0 i_m, piece_load f v piece at falls p i i_0 i_m) refl

pub piece_inverters : (f : Forest) (v : ℕ) (piece : List Node) (at : ℕ → ℕ)
    → Falls f.parent → IsPieceOf f v piece at → (i : ℕ) → i < length piece
    → inverters_from f.parent f.cell v (at i) ≡ step_inverters f.cell v + below_root i (step_inverters f.cell (at i))
piece_inverters f v piece at falls p =
    from_root (parent_of piece) (length piece) (tree_of piece p.a_tree)
    (λ i. inverters_from f.parent f.cell v (at i) ≡ step_inverters f.cell v + below_root i (step_inverters f.cell (at i)))
    (omega (arith, ap (inverters_from f.parent f.cell v) p.root, inverters_self f.parent falls f.cell v))
    (λ i i_0 i_m more.
    let small : parent_of piece i < i = p.a_tree.smaller i i_0 i_m in
    omega (
      arith,
      more,
      inverters_below f.parent falls f.cell v (at i) (edge_moves (parent_of piece) (length piece) f.parent at (piece_embedded f v piece at falls p) i i_0 i_m)
          (piece_other f v piece at p i i_0 i_m),
      ap (inverters_from f.parent f.cell v) (p.edges i i_0 i_m),
      none_at_parent (parent_of piece i) (step_inverters f.cell (at (parent_of piece i)))
          (λ k_0. ap (λ (o : Option Rep). cond (is_inverter o) 1 0) (none_between f v piece at falls p i i_0 i_m k_0)),
      at_node i (step_inverters f.cell (at i)) i_0,
    ))

-- the same for the nodes below the root
pub piece_delay_below : (f : Forest) (v : ℕ) (piece : List Node) (at : ℕ → ℕ)
    → Falls f.parent → IsPieceOf f v piece at → (i : ℕ) → 0 < i → i < length piece
    → delay_from f.parent f.r f.c f.cell f.n v (at i)
    ≡ own_cell f v + delay_in piece i + own_cell f (at i)
piece_delay_below f v piece at falls p i i_0 i_m =
    omega (
      arith,
      piece_delay f v piece at falls p i i_m,
      at_node i (own_cell f (at i)) i_0,
    )

pub piece_inverters_below : (f : Forest) (v : ℕ) (piece : List Node) (at : ℕ → ℕ)
    → Falls f.parent → IsPieceOf f v piece at → (i : ℕ) → 0 < i → i < length piece
    → inverters_from f.parent f.cell v (at i) ≡ step_inverters f.cell v + step_inverters f.cell (at i)
piece_inverters_below f v piece at falls p i i_0 i_m =
    omega (arith, piece_inverters f v piece at falls p i i_m, at_node i (step_inverters f.cell (at i)) i_0)
