-- The wires of a divided net's tree lead down the chains.
use Rattle.std.proofs.Common.{◌≡◌, ℕ, ◌+◌, ◌<◌, List, sym, ap, ◌∙◌, arith, inl, inr, length, slice_index}
use Rattle.std.proofs.lemmas.Bool.{cases_eq}
use Rattle.elmore.specs.Trees.{IsTree, parent_of, resistance}
use Rattle.elmore.specs.declared.tree.Node.{Node}
use Rattle.elmore.proofs.RootLemmas.{from_root}
use Rattle.elmore.proofs.TreeLemmas.{tree_of}
use Rattle.rc_tree.specs.Chains.{edge_at, Joins}
use Rattle.rc_tree.specs.Answers.{AreWires}
use Rattle.cut_laws.specs.PieceNets.{NumberedNet}
use Rattle.divided_net_laws.proofs.ChainLemmas.{IsPart, AreChains}

-- the wire of the new tree's node x is the part d, from above, of the chain j
pub record IsDown (count parts : ℕ) (new : List Node) (new_order wires : List ℕ) (pos r index : ℕ → ℕ → ℕ)
    (x j d : ℕ) : Type 0 where
  pub j_n : j < count
  pub d_n : d < parts
  pub number : slice_index wires x ≡ index j d
  pub here : slice_index new_order x ≡ pos j (d + 1)
  pub above : slice_index new_order (parent_of new x) ≡ pos j d
  pub wire : resistance new x ≡ r j d

-- each wire of the new tree leads down a chain
pub downs : (parts : ℕ) (net other : NumberedNet) (to : ℕ → ℕ) (old : List Node) (order : List ℕ) (low : ℕ → ℕ)
    (pos r index : ℕ → ℕ → ℕ)
    → AreChains parts net other to old order low pos r index
    → (new : List Node) (new_order wires : List ℕ) → IsTree new → slice_index new_order 0 ≡ to net.root
    → AreWires other.edges new new_order wires
    → (x : ℕ) → x < length new → 0 < x
    → (w : ℕ × ℕ) × IsDown (length net.edges) parts new new_order wires pos r index x w.0 w.1
downs parts net other to old order low pos r index c new new_order wires tree begins a =
    from_root (parent_of new) (length new) (tree_of new tree)
    (λ x. 0 < x → (w : ℕ × ℕ) × IsDown (length net.edges) parts new new_order wires pos r index x w.0 w.1)
    (λ none. absurd (omega arith))
    (λ x x_0 x_m more _.
    let wire = a.wire x x_0 x_m in
    let (w, part) = c.each (slice_index wires x) wire.number in
    step x x_0 x_m more w.0 w.1 part wire.r part.joins wire.joins)
  where
    -- the wire of x leads down
    Down : ℕ → Type 0
    Down x = (w : ℕ × ℕ) × IsDown (length net.edges) parts new new_order wires pos r index x w.0 w.1

    -- else the parent had the same wire
    back : (x : ℕ) → 0 < x → x < length new
        → (0 < parent_of new x → Down (parent_of new x))
        → (j d : ℕ) → IsPart (length net.edges) parts other.edges pos r index (slice_index wires x) j d
        → slice_index new_order (parent_of new x) ≡ pos j (d + 1) → ⊥
    back x x_0 x_m more j d part up =
        elim (cases_eq (parent_of new x) 0) [
          | inl e ↦ c.not_root j d part.j_n part.d_n (sym up ∙ ap (slice_index new_order) e ∙ begins)
          | inr e ↦
              let (w, is) = more (omega arith) in
              let (j_same, d_same) = c.once w.0 w.1 j d is.j_n is.d_n part.j_n part.d_n (sym is.here ∙ up) in
              a.once (parent_of new x) x (omega arith) (tree.smaller x x_0 x_m) x_m
              (is.number ∙ ap (λ k. index k w.1) j_same ∙ ap (index j) d_same ∙ sym part.number)
        ]

    step : (x : ℕ) → 0 < x → x < length new
        → (0 < parent_of new x → Down (parent_of new x))
        → (j d : ℕ) → IsPart (length net.edges) parts other.edges pos r index (slice_index wires x) j d
        → resistance new x ≡ (edge_at other.edges (slice_index wires x)).2
        → Joins (edge_at other.edges (slice_index wires x)) (pos j d) (pos j (d + 1))
        → Joins (edge_at other.edges (slice_index wires x)) (slice_index new_order (parent_of new x))
        (slice_index new_order x)
        → (w : ℕ × ℕ) × IsDown (length net.edges) parts new new_order wires pos r index x w.0 w.1
    step x x_0 x_m more j d part res (inl (p, q)) (inl (u, v)) = (
      (j, d),
      record {
        j_n = part.j_n;
        d_n = part.d_n;
        number = part.number;
        here = sym v ∙ q;
        above = sym u ∙ p;
        wire = res ∙ part.res;
      },
    )
    step x x_0 x_m more j d part res (inr (p, q)) (inr (u, v)) = (
      (j, d),
      record {
        j_n = part.j_n;
        d_n = part.d_n;
        number = part.number;
        here = sym u ∙ p;
        above = sym v ∙ q;
        wire = res ∙ part.res;
      },
    )
    step x x_0 x_m more j d part res (inl (p, q)) (inr (u, v)) = absurd (back x x_0 x_m more j d part (sym v ∙ q))
    step x x_0 x_m more j d part res (inr (p, q)) (inl (u, v)) = absurd (back x x_0 x_m more j d part (sym u ∙ p))
