-- The loads of a piece are those of the net.
use Rattle.std.proofs.Common.{◌≡◌, ◌≢◌, ℕ, ◌+◌, ◌<◌, Bool, true, false, ◌||◌, List, refl, sym, ap, ◌∙◌, eqb, cond, arith, inl, inr, Option, None, Some, length, is_some}
use Rattle.std.proofs.lemmas.Bool.{eq-eqb, ne_eqb, cases_eq, cases_Bool, false≢true}
use Rattle.std.specs.List.{sum_by}
use Rattle.elmore.specs.Path.{Falls, is_over, nodes}
use Rattle.elmore.specs.Cells.{input_capacitance}
use Rattle.elmore.specs.Stage.{in_stage, ends_stage, load, input_load, seen}
use Rattle.elmore.specs.Trees.{parent_of, capacitance}
use Rattle.elmore.specs.Wire.{downstream_in}
use Rattle.elmore.specs.declared.tree.Node.{Node}
use Rattle.elmore.specs.declared.rep.Rep.{Rep}
use Rattle.elmore.proofs.PathLemmas.{over_self}
use Rattle.elmore.proofs.StageLemmas.{stage_self}
use Rattle.elmore.proofs.SumLemmas.{sum_of_both, sum_of_same, sum_of_alike, sum_at}
use Rattle.elmore.proofs.TreeLemmas.{tree_of}
use Rattle.elmore.proofs.HungLoadLemmas.{load_parts, stage_part, ends_part}
use Rattle.elmore.proofs.WireLemmas.{downstream_sum}
use Rattle.elmore.proofs.StageThroughLemmas.{stage_inner, end_inner, stage_through, end_through, stage_ended, end_ended}
use Rattle.elmore.proofs.LocalLemmas.{stage_outside, end_outside}
use Rattle.cut_laws.specs.Pieces.{Forest, in_piece, piece_capacitance, IsPieceOf}
use Rattle.cut_laws.proofs.PieceLemmas.{piece_cases, stage_no_end}
use Rattle.cut_laws.proofs.EmbeddingLemmas.{IsEmbedded, over_map, sum_map}

pub piece_embedded : (f : Forest) (v : ℕ) (piece : List Node) (at : ℕ → ℕ)
    → Falls f.parent → IsPieceOf f v piece at → IsEmbedded (parent_of piece) (length piece) f.parent at
piece_embedded f v piece at falls p = record {
  tree = tree_of piece p.a_tree;
  some = p.a_tree.some_node;
  falls = falls;
  once = p.once;
  edges = p.edges;
}

-- what w adds to the capacitance at or below u, in the piece of v; and what all nodes of the piece add
abbrev part_at : Forest → ℕ → ℕ → ℕ → ℕ
part_at f v u w = cond (is_over f.parent u w) (piece_capacitance f v w) 0

abbrev piece_part : Forest → ℕ → ℕ → ℕ
piece_part f v u = sum_by (λ w. cond (in_piece f v w) (part_at f v u w) 0) (nodes f.n)

-- the capacitance below a node of the piece, by the nodes of the forest
piece_sum : (f : Forest) (v : ℕ) (piece : List Node) (at : ℕ → ℕ)
    → Falls f.parent → IsPieceOf f v piece at → (i : ℕ) → i < length piece
    → downstream_in piece i ≡ piece_part f v (at i)
piece_sum f v piece at falls p i i_m =
    downstream_sum (parent_of piece) (capacitance piece) (length piece) i
    ∙ sum_of_alike _ (λ j. part_at f v (at i) (at j)) (length piece)
    (λ j j_m. rw (over_map (parent_of piece) (length piece) f.parent at (piece_embedded f v piece at falls p) i i_m j j_m, p.capacitances j j_m) refl)
    ∙ sum_map at (length piece) f.n (in_piece f v) (record { within = p.within; inside = p.inside; once = p.once; each = p.each })
    (part_at f v (at i))

in_part : (s e : Bool) (x y : ℕ) → (s ≡ true → e ≡ false) → cond (s || e) (cond s x y) 0 ≡ cond s x 0 + cond e y 0
in_part true true x y apart = absurd (false≢true (sym (apart refl)))
in_part true false x y apart = omega arith
in_part false true x y apart = omega arith
in_part false false x y apart = refl

out_part : (b : Bool) → cond {A = ℕ} b 0 0 ≡ 0
out_part true = refl
out_part false = refl

-- at and below a node of the stage they add that node's load
stage_part_is : (f : Forest) → Falls f.parent → (v u : ℕ) → in_stage f.parent f.cell v u ≡ true → piece_part f v u ≡ load f.parent f.c f.cell f.n u
unfolding stage_part ends_part
stage_part_is f falls v u inside =
    omega (
      arith,
      load_parts f.parent f.c f.cell f.n u,
      sum_of_same _ _ (nodes f.n) each,
      sum_of_both (λ w. cond (in_stage f.parent f.cell u w) (f.c w) 0)
          (λ w. cond (ends_stage f.parent f.cell u w) (input_capacitance (f.cell w)) 0) (nodes f.n),
    )
  where
    each : (w : ℕ) → cond (in_piece f v w) (part_at f v u w) 0
        ≡ cond (in_stage f.parent f.cell u w) (f.c w) 0 + cond (ends_stage f.parent f.cell u w) (input_capacitance (f.cell w)) 0
    each w =
        elim (cases_Bool (is_over f.parent u w)) [
          | inl over ↦
              rw (over, sym (stage_through f.parent f.cell falls v u inside w over), sym (end_through f.parent f.cell falls v u inside w over))
              (in_part (in_stage f.parent f.cell v w) (ends_stage f.parent f.cell v w) (f.c w) (input_capacitance (f.cell w))
              (stage_no_end f.parent f.cell falls v w))
          | inr out ↦
              rw (out, stage_outside f.parent f.cell u w out, end_outside f.parent f.cell u w out)
              (out_part (in_piece f v w))
        ]

-- and at a cell that ends the stage, below which there is nothing of it, the cell's input
end_part_is : (f : Forest) → Falls f.parent → (v u : ℕ) → u < f.n → ends_stage f.parent f.cell v u ≡ true
    → piece_part f v u ≡ input_load f.parent f.c f.cell f.n u
unfolding input_load
end_part_is f falls v u u_n ends =
    sum_of_same _ (λ w. cond (eqb w u) (input_capacitance (f.cell w)) 0) (nodes f.n) each
    ∙ sum_at (λ w. input_capacitance (f.cell w)) u 0 f.n (omega arith) (omega arith)
    ∙ own (f.cell u) (end_inner f.parent f.cell falls v u ends).here
  where
    own : (o : Option Rep) → is_some o ≡ true → input_capacitance o ≡ seen o (load f.parent f.c f.cell f.n u)
    own None e = absurd (false≢true e)
    own (Some rep) e = refl

    each : (w : ℕ) → cond (in_piece f v w) (part_at f v u w) 0 ≡ cond (eqb w u) (input_capacitance (f.cell w)) 0
    each w =
        elim (cases_eq w u) [
          | inl e ↦
              rw (
                e,
                eq-eqb u u refl,
                over_self f.parent falls u,
                stage_ended f.parent f.cell falls v u ends u (over_self f.parent falls u),
                ends,
              )
              refl
          | inr w_u ↦
              elim (cases_Bool (is_over f.parent u w)) [
                | inl over ↦
                    rw (
                      ne_eqb w u w_u,
                      stage_ended f.parent f.cell falls v u ends w over,
                      end_ended f.parent f.cell falls v u ends w over w_u,
                    )
                    refl
                | inr out ↦ rw (ne_eqb w u w_u, out) (out_part (in_piece f v w))
              ]
        ]

-- the load of the piece's root is that of v
pub piece_root_load : (f : Forest) (v : ℕ) (piece : List Node) (at : ℕ → ℕ)
    → Falls f.parent → IsPieceOf f v piece at → downstream_in piece 0 ≡ load f.parent f.c f.cell f.n v
piece_root_load f v piece at falls p =
    piece_sum f v piece at falls p 0 p.a_tree.some_node
    ∙ ap (piece_part f v) p.root
    ∙ stage_part_is f falls v v (stage_self f.parent f.cell falls v)

-- and that of each other node what is seen of its node from above
pub piece_load : (f : Forest) (v : ℕ) (piece : List Node) (at : ℕ → ℕ)
    → Falls f.parent → IsPieceOf f v piece at → (i : ℕ) → 0 < i → i < length piece
    → downstream_in piece i ≡ input_load f.parent f.c f.cell f.n (at i)
unfolding input_load
piece_load f v piece at falls p i i_0 i_m =
    piece_sum f v piece at falls p i i_m
    ∙ elim (piece_cases f v (at i) (p.inside i i_m)) [
      | inl inside ↦
          stage_part_is f falls v (at i) inside
          ∙ bare (f.cell (at i)) (stage_inner f.parent f.cell falls v (at i) inside other).here
      | inr ends ↦ end_part_is f falls v (at i) (p.within i i_m) ends
    ]
  where
    other : at i ≢ v
    other e = absurd (omega (arith, p.once i 0 i_m p.a_tree.some_node (e ∙ sym p.root)))

    bare : (o : Option Rep) → is_some o ≡ false → load f.parent f.c f.cell f.n (at i) ≡ seen o (load f.parent f.c f.cell f.n (at i))
    bare None e = refl
    bare (Some rep) e = absurd (false≢true (sym e))
