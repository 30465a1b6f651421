-- The connections of a stage's net: the first alone drives it, and each other is a sink.
use Rattle.std.proofs.Common.{◌≡◌, ◌≢◌, ℕ, ◌<◌, ◌==◌, ◌||◌, Bool, true, false, not, cond, List, length, get_or, map, slice_index, refl, sym, ap, ◌∙◌, arith, inl, inr}
use Rattle.std.specs.List.{range_with_len, All}
use Rattle.std.proofs.lemmas.Bool.{cases_Bool, eq-eqb, false≢true, ne_eqb}
use Rattle.std.proofs.lemmas.List.Elements.{All-filter, filter_passes}
use Rattle.std.proofs.lemmas.List.FromFn.{get_or-map-range_with_len, length-map-range_with_len}
use Rattle.spef_net.specs.declared.net.ConnKind.TheVariants.{Pin}
use Rattle.spef_net.specs.declared.net.Direction.TheVariants.{In, Out}
use Rattle.spef_net.specs.declared.net.ParConn.{ParConn}
use Rattle.vg_design.specs.Designs.{Design, Joined}
use Rattle.vg_split.specs.Splits.{NO_CONN, Split, conn_in, ends_in, forest, head, is_celled, is_end, kind_of, old_conn, old_node, way_in}
use Rattle.vg_split.specs.Stages.{heads, members}
use Rattle.spef_wire.specs.Refusals.{drives, drives_at, is_both}
use Rattle.split_laws.specs.StagePieces.{IsSplitOf}
use Rattle.split_laws.proofs.ConnLemmas.{conn_low, each_one_way}
use Rattle.split_laws.proofs.MemberLemmas.{IsMember, all_members, head_least}
use Rattle.split_laws.proofs.StageLemmas.{bare_head, old_low, other_old, own_one_way, root_driver}

-- a connection of a stage
pub record IsEndOf (x : Split) (k w : ℕ) : Type 0 where
  pub member : IsMember x k w
  pub end : is_end x w ≡ true

pub all_ends : (x : Split) (k : ℕ) → All (IsEndOf x k) (ends_in x k)
all_ends x k i d low =
    let ws = members (forest x) (head x k) in
    record { member = All-filter (is_end x) (IsMember x k) ws (all_members x k) i d low; end = filter_passes (is_end x) ws i d low }

-- the connection of a number
pub conn_count : (x : Split) (k : ℕ) (conns : List ParConn) → conns ≡ map (conn_in x k) (range_with_len 0 (length (ends_in x k)))
    → length conns ≡ length (ends_in x k)
conn_count x k conns are = ap (λ (l : List ParConn). length l) are ∙ length-map-range_with_len (conn_in x k) 0 (length (ends_in x k))

pub conn_is : (x : Split) (k : ℕ) (conns : List ParConn) → conns ≡ map (conn_in x k) (range_with_len 0 (length (ends_in x k)))
    → (i : ℕ) → i < length (ends_in x k) → get_or conns i NO_CONN ≡ conn_in x k i
conn_is x k conns are i low =
    ap (λ (l : List ParConn). get_or l i NO_CONN) are ∙ get_or-map-range_with_len (conn_in x k) 0 (length (ends_in x k)) i i NO_CONN low (omega arith)

-- it drives, or goes both ways
abbrev pub drives_in : Split → ℕ → ℕ → Bool
drives_in x k w = drives_at (kind_of x w) (way_in x k w)

module _ (d : Design) (n : Joined) (x : Split) (is : IsSplitOf d n x) (k : ℕ) (low : k < length (heads (forest x))) where
  -- a connection of the net that is split
  pub old_conn_low : (w : ℕ) → IsEndOf x k w → is_celled x w ≡ false → slice_index x.order w < length x.par.conns
  old_conn_low w end bare = conn_low x.par (slice_index x.order w) (old_low d n x is w end.member.low) (outer (old_node x w).inner bare end.end)
    where
      outer : (inner : Bool) → is_celled x w ≡ false → (is_celled x w || not inner) ≡ true → inner ≡ false
      outer true none e = absurd (false≢true (sym (ap (λ b. b || false) none) ∙ e))
      outer false none e = refl

  pub kinds : (w : ℕ) (celled first : Bool) → is_celled x w ≡ celled → (w == head x k) ≡ first
      → drives_in x k w ≡ drives_at (cond celled Pin (old_conn x w).kind) (cond celled (cond first Out In) (old_conn x w).direction)
  kinds w celled first has here = λ i. drives_at (cond (has i) Pin (old_conn x w).kind) (cond (has i) (cond (here i) Out In) (old_conn x w).direction)

  -- the one where the stage begins drives
  pub head_drives : drives_in x k (head x k) ≡ true
  head_drives = elim (cases_Bool (is_celled x (head x k))) [
    | inl has ↦ kinds (head x k) true true has (eq-eqb (head x k) (head x k) refl)
    | inr bare ↦
        kinds (head x k) false true bare (eq-eqb (head x k) (head x k) refl)
        ∙ ap (λ w. drives (old_conn x w)) (bare_head d n x is k low bare) ∙ (root_driver d n x is).here
  ]

  -- another does not
  pub end_sinks : (w : ℕ) → IsEndOf x k w → w ≢ head x k → drives_in x k w ≡ false
  end_sinks w end other = elim (cases_Bool (is_celled x w)) [
    | inl has ↦ kinds w true false has (ne_eqb w (head x k) other)
    | inr bare ↦
        kinds w false false bare (ne_eqb w (head x k) other)
        ∙ (root_driver d n x is).others (slice_index x.order w) (old_conn_low w end bare)
        (other_old d n x is w (let least = head_least x k w end.member in omega (arith, least, other)) end.member.low)
  ]

  -- none goes both ways
  pub end_one_way : (w : ℕ) → IsEndOf x k w → is_both (way_in x k w) ≡ false
  end_one_way w end = elim (cases_Bool (is_celled x w)) [
    | inl has ↦ ap (λ b. is_both (cond b (cond (w == head x k) Out In) (old_conn x w).direction)) has ∙ either (w == head x k)
    | inr bare ↦
        ap (λ b. is_both (cond b (cond (w == head x k) Out In) (old_conn x w).direction)) bare
        ∙ each_one_way x.par.conns (own_one_way d n x is) (slice_index x.order w) (old_conn_low w end bare)
  ]
    where
      either : (first : Bool) → is_both (cond first Out In) ≡ false
      either true = refl
      either false = refl
