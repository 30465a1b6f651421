-- The ends of a stage: the connections of its net, and what each of them was in the net that is split.
use Rattle.std.proofs.Common.{◌≡◌, ℕ, ◌<◌, ◌==◌, Bool, true, false, not, cond, length, slice_index, refl, sym, ap, ◌∙◌, subst, arith, Contains}
use Rattle.std.proofs.lemmas.Bool.{false≢true}
use Rattle.std.proofs.lemmas.List.{get_or_default}
use Rattle.std.proofs.lemmas.List.Elements.{All-contains, Contains-get_or}
use Rattle.spef_net.specs.Statements.{is_at}
use Rattle.spef_net.specs.declared.net.ConnKind.{ConnKind}
use Rattle.spef_net.specs.declared.net.ConnKind.TheVariants.{Pin, Port}
use Rattle.spef_net.specs.declared.net.Direction.TheVariants.{In, Out}
use Rattle.spef_net.specs.declared.net.ParConn.{ParConn}
use Rattle.spef_net.specs.declared.net.ParNet.{ParNet}
use Rattle.vg_design.specs.Designs.{Design, Joined, is_port, name_of}
use Rattle.split_laws.proofs.ConnLemmas.{end_node}
use Rattle.split_laws.proofs.ReadLemmas.{end_stands, stands_name}
use Rattle.split_laws.proofs.ReadPassLemmas.{conns_are as read_conns, end_count}
use Rattle.split_laws.proofs.StageConnLemmas.{IsEndOf, all_ends, conn_is, old_conn_low}
use Rattle.split_laws.specs.ReadNets.{IsReadOf}
use Rattle.split_laws.specs.StagePieces.{IsSplitOf}
use Rattle.vg_split.proofs.KindLemmas.{old_all}
use Rattle.vg_split.specs.Conditions.{IsOld}
use Rattle.vg_split.specs.NewNames.{cell_name}
use Rattle.vg_split.specs.Splits.{NO_CONN, Split, conn_in, ends_in, forest, head, is_celled, kind_of, name_in, net_of, number_of, old_conn, old_node, pin_in, stage_from, way_in}
use Rattle.vg_split.specs.Stages.{heads}
use Rattle.spef_write.proofs.ClearLemmas.{conn_number}
use Rattle.spef_write.proofs.NetLemmas.{conns_are, IsConnOf}

-- ---- pins and ports

module _ (net : ParNet) (conn : ParConn) (there : Contains net.conns conn) where
  is_conn : IsConnOf net.nodes conn
  is_conn = All-contains (IsConnOf net.nodes) net.conns conn (conns_are net) there

  -- a connection with a leaf is a pin
  pub pin_by_name : is_port (name_of net conn.node) ≡ false → conn.kind ≡ Pin
  pin_by_name none = by conn.kind refl is_conn.at
    where
      by : (kind : ConnKind) → conn.kind ≡ kind → is_at kind (name_of net conn.node) ≡ true → kind ≡ Pin
      by Pin e at = refl
      by Port e at = absurd (false≢true (sym none ∙ at))

  -- and a pin has one
  pub name_of_pin : conn.kind ≡ Pin → is_port (name_of net conn.node) ≡ false
  name_of_pin pin = not_true (is_port (name_of net conn.node)) (ap (λ kind. is_at kind (name_of net conn.node)) (sym pin) ∙ is_conn.at)
    where
      not_true : (b : Bool) → not b ≡ true → b ≡ false
      not_true true e = absurd (false≢true e)
      not_true false e = refl

-- ---- what is read

-- a connection of a stage's net is this end of the stage
pub record IsConnAt (x : Split) (k : ℕ) (read : ParNet) (conn : ParConn) (w : ℕ) : Type 0 where
  pub there : Contains (ends_in x k) w
  pub end : IsEndOf x k w
  pub kind : conn.kind ≡ kind_of x w
  pub way : conn.direction ≡ way_in x k w
  pub name : name_of read conn.node ≡ name_in x k w

module _ (d : Design) (n : Joined) (x : Split) (k : ℕ) (read : ParNet) (is : IsReadOf d n x k read) where
  pub end_name : (i : ℕ) → i < length (ends_in x k) → name_of read i ≡ name_in x k (slice_index (ends_in x k) i)
  end_name i low =
      let n_low : i < length read.nodes = omega (arith, low, end_count d n x k read is, read.sound.joined.few) in
      sym (stands_name d n x k read is i n_low) ∙ ap (name_in x k) (end_stands d n x k read is i n_low low)

  pub conn_at : (conn : ParConn) → Contains read.conns conn → (w : ℕ) × IsConnAt x k read conn w
  conn_at conn (i, low, at) =
      let e_low : i < length (ends_in x k) = omega (arith, low, end_count d n x k read is) in
      let same : conn ≡ conn_in x k i
      = sym at ∙ sym (get_or_default read.conns i NO_CONN conn low) ∙ conn_is x k read.conns (read_conns d n x k read is) i e_low in (
        slice_index (ends_in x k) i,
        record {
          there = Contains-get_or (ends_in x k) i 0 e_low;
          end = all_ends x k i 0 e_low;
          kind = ap (λ (c : ParConn). c.kind) same;
          way = ap (λ (c : ParConn). c.direction) same;
          name = ap (λ (c : ParConn). name_of read c.node) same ∙ end_name i e_low;
        },
      )

-- ---- what was there

-- an end that is no cell's pin is a connection of the net that is split
pub record IsKept (n : Joined) (x : Split) (k w : ℕ) : Type 0 where
  pub there : Contains n.par.conns (old_conn x w)
  pub old_name : name_of n.par (old_conn x w).node ≡ (old_node x w).name
  pub name : name_in x k w ≡ (old_node x w).name
  pub kind : kind_of x w ≡ (old_conn x w).kind
  pub way : way_in x k w ≡ (old_conn x w).direction
  pub owner : IsOld x.prefix (old_node x w).name.owner

pub kept_name : (x : Split) (k w : ℕ) → is_celled x w ≡ false → (old_node x w).inner ≡ false → name_in x k w ≡ (old_node x w).name
kept_name x k w bare outer =
    ap
    (λ b.
    cond b (record { owner = cell_name x.prefix (number_of x (stage_from x w)); leaf = pin_in x k w })
    (cond (old_node x w).inner (record { owner = net_of x k; leaf = (old_node x w).name.leaf }) (old_node x w).name))
    bare
    ∙ ap (λ b. cond b (record { owner = net_of x k; leaf = (old_node x w).name.leaf }) (old_node x w).name) outer

module _ (d : Design) (n : Joined) (x : Split) (is : IsSplitOf d n x) (k : ℕ) (low : k < length (heads (forest x))) (w : ℕ) (end : IsEndOf x k w)
    (bare : is_celled x w ≡ false) where
  abbrev v : ℕ
  v = slice_index x.order w

  v_low : v < length x.par.conns
  v_low = old_conn_low d n x is k low w end bare

  pub old_outer : (old_node x w).inner ≡ false
  old_outer = end_node x.par v v_low

  pub kept : IsKept n x k w
  kept = record {
    there = subst (λ (p : ParNet). Contains p.conns (old_conn x w)) is.par (Contains-get_or x.par.conns v NO_CONN v_low);
    old_name =
        ap (λ (p : ParNet). name_of p (old_conn x w).node) (sym is.par)
        ∙ ap (name_of x.par) (conn_number x.par v NO_CONN v_low);
    name = kept_name x k w bare old_outer;
    kind = ap (λ b. cond b Pin (old_conn x w).kind) bare;
    way = ap (λ b. cond b (cond (w == head x k) Out In) (old_conn x w).direction) bare;
    owner = old_all x is.split (λ node. IsOld x.prefix node.name.owner) is.split.new.owners w end.member.low;
  }
