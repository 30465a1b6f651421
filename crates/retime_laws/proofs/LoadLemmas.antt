-- The sinks of a stage have the loads that they had, and cells that end it those of their inputs.
use Rattle.std.proofs.Common.{◌≡◌, ◌≢◌, ℕ, ◌<◌, ◌==◌, ◌&&◌, ◌||◌, Bool, true, false, not, cond, length, slice_index, refl, sym, ap, ◌∙◌, Contains, inl, inr}
use Rattle.std.specs.Prelude.{unwrap_or}
use Rattle.std.proofs.lemmas.Bool.{cases_Bool, cases_lt, eq-eqb, false≢true, ne_eqb, or_left}
use Rattle.vg_cons.specs.Rows.{load_of}
use Rattle.vg_design.specs.Designs.{Design, Joined, is_port, name_of, pin_cap_of, sink_load}
use Rattle.vg_design.specs.Parts.{load_at}
use Rattle.split_laws.proofs.ConnLemmas.{end_node, no_sink}
use Rattle.split_laws.proofs.ListLemmas.{contains_filter}
use Rattle.split_laws.proofs.MemberLemmas.{IsMember, member}
use Rattle.split_laws.specs.ReadPieces.{is_sink_in}
use Rattle.split_laws.specs.StagePieces.{load_in}
use Rattle.vg_split.specs.Splits.{Split, ends_in, forest, head, is_celled, is_end, name_in, old_node, repeater_at}
use Rattle.vg_split.specs.Stages.{heads, members}
use Rattle.spef_wire.specs.Wires.{is_sink_node}
use Rattle.retime_laws.specs.Laws.{StagesHaveLoads}
use Rattle.retime_laws.specs.NewStages.{HasStages, IsPut, stage_net}
use Rattle.retime_laws.proofs.EndLemmas.{IsKept, kept}
use Rattle.retime_laws.proofs.PinLemmas.{cap_kept, cap_new, no_port}

-- a sink of the net that is split is no inner node
pub sink_inner : (x : Split) (w : ℕ) → is_sink_node x.par (slice_index x.order w) ≡ true → (old_node x w).inner ≡ false
sink_inner x w sink = elim (cases_lt (slice_index x.order w) (length x.par.conns)) [
  | inl less ↦ end_node x.par (slice_index x.order w) less
  | inr later ↦ absurd (false≢true (sym (no_sink x.par (slice_index x.order w) later) ∙ sink))
]

module _ (d : Design) (n : Joined) (x : Split) (new : Design) (put : IsPut d n x) (has : HasStages d n x new) (k : ℕ) (low : k < length (heads (forest x)))
    (w : ℕ) (w_in : IsMember x k w) where
  abbrev net : Joined
  net = stage_net has k low

  -- a sink in the stage is an end
  pub listed_end : is_end x w ≡ true → Contains (ends_in x k) w
  listed_end end = contains_filter (is_end x) (members (forest x) (head x k)) w (member x k w w_in) end

  pub celled_end : is_celled x w ≡ true → Contains (ends_in x k) w
  celled_end celled = listed_end (or_left (is_celled x w) (not (old_node x w).inner) celled)

  pub sink_end : is_sink_node x.par (slice_index x.order w) ≡ true → is_end x w ≡ true
  sink_end sink = outer (is_celled x w) (old_node x w).inner (sink_inner x w sink)
    where
      outer : (celled inner : Bool) → inner ≡ false → (celled || not inner) ≡ true
      outer true inner e = refl
      outer false inner e = ap not e

  module _ (bare : is_celled x w ≡ false) (sink : is_sink_node x.par (slice_index x.order w) ≡ true) where
    pub sink_kept : IsKept n x k w
    sink_kept = kept d n x put.split k low w (record { member = w_in; end = sink_end sink }) bare

    pub sink_name : name_of n.par (slice_index x.order w) ≡ name_in x k w
    sink_name = ap (λ p. name_of p (slice_index x.order w)) (sym put.split.par) ∙ sym sink_kept.name

    old_load : sink_load new net (name_in x k w) ≡ sink_load d n (name_in x k w)
    old_load = elim (cases_Bool (is_port (name_in x k w))) [
      | inl port ↦
          ap (λ b. cond b (load_of new.rows (name_in x k w).owner) (unwrap_or (pin_cap_of new net (name_in x k w)) 0)) port
          ∙ ap (λ rows. load_of rows (name_in x k w).owner) has.rows
          ∙ ap (λ b. cond b (load_of d.rows (name_in x k w).owner) (unwrap_or (pin_cap_of d n (name_in x k w)) 0)) (sym port)
      | inr leafy ↦
          ap (λ b. cond b (load_of new.rows (name_in x k w).owner) (unwrap_or (pin_cap_of new net (name_in x k w)) 0)) leafy
          ∙ ap (λ o. unwrap_or o 0)
          (ap (pin_cap_of new net) sink_kept.name
          ∙ cap_kept d n x new put has k low w (listed_end (sink_end sink)) bare (ap is_port (sym sink_kept.name) ∙ leafy)
          ∙ ap (pin_cap_of d n) (sym sink_kept.name))
          ∙ ap (λ b. cond b (load_of d.rows (name_in x k w).owner) (unwrap_or (pin_cap_of d n (name_in x k w)) 0)) (sym leafy)
    ]

    bare_load : sink_load new net (name_in x k w) ≡ load_in d n x k w
    bare_load =
        old_load ∙ ap (sink_load d n) (sym sink_name)
        ∙ ap (λ b. cond b (sink_load d n (name_of n.par (slice_index x.order w))) 0)
        (sym (ap (λ p. is_sink_node p (slice_index x.order w)) (sym put.split.par) ∙ sink))
        ∙ ap (λ b. cond (b && not (w == head x k)) (repeater_at x w).rep.cin (load_at d n (slice_index x.order w))) (sym bare)

  module _ (celled : is_celled x w ≡ true) where
    -- a cell that is a sink ends the stage
    pub cell_other : is_sink_in x k w ≡ true → w ≢ head x k
    cell_other sink here =
        false≢true (sym (λ i. cond (celled i) (not (eq-eqb w (head x k) here i)) (is_sink_node x.par (slice_index x.order w))) ∙ sink)

    celled_load : w ≢ head x k → sink_load new net (name_in x k w) ≡ load_in d n x k w
    celled_load other =
        ap (λ b. cond b (load_of new.rows (name_in x k w).owner) (unwrap_or (pin_cap_of new net (name_in x k w)) 0))
        (no_port d n x new put has k low w (celled_end celled) celled other)
        ∙ ap (λ o. unwrap_or o 0) (cap_new d n x new put has k low w (celled_end celled) celled other)
        ∙ sym (λ i. cond (celled i && not (ne_eqb w (head x k) other i)) (repeater_at x w).rep.cin (load_at d n (slice_index x.order w)))

  sink_loaded : is_sink_in x k w ≡ true → sink_load new net (name_in x k w) ≡ load_in d n x k w
  sink_loaded sink = elim (cases_Bool (is_celled x w)) [
    | inl celled ↦ celled_load celled (cell_other celled sink)
    | inr bare ↦ bare_load bare (sym (ap (λ b. cond b (not (w == head x k)) (is_sink_node x.par (slice_index x.order w))) bare) ∙ sink)
  ]

pub stages_have_loads : StagesHaveLoads
stages_have_loads d n x new put has k low w w_low inside sink = sink_loaded d n x new put has k low w (record { low = w_low; inside = inside }) sink
