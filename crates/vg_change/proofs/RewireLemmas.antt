-- The pins of a net at the nodes of its stages.
use Rattle.std.proofs.Common.{◌≡◌, ℕ, ◌+◌, ◌<◌, ◌≤◌, ◌&&◌, ◌||◌, not, Bool, true, false, List, length, map, get_or, slice_index, sym, ap, ◌∙◌, subst, arith, inl, inr, Option, Some, None}
use Rattle.std.proofs.lemmas.Bool.{cases_lt, false≢true}
use Rattle.std.proofs.lemmas.List.{get_or-map}
use Rattle.std.proofs.lemmas.Option.{slice_get-get_or}
use Rattle.ver_net.specs.declared.pin_ref.PinRef.{PinRef}
use Rattle.vg_design.specs.Designs.{Design, Joined, NO_NODE, ends_of, name_of, pin_on}
use Rattle.vg_design.specs.Steps.{ArePins}
use Rattle.vg_design.proofs.EndLemmas.{end_is, ends_size}
use Rattle.vg_split.specs.Splits.{Split, is_celled}
use Rattle.vg_change.specs.Placed.{is_old_end}

-- a pin or port of the net is one of its connections
pub end_conn : (x : Split) (w : ℕ) → slice_index x.order w < length x.par.nodes → is_old_end x w ≡ true → slice_index x.order w < length x.par.conns
end_conn x w low end =
    let v = slice_index x.order w in
    elim (cases_lt v (length x.par.conns)) [
      | inl conn ↦ conn
      | inr high ↦
          let inner = x.par.sound.joined.inner v (get_or x.par.nodes v NO_NODE) high (slice_get-get_or x.par.nodes v NO_NODE low) in
          absurd (false≢true (sym (none (is_celled x w)) ∙ sym (ap (λ b. (is_celled x w || not b) && not (is_celled x w)) inner) ∙ end))
    ]
  where
    none : (c : Bool) → ((c || not true) && not c) ≡ false
    none true = Rattle.std.proofs.Common.refl
    none false = Rattle.std.proofs.Common.refl

-- its pin is the one that was sought by its name
pub pin_there : (d : Design) (n : Joined) (pins : List (Option PinRef)) (v : ℕ) → ArePins d n pins → v < length n.par.conns
    → get_or pins v None ≡ pin_on d.netlist n.id (name_of n.par v)
pin_there d n pins v are low =
    ap (λ (ps : List (Option PinRef)). get_or ps v None) are
    ∙ get_or-map (pin_on d.netlist n.id) (ends_of n.par) v (name_of n.par v) None (omega (arith, low, ends_size n.par))
    ∙ ap (pin_on d.netlist n.id) (end_is n.par v (name_of n.par v) low)
