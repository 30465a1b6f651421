use Rattle.std.proofs.Common.{◌≡◌, ℕ, ◌<◌, List, [], ◌∷◌, ◌++◌, true, get_or, length, slice_index, refl, sym, ap, ◌∙◌, subst, Option, Some, None}
use Rattle.std.specs.Prelude.{if◌then◌else◌}
use Rattle.std.proofs.lemmas.List.{append-nil}
use Rattle.spef_net.specs.declared.net.ParNet.{ParNet}
use Rattle.ver_module.specs.Netlists.{Netlist}
use Rattle.ver_net.specs.declared.pin_ref.PinRef.{PinRef}
use Rattle.ver_patch.specs.Rewires.{Rewire}
use Rattle.vg_design.specs.Designs.{Design, Joined, name_of, pin_on}
use Rattle.vg_design.specs.Steps.{ArePins}
use Rattle.vg_split.specs.Splits.{Split, net_of}
use Rattle.vg_change.specs.Placed.{is_old_end, linked, rewires_at}
use Rattle.vg_change.specs.Steps.{placed_by}
use Rattle.vg_change.proofs.RewireLemmas.{end_conn, pin_there}
use Rattle.vg_change.proofs.rewires.push_rewire.Goals as goal

-- the net's pin at a node, where it is a connection of the net
pin_is : (d : Design) (n : Joined) (pins : List (Option PinRef)) (x : Split) (w v : ℕ) → ArePins d n pins → x.par ≡ n.par → v ≡ slice_index x.order w
    → v < length x.par.nodes → is_old_end x w ≡ true → get_or pins v None ≡ pin_on d.netlist n.id (name_of n.par (slice_index x.order w))
pin_is d n pins x w v are par is low end =
    let conn = end_conn x w (subst (λ u. u < length x.par.nodes) is low) end in
    pin_there d n pins v are (subst (λ u. u < length n.par.conns) (sym is) (subst (λ (p : ParNet). slice_index x.order w < length p.conns) par conn))
    ∙ ap (λ u. pin_on d.netlist n.id (name_of n.par u)) is

-- what is put at a node of the net's own
put_is : (netlist : Netlist) (n : Joined) (x : Split) (k w : ℕ) (o : Option PinRef) → is_old_end x w ≡ true
    → pin_on netlist n.id (name_of n.par (slice_index x.order w)) ≡ o → rewires_at netlist (placed_by n x) x k w ≡ linked (net_of x k) o
put_is netlist n x k w o end pin =
    ap (λ b. if b then linked (net_of x k) (pin_on netlist n.id (name_of n.par (slice_index x.order w))) else []) end ∙ ap (linked (net_of x k)) pin

pub returns-in_ok-push : goal.returns-in_ok-push
returns-in_ok-push c = λ k net.
    let d = c.args.design.now in
    let n = c.args.pinned.now.net in
    let x = c.args.x.now in
    let end = sym c.is_old_end.ensures ∙ c.if-not-is_old_end.false in
    let pin = pin_is d n c.args.pinned.now.pins x c.args.node c.old.result c.requires.pins c.requires.par c.old.ensures.is c.old.ensures.within end in
    let at = sym pin ∙ ap (λ (ps : List (Option PinRef)). get_or ps c.old.result None) (sym c.as_slice.ensures) ∙ c.in-Some.is in
    c.in_ok-push.ensures.last
    ∙ ap (λ (m : List ℕ). c.args.to.now ++ record { at = c.in-Some.at; net = m } ∷ []) net
    ∙ ap (λ (ys : List Rewire). c.args.to.now ++ ys) (sym (put_is d.netlist n x k c.args.node (Some c.in-Some.at) end at))

none_left : (o : Option PinRef) → ((p : PinRef) → o ≡ Some p → ⊥) → o ≡ None
none_left None never = refl
none_left (Some p) never = absurd (never p refl)

pub returns-in_default : goal.returns-in_default
returns-in_default c = λ k net.
    let d = c.args.design.now in
    let n = c.args.pinned.now.net in
    let x = c.args.x.now in
    let end = sym c.is_old_end.ensures ∙ c.if-not-is_old_end.false in
    let pin = pin_is d n c.args.pinned.now.pins x c.args.node c.old.result c.requires.pins c.requires.par c.old.ensures.is c.old.ensures.within end in
    let at = sym pin ∙ ap (λ (ps : List (Option PinRef)). get_or ps c.old.result None) (sym c.as_slice.ensures) ∙ none_left (get_or c.as_slice.result.now c.old.result None) c.in_default.not-Some in
    sym (append-nil c.args.to.now) ∙ ap (λ (ys : List Rewire). c.args.to.now ++ ys) (sym (put_is d.netlist n x k c.args.node None end at))
