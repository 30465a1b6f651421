-- What is known of a net that is accepted: its driver has a drive, its sinks have loads and required times.
use Rattle.std.proofs.Common.{◌≡◌, ℕ, zero, suc, Bool, true, false, cond, List, [], ◌∷◌, refl, sym, ap, ◌∙◌, arith, Contains, Option, Some, None, inl, inr}
use Rattle.std.specs.List.{find}
use Rattle.std.proofs.lemmas.Bool.{cases_Bool, false≢true}
use Rattle.spef_net.specs.declared.net.ConnKind.TheVariants.{Pin}
use Rattle.spef_net.specs.declared.net.ParConn.{ParConn}
use Rattle.spef_net.specs.declared.net.ParNet.{ParNet}
use Rattle.vg_design.specs.Designs.{Design, Joined, IsConnected, agrees, name_of, pin_drive_of, port_of}
use Rattle.vg_design.specs.Refusals.{IsFirstConn, IsJoined, PassesUpTo, is_unconstrained, is_unloaded}
use Rattle.vg_scan.specs.declared.name.NodeName.{NodeName}
use Rattle.spef_wire.specs.Refusals.{drivers_of}
use Rattle.spef_wire.specs.declared.refusal.Refusal.TheVariants.{Mismatch, NoDrive, NoLoad, Unconstrained}

-- what is none is not some
pub none_some : {X : Type 0} (o : Option X) (x : X) → o ≡ None → o ≡ Some x → ⊥
none_some None x e f = absurd (cc)
none_some (Some y) x e f = absurd (cc)

-- where one passes, a first one is found
found_some : {X : Type 0} (p : X → Bool) (xs : List X) (x : X) → Contains xs x → p x ≡ true → (y : X) × (find p xs ≡ Some y)
found_some p [] x (i, low, is) pass = absurd (omega (arith, low))
found_some p (y ∷ xs) x (zero, low, is) pass = (y, ap (λ b. cond b (Some y) (find p xs)) (ap p is ∙ pass))
found_some p (y ∷ xs) x (suc i, low, is) pass = by (p y) refl (found_some p xs x (i, omega (arith, low), is) pass)
  where
    by : (b : Bool) → p y ≡ b → (z : _) × (find p xs ≡ Some z) → (z : _) × (find p (y ∷ xs) ≡ Some z)
    by true e found = (y, ap (λ b. cond b (Some y) (find p xs)) e)
    by false e (z, found) = (z, ap (λ b. cond b (Some y) (find p xs)) e ∙ found)

-- where no first one is, none passes
pub none_of : (net : ParNet) (kind : ParConn → Bool) → ((name : NodeName) → IsFirstConn net kind name → ⊥) → (conn : ParConn) → Contains net.conns conn
    → kind conn ≡ false
none_of net kind never conn there = elim (cases_Bool (kind conn)) [
  | inl pass ↦
      let (first, found) = found_some kind net.conns conn there pass in
      absurd (never (name_of net first.node) (record { conn = first; first = found; name_is = refl }))
  | inr none ↦ none
]

module _ (d : Design) (name : List ℕ) (n : Joined) (joined : IsJoined d name n) (accepted : PassesUpTo 16 d name) where
  -- each end that is a port has the port's direction
  pub port_agrees : (conn : ParConn) → Contains n.par.conns conn → agrees (port_of d.netlist n.id) conn.kind conn.direction ≡ true
  port_agrees conn (i, low, is) = elim (cases_Bool (agrees (port_of d.netlist n.id) conn.kind conn.direction)) [
    | inl does ↦ does
    | inr none ↦ absurd (accepted Mismatch (omega arith) (record {
      net = n;
      joined = joined;
      holds = λ (c : IsConnected d.netlist n.id n.par).
          false≢true (sym none ∙ ap (λ (q : ParConn). agrees (port_of d.netlist n.id) q.kind q.direction) (sym is) ∙ c.direction i conn low);
    }))
  ]

  -- each sink that is a pin has a capacitance
  pub sink_loaded : (conn : ParConn) → Contains n.par.conns conn → is_unloaded d n conn ≡ false
  sink_loaded = none_of n.par (is_unloaded d n) (λ at first. accepted (NoLoad at) (omega arith) (record { net = n; joined = joined; holds = first }))

  -- each sink has a required time
  pub sink_constrained : (conn : ParConn) → Contains n.par.conns conn → is_unconstrained d.rows n.par conn ≡ false
  sink_constrained = none_of n.par (is_unconstrained d.rows n.par) (λ at first. accepted (Unconstrained at) (omega arith) (record { net = n; joined = joined; holds = first }))

  -- a driver that is a pin has a delay and a resistance
  pub drives_well : (driver : ParConn) → drivers_of n.par ≡ driver ∷ [] → driver.kind ≡ Pin → pin_drive_of d n (name_of n.par driver.node) ≡ None → ⊥
  drives_well driver alone pin none = accepted NoDrive (omega arith) (record {
    net = n;
    joined = joined;
    holds = record { driver = driver; alone = alone; pin = pin; none = none };
  })
