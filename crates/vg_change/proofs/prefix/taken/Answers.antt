use Rattle.std.proofs.Common.{◌≡◌, ℕ, Bool, List, ◌++◌, map, Bor, Option, None, Some, find, refl, sym, ap, ◌∙◌}
use Rattle.std.specs.Prelude.{option_map}
use Rattle.spef_file.specs.Files.{file_lines, said_by}
use Rattle.ver_module.specs.Netlists.{Instance, Net}
use Rattle.vg_design.specs.Designs.{Design, net_names}
use Rattle.vg_change.specs.Named.{begins}
use Rattle.vg_change.specs.Taken.{taken}
use Rattle.vg_change.proofs.FindLemmas.{found_behind, found_front}
use Rattle.vg_change.proofs.prefix.taken.Goals as goal

none_here : {X : Type 0} (o : Option X) → ((x : X) → o ≡ Some x → ⊥) → o ≡ None
none_here None never = refl
none_here (Some x) never = absurd (never x refl)

none_left : (o : Option (Bor (List ℕ))) → ((x : Bor (List ℕ)) → o ≡ Some x → ⊥) → option_map (λ (name : Bor (List ℕ)). name.now) o ≡ None
none_left o never = ap (option_map (λ (name : Bor (List ℕ)). name.now)) (none_here o never)

module _ (d : Design) (prefix : List ℕ) where
  abbrev test : List ℕ → Bool
  test name = begins name prefix

  abbrev instances : List (List ℕ)
  instances = map (λ (i : Instance). i.name) d.netlist.instances

  abbrev nets : List (List ℕ)
  nets = map (λ (n : Net). n.name) d.netlist.nets

  abbrev mapped : List (List ℕ)
  mapped = map (λ (row : List ℕ × List ℕ). row.1) (said_by (file_lines d.spef)).names

  second : find test instances ≡ None → taken d prefix ≡ find test (nets ++ (mapped ++ net_names d.spef))
  second none = found_behind test instances (nets ++ (mapped ++ net_names d.spef)) none

  third : find test instances ≡ None → find test nets ≡ None → taken d prefix ≡ find test (mapped ++ net_names d.spef)
  third none no_net = second none ∙ found_behind test nets (mapped ++ net_names d.spef) no_net

pub returns-in-Some : goal.returns-in-Some
returns-in-Some c =
    let d = c.args.design.now in
    let prefix = c.args.prefix.now in
    ap (λ (name : List ℕ). Some name) c.of_bytes.ensures
    ∙ sym (found_front (test d prefix) (instances d prefix) (nets d prefix ++ (mapped d prefix ++ net_names d.spef)) c.in-Some.name.now
    (sym (rw c.netlist-netlist.ensures at (rw c.in-Some.is at c.instance_with.ensures))))

pub returns-in-Some-net_with : goal.returns-in-Some-net_with
returns-in-Some-net_with c =
    let d = c.args.design.now in
    let prefix = c.args.prefix.now in
    let none = sym (rw c.netlist-netlist.ensures at c.instance_with.ensures) ∙ none_left c.instance_with.result c.in_default.not-Some in
    sym (second d prefix none
    ∙ found_front (test d prefix) (nets d prefix) (mapped d prefix ++ net_names d.spef) c.in-Some-net_with.name
    (sym (rw c.netlist-netlist.ensures at (rw c.in-Some-net_with.is at c.net_with.ensures))))

pub returns-in-Some-mapped_with : goal.returns-in-Some-mapped_with
returns-in-Some-mapped_with c =
    let d = c.args.design.now in
    let prefix = c.args.prefix.now in
    let none = sym (rw c.netlist-netlist.ensures at c.instance_with.ensures) ∙ none_left c.instance_with.result c.in_default.not-Some in
    let no_net = sym (rw c.netlist-netlist.ensures at c.net_with.ensures) ∙ none_here c.net_with.result c.in_default-net_with.not-Some in
    ap (λ (name : List ℕ). Some name) c.of_bytes-in-Some-mapped_with.ensures
    ∙ sym (third d prefix none no_net
    ∙ found_front (test d prefix) (mapped d prefix) (net_names d.spef) c.in-Some-mapped_with.name.now (sym (rw c.in-Some-mapped_with.is at c.mapped_with.ensures)))

pub returns-in-Some-section_with : goal.returns-in-Some-section_with
returns-in-Some-section_with c =
    let d = c.args.design.now in
    let prefix = c.args.prefix.now in
    let none = sym (rw c.netlist-netlist.ensures at c.instance_with.ensures) ∙ none_left c.instance_with.result c.in_default.not-Some in
    let no_net = sym (rw c.netlist-netlist.ensures at c.net_with.ensures) ∙ none_here c.net_with.result c.in_default-net_with.not-Some in
    let no_mapped = sym c.mapped_with.ensures ∙ none_left c.mapped_with.result c.in_default-mapped_with.not-Some in
    ap (λ (name : List ℕ). Some name) c.of_bytes-in-Some-section_with.ensures
    ∙ rw c.in-Some-section_with.is at c.section_with.ensures
    ∙ sym (third d prefix none no_net ∙ found_behind (test d prefix) (mapped d prefix) (net_names d.spef) no_mapped)

pub returns-in-None : goal.returns-in-None
returns-in-None c =
    let d = c.args.design.now in
    let prefix = c.args.prefix.now in
    let none = sym (rw c.netlist-netlist.ensures at c.instance_with.ensures) ∙ none_left c.instance_with.result c.in_default.not-Some in
    let no_net = sym (rw c.netlist-netlist.ensures at c.net_with.ensures) ∙ none_here c.net_with.result c.in_default-net_with.not-Some in
    let no_mapped = sym c.mapped_with.ensures ∙ none_left c.mapped_with.result c.in_default-mapped_with.not-Some in
    rw c.in-None.is at c.section_with.ensures
    ∙ sym (third d prefix none no_net ∙ found_behind (test d prefix) (mapped d prefix) (net_names d.spef) no_mapped)
