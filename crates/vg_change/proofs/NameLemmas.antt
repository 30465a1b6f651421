-- No name of a design begins with the prefix where none is taken.
use Rattle.std.proofs.Common.{◌≡◌, ℕ, zero, suc, ◌<◌, ◌&&◌, Bool, true, false, cond, List, [], ◌∷◌, ◌++◌, length, map, get_or, find, refl, sym, ap, ◌∙◌, subst, arith, inl, inr, Some, None}
use Rattle.std.specs.List.{All, Contains, slice_get}
use Rattle.std.specs.Str.{bytes_eq}
use Rattle.std.proofs.lemmas.Bool.{cases_lt, false≢true}
use Rattle.std.proofs.lemmas.List.{get_or-map, get_or_default, length-map}
use Rattle.std.proofs.lemmas.List.Elements.{Contains-append_left, Contains-append_right}
use Rattle.std.proofs.lemmas.Option.{get_or_from_slice_get, slice_get-get_or, slice_get_within}
use Rattle.std.proofs.lemmas.Slice.Eq.{bytes_eq-Decides}
use Rattle.spef_file.specs.Files.{File, file_lines, said_by}
use Rattle.spef_file.specs.Nets.{NetHead}
use Rattle.spef_net.specs.Nets.{IsInside}
use Rattle.spef_nodes.proofs.ApartLemmas.{has_at}
use Rattle.spef_nodes.specs.Nodes.{ParNode}
use Rattle.ver_module.specs.Netlists.{Instance, Net}
use Rattle.vg_design.specs.Designs.{Design, Joined, NO_NODE, ends_of, name_of, net_names, IsConnected}
use Rattle.vg_design.specs.Refusals.{IsJoined, PassesUpTo}
use Rattle.vg_design.proofs.EndLemmas.{end_is, ends_size}
use Rattle.vg_num.specs.Number.{are_digits}
use Rattle.vg_split.specs.Conditions.{IsOld}
use Rattle.spef_wire.specs.Nets.{IsNetNamed}
use Rattle.spef_wire.specs.declared.refusal.Refusal.TheVariants.{Mismatch}
use Rattle.vg_change.specs.Named.{begins}
use Rattle.vg_change.specs.Taken.{names_of, taken}

-- where none passes, none of the list does
none_passes : {X : Type 0} (test : X → Bool) (xs : List X) (x : X) → find test xs ≡ None → Contains xs x → test x ≡ false
none_passes test [] x none (i, low, at) = absurd (omega (arith, low))
none_passes test (y ∷ ys) x none (i, low, at) = either (test y) refl (none_passes test ys x) i low at
  where
    either : (t : Bool) → test y ≡ t → (find test ys ≡ None → Contains ys x → test x ≡ false) → (k : ℕ) → k < length (y ∷ ys) → get_or (y ∷ ys) k x ≡ x → test x ≡ false
    either true e more k k_low is = absurd (let h : Some y ≡ None = sym (ap (λ b. cond b (Some y) (find test ys)) e) ∙ none in cc)
    either false e more zero k_low is = ap test (sym is) ∙ e
    either false e more (suc k) k_low is = more (sym (ap (λ b. cond b (Some y) (find test ys)) e) ∙ none) (k, omega (arith, k_low), is)

-- what is found stands in the list
pub found_in : {X : Type 0} (test : X → Bool) (xs : List X) (x : X) → find test xs ≡ Some x → Contains xs x × (test x ≡ true)
found_in test [] x found = absurd (cc)
found_in test (y ∷ ys) x found = either (test y) refl (found_in test ys x)
  where
    some_is : {X : Type 0} (a b : X) → Some a ≡ Some b → a ≡ b
    some_is a b e = cc

    either : (t : Bool) → test y ≡ t → (find test ys ≡ Some x → Contains ys x × (test x ≡ true)) → Contains (y ∷ ys) x × (test x ≡ true)
    either true e more =
        let is : y ≡ x = some_is y x (sym (ap (λ b. cond b (Some y) (find test ys)) e) ∙ found) in
        ((0, omega arith, is), ap test (sym is) ∙ e)
    either false e more =
        let ((i, low, at), has) = more (sym (ap (λ b. cond b (Some y) (find test ys)) e) ∙ found) in
        ((suc i, omega (arith, low), at), has)

pub mapped_in : {X Y : Type 0} (f : X → Y) (xs : List X) (x : X) → Contains xs x → Contains (map f xs) (f x)
mapped_in f xs x (i, low, at) = (i, omega (arith, low, length-map xs f), get_or-map f xs i x (f x) low ∙ ap f at)

pub got_in : {X : Type 0} (xs : List X) (i : ℕ) (x : X) → slice_get xs i ≡ Some x → Contains xs x
got_in xs i x at = (i, slice_get_within xs i x at, get_or_from_slice_get xs i x x at)

module _ (d : Design) (prefix : List ℕ) (free : taken d prefix ≡ None) where
  abbrev instances : List (List ℕ)
  instances = map (λ (i : Instance). i.name) d.netlist.instances

  abbrev nets : List (List ℕ)
  nets = map (λ (n : Net). n.name) d.netlist.nets

  abbrev mapped : List (List ℕ)
  mapped = map (λ (row : List ℕ × List ℕ). row.1) (said_by (file_lines d.spef)).names

  old : (x : List ℕ) → Contains (names_of d) x → IsOld prefix x
  old x there = none_passes (λ name. begins name prefix) (names_of d) x free there

  instance_old : (i : Instance) → Contains d.netlist.instances i → IsOld prefix i.name
  instance_old i there = old i.name (Contains-append_left instances (nets ++ (mapped ++ net_names d.spef)) i.name (mapped_in (λ (i : Instance). i.name) d.netlist.instances i there))

  net_old : (n : Net) → Contains d.netlist.nets n → IsOld prefix n.name
  net_old n there =
      old n.name
      (Contains-append_right instances (nets ++ (mapped ++ net_names d.spef)) n.name
      (Contains-append_left nets (mapped ++ net_names d.spef) n.name (mapped_in (λ (n : Net). n.name) d.netlist.nets n there)))

  section_old : (x : List ℕ) → Contains (net_names d.spef) x → IsOld prefix x
  section_old x there =
      old x
      (Contains-append_right instances (nets ++ (mapped ++ net_names d.spef)) x
      (Contains-append_right nets (mapped ++ net_names d.spef) x (Contains-append_right mapped (net_names d.spef) x there)))

  module _ (name : List ℕ) (n : Joined) (joined : IsJoined d name n) (accepted : PassesUpTo 17 d name) where
    -- the name of the net is that of its head
    head_name : (named : IsNetNamed d.spef name n.par) → Contains (net_names d.spef) n.par.name
    head_name named =
        let (there, same) = found_in (λ (h : NetHead). bytes_eq name h.name) named.file.nets named.head named.head_of.named in
        subst (Contains (net_names d.spef)) (sym named.read.denoted.named)
        (mapped_in (λ (h : NetHead). h.name) (said_by (file_lines d.spef)).nets named.head
        (subst (λ (f : File). Contains f.nets named.head) named.head_of.said.says there))

    pub name_old : IsOld prefix n.par.name
    name_old = section_old n.par.name (head_name joined.named)

    -- the connections are ends in the netlist, unless the contrary of what is asked leads nowhere
    connected : (b : Bool) → (IsConnected d.netlist n.id n.par → b ≡ false) → b ≡ false
    connected false so = refl
    connected true so = absurd (accepted Mismatch (omega arith) (record { net = n; joined = joined; holds = λ c. false≢true (sym (so c)) }))

    end_old : (v : ℕ) → v < length n.par.conns → IsConnected d.netlist n.id n.par → IsOld prefix (name_of n.par v).owner
    end_old v low is =
        let here : slice_get (ends_of n.par) v ≡ Some (name_of n.par v)
        = slice_get-get_or (ends_of n.par) v (name_of n.par v) (omega (arith, low, ends_size n.par)) ∙ ap Some (end_is n.par v (name_of n.par v) low) in
        elim ((is.same (name_of n.par v)).0 (has_at (ends_of n.par) v (name_of n.par v) here)) as (λ _. IsOld prefix (name_of n.par v).owner) [
          | inl linked ↦
              subst (λ at. IsOld prefix at.owner) (sym linked.named)
              (subst (λ (i : Instance). IsOld prefix i.name) (sym (get_or_from_slice_get d.netlist.instances linked.pin.instance linked.link.instance _ linked.link.is_instance))
              (instance_old linked.link.instance (got_in d.netlist.instances linked.pin.instance linked.link.instance linked.link.is_instance)))
          | inr port ↦
              subst (λ at. IsOld prefix at.owner) (sym port.named) (net_old port.net (got_in d.netlist.nets n.id port.net port.is))
        ]

    -- an inner node has the net as its owner
    inner_old : (node : ParNode) → Contains n.par.nodes node → node.inner ≡ true → IsOld prefix node.name.owner
    inner_old node (i, low, at) inner =
        let own : IsInside n.par.name node = subst (IsInside n.par.name) at (n.par.sound.inside i node low) in
        subst (IsOld prefix) (sym (owner node.name.owner n.par.name (are_digits node.name.leaf) (own inner))) name_old
      where
        both : (x y : Bool) → (x && y) ≡ true → x ≡ true
        both true y e = refl
        both false y e = absurd (cc)

        owner : (a b : List ℕ) (more : Bool) → (bytes_eq a b && more) ≡ true → a ≡ b
        owner a b more e = (bytes_eq-Decides a b).0 (both (bytes_eq a b) more e)

    pub owners_old : All (λ (node : ParNode). IsOld prefix node.name.owner) n.par.nodes
    owners_old i node low = elim (cases_lt i (length n.par.conns)) [
      | inl conn ↦
          let is : get_or n.par.nodes i NO_NODE ≡ get_or n.par.nodes i node = get_or_default n.par.nodes i NO_NODE node low in
          subst (λ (x : ParNode). IsOld prefix x.name.owner) is (connected _ (end_old i conn))
      | inr inner ↦
          inner_old (get_or n.par.nodes i node) (i, low, get_or_default n.par.nodes i (get_or n.par.nodes i node) node low)
          (n.par.sound.joined.inner i (get_or n.par.nodes i node) inner (slice_get-get_or n.par.nodes i node low))
    ]
