-- The nets and the instances of a design's netlist by their names, none of which begins with the prefix.
use Rattle.std.proofs.Common.{◌≡◌, ℕ, ◌<◌, ◌==◌, Bool, true, false, List, [], ◌∷◌, ◌++◌, map, find, cond, refl, sym, ap, ◌∙◌, subst, arith, inl, inr, Some, None, length, get_or}
use Rattle.std.specs.List.{slice_get, starts_with}
use Rattle.std.proofs.lemmas.List.{get_or-map, length-map}
use Rattle.std.proofs.lemmas.Option.{slice_get-get_or}
use Rattle.spef_file.specs.Files.{file_lines, said_by}
use Rattle.ver_file.specs.Modules.{Denotes}
use Rattle.ver_file.specs.Netlists.{netlist_of}
use Rattle.ver_patch_laws.specs.Links.{name_of_net}
use Rattle.ver_patch_laws.proofs.PinLemmas.{get_mapped}
use Rattle.ver_patch_laws.proofs.RelinkedLemmas.{In, each_in}
use Rattle.ver_module.specs.Netlists.{Instance, Net, Netlist, net_name}
use Rattle.ver_patch_laws.specs.Names.{IsNumbered}
use Rattle.ver_patch_laws.proofs.NetLemmas.{IsSaid, nets_said}
use Rattle.ver_patch_laws.proofs.SetLemmas.{get_in, in_left, in_map, in_right}
use Rattle.vg_change.specs.Taken.{names_of, taken}
use Rattle.vg_change.proofs.RowLemmas.{name_is}
use Rattle.vg_design.specs.Designs.{Design, Joined, net_names}
use Rattle.vg_design.specs.Refusals.{IsJoined}
use Rattle.name_tables.proofs.NameTableLemmas.{known_of}
use Rattle.vg_split.specs.Conditions.{IsOld}

-- a net has the name of its identifier
pub net_said : (text : List ℕ) (netlist : Netlist) (id : ℕ) (net : Net) → Denotes text netlist → slice_get netlist.nets id ≡ Some net → net.name ≡ net_name net.base net.bit
net_said text netlist id net d =
    subst (λ (n : Netlist). slice_get n.nets id ≡ Some net → net.name ≡ net_name net.base net.bit) (sym d.is)
    (λ e. (each_in (IsSaid text) (netlist_of text).nets net (nets_said text) (get_in (netlist_of text).nets id net e)).named)

-- the net of a joined one
pub record IsNetOf (netlist : Netlist) (n : Joined) : Type 0 where
  pub net : Net
  pub is : slice_get netlist.nets n.id ≡ Some net
  pub named : net.name ≡ n.par.name
  pub said : net.name ≡ net_name net.base net.bit
  pub numbered : IsNumbered netlist n.id (name_of_net net)

pub net_of_joined : (text : List ℕ) (d : Design) (name : List ℕ) (n : Joined) → Denotes text d.netlist → IsJoined d name n → IsNetOf d.netlist n
net_of_joined text d name n denotes joined =
    let names = map (λ (m : Net). m.name) d.netlist.nets in
    let (low, at) = known_of names name n.id (sym joined.number) in
    let net_low : n.id < length d.netlist.nets = omega (arith, low, length-map d.netlist.nets (λ (m : Net). m.name)) in
    let d0 : Net = record { name = []; base = []; bit = None; escaped = false; port = None; supply = false } in
    let net = get_or d.netlist.nets n.id d0 in
    let is : slice_get d.netlist.nets n.id ≡ Some net = slice_get-get_or d.netlist.nets n.id d0 net_low in
    record {
      net = net;
      is = is;
      named = sym (get_or-map (λ (m : Net). m.name) d.netlist.nets n.id d0 [] net_low) ∙ at ∙ name_is d.spef name n.par joined.named;
      said = net_said text d.netlist n.id net denotes is;
      numbered = get_mapped name_of_net d.netlist.nets n.id net is;
    }

-- ---- old names

none_passes : {X : Type 0} (test : X → Bool) (xs : List X) (x : X) → find test xs ≡ None → In x xs → test x ≡ false
none_passes test [] x none i = absurd i
none_passes test (y ∷ ys) x none i = either (test y) refl (none_passes test ys x) i
  where
    either : (t : Bool) → test y ≡ t → (find test ys ≡ None → In x ys → test x ≡ false) → In x (y ∷ ys) → test x ≡ false
    either true e more j = absurd (let h : Some y ≡ None = sym (ap (λ b. cond b (Some y) (find test ys)) e) ∙ none in cc)
    either false e more (inl same) = ap test same ∙ e
    either false e more (inr j) = more (sym (ap (λ b. cond b (Some y) (find test ys)) e) ∙ none) j

module _ (d : Design) (prefix : List ℕ) (free : taken d prefix ≡ None) where
  abbrev instances : List (List ℕ)
  instances = map (λ (i : Instance). i.name) d.netlist.instances

  abbrev nets : List (List ℕ)
  nets = map (λ (n : Net). n.name) d.netlist.nets

  abbrev others : List (List ℕ)
  others = map (λ (row : List ℕ × List ℕ). row.1) (said_by (file_lines d.spef)).names ++ net_names d.spef

  old : (x : List ℕ) → In x (names_of d) → IsOld prefix x
  old x there = none_passes (λ name. starts_with ◌==◌ name prefix) (names_of d) x free there

  pub instance_old : (x : List ℕ) → In x (map (λ (i : Instance). i.name) d.netlist.instances) → IsOld prefix x
  instance_old x there = old x (in_left instances (nets ++ others) x there)

  pub net_old : (n : Net) → In n d.netlist.nets → IsOld prefix n.name
  net_old n there = old n.name (in_right instances (nets ++ others) n.name (in_left nets others n.name (in_map (λ (m : Net). m.name) d.netlist.nets n there)))
