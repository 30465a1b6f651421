-- Cells that are put into the nets of a design in the order of its parasitics: into each net they may be put.
use Rattle.std.proofs.Common.{◌≡◌, ℕ, zero, suc, ◌+◌, ◌<◌, ◌≤◌, ◌==◌, List, [], ◌∷◌, ◌++◌, length, get_or, map, refl, sym, ap, ◌∙◌, subst, arith, inl, inr, Option, Some, None, All}
use Rattle.std.specs.Prelude.{if◌then◌else◌, Bool, true, false, option_map, slice_index}
use Rattle.std.specs.List.{Contains, flat_map, position, range_with_len, slice_get}
use Rattle.std.specs.Str.{bytes_eq}
use Rattle.std.proofs.lemmas.List.Elements.{All-append, All-nil}
use Rattle.std.proofs.lemmas.List.Quantifiers.{position-Some}
use Rattle.std.proofs.lemmas.Option.{same_Some, slice_get-get_or, slice_get-map, slice_get_within, get_or_from_slice_get}
use Rattle.std.proofs.lemmas.Slice.Eq.{bytes_eq-Decides}
use Rattle.spef_file.specs.Files.{File, IsFileOf, file_lines, said_by}
use Rattle.spef_file.specs.IndexFiles.{file_of}
use Rattle.spef_file.specs.Indexes.{IsIndexOf}
use Rattle.spef_file.specs.Nets.{NetHead}
use Rattle.spef_file.specs.Tables.{NetRow}
use Rattle.spef_file.specs.Views.{head_in}
use Rattle.spef_file.specs.declared.section.Section.{Section}
use Rattle.spef_file.specs.declared.spef_index.SpefIndex.{SpefIndex}
use Rattle.ver_module.specs.Netlists.{Instance, Net, Netlist, Pin}
use Rattle.ver_module.specs.declared.link.Link.{Link}
use Rattle.ver_module.specs.declared.link.Link.TheVariants.{One}
use Rattle.ver_net.specs.Connections.{pins_on}
use Rattle.ver_net.specs.Laws.{HasLink}
use Rattle.ver_net.specs.declared.pin_ref.PinRef.{PinRef}
use Rattle.ver_net.proofs.LawLemmas.{pins_are_linked}
use Rattle.ver_patch.specs.Rewires.{Rewire}
use Rattle.vg_change.specs.Changes.{Changes, HasPut, IsBehind, IsFresh, nothing, split_behind}
use Rattle.vg_change.specs.Placed.{PlacedNet, is_old_end, linked, rewires_at, rewires_in, rewires_of}
use Rattle.vg_change.specs.Steps.{placed_net}
use Rattle.vg_change.proofs.NameLemmas.{found_in}
use Rattle.vg_change.proofs.PairLemmas.{all_flat, of_all}
use Rattle.vg_change.proofs.RowLemmas.{name_is}
use Rattle.vg_design.specs.Designs.{Design, Joined, name_of, net_names, pin_name, pin_on}
use Rattle.vg_design.specs.Nets.{IsPosedNet}
use Rattle.vg_design.specs.Refusals.{IsJoined}
use Rattle.vg_design.specs.declared.net_problem.PosedNet.{PosedNet}
use Rattle.vg_patch.specs.Edits.{Edit, end_of}
use Rattle.vg_scan.specs.Nodes.{same_node}
use Rattle.vg_split.specs.Splits.{Split, forest, head, net_of}
use Rattle.spef_patch_laws.proofs.ApartLemmas.{Apart, In, contains_in}
use Rattle.spef_patch_laws.proofs.IndexLemmas.{rows_rise}
use Rattle.spef_patch_laws.proofs.NamedLemmas.{names_apart}
use Rattle.vg_split.specs.Stages.{heads, members}
use Rattle.change_spef_laws.proofs.IndexLemmas.{one_index}
use Rattle.change_spef_laws.specs.Order.{AreOpenFrom, IsOpen}

-- ---- names

in_at : (names : List (List ℕ)) (k : ℕ) (name : List ℕ) → slice_get names k ≡ Some name → In name names
in_at [] k name e = absurd cc
in_at (n ∷ names) zero name e = inl (sym (same_Some n name e))
in_at (n ∷ names) (suc k) name e = inr (in_at names k name e)

-- of names that differ each has one place
one_place : (names : List (List ℕ)) (j k : ℕ) (name : List ℕ) → Apart names → slice_get names j ≡ Some name → slice_get names k ≡ Some name → j ≡ k
one_place [] j k name apart e f = absurd cc
one_place (n ∷ names) zero zero name apart e f = refl
one_place (n ∷ names) zero (suc k) name apart e f = absurd (apart.0 (subst (λ (m : List ℕ). In m names) (sym (same_Some n name e)) (in_at names k name f)))
one_place (n ∷ names) (suc j) zero name apart e f = absurd (apart.0 (subst (λ (m : List ℕ). In m names) (sym (same_Some n name f)) (in_at names j name e)))
one_place (n ∷ names) (suc j) (suc k) name apart e f = ap suc (one_place names j k name apart.1 e f)

-- so have the nets of a file
pub net_place : (text : List ℕ) (file : File) (j k : ℕ) (name : List ℕ) → IsFileOf text file → slice_get (net_names text) j ≡ Some name
    → slice_get (net_names text) k ≡ Some name → j ≡ k
net_place text file j k name is e f =
    one_place (net_names text) j k name (subst (λ (said : File). Apart (map (λ (h : NetHead). h.name) said.nets)) is.says (names_apart text file is)) e f

-- a section of an index has the name of its net
pub row_name : (text : List ℕ) (index : SpefIndex) → IsIndexOf text index → (k : ℕ) (row : NetRow) → slice_get index.sections k ≡ Some row
    → slice_get (net_names text) k ≡ Some row.0
row_name text index of k row e =
    ap (λ (said : File). slice_get (map (λ (h : NetHead). h.name) said.nets) k) (sym of.said.says)
    ∙ slice_get-map (λ (h : NetHead). h.name) (map head_in index.sections) k
    ∙ ap (option_map (λ (h : NetHead). h.name)) (slice_get-map head_in index.sections k ∙ ap (option_map head_in) e)

-- ---- pins that are linked anew

one_link : (netlist : Netlist) (at : PinRef) (a b : ℕ) → HasLink netlist at (One a) → HasLink netlist at (One b) → a ≡ b
one_link netlist at a b h k =
    let instance : h.instance ≡ k.instance = same_Some h.instance k.instance (sym h.is_instance ∙ k.is_instance) in
    let pin : h.pin ≡ k.pin = same_Some h.pin k.pin (sym h.is_pin ∙ ap (λ (i : Instance). slice_get i.pins at.pin) instance ∙ k.is_pin) in
    let links : One a ≡ One b = sym h.has_link ∙ ap (λ (p : Pin). p.link) pin ∙ k.has_link in
    cc

module _ (netlist : Netlist) (p : PlacedNet) (x : Split) where
  abbrev IsLinked : Rewire → Type 0
  IsLinked r = HasLink netlist r.at (One p.net.id)

  at_pin : (b : Bool) (o : Option PinRef) (net : List ℕ) → ((at : PinRef) → o ≡ Some at → HasLink netlist at (One p.net.id))
      → All IsLinked (if b then linked net o else [])
  at_pin true None net has = All-nil IsLinked
  at_pin true (Some at) net has = one (record { at = at; net = net }) (has at refl)
    where
      one : (r : Rewire) → IsLinked r → All IsLinked (r ∷ [])
      one r is zero d low = is
      one r is (suc i) d low = absurd (omega (arith, low))
  at_pin false o net has = All-nil IsLinked

  in_stage : (k : ℕ) → All IsLinked (rewires_in netlist p x k)
  in_stage k = either (k == x.keeper)
    where
      pin : (w : ℕ) (at : PinRef) → pin_on netlist p.net.id (name_of p.net.par (slice_index p.order w)) ≡ Some at → HasLink netlist at (One p.net.id)
      pin w at found =
          (pins_are_linked netlist p.net.id at).0
          (found_in (λ pin. same_node (name_of p.net.par (slice_index p.order w)) (pin_name netlist pin)) (pins_on netlist p.net.id) at found).0

      either : (b : Bool) → All IsLinked (if b then [] else flat_map (rewires_at netlist p x k) (members (forest x) (head x k)))
      either true = All-nil IsLinked
      either false =
          all_flat IsLinked (rewires_at netlist p x k) (members (forest x) (head x k))
          (λ w there. at_pin (is_old_end x w) (pin_on netlist p.net.id (name_of p.net.par (slice_index p.order w))) (net_of x k) (pin w))

  are_linked : All IsLinked (rewires_of netlist p x)
  are_linked = all_flat IsLinked (rewires_in netlist p x) (range_with_len 0 (length (heads (forest x)))) (λ k there. in_stage k)

-- ---- nets of different names have different numbers

number_name : (d : Design) (name : List ℕ) (n : Joined) → IsJoined d name n → name ≡ get_or (map (λ (m : Net). m.name) d.netlist.nets) n.id []
number_name d name n joined =
    let place = position-Some (bytes_eq name) (map (λ (m : Net). m.name) d.netlist.nets) n.id [] joined.number in
    (bytes_eq-Decides name _).0 place.1

pub same_name : (d : Design) (one other : List ℕ) (n m : Joined) → IsJoined d one n → IsJoined d other m → n.id ≡ m.id → one ≡ other
same_name d one other n m a b same =
    number_name d one n a ∙ ap (λ (i : ℕ). get_or (map (λ (m : Net). m.name) d.netlist.nets) i []) same ∙ sym (number_name d other m b)

-- ---- the last section that is replaced

last_end : (edits : List Edit) (e : Edit) → end_of (edits ++ e ∷ []) ≡ e.to
last_end [] e = refl
last_end (f ∷ []) e = refl
last_end (f ∷ g ∷ edits) e = last_end (g ∷ edits) e

-- ---- where cells may be put

pub open_nothing : (d : Design) (prefix name : List ℕ) → IsOpen (nothing d prefix) name
open_nothing d prefix name n joined = (λ index section named. omega arith, All-nil _)

pub all_open : (d : Design) (prefix : List ℕ) → AreOpenFrom (nothing d prefix) 0
all_open d prefix k name low here = open_nothing d prefix name

pub open_later : (c : Changes) (at : ℕ) → AreOpenFrom c at → AreOpenFrom c (at + 1)
open_later c at free k name low here = free k name (omega (arith, low)) here

-- besides the net at this place, cells may be put into those behind it
module _ (c new : Changes) (at : ℕ) (name : List ℕ) (free : AreOpenFrom c at) (here : slice_get (net_names c.design.spef) at ≡ Some name) (posed : PosedNet)
    (is : IsPosedNet c.design name posed) (cells : List (Option ℕ)) (put : HasPut c (placed_net posed cells) new) where
  abbrev d : Design
  d = c.design

  abbrev p : PlacedNet
  p = placed_net posed cells

  behind_put : (k : ℕ) (other : List ℕ) → at + 1 ≤ k → slice_get (net_names d.spef) k ≡ Some other → (index : SpefIndex) (section : Section) → IsIndexOf d.spef index
      → Contains index.sections (other, section) → put.section.to ≤ section.from
  behind_put k other low there index section of (j, j_low, row) =
      let edit = put.is_section in
      let old = edit.index in
      let (i, i_low, own) = edit.named.row in
      let one : old ≡ index = one_index d.spef old index edit.named.index_of of in
      let at_i : slice_get index.sections i ≡ Some (p.net.par.name, edit.section) =
      ap (λ (x : SpefIndex). slice_get x.sections i) (sym one) ∙ slice_get-get_or old.sections i (p.net.par.name, edit.section) i_low ∙ ap Some own in
      let at_j : slice_get index.sections j ≡ Some (other, section) = slice_get-get_or index.sections j (other, section) j_low ∙ ap Some row in
      let named : p.net.par.name ≡ name = sym (name_is d.spef name p.net.par is.joined.named) in
      let i_is : i ≡ at = net_place d.spef (file_of index) i at name of.said (row_name d.spef index of i (p.net.par.name, edit.section) at_i ∙ ap Some named) here in
      let j_is : j ≡ k = net_place d.spef (file_of index) j k other of.said (row_name d.spef index of j (other, section) at_j) there in
      let rise = rows_rise d.spef index of i j (p.net.par.name, edit.section) (other, section) at_i at_j (omega (arith, i_is, j_is, low)) in
      omega (arith, rise, ap (λ (e : Edit). e.to) edit.is)

  open_put_at : (k : ℕ) (other : List ℕ) → at + 1 ≤ k → slice_get (net_names d.spef) k ≡ Some other → (n : Joined) → IsJoined d other n
      → ((index : SpefIndex) (section : Section) → IsIndexOf d.spef index → Contains index.sections (n.par.name, section)
      → end_of (c.sections ++ put.section ∷ []) ≤ section.from)
      × All (λ rewire. HasLink d.netlist rewire.at (One n.id) → ⊥) (c.rewires ++ rewires_of d.netlist p (split_behind c p))
  open_put_at k other low there n joined = (behind, fresh)
    where
      behind : (index : SpefIndex) (section : Section) → IsIndexOf d.spef index → Contains index.sections (n.par.name, section) → end_of (c.sections ++ put.section ∷ []) ≤ section.from
      behind index section of row =
          let same : n.par.name ≡ other = sym (name_is d.spef other n.par joined.named) in
          let past = behind_put k other low there index section of (subst (λ (m : List ℕ). Contains index.sections (m, section)) same row) in
          omega (arith, past, last_end c.sections put.section)

      differs : p.net.id ≡ n.id → ⊥
      differs e =
          let names : name ≡ other = same_name d name other p.net n is.joined joined e in
          let places : at ≡ k = net_place d.spef is.joined.named.file at k name is.joined.named.head_of.said here (there ∙ ap Some (sym names)) in
          omega (arith, places, low)

      fresh : All (λ rewire. HasLink d.netlist rewire.at (One n.id) → ⊥) (c.rewires ++ rewires_of d.netlist p (split_behind c p))
      fresh =
          All-append (λ (rewire : Rewire). HasLink d.netlist rewire.at (One n.id) → ⊥) c.rewires (rewires_of d.netlist p (split_behind c p))
          ((free k other (omega (arith, low)) there n joined).1)
          (λ i e i_low has. differs (one_link d.netlist _ p.net.id n.id (are_linked d.netlist p (split_behind c p) i e i_low) has))

  pub open_put : AreOpenFrom new (at + 1)
  open_put =
      subst (λ (made : Changes). AreOpenFrom made (at + 1)) (sym put.is)
      (λ k other low there n joined. (let both = open_put_at k other low there n joined in (λ index section named. both.0 index section named.index_of named.row, both.1)))
