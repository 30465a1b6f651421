-- The nets of different stages have different names, and so different numbers.
use Rattle.std.proofs.Common.{◌≡◌, ◌≢◌, ℕ, ◌<◌, ◌^◌, ◌==◌, false, cond, List, [], ◌++◌, codes, length, map, refl, sym, ap, ◌∙◌, arith, inl, inr, None, Some, Option, option_map}
use Rattle.std.specs.Prelude.{unwrap_or}
use Rattle.std.specs.Fmt.{decimal}
use Rattle.std.proofs.lemmas.Bool.{cases_eq, eq-eqb, ne_eqb}
use Rattle.std.proofs.lemmas.Fmt.{decimal_injective}
use Rattle.std.proofs.lemmas.List.{append_cancel_left, get_or-map, length-map}
use Rattle.std.proofs.lemmas.Option.{slice_get-get_or}
use Rattle.ver_module.specs.Netlists.{Net}
use Rattle.vg_design.specs.Designs.{Design, net_number}
use Rattle.std.specs.Str.{bytes_eq}
use Rattle.std.proofs.lemmas.Slice.Eq.{bytes_eq-Decides}
use Rattle.spef_file.specs.Nets.{NetHead}
use Rattle.spef_net.specs.declared.net.ParNet.{ParNet}
use Rattle.vg_design.proofs.ConnectedLemmas.{found_is}
use Rattle.spef_wire.specs.Nets.{IsNetNamed}
use Rattle.name_tables.proofs.NameTableLemmas.{known_of}
use Rattle.vg_retime.specs.WalkNets.{net_name}
use Rattle.vg_split.proofs.NewNameLemmas.{old_net}
use Rattle.vg_split.proofs.SplitLemmas.{number_fits}
use Rattle.vg_split.specs.Conditions.{IsSplit}
use Rattle.vg_split.specs.NewNames as New
use Rattle.vg_split.specs.Splits.{Split, forest, net_of, number_of}
use Rattle.vg_split.specs.Stages.{heads}

-- ---- names

one_net : (prefix : List ℕ) (m n : ℕ) → m < 2 ^ 64 → n < 2 ^ 64 → New.net_name prefix m ≡ New.net_name prefix n → m ≡ n
one_net prefix m n m_fits n_fits e = decimal_injective m n m_fits n_fits (append_cancel_left (prefix ++ codes "n") (decimal m) (decimal n) e)

module _ (x : Split) (is : IsSplit x) where
  -- the stage whose cell brings the net's name, where another keeps the old one
  brings : ℕ → ℕ
  brings k = cond (k == 0) x.keeper k

  -- it is one of the stages
  record IsBrought (k : ℕ) : Type 0 where
    pub some : 0 < brings k
    pub low : brings k < length (heads (forest x))

  brought : (k : ℕ) → k < length (heads (forest x)) → k ≢ x.keeper → IsBrought k
  unfolding brings
  brought k low other = elim (cases_eq k 0) [
    | inl none_before ↦
        let e : brings k ≡ x.keeper = ap (λ b. cond b x.keeper k) (eq-eqb k 0 none_before) in
        record { some = omega (arith, e, other, none_before); low = omega (arith, e, is.keeper) }
    | inr some ↦
        let e : brings k ≡ k = ap (λ b. cond b x.keeper k) (ne_eqb k 0 some) in
        record { some = omega (arith, e, some); low = omega (arith, e, low) }
  ]

  brings_once : (k u : ℕ) → k ≢ x.keeper → u ≢ x.keeper → brings k ≡ brings u → k ≡ u
  unfolding brings
  brings_once k u k_other u_other e = elim (cases_eq k 0) [
    | inl k_zero ↦ elim (cases_eq u 0) [
      | inl u_zero ↦ k_zero ∙ sym u_zero
      | inr u_some ↦ absurd (u_other (sym (sym (ap (λ b. cond b x.keeper k) (eq-eqb k 0 k_zero)) ∙ e ∙ ap (λ b. cond b x.keeper u) (ne_eqb u 0 u_some))))
    ]
    | inr k_some ↦ elim (cases_eq u 0) [
      | inl u_zero ↦ absurd (k_other (sym (ap (λ b. cond b x.keeper k) (ne_eqb k 0 k_some)) ∙ e ∙ ap (λ b. cond b x.keeper u) (eq-eqb u 0 u_zero)))
      | inr u_some ↦ sym (ap (λ b. cond b x.keeper k) (ne_eqb k 0 k_some)) ∙ e ∙ ap (λ b. cond b x.keeper u) (ne_eqb u 0 u_some)
    ]
  ]

  pub keeper_name : net_of x x.keeper ≡ x.par.name
  keeper_name = ap (λ b. cond b x.par.name (New.net_name x.prefix (number_of x (cond (x.keeper == 0) x.keeper x.keeper)))) (eq-eqb x.keeper x.keeper refl)

  kept_name : (k : ℕ) → k ≡ x.keeper → net_of x k ≡ x.par.name
  kept_name k e = ap (net_of x) e ∙ keeper_name

  new_name : (k : ℕ) → k ≢ x.keeper → net_of x k ≡ New.net_name x.prefix (number_of x (brings k))
  unfolding brings
  new_name k other = ap (λ b. cond b x.par.name (New.net_name x.prefix (number_of x (cond (k == 0) x.keeper k)))) (ne_eqb k x.keeper other)

  -- no two stages have nets of one name
  pub name_once : (k u : ℕ) → k < length (heads (forest x)) → u < length (heads (forest x)) → net_of x k ≡ net_of x u → k ≡ u
  name_once k u k_low u_low e = elim (cases_eq k x.keeper) [
    | inl k_keeps ↦ elim (cases_eq u x.keeper) [
      | inl u_keeps ↦ k_keeps ∙ sym u_keeps
      | inr u_other ↦ absurd (old_net x.prefix x.par.name (number_of x (brings u)) is.new.name (sym (kept_name k k_keeps) ∙ e ∙ new_name u u_other))
    ]
    | inr k_other ↦ elim (cases_eq u x.keeper) [
      | inl u_keeps ↦ absurd (old_net x.prefix x.par.name (number_of x (brings k)) is.new.name (sym (kept_name u u_keeps) ∙ sym e ∙ new_name k k_other))
      | inr u_other ↦
          let a = brought k k_low k_other in
          let b = brought u u_low u_other in
          let numbers : number_of x (brings k) ≡ number_of x (brings u)
          = one_net x.prefix (number_of x (brings k)) (number_of x (brings u)) (number_fits x is (brings k) a.low) (number_fits x is (brings u) b.low)
          (sym (new_name k k_other) ∙ e ∙ new_name u u_other) in
          brings_once k u k_other u_other (omega (arith, numbers, a.some, b.some))
    ]
  ]

-- ---- nets and numbers

-- the net of a name has it
pub own_name : (text name : List ℕ) (net : ParNet) → IsNetNamed text name net → net.name ≡ name
own_name text name net named =
    let found = found_is (λ (h : NetHead). bytes_eq name h.name) named.file.nets named.head named.head_of.named in
    named.read.denoted.named ∙ sym ((bytes_eq-Decides name named.head.name).0 found.passes)

-- the net of a number has the name by which it was found
pub numbered_name : (d : Design) (name : List ℕ) (id : ℕ) → net_number d.netlist name ≡ Some id → net_name d id ≡ name
numbered_name d name id e =
    let NO_NET : Net = record { name = []; base = []; bit = None; escaped = false; port = None; supply = false } in
    let (low, is) = known_of (map (λ (n : Net). n.name) d.netlist.nets) name id (sym e) in
    let within : id < length d.netlist.nets = omega (arith, low, length-map d.netlist.nets (λ (n : Net). n.name)) in
    ap (λ (o : Option Net). unwrap_or (option_map (λ (net : Net). net.name) o) []) (slice_get-get_or d.netlist.nets id NO_NET within)
    ∙ sym (get_or-map (λ (n : Net). n.name) d.netlist.nets id NO_NET [] within) ∙ is
