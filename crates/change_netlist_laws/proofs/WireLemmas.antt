-- The nets of stages, by their names and as they are written.
use Rattle.std.proofs.Common.{◌≡◌, ◌≢◌, ℕ, ◌+◌, ◌-◌, ◌<◌, ◌≤◌, ◌^◌, ◌==◌, Bool, true, false, length, refl, sym, ap, ◌∙◌, subst, arith}
use Rattle.std.specs.Prelude.{if◌then◌else◌}
use Rattle.std.specs.List.{range_with_len}
use Rattle.std.proofs.lemmas.Bool.{eq-eqb}
use Rattle.std.proofs.lemmas.List.FromFn.{get_or-range_with_len, length-range_with_len}
use Rattle.ver_patch_laws.specs.Links.{NetName}
use Rattle.ver_patch_laws.proofs.RelinkedLemmas.{In}
use Rattle.ver_module.specs.Netlists.{Netlist}
use Rattle.ver_patch_laws.specs.Consistent.{wire_name}
use Rattle.ver_patch_laws.specs.Names.{name_at}
use Rattle.ver_patch_laws.proofs.SetLemmas.{contains_in, in_contains, in_map}
use Rattle.vg_change.specs.Placed.{cell_stages, wires_of}
use Rattle.vg_split.specs.Conditions.{IsSplit}
use Rattle.vg_split.specs.NewNames.{net_name}
use Rattle.vg_split.specs.Splits.{Split, forest, net_of, number_of}
use Rattle.vg_split.proofs.SplitLemmas.{number_fits}
use Rattle.vg_split.specs.Stages.{heads}
use Rattle.change_netlist_laws.proofs.PutLemmas.{count}
use Rattle.std.proofs.lemmas.Bool.Decides.{nat_tests}

pub in_range : (from n k : ℕ) → from ≤ k → k < from + n → In k (range_with_len from n)
in_range from n k low high =
    contains_in (range_with_len from n) k (k - from, omega (arith, low, high, length-range_with_len from n), omega (arith, low, get_or-range_with_len from n (k - from) k (omega (arith, low, high))))

pub range_in : (from n k : ℕ) → In k (range_with_len from n) → (from ≤ k) × (k < from + n)
range_in from n k i =
    let (j, low, at) = in_contains (range_with_len from n) k i in
    let j_low : j < n = omega (arith, low, length-range_with_len from n) in
    let e = get_or-range_with_len from n j k j_low in
    (omega (arith, e, at), omega (arith, e, at, j_low))

-- the stage from whose cell the net of a stage has its number
abbrev pub wire_stage : Split → ℕ → ℕ
wire_stage x k = if k == 0 then x.keeper else k

-- the name of the net of a stage
abbrev pub stage_name : Netlist → ℕ → Split → ℕ → NetName
stage_name netlist id x k = if k == x.keeper then name_at netlist id else wire_name (net_of x k)

module _ (x : Split) (is : IsSplit x) (k : ℕ) (low : k < length (heads (forest x))) where
  pub wire_within : (k == x.keeper) ≡ false → (0 < wire_stage x k) × (wire_stage x k < length (heads (forest x)))
  wire_within other = by_root (k == 0) refl
    where
      by_root : (b : Bool) → (k == 0) ≡ b → (0 < (if b then x.keeper else k)) × ((if b then x.keeper else k) < length (heads (forest x)))
      by_root true e =
          let root : k ≡ 0 = grind (arith, nat_tests) in
          let keeper : x.keeper ≢ 0 = (λ f. absurd (let g : (k == x.keeper) ≡ true = eq-eqb k x.keeper (root ∙ sym f) in cc)) in
          (omega (arith, keeper), is.keeper)
      by_root false e =
          let some : k ≢ 0 = (λ f. absurd (let g : (k == 0) ≡ true = eq-eqb k 0 f in cc)) in
          (omega (arith, some), low)

  pub wire_is : (k == x.keeper) ≡ false → net_of x k ≡ net_name x.prefix (number_of x (wire_stage x k))
  wire_is other = ap (λ (b : Bool). if b then x.par.name else net_name x.prefix (number_of x (wire_stage x k))) other

  pub wire_fits : (k == x.keeper) ≡ false → number_of x (wire_stage x k) < 2 ^ 64
  wire_fits other = number_fits x is (wire_stage x k) (wire_within other).1

  pub wire_among : (k == x.keeper) ≡ false → In (net_of x k) (wires_of x)
  wire_among other =
      let (some, high) = wire_within other in
      subst (λ n. In n (wires_of x)) (sym (wire_is other))
      (in_map (λ j. net_name x.prefix (number_of x j)) (cell_stages x) (wire_stage x k) (in_range 1 (count x) (wire_stage x k) some (omega (arith, some, high))))
