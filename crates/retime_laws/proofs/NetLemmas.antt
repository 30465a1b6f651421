-- The new design has a net for each stage, as a walk comes to it.
use Rattle.std.proofs.Common.{◌≡◌, ◌⊎◌, ℕ, ◌<◌, ◌≤◌, ◌==◌, length, get_or, map, slice_index, refl, sym, ◌∙◌, subst, arith, inl, inr}
use Rattle.std.specs.Prelude.{unwrap_or}
use Rattle.std.specs.List.{find}
use Rattle.std.proofs.lemmas.Bool.{cases_lt, eq-eqb, eqb-true}
use Rattle.std.proofs.lemmas.List.Elements.{All-contains}
use Rattle.vg_design.specs.Designs.{Design, Joined, name_of}
use Rattle.vg_design.specs.Nets.{names_of}
use Rattle.vg_design.specs.Parts.{driver_of, loaded_tree}
use Rattle.split_laws.proofs.ListLemmas.{IsFirst, first}
use Rattle.split_laws.specs.ReadPieces.{HasTree}
use Rattle.vg_retime.proofs.ClimbLemmas.{no_net}
use Rattle.vg_retime.specs.Passages.{above_at, end_in}
use Rattle.vg_retime.specs.WalkNets.{WalkNet, IsNetOf}
use Rattle.vg_retime.specs.Ways.{Nets}
use Rattle.vg_split.specs.Splits.{Split, forest, net_of}
use Rattle.vg_split.specs.Stages.{heads}
use Rattle.vg_split.proofs.StageLists.{nodes_below}
use Rattle.elmore.specs.Path.{nodes}
use Rattle.std.proofs.lemmas.List.FromFn.{get_or-range_with_len, length-range_with_len}
use Rattle.retime_laws.specs.Laws.{AreNetsOf, StagesHaveNets}
use Rattle.retime_laws.specs.NetlistStages.{stage_number}
use Rattle.retime_laws.specs.NewStages.{HasStages, IsPut, stage_net}
use Rattle.retime_laws.proofs.AcceptLemmas.{joined, passes_here, stage}
use Rattle.retime_laws.proofs.NameLemmas.{numbered_name}
use Rattle.retime_laws.proofs.TimedLemmas.{number_once}

module _ (d : Design) (n : Joined) (x : Split) (new : Design) (put : IsPut d n x) (has : HasStages d n x new) where
  abbrev count : ℕ
  count = length (heads (forest x))

  -- ---- the net of a stage

  made : (k : ℕ) → k < count → WalkNet
  made k low =
      let tree : HasTree (has.parasitics k low).read = (stage d n x new put has k low).tree in
      let net : Joined = stage_net has k low in
      record {
        tree = loaded_tree new net tree.tree tree.order;
        ends = map (end_in new x.prefix net) tree.order;
        names = names_of net.par tree.order;
        driver = driver_of new net tree.order;
        above = above_at new x.prefix net (name_of net.par (slice_index tree.order 0));
      }

  is_made : (k : ℕ) (low : k < count) → IsNetOf 16 new x.prefix (net_of x k) (made k low)
  unfolding made
  is_made k low =
      let tree : HasTree (has.parasitics k low).read = (stage d n x new put has k low).tree in
      record {
        accepted = passes_here d n x new put has k low;
        joined = stage_net has k low;
        is_joined = joined d n x new put has k low;
        net_is = record {
          tree = tree.tree;
          order = tree.order;
          a_tree = tree.a_tree;
          tree_is = refl;
          ends_are = refl;
          names_are = refl;
          driver_is = refl;
          above_is = refl;
        };
      }

  made_if : (k : ℕ) → (k < count) ⊎ (count ≤ k) → WalkNet
  made_if k (inl low) = made k low
  made_if k (inr past) = no_net

  is_made_if : (k : ℕ) → k < count → (o : (k < count) ⊎ (count ≤ k)) → IsNetOf 16 new x.prefix (net_of x k) (made_if k o)
  unfolding made_if
  is_made_if k low (inl less) = is_made k less
  is_made_if k low (inr past) = absurd (omega (arith, low, past))

  -- ---- by its number

  abbrev number : ℕ → ℕ
  number = stage_number x new.netlist

  stage_of : ℕ → ℕ
  stage_of id = unwrap_or (find (λ k. number k == id) (nodes count)) 0

  stage_is : (k : ℕ) → k < count → stage_of (number k) ≡ k
  unfolding stage_of
  stage_is k low =
      let size : k < length (nodes count) = omega (arith, low, length-range_with_len 0 count) in
      let at : get_or (nodes count) k k ≡ k = get_or-range_with_len 0 count k k low ∙ omega arith in
      let found : IsFirst (λ u. number u == number k) (nodes count) 0
      = first (λ u. number u == number k) (nodes count) k 0 (k, size, at) (eq-eqb (number k) (number k) refl) in
      number_once d n x new put has (λ id. no_net) (stage_of (number k)) k
      (All-contains (λ u. u < count) (nodes count) (stage_of (number k)) (nodes_below count) found.there) low
      (eqb-true (number (stage_of (number k))) (number k) found.passes)

  nets : Nets
  nets id = made_if (stage_of id) (cases_lt (stage_of id) count)

  nets_are : AreNetsOf x new nets
  unfolding nets
  nets_are k low =
      subst (λ name. IsNetOf 16 new x.prefix name (made_if (stage_of (number k)) (cases_lt (stage_of (number k)) count)))
      (sym (numbered_name new (net_of x k) (number k) (has.netlist k low).named))
      (subst (λ u. IsNetOf 16 new x.prefix (net_of x k) (made_if u (cases_lt u count))) (sym (stage_is k low)) (is_made_if k low (cases_lt k count)))

  pub have_nets : (nets : Nets) × AreNetsOf x new nets
  have_nets = (nets, nets_are)

pub stages_have_nets : StagesHaveNets
stages_have_nets d n x new put has = have_nets d n x new put has
