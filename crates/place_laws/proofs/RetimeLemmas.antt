-- The nets re-time, in the written files, to the slacks of their placements.
use Rattle.std.proofs.Common.{◌≡◌, ◌≢◌, ◌==◌, Bool, false, ℕ, zero, suc, ◌+◌, List, [], ◌∷◌, refl, sym, ap, ◌∙◌, subst, arith, Option, Some, None}
use Rattle.std.specs.List.{AllZip, Contains, flat_map, slice_get}
use Rattle.std.specs.Prelude.{if◌then◌else◌}
use Rattle.std.proofs.lemmas.Bool.Decides.{nat_tests}
use Rattle.std.proofs.lemmas.List.{append-nil}
use Rattle.std.proofs.lemmas.Option.{same_Some}
use Rattle.vg_change.specs.Changes.{Changes, HavePut, IsChange, nothing}
use Rattle.vg_change.specs.Placed.{PlacedNet}
use Rattle.vg_change.specs.Steps.{placed_net}
use Rattle.vg_change.proofs.NameLemmas.{owners_old}
use Rattle.vg_change.proofs.PairLemmas.{of_all}
use Rattle.vg_change.proofs.RowLemmas.{name_is}
use Rattle.change_spef_laws.proofs.OrderLemmas.{all_open, net_place}
use Rattle.vg_design.proofs.AcceptLemmas.{problem_is}
use Rattle.vg_design.proofs.LawLemmas.{few_refusals}
use Rattle.vg_design.specs.Designs.{Design, NO_NODE, net_names}
use Rattle.vg_design.specs.Nets.{IsTimedOf}
use Rattle.vg_design.specs.declared.time.Timed.{Timed}
use Rattle.design_read.specs.Designs.{IsDesign, Texts}
use Rattle.vg_retime.proofs.LawLemmas.{less_way, retimed_not_refused}
use Rattle.vg_retime.proofs.OneTimingLemmas.{one_timing}
use Rattle.vg_retime.specs.Retimings.{Retimes}
use Rattle.change_laws.proofs.BareLemmas.{bare_retimes}
use Rattle.change_laws.proofs.DesignLemmas.{again, is_design}
use Rattle.change_laws.proofs.StartLemmas.{keeps_nothing}
use Rattle.change_laws.proofs.OtherLemmas.{others_retime}
use Rattle.change_laws.proofs.RetimeLemmas.{placed_nets_retime}
use Rattle.change_laws.specs.Laws.{RetimesInTexts}
use Rattle.change_laws.specs.Written.{AreWrittenAnew, RetimesTo}
use Rattle.vg_slack.specs.Bests.{HasNoCell}
use Rattle.vg_slack.specs.declared.answer.Best.{Best}
use Rattle.vg_report.specs.Reports.{cell_count}
use Rattle.vg_place.specs.Placings.{Files, IsPutSaid, placed_verdict, put_of}
use Rattle.vg_place.proofs.CellLemmas.{without_cells}
use Rattle.vg_answer.specs.Nets.{nets_for, problem_in}
use Rattle.vg_answer.specs.Verdicts.{Verdict, put_in}
use Rattle.place_laws.proofs.PutLemmas.{HaveOnePlace, IsPutAt, all_keep, in_puts, one_keeps, put_are_placed, put_at, put_differ, puts_of}
use Rattle.place_laws.specs.Laws.{AreWrittenWith, TellsPlacement, WrittenPlacementsRetime, with_files}

after_zero : (n : ℕ) → (suc n == 0) ≡ false
after_zero n = grind (arith, nat_tests)

-- what nothing refuses re-times so for each number of refusals that are left out
whole : (d : Design) (prefix name : List ℕ) (timed : Timed) → Retimes 17 d prefix name timed → Retimes 16 d prefix name timed
whole d prefix name timed is = record { way = is.way; is_way = less_way 17 16 (λ r _. few_refusals r) d prefix name is.way is.is_way; slack = is.slack; wrong = is.wrong }

-- a net without cells of its own
retimes_to : (d : Design) (prefix name : List ℕ) (timed : Timed) → timed.wrong ≡ None → Retimes 17 d prefix name timed → RetimesTo d prefix name timed.slack
retimes_to d prefix name timed none here =
    let same : timed ≡ record { slack = timed.slack; wrong = None } = (λ i. record { slack = timed.slack; wrong = none i }) in
    let now = subst (Retimes 17 d prefix name) same here in
    record {
      retimes = whole d prefix name _ now;
      told = λ other there. one_timing 17 17 d prefix name other _ there now;
      refused = λ refusal first. absurd (omega (arith, few_refusals refusal, retimed_not_refused 17 d prefix name _ refusal now first));
    }

module _ (texts : Texts) (d : Design) (prefix : List ℕ) (asked : Option (List ℕ)) (vs : List Verdict) (files : Files)
    (is : AreWrittenWith texts d prefix asked vs files) where
  abbrev puts : List PlacedNet
  puts = flat_map put_in vs

  abbrev new : Texts
  new = with_files texts files

  nothing_keeps : IsChange (nothing d prefix)
  nothing_keeps = keeps_nothing texts d prefix is.design_of.design_of is.prefix_is is.design_of.free

  keeps_for : (net : Option (List ℕ)) (us : List Verdict) (final : Changes) → AllZip (IsPutSaid d) (nets_for d net) us
      → HavePut (nothing d prefix) (flat_map put_in us) final → IsChange final
  keeps_for None us final each put =
      all_keep d (nothing d prefix) final 0 (net_names d.spef) us refl (record { keeps = nothing_keeps; free = all_open d prefix; few = omega arith })
      (λ k name e. ap (slice_get (net_names d.spef)) (let f : 0 + k ≡ k = omega arith in f) ∙ e) each put
  keeps_for (Some name) [] final each put = absurd each
  keeps_for (Some name) (v ∷ []) final each put =
      one_keeps d prefix name v.put final nothing_keeps (puts_of d name v each.0) (subst (λ ps. HavePut (nothing d prefix) ps final) (append-nil v.put) put)
  keeps_for (Some name) (v ∷ w ∷ us) final each put = absurd each.1

  module _ (name : List ℕ) (best : Best) (t : TellsPlacement d asked vs name best) where
    abbrev cells : List (Option ℕ)
    cells = best.placement.cells

    once_for : (net : Option (List ℕ)) → HaveOnePlace (nets_for d net)
    once_for None j k n e f = net_place d.spef t.net_of.joined.named.file j k n t.net_of.joined.named.head_of.said e f
    once_for (Some m) zero zero n e f = refl
    once_for (Some m) zero (suc k) n e f = absurd cc
    once_for (Some m) (suc j) k n e f = absurd cc

    once : HaveOnePlace (nets_for d asked)
    once = once_for asked

    written : (puts ≡ [] → ⊥) → AreWrittenAnew texts d prefix puts new
    written some =
        let changed = is.files_of.changed some in
        record {
          design = is.design_of.design_of;
          prefix_is = is.prefix_is;
          nets_are = put_are_placed d (nets_for d asked) vs is.each;
          differ = put_differ d (nets_for d asked) vs once is.each;
          changes = changed.changes;
          put = changed.put;
          keeps = keeps_for asked vs changed.changes is.each changed.put;
          texts_are = record { written = changed.made; others = refl };
        }

    -- ---- a placement without a cell

    abbrev timed : Timed
    timed = record { slack = best.slack; wrong = None }

    module _ (none : HasNoCell cells) where
      bare_timed : IsTimedOf d name timed
      bare_timed = record {
        found = problem_in t.net;
        problem = problem_is d name t.net (problem_in t.net) t.net_of refl refl;
        wrong = None;
        timing = record {
          cells = cells;
          bare = record { one_each = t.is_good.good.placement.one_each; none = none };
          slack = t.is_good.slack;
          polarity = t.is_good.good.wanted;
        };
        named = refl;
      }

      bare_here : Retimes 17 d prefix name timed
      bare_here =
          bare_retimes d prefix name timed bare_timed
          (λ v low. owners_old d prefix is.design_of.free name bare_timed.problem.net bare_timed.problem.joined bare_timed.problem.accepted v NO_NODE low)

      bare_files : puts ≡ [] → RetimesInTexts new prefix name best.slack
      bare_files nothing_put = record {
        design = d;
        is = subst (λ (files : Files). IsDesign (with_files texts files) d) (sym (is.files_of.bare nothing_put)) is.design_of.design_of;
        retimes = retimes_to d prefix name timed refl bare_here;
      }

    -- nothing is put for it
    no_put : cell_count cells ≡ 0 → put_of t.net cells ≡ []
    no_put none = rw none refl

    others : cell_count cells ≡ 0 → (p : PlacedNet) → Contains puts p → name ≢ p.net.par.name
    others none p there same =
        let at = of_all (IsPutAt d (nets_for d asked) vs) puts p (put_at d (nets_for d asked) vs is.each) there in
        let own : at.name ≡ p.net.par.name = name_is d.spef at.name p.net.par at.is.joined.named in
        let place : t.place ≡ at.place = once t.place at.place name t.named (at.named ∙ ap Some (own ∙ sym same)) in
        let verdict : placed_verdict t.kind d name t.net best ≡ at.verdict = same_Some (placed_verdict t.kind d name t.net best) at.verdict (sym t.told ∙ ap (slice_get vs) place ∙ at.told) in
        let (i, low, e) = subst (λ ps. Contains ps p) (ap put_in (sym verdict) ∙ no_put none) at.there in
        omega (arith, low)

    bare_retimed : (none : cell_count cells ≡ 0) → (some : puts ≡ [] → ⊥) → RetimesInTexts new prefix name best.slack
    bare_retimed none some =
        let w = written some in
        let e = again texts d prefix puts new w in
        let both = others_retime texts d prefix puts new w e (is_design texts d prefix puts new w) name (others none) timed (bare_timed (without_cells cells none)) in
        record { design = e; is = is_design texts d prefix puts new w; retimes = retimes_to e prefix name timed refl both.1 }

    -- ---- a placement with a cell

    put_here : (n : ℕ) → cell_count cells ≡ suc n → Contains puts (placed_net t.net cells)
    put_here n some =
        let some_cell : (cell_count cells == 0) ≡ false = ap (λ (m : ℕ). m == 0) some ∙ after_zero n in
        let own : (placed_verdict t.kind d name t.net best).put ≡ placed_net t.net cells ∷ []
        = ap (λ (b : Bool). if b then [] else placed_net t.net cells ∷ []) some_cell in
        in_puts vs t.place (placed_verdict t.kind d name t.net best) (placed_net t.net cells) t.told (subst (λ ps. Contains ps (placed_net t.net cells)) (sym own) (0, omega arith, refl))

    celled_retimed : (n : ℕ) → cell_count cells ≡ suc n → (some : puts ≡ [] → ⊥) → RetimesInTexts new prefix name best.slack
    celled_retimed n count some =
        let w = written some in
        let e = again texts d prefix puts new w in
        let p = placed_net t.net cells in
        record {
          design = e;
          is = is_design texts d prefix puts new w;
          retimes =
              subst (λ (m : List ℕ). RetimesTo e prefix m best.slack) (sym (name_is d.spef name p.net.par t.net_of.joined.named))
              (placed_nets_retime texts d prefix puts new w e (is_design texts d prefix puts new w) p (put_here n count) best.slack t.is_good.slack
              t.is_good.good.wanted);
        }

    -- ---- either

    none_put : (n : ℕ) → cell_count cells ≡ suc n → puts ≡ [] → ⊥
    none_put n count none = (let (i, low, e) = subst (λ ps. Contains ps (placed_net t.net cells)) none (put_here n count) in omega (arith, low))

    by_put : (ps : List PlacedNet) → puts ≡ ps → (n : ℕ) → cell_count cells ≡ n → RetimesInTexts new prefix name best.slack
    by_put [] e zero count = bare_files (without_cells cells count) e
    by_put (p ∷ ps) e zero count = bare_retimed count (λ none. (let f : p ∷ ps ≡ [] = sym e ∙ none in absurd cc))
    by_put ps e (suc n) count = celled_retimed n count (none_put n count)

    retimed : RetimesInTexts new prefix name best.slack
    retimed = by_put puts refl (cell_count cells) refl

pub written_placements_retime : WrittenPlacementsRetime
written_placements_retime texts d prefix asked vs files is name best tells = retimed texts d prefix asked vs files is name best tells
