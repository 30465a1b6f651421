-- The nets of a design, one after another.
use Rattle.std.proofs.Common.{◌≡◌, ℕ, ◌+◌, ◌<◌, ◌^◌, List, [], ◌∷◌, ◌++◌, length, map, take, refl, sym, ap, ◌∙◌, subst, arith, Option, Some, All, Vec, flat_map, slice_get}
use Rattle.std.specs.List.{AllZip}
use Rattle.std.specs.declared.alloc.Global.{Global}
use Rattle.std.proofs.lemmas.List.{append-nil, map-append}
use Rattle.std.proofs.lemmas.List.Elements.{All-push, All-weaker}
use Rattle.std.proofs.lemmas.List.Quantifiers.{all_pairs_push}
use Rattle.spef_wire.specs.declared.refusal.Refusal.{Refusal}
use Rattle.vg_front.specs.declared.root.Point.{Point as Pick}
use Rattle.vg_design.specs.Designs.{Design, net_names}
use Rattle.vg_design.specs.Nets.{IsNetProblem}
use Rattle.vg_design.specs.Refusals.{IsFirstRefusal}
use Rattle.vg_design.specs.declared.net_problem.NetProblem.{NetProblem}
use Rattle.vg_report.specs.Reports.{refusal_line}
use Rattle.vg_answer.specs.Verdicts.{kind_of, worse}
use Rattle.vg_answer.specs.declared.kind.AnswerKind.{AnswerKind}
use Rattle.vg_answer.specs.declared.kind.AnswerKind.TheVariants.{Report, Refusal as Refused}
use Rattle.vg_answer.proofs.VerdictLemmas.{flat_more, kind_more, take_next, zip_more}
use Rattle.mode_total.specs.Choices.{Accepted, Standing, Stands, accepted_in}
use Rattle.mode_total.specs.Lines.{kind_in, refusal_in}
use Rattle.mode_total.specs.Picked.{IsFrontFor}
use Rattle.mode_total.specs.Steps.{AreKept, AreWeighed, HasFront, IsKept, IsOneMore}
use Rattle.mode_total.specs.declared.nets.Net.{Net}
use Rattle.mode_total.specs.declared.nets.Weighed.{Weighed}

module _ (d : Design) (cap : Option ℕ) where
  no_kept : AreKept d cap [] [] []
  no_kept = record {
    each = tt;
    fronts_of = tt;
    short = λ k f low. absurd (omega (arith, low));
    rising = λ i j n low high. absurd (omega (arith, low, high));
  }

  -- nothing is known yet
  pub nothing_weighed : (all : Weighed) → all.kind ≡ Report → all.text.items ≡ [] → all.nets.items ≡ [] → all.fronts.items ≡ [] → AreWeighed d cap 0 all
  nothing_weighed all kind text nets fronts = record {
    standings = [];
    each = tt;
    kind_is = kind;
    text_is = text;
    kept = subst (λ (n : List Net). AreKept d cap [] n all.fronts.items) (sym nets) (subst (AreKept d cap [] []) (sym fronts) no_kept);
    before = subst (All (λ (net : Net). net.place < 0)) (sym nets) (λ k n low. absurd (omega (arith, low)));
  }

  module _ (n : ℕ) (old new : Weighed) (name : List ℕ) (here : slice_get (net_names d.spef) n ≡ Some name) (are : AreWeighed d cap n old) where
    abbrev own : List Accepted
    own = flat_map accepted_in are.standings

    -- one net more
    with_standing : (s : Standing) (nets : List Net) (fronts : List (Vec Pick Global)) → Stands d name s → IsOneMore old (kind_in s) (refusal_in s) nets fronts new
        → AreKept d cap (own ++ accepted_in s) (old.nets.items ++ nets) (old.fronts.items ++ fronts) → All (λ (net : Net). net.place < n + 1) (old.nets.items ++ nets)
        → AreWeighed d cap (n + 1) new
    with_standing s nets fronts stands more kept before = record {
      standings = are.standings ++ s ∷ [];
      each =
          subst (λ (names : List (List ℕ)). AllZip (Stands d) names (are.standings ++ s ∷ [])) (sym (take_next (net_names d.spef) n name here))
          (zip_more (Stands d) (take n (net_names d.spef)) are.standings name s are.each stands);
      kind_is =
          more.kind ∙ ap (λ (k : AnswerKind). worse k (kind_in s)) are.kind_is ∙ sym (kind_more (map kind_in are.standings) (kind_in s))
          ∙ ap kind_of (sym (map-append kind_in are.standings (s ∷ [])));
      text_is = more.text ∙ ap (λ (t : List ℕ). t ++ refusal_in s) are.text_is ∙ sym (flat_more refusal_in are.standings s);
      kept =
          subst (λ (some : List Accepted). AreKept d cap some new.nets.items new.fronts.items) (sym (flat_more accepted_in are.standings s))
          (subst (λ (some : List Net). AreKept d cap (own ++ accepted_in s) some new.fronts.items) (sym more.nets)
          (subst (AreKept d cap (own ++ accepted_in s) (old.nets.items ++ nets)) (sym more.fronts) kept));
      before = subst (All (λ (net : Net). net.place < n + 1)) (sym more.nets) before;
    }

    -- those that are kept stand before it
    before_more : All (λ (net : Net). net.place < n + 1) old.nets.items
    before_more = All-weaker (λ (net : Net). net.place < n) (λ (net : Net). net.place < n + 1) (λ net low. omega (arith, low)) old.nets.items are.before

    -- one that is refused
    pub weighed_refused : (refusal : Refusal) → IsFirstRefusal d name refusal → IsOneMore old Refused (refusal_line name refusal) [] [] new → AreWeighed d cap (n + 1) new
    weighed_refused refusal first more =
        with_standing (Standing.refused name refusal) [] [] (refl, first) more
        (subst (λ (some : List Accepted). AreKept d cap some (old.nets.items ++ []) (old.fronts.items ++ [])) (sym (append-nil own))
        (subst (λ (some : List Net). AreKept d cap own some (old.fronts.items ++ [])) (sym (append-nil old.nets.items))
        (subst (AreKept d cap own old.nets.items) (sym (append-nil old.fronts.items)) are.kept)))
        (subst (All (λ (net : Net). net.place < n + 1)) (sym (append-nil old.nets.items)) before_more)

    -- one that is accepted
    pub weighed_front : (net : NetProblem) → IsNetProblem d name net → HasFront old n net cap new → AreWeighed d cap (n + 1) new
    weighed_front net is has =
        let one : Accepted = record { name = name; net = net } in
        let kept : Net = record { place = n; names = net.names } in
        with_standing (Standing.accepted one) (kept ∷ []) (has.front ∷ []) (refl, is) has.more
        (record {
          each = zip_more (IsKept d) own old.nets.items one kept are.kept.each (record { here = here; problem = is; names = refl });
          fronts_of = zip_more (IsFrontFor cap) own old.fronts.items one has.front are.kept.fronts_of has.front_of;
          short = All-push (λ (front : Vec Pick Global). length front.items < 2 ^ 32) old.fronts.items has.front are.kept.short has.short;
          rising = all_pairs_push (λ (a b : Net). a.place < b.place) old.nets.items kept are.kept.rising are.before;
        })
        (All-push (λ (net : Net). net.place < n + 1) old.nets.items kept before_more (omega arith))
