-- The cells of what is picked, put into the nets of a design.
use Rattle.std.proofs.Common.{◌≡◌, ℕ, ◌+◌, ◌<◌, ◌≤◌, Bool, false, ◌||◌, List, [], ◌∷◌, ◌++◌, refl, sym, ap, ◌∙◌, subst, arith, Option, Some, AllPairs, flat_map, get_or, slice_get}
use Rattle.std.specs.List.{AllZip}
use Rattle.std.proofs.lemmas.Option.{get_or_from_slice_get, slice_get_within}
use Rattle.elmore.specs.Best.{IsGood}
use Rattle.elmore.specs.declared.problem.Problem.{Problem}
use Rattle.spef_wire.specs.declared.refusal.Refusal.{Refusal}
use Rattle.change_spef_laws.specs.Order.{AreOpenFrom}
use Rattle.vg_change.specs.Changes.{Changes, HavePut}
use Rattle.vg_change.specs.Placed.{PlacedNet}
use Rattle.vg_front.specs.declared.root.Point.{Point as Pick}
use Rattle.vg_design.specs.Designs.{Design, net_names}
use Rattle.vg_design.specs.Nets.{IsNetProblem, IsPosedNet}
use Rattle.vg_design.specs.Refusals.{IsFirstRefusal}
use Rattle.vg_design.specs.declared.net_problem.NetProblem.{NetProblem}
use Rattle.vg_design.specs.declared.net_problem.PosedNet.{PosedNet}
use Rattle.vg_design.proofs.AcceptLemmas.{problem_is}
use Rattle.vg_design.proofs.LawLemmas.{one_problem, problem_or_refused}
use Rattle.vg_answer.specs.Nets.{problem_in}
use Rattle.vg_answer.specs.Verdicts.{Verdict}
use Rattle.vg_answer.specs.declared.kind.AnswerKind.TheVariants.{Report}
use Rattle.vg_answer.proofs.ProblemLemmas.{one_of_parts}
use Rattle.vg_answer.proofs.VerdictLemmas.{flat_more, zip_more}
use Rattle.vg_place.specs.Placings.{IsPutSaid, put_of}
use Rattle.vg_place.specs.Steps.{ArePut}
use Rattle.vg_place.proofs.PutLemmas.{any_both, open_more, put_both}
use Rattle.mode_total.specs.Choices.{Accepted}
use Rattle.mode_total.specs.Steps.{ArePutInto, AreOpenBehind, IsKept, IsPutInto, kept_name}
use Rattle.mode_total.specs.declared.nets.Net.{Net}

module _ (d : Design) where
  -- ---- one net

  -- a net is posed as its one problem
  same_problem : (name : List ℕ) (found : NetProblem) (posed : PosedNet) → IsNetProblem d name found → IsPosedNet d name posed → found.problem ≡ posed.problem
  same_problem name found posed is of =
      let same = one_problem d name found (problem_in posed) is (problem_is d name posed (problem_in posed) of refl refl) in
      one_of_parts found.problem posed.problem same.tree same.driver same.sinks same.places same.reps same.allowed

  module _ (own : Accepted) (net : Net) (kept : IsKept d own net) where
    -- a net that was accepted is not refused
    pub not_refused : (name : List ℕ) (refusal : Refusal) → slice_get (net_names d.spef) net.place ≡ Some name → IsFirstRefusal d name refusal → ⊥
    not_refused name refusal here first =
        let e : own.name ≡ name = (let f : Some own.name ≡ Some name = sym kept.here ∙ here in cc) in
        problem_or_refused d name own.net refusal (subst (λ (n : List ℕ). IsNetProblem d n own.net) e kept.problem) first

    -- it is posed by its name
    pub posed_by : (name : List ℕ) (posed : PosedNet) → slice_get (net_names d.spef) net.place ≡ Some name → IsPosedNet d name posed → IsPosedNet d own.name posed
    posed_by name posed here of =
        let e : name ≡ own.name = (let f : Some name ≡ Some own.name = sym here ∙ kept.here in cc) in
        subst (λ (n : List ℕ). IsPosedNet d n posed) e of

    -- a good placement of it is one of the net as it is posed
    pub posed_good : (posed : PosedNet) (cells : List (Option ℕ)) → IsPosedNet d own.name posed → IsGood own.net.problem cells → IsGood posed.problem cells
    posed_good posed cells of good = subst (λ (p : Problem). IsGood p cells) (same_problem own.name own.net posed kept.problem of) good

  -- ---- net after net

  pub open_at : (c : Changes) (from at : ℕ) → AreOpenFrom c from → from ≤ at → AreOpenFrom c at
  open_at c from at free low k name at_k here = free k name (omega (arith, low, at_k)) here

  module _ (nets : List Net) (rising : AllPairs (λ (a b : Net). a.place < b.place) nets) where
    pub open_first : (c : Changes) → AreOpenFrom c 0 → AreOpenBehind nets 0 c
    open_first c free k net low here = open_at c 0 net.place free (omega arith)

    -- besides those that were put, cells may be put into the nets behind
    pub open_next : (old new : Changes) (at : ℕ) (own : Accepted) (net : Net) (posed : PosedNet) (cells : List (Option ℕ)) → old.design ≡ d → AreOpenBehind nets at old
        → slice_get nets at ≡ Some net → IsKept d own net → IsPosedNet d own.name posed → IsGood posed.problem cells → HavePut old (put_of posed cells) new
        → AreOpenBehind nets (at + 1) new
    open_next old new at own net posed cells same free here kept of good put k next low there =
        let v : Verdict = record { kind = Report; text = []; put = put_of posed cells } in
        let after = open_more d old new net.place own.name v same (free at net (omega arith) here) kept.here (IsPutSaid.puts_cells posed of cells good refl) put in
        let rise : (get_or nets at net).place < (get_or nets k net).place = rising at k net (omega (arith, low)) (slice_get_within nets k next there) in
        let first = get_or_from_slice_get nets at net net here in
        let second = get_or_from_slice_get nets k next net there in
        open_at new (net.place + 1) next.place after (omega (arith, rise, ap (λ (n : Net). n.place) first, ap (λ (n : Net). n.place) second))

  -- ---- what is put

  pub put_none : (c : Changes) (rows : List (Net × Pick)) → rows ≡ [] → ArePutInto d rows c c false
  put_none c rows none = record {
    puts = [];
    each = subst (λ (r : List (Net × Pick)). AllZip (IsPutInto d) r []) (sym none) tt;
    put = record { put = refl; told = refl };
  }

  -- one net more
  pub put_more : (rows : List (Net × Pick)) (first old new : Changes) (changed put : Bool) (row : Net × Pick) (posed : PosedNet) → ArePutInto d rows first old changed
      → IsPosedNet d (kept_name d row.0) posed → ArePut old (put_of posed row.1.placement.cells) new put
      → ArePutInto d (rows ++ row ∷ []) first new (changed || put)
  put_more rows first old new changed put row posed before of is =
      let more = put_of posed row.1.placement.cells in
      let all : flat_map (λ (nets : List PlacedNet). nets) (before.puts ++ more ∷ []) ≡ flat_map (λ (nets : List PlacedNet). nets) before.puts ++ more =
      flat_more (λ (nets : List PlacedNet). nets) before.puts more in
      record {
        puts = before.puts ++ more ∷ [];
        each = zip_more (IsPutInto d) rows before.puts row more before.each (posed, of, refl);
        put = subst (λ (nets : List PlacedNet). ArePut first nets new (changed || put)) (sym all) (record {
          put = put_both first old new (flat_map (λ (nets : List PlacedNet). nets) before.puts) more before.put.put is.put;
          told =
              (λ i. before.put.told i || is.told i) ∙ sym (any_both (flat_map (λ (nets : List PlacedNet). nets) before.puts) more);
        });
      }
