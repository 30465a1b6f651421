-- What a run promises of a design in mode `total`, from what it prints.
use Rattle.std.proofs.Common.{◌≡◌, ℕ, suc, true, List, [], ◌∷◌, ◌++◌, refl, sym, ap, ◌∙◌, subst, arith, Option, Some, None}
use Rattle.std.specs.Prelude.{if◌then◌else◌, is_some}
use Rattle.std.specs.List.{All, AllZip, flat_map, slice_get, zip}
use Rattle.std.proofs.lemmas.List.Elements.{All-cons, All-nil, All-weaker}
use Rattle.elmore.specs.declared.problem.Problem.{Problem}
use Rattle.vg_store.specs.Reading.{FilesState}
use Rattle.vg_store.specs.Writing.{OutState, Gains}
use Rattle.vg_scan.specs.Prefixes.{is_prefix}
use Rattle.vg_words.specs.Request.{cap_of, prefix_of, IsRequest}
use Rattle.vg_words.specs.declared.ask.Ask.{Ask}
use Rattle.vg_words.specs.declared.ask.Mode.{Mode}
use Rattle.vg_words.specs.declared.ask.Mode.TheVariants.{Total as TotalMode}
use Rattle.vg_change.specs.Placed.{PlacedNet}
use Rattle.vg_design.specs.Designs.{Design, net_names}
use Rattle.vg_design.specs.Laws.{AreSame}
use Rattle.vg_design.specs.Nets.{IsNetProblem, IsPosedNet}
use Rattle.vg_design.specs.declared.net_problem.NetProblem.{NetProblem}
use Rattle.vg_design.specs.declared.net_problem.PosedNet.{PosedNet}
use Rattle.vg_design.proofs.AcceptLemmas.{problem_is}
use Rattle.vg_design.proofs.LawLemmas.{one_problem}
use Rattle.vg_slack.specs.Bests.{IsGoodWith}
use Rattle.vg_slack.specs.declared.answer.Best.{Best}
use Rattle.vg_front.specs.declared.root.Point.{Point as Pick}
use Rattle.change_laws.specs.Laws.{RetimesInTexts}
use Rattle.design_read.specs.Designs.{Texts}
use Rattle.vg_answer.specs.Answers.{Said, Written}
use Rattle.vg_answer.specs.Nets.{problem_in}
use Rattle.vg_answer.specs.Verdicts.{Verdict, bare_verdict, put_in}
use Rattle.vg_answer.specs.declared.kind.AnswerKind.{AnswerKind}
use Rattle.vg_answer.specs.declared.kind.AnswerKind.TheVariants.{Report, Refusal}
use Rattle.vg_answer.specs.declared.output.Output.TheVariants.{Netlist}
use Rattle.vg_answer.proofs.ProblemLemmas.{one_of_parts}
use Rattle.vg_place.specs.Placings.{AreFilesOf, Files, IsFreeDesign, IsPutSaid, changed_files, kept, placed_verdict}
use Rattle.place_laws.specs.Laws.{AreWrittenWith, TellsPlacement, with_files}
use Rattle.place_laws.proofs.RetimeLemmas.{written_placements_retime}
use Rattle.mode_total.specs.Answers.{AreFilesWith, AreWrittenFor, IsPutFor, IsTotalAnswer, last_picked}
use Rattle.mode_total.specs.Choices.{Accepted, Choice, IsChoice, IsPick, Standing, Stands, accepted_in, last_picks}
use Rattle.vg_run.specs.Inputs.{Change}
use Rattle.vg_run.specs.Modes.{IsAnswerIn, design_texts, total_asked, written_prefix}
use Rattle.vg_run.specs.Run.{AreHeld, Prints}
use Rattle.vg_run.proofs.RequestLemmas.{prefix_is}
use Rattle.vginsert_top.specs.Headline.{HasTotalFiles, TotalHeadline}

abbrev Bytes : Type 0
Bytes = List ℕ

-- ---- an accepted net

-- its problem is the one that is posed
posed_as : (d : Design) (name : Bytes) (own : NetProblem) (net : PosedNet) → IsNetProblem d name own → IsPosedNet d name net → own.problem ≡ net.problem
posed_as d name own net is of =
    let same : AreSame own (problem_in net) = one_problem d name own (problem_in net) is (problem_is d name net (problem_in net) of refl refl) in
    one_of_parts own.problem net.problem same.tree same.driver same.sinks same.places same.reps same.allowed

-- what is picked for it, as a placement that is told
abbrev best_of : Pick → Best
best_of pick = record { slack = pick.slack; placement = pick.placement }

pick_is_good : (d : Design) (cap : Option ℕ) (own : Accepted) (pick : Pick) (net : PosedNet) → IsNetProblem d own.name own.net → IsPosedNet d own.name net
    → IsPick cap own pick → IsGoodWith net.problem pick.placement.cells pick.slack
pick_is_good d cap own pick net is of picked =
    subst (λ (p : Problem). IsGoodWith p pick.placement.cells pick.slack) (posed_as d own.name own.net net is of)
    (record { good = picked.placed.good; slack = picked.placed.slacks })

-- ---- the nets, one after another, each with what is told of it

module _ (d : Design) (cap : Option ℕ) where
  -- what is picked for an accepted net is told of it
  record IsToldAt (names : List Bytes) (vs : List Verdict) (picked : Accepted × Pick) : Type 0 where
    place : ℕ
    named : slice_get names place ≡ Some picked.0.name
    net : PosedNet
    net_of : IsPosedNet d picked.0.name net
    is_good : IsGoodWith net.problem picked.1.placement.cells picked.1.slack
    told : slice_get vs place ≡ Some (placed_verdict Report d picked.0.name net (best_of picked.1))

  later : (n : Bytes) (names : List Bytes) (v : Verdict) (vs : List Verdict) (picked : Accepted × Pick) → IsToldAt names vs picked → IsToldAt (n ∷ names) (v ∷ vs) picked
  later n names v vs picked at = record { place = suc at.place; named = at.named; net = at.net; net_of = at.net_of; is_good = at.is_good; told = at.told }

  -- what is said of nets, so that it puts just these cells
  record AreTold (names : List Bytes) (picked : List (Accepted × Pick)) (puts : List (List PlacedNet)) : Type 0 where
    verdicts : List Verdict
    each : AllZip (IsPutSaid d) names verdicts
    puts_are : flat_map put_in verdicts ≡ flat_map (λ (put : List PlacedNet). put) puts
    told : All (IsToldAt names verdicts) picked

  told_refused : (n : Bytes) (names : List Bytes) (picked : List (Accepted × Pick)) (puts : List (List PlacedNet)) → AreTold names picked puts
      → AreTold (n ∷ names) picked puts
  told_refused n names picked puts rest =
      let v = bare_verdict Refusal [] in
      record {
        verdicts = v ∷ rest.verdicts;
        each = (IsPutSaid.puts_nothing refl, rest.each);
        puts_are = rest.puts_are;
        told = All-weaker (IsToldAt names rest.verdicts) (IsToldAt (n ∷ names) (v ∷ rest.verdicts)) (later n names v rest.verdicts) picked rest.told;
      }

  told_accepted : (n : Bytes) (names : List Bytes) (own : Accepted) (pick : Pick) (put : List PlacedNet) (picked : List (Accepted × Pick))
      (puts : List (List PlacedNet)) → own.name ≡ n → IsNetProblem d n own.net → IsPick cap own pick → IsPutFor d (own, pick) put → AreTold names picked puts
      → AreTold (n ∷ names) ((own, pick) ∷ picked) (put ∷ puts)
  told_accepted n names own pick put picked puts same is is_pick (net, of, put_is) rest =
      let v = placed_verdict Report d own.name net (best_of pick) in
      let good = pick_is_good d cap own pick net (subst (λ (name : Bytes). IsNetProblem d name own.net) (sym same) is) of is_pick in
      record {
        verdicts = v ∷ rest.verdicts;
        each = (IsPutSaid.puts_cells net (subst (λ (name : Bytes). IsPosedNet d name net) same of) pick.placement.cells good.good refl, rest.each);
        puts_are = λ i. sym put_is i ++ rest.puts_are i;
        told =
            All-cons (IsToldAt (n ∷ names) (v ∷ rest.verdicts)) (own, pick) picked
            (record { place = 0; named = ap Some (sym same); net = net; net_of = of; is_good = good; told = refl })
            (All-weaker (IsToldAt names rest.verdicts) (IsToldAt (n ∷ names) (v ∷ rest.verdicts)) (later n names v rest.verdicts) picked rest.told);
      }

  are_told : (names : List Bytes) (standings : List Standing) (picks : List Pick) (puts : List (List PlacedNet)) → AllZip (Stands d) names standings
      → AllZip (IsPick cap) (flat_map accepted_in standings) picks → AllZip (IsPutFor d) (zip (flat_map accepted_in standings) picks) puts
      → AreTold names (zip (flat_map accepted_in standings) picks) puts
  are_told [] [] [] [] stand each put = record { verdicts = []; each = tt; puts_are = refl; told = All-nil (IsToldAt [] []) }
  are_told [] [] [] (p ∷ puts) stand each put = absurd put
  are_told [] [] (pick ∷ picks) puts stand each put = absurd each
  are_told [] (s ∷ standings) picks puts stand each put = absurd stand
  are_told (n ∷ names) [] picks puts stand each put = absurd stand
  are_told (n ∷ names) (Standing.refused own refusal ∷ standings) picks puts stand each put =
      told_refused n names (zip (flat_map accepted_in standings) picks) puts (are_told names standings picks puts stand.1 each put)
  are_told (n ∷ names) (Standing.accepted own ∷ standings) [] puts stand each put = absurd each
  are_told (n ∷ names) (Standing.accepted own ∷ standings) (pick ∷ picks) [] stand each put = absurd put
  are_told (n ∷ names) (Standing.accepted own ∷ standings) (pick ∷ picks) (p ∷ puts) stand each put =
      told_accepted n names own pick p (zip (flat_map accepted_in standings) picks) puts stand.0.0 stand.0.1 each.0 put.0
      (are_told names standings picks puts stand.1 each.1 put.1)

-- ---- the last choice

-- it takes a placement for each net
last_takes : (cap : Option ℕ) (nets : List Accepted) (c : Choice) (cs : List Choice) → All (IsChoice cap nets) (c ∷ cs)
    → AllZip (IsPick cap) nets (last_picks (c ∷ cs))
last_takes cap nets c [] all = (all 0 c (omega arith)).each
last_takes cap nets c (e ∷ cs) all = last_takes cap nets e cs (λ k d low. all (suc k) d (omega (arith, low)))

-- where there is none, nothing is picked
none_picked : (nets : List Accepted) → zip nets (last_picks []) ≡ []
none_picked [] = refl
none_picked (own ∷ nets) = refl

nothing_put : (d : Design) (puts : List (List PlacedNet)) → AllZip (IsPutFor d) [] puts → flat_map (λ (put : List PlacedNet). put) puts ≡ []
nothing_put d [] each = refl
nothing_put d (put ∷ puts) each = absurd each

-- ---- the files

module _ (texts : Texts) (d : Design) (prefix : Bytes) (cap : Option ℕ) (free : IsFreeDesign texts prefix d) (solid : is_prefix prefix ≡ true)
    (standings : List Standing) (stand : AllZip (Stands d) (net_names d.spef) standings) (files : Files) where
  abbrev Retimes : Accepted × Pick → Type 0
  Retimes picked = RetimesInTexts (with_files texts files) prefix picked.0.name picked.1.slack

  retime : (choices : List Choice) → All (IsChoice cap (flat_map accepted_in standings)) choices
      → AreFilesWith (kept texts) d prefix (last_picked standings choices) files → All Retimes (last_picked standings choices)
  retime [] all made = subst (All Retimes) (sym (none_picked (flat_map accepted_in standings))) (All-nil Retimes)
  retime (c ∷ cs) all made =
      let picks = last_picks (c ∷ cs) in
      let told : AreTold d cap (net_names d.spef) (last_picked standings (c ∷ cs)) made.puts
      = are_told d cap (net_names d.spef) standings picks made.puts stand (last_takes cap (flat_map accepted_in standings) c cs all) made.each in
      let written : AreWrittenWith texts d prefix None told.verdicts files = record {
        design_of = free;
        prefix_is = solid;
        each = told.each;
        files_of = subst (λ nets. AreFilesOf (kept texts) d prefix nets files) (sym told.puts_are) made.files_of;
      } in
      All-weaker (IsToldAt d cap (net_names d.spef) told.verdicts) Retimes
      (λ picked at. (
      let tells : TellsPlacement d None told.verdicts picked.0.name (best_of picked.1)
      = record { place = at.place; named = at.named; net = at.net; net_of = at.net_of; is_good = at.is_good; kind = Report; told = at.told } in
      written_placements_retime texts d prefix None told.verdicts files written picked.0.name (best_of picked.1) tells))
      (last_picked standings (c ∷ cs)) told.told

  as_read : (choices : List Choice) → AreFilesWith (kept texts) d prefix (last_picked standings choices) files → choices ≡ [] → files ≡ kept texts
  as_read choices made none =
      let empty : last_picked standings choices ≡ [] = ap (last_picked standings) none ∙ none_picked (flat_map accepted_in standings) in
      made.files_of.bare (nothing_put d made.puts (subst (λ picked. AllZip (IsPutFor d) picked made.puts) empty made.each))

-- ---- the run

abbrev NO_FILE : Written
NO_FILE = record { output = Netlist; text = [] }

module _ (words : List Bytes) (ask : Ask) (is : IsRequest words ask) where
  given : (file : Bytes) → ask.out_spef ≡ Some file → written_prefix ask ≡ Some (prefix_of ask)
  given file named = ap (λ (out : Option Bytes). if is_some out then Some (prefix_of ask) else None) named

  total_files : (files : Change FilesState) (texts : Texts) (kind : AnswerKind) (said : Said) (answer : IsTotalAnswer texts (total_asked ask) kind said)
      → AreHeld files ask said.files → (file : Bytes) → ask.out_spef ≡ Some file → HasTotalFiles files.1 ask texts answer.total.standings answer.total.choices
  total_files files texts kind said answer whole file named =
      let (free, (made, with, are)) = subst (λ (prefix : Option Bytes). AreWrittenFor (kept texts) answer.design prefix (last_picked answer.total.standings answer.total.choices) said.files) (given file named) answer.written in
      let held : AreHeld files ask (changed_files made) = subst (λ (list : List Written). AreHeld files ask list) are whole in
      record {
        written = made;
        netlist = held 0 NO_FILE (omega arith);
        parasitics = held 1 NO_FILE (omega arith);
        each =
            retime texts answer.design (prefix_of ask) (cap_of ask) (record { design_of = answer.design_of; free = free }) (prefix_is words ask is)
            answer.total.standings answer.total.each made answer.total.choices answer.total.are.each with;
        as_read =
            as_read texts answer.design (prefix_of ask) (cap_of ask) (record { design_of = answer.design_of; free = free }) (prefix_is words ask is)
            answer.total.standings answer.total.each made answer.total.choices with;
      }

  pub total_headline : (files : Change FilesState) (out : Change OutState) (kind : AnswerKind) → ask.mode ≡ TotalMode → Prints kind files (Gains out.0 out.1) ask
      → TotalHeadline files out ask
  total_headline files out kind mode (texts, read, (said, says, gained, written)) =
      let answer : IsTotalAnswer (design_texts texts) (total_asked ask) kind said = subst (λ (m : Mode). IsAnswerIn m ask texts kind said) mode says in
      record {
        texts = texts;
        read = read;
        design = answer.design;
        design_of = answer.design_of;
        kind = kind;
        lines = said.text;
        total = answer.total;
        printed = gained;
        written = total_files files (design_texts texts) kind said answer written.whole;
      }
