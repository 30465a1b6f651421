-- What is known of the nets of a design, what is found, and what is put: for the functions between.
use Rattle.std.specs.Prelude.{◌≡◌, ℕ, ◌<◌, ◌≤◌, ◌^◌, List, [], ◌∷◌, ◌++◌, length, map, take, zip, slice_get, slice_index_or, Option, Some, None, Result, Ok, Err, Bool}
use Rattle.std.specs.List.{All, AllPairs, AllZip, flat_map}
use Rattle.std.specs.declared.alloc.Global.{Global}
use Rattle.std.specs.declared.vec.Vec.{Vec}
use Rattle.elmore.specs.Best.{IsGood}
use Rattle.change_spef_laws.specs.Order.{AreOpenFrom}
use Rattle.ver_file.specs.Modules.{Denotes}
use Rattle.vg_front.specs.Points.{IsFrontierOf}
use Rattle.vg_front.specs.declared.root.Point.{Point as Pick}
use Rattle.vg_change.specs.Changes.{Changes}
use Rattle.vg_change.specs.Placed.{PlacedNet}
use Rattle.vg_change.specs.Taken.{taken}
use Rattle.vg_change.specs.declared.changes.Patches.{Patches}
use Rattle.vg_design.specs.Designs.{Design, net_names}
use Rattle.vg_design.specs.Nets.{IsNetProblem, IsPosedNet}
use Rattle.vg_design.specs.Parts.{cells_of}
use Rattle.vg_design.specs.declared.net_problem.NetProblem.{NetProblem}
use Rattle.vg_design.specs.declared.net_problem.PosedNet.{PosedNet}
use Rattle.vg_report.specs.Reports.{pick_report}
use Rattle.vg_total.specs.declared.pick.TotalPoint.{TotalPoint}
use Rattle.vg_answer.specs.Verdicts.{kind_of, worse}
use Rattle.vg_answer.specs.declared.answer.NoAnswer.{NoAnswer}
use Rattle.vg_answer.specs.declared.answer.NoAnswer.TheVariants.{Faulty, Taken, Memory}
use Rattle.vg_answer.specs.declared.kind.AnswerKind.{AnswerKind}
use Rattle.vg_answer.specs.declared.kind.AnswerKind.TheVariants.{Report, NoneGood}
use Rattle.vg_place.specs.Placings.{Files, put_of}
use Rattle.vg_place.specs.Steps.{ArePatchesFor, ArePut, FitIn, files_with}
use Rattle.vg_place.specs.declared.judged.Judged.{Judged}
use Rattle.mode_total.specs.Answers.{AreFilesWith, IsTotalSaid, last_picked}
use Rattle.mode_total.specs.Choices.{Accepted, Choice, Standing, Stands, accepted_in, last_picks}
use Rattle.mode_total.specs.Lines.{choice_line, kind_in, refusal_in, total_line, total_none_line}
use Rattle.mode_total.specs.Picked.{AreFrontsFor, AreInside, choice_in, picks_in}
use Rattle.mode_total.specs.declared.nets.Net.{Net}
use Rattle.mode_total.specs.declared.nets.Weighed.{Weighed}
use Rattle.mode_total.specs.declared.search.Found.{Found}

-- ---- the nets, one after another

-- this is said and kept of one net more
pub record IsOneMore (old : Weighed) (more : AnswerKind) (line : List ℕ) (own : List Net)
    (found : List (Vec Pick Global)) (new : Weighed) : Type 0 where
  pub kind : new.kind ≡ worse old.kind more
  pub text : new.text.items ≡ old.text.items ++ line
  pub nets : new.nets.items ≡ old.nets.items ++ own
  pub fronts : new.fronts.items ≡ old.fronts.items ++ found

-- a net with this problem, at this place, is kept with its frontier
pub record HasFront (old : Weighed) (place : ℕ) (net : NetProblem) (cap : Option ℕ) (new : Weighed) : Type 0 where
  pub front : Vec Pick Global
  pub front_of : IsFrontierOf net.problem cap front.items
  pub short : length front.items < 2 ^ 32
  pub more : IsOneMore old Report [] (record { place = place; names = net.names } ∷ []) (front ∷ []) new

-- what is kept of an accepted net: its place among all nets, and the names of the nodes of its tree
pub record IsKept (d : Design) (own : Accepted) (net : Net) : Type 0 where
  pub here : slice_get (net_names d.spef) net.place ≡ Some own.name
  pub problem : IsNetProblem d own.name own.net
  pub names : net.names ≡ own.net.names

abbrev pub AreShort : List (Vec Pick Global) → Type 0
AreShort fronts = All (λ (front : Vec Pick Global). length front.items < 2 ^ 32) fronts

-- these nets are kept, in the order of the parasitics, with their frontiers
pub record AreKept (d : Design) (cap : Option ℕ) (own : List Accepted) (nets : List Net)
    (fronts : List (Vec Pick Global)) : Type 0 where
  pub each : AllZip (IsKept d) own nets
  pub fronts_of : AreFrontsFor cap own fronts
  pub short : AreShort fronts
  pub rising : AllPairs (λ (a b : Net). a.place < b.place) nets

-- the first n nets are known
pub record AreWeighed (d : Design) (cap : Option ℕ) (n : ℕ) (all : Weighed) : Type 0 where
  pub standings : List Standing
  pub each : AllZip (Stands d) (take n (net_names d.spef)) standings
  pub kind_is : all.kind ≡ kind_of (map kind_in standings)
  pub text_is : all.text.items ≡ flat_map refusal_in standings
  pub kept : AreKept d cap (flat_map accepted_in standings) all.nets.items all.fronts.items
  pub before : All (λ (net : Net). net.place < n) all.nets.items

-- ---- what is picked

-- a good placement of a net that is kept
abbrev pub IsPickFor : Design → Net × Pick → Type 0
IsPickFor d (net, pick) = (own : Accepted) × IsKept d own net × IsGood own.net.problem pick.placement.cells

-- a point of each frontier is picked, which is such a one
pub record ArePicksFor (d : Design) (nets : List Net) (fronts : List (Vec Pick Global)) (picks : List ℕ) : Type 0 where
  pub count : length nets ≡ length fronts
  pub inside : AreInside fronts picks
  pub each : All (IsPickFor d) (zip nets (picks_in fronts picks))

-- ---- what is told

-- the name of a net that is kept
abbrev pub kept_name : Design → Net → List ℕ
kept_name d net = slice_index_or (net_names d.spef) net.place []

abbrev pub kept_report : Design → Net × Pick → List ℕ
kept_report d (net, pick) = pick_report (kept_name d net) (cells_of d.library.repeaters) net.names pick

-- a choice, and then what it takes for each net that is kept
abbrev pub kept_choice : Design → List Net → Choice → List ℕ
kept_choice d nets choice = choice_line choice ++ flat_map (kept_report d) (zip nets choice.picks)

abbrev pub kept_total : Design → List Net → List Choice → List ℕ
kept_total d nets [] = total_none_line
kept_total d nets (choice ∷ choices) =
    total_line (length (choice ∷ choices)) ++ flat_map (kept_choice d nets) (choice ∷ choices)

-- the kind of an answer with these points
abbrev pub kind_found : List TotalPoint → AnswerKind
kind_found [] = NoneGood
kind_found (point ∷ points) = Report

-- this is found of all nets of a design
pub record IsFoundFor (d : Design) (cap : Option ℕ) (found : Found) : Type 0 where
  pub total : IsTotalSaid d cap found.kind found.text.items
  pub kept : AreKept d cap (flat_map accepted_in total.standings) found.nets.items found.fronts.items
  pub choices_are : total.choices ≡ map (choice_in found.fronts.items) found.points.items
  pub picks : All (λ x. ArePicksFor d found.nets.items found.fronts.items x.picks.items) found.points.items

-- ---- what is put

-- cells may be put into each of these nets from the one of number `at` on
abbrev pub AreOpenBehind : List Net → ℕ → Changes → Type 0
AreOpenBehind nets at c =
    (k : ℕ) (net : Net) → at ≤ k → slice_get nets k ≡ Some net → AreOpenFrom c net.place

-- the cells of a pick are put into its net
abbrev pub IsPutInto : Design → Net × Pick → List PlacedNet → Type 0
IsPutInto d (net, pick) put =
    (posed : PosedNet) × IsPosedNet d (kept_name d net) posed × (put ≡ put_of posed pick.placement.cells)

-- those of each pick
pub record ArePutInto (d : Design) (picked : List (Net × Pick)) (old new : Changes) (changed : Bool) : Type 0 where
  pub puts : List (List PlacedNet)
  pub each : AllZip (IsPutInto d) picked puts
  pub put : ArePut old (flat_map (λ put. put) puts) new changed

-- what the last point picks
abbrev pub last_found : Found → List Pick
last_found found = last_picks (map (choice_in found.fronts.items) found.points.items)

-- of each text of the design this makes one in which the nets have the cells of the last point
pub record ArePatched (d : Design) (prefix : List ℕ) (found : Found) (patches : Patches) : Type 0 where
  pub puts : List (List PlacedNet)
  pub each : AllZip (IsPutInto d) (zip found.nets.items (last_found found)) puts
  pub patches_for : ArePatchesFor d prefix (flat_map (λ put. put) puts) patches

-- ---- what is said

-- this is said of a design, and what the last choice takes is put, whatever the texts of the design are
pub record IsJudged (d : Design) (cap : Option ℕ) (prefix : List ℕ) (found : Judged) : Type 0 where
  pub total : IsTotalSaid d cap found.kind found.text.items
  pub fit : FitIn d found.patches
  pub make : (read : Files) → Denotes read.verilog d.netlist
      → AreFilesWith read d prefix (last_picked total.standings total.choices) (files_with found.patches read)

-- it is, and no name of the design begins with the prefix; or one does, or it is out of memory
abbrev pub Judges : Design → Option ℕ → List ℕ → Result Judged NoAnswer → Type 0
Judges d cap prefix (Ok found) = (taken d prefix ≡ None) × IsJudged d cap prefix found
Judges d cap prefix (Err (Faulty input line)) = ⊥
Judges d cap prefix (Err (Taken name)) = taken d prefix ≡ Some name
Judges d cap prefix (Err Memory) = Unit {0}
