-- What mode `total` answers.
use Rattle.std.proofs.Common.{◌≡◌, ℕ, zero, suc, ◌+◌, ◌-◌, Bool, List, [], ◌∷◌, ◌++◌, length, map, take_all, refl, sym, ap, ◌∙◌, subst, arith, Option, Some, None, Ok, Err, All, Vec, flat_map, get_or, zip}
use Rattle.std.specs.List.{AllZip}
use Rattle.std.specs.declared.alloc.Global.{Global}
use Rattle.vg_change.specs.Changes.{Changes, nothing}
use Rattle.vg_change.specs.Placed.{PlacedNet}
use Rattle.vg_change.specs.declared.changes.Patches.{Patches}
use Rattle.vg_front.specs.declared.root.Point.{Point as Pick}
use Rattle.vg_design.specs.Designs.{Design, net_names}
use Rattle.vg_design.specs.Nets.{IsPosedNet}
use Rattle.design_read.specs.Designs.{Texts, IsDesign}
use Rattle.vg_answer.specs.Answers.{Said, AnswersBy, said_by, written_by}
use Rattle.vg_answer.specs.Faults.{IsDesignFault}
use Rattle.vg_answer.specs.Verdicts.{worse}
use Rattle.vg_answer.specs.declared.answer.Answer.{Answer}
use Rattle.vg_answer.specs.declared.answer.NoAnswer.{NoAnswer}
use Rattle.vg_answer.specs.declared.answer.NoAnswer.TheVariants.{Faulty, Taken, Memory}
use Rattle.vg_answer.specs.declared.kind.AnswerKind.{AnswerKind}
use Rattle.vg_place.specs.Placings.{kept}
use Rattle.vg_place.specs.Steps.{HaveChange, files_with, said_with}
use Rattle.vg_place.specs.declared.judged.Judged.{Judged}
use Rattle.vg_place.proofs.FileLemmas.{patches_are}
use Rattle.vg_total.specs.declared.pick.TotalPoint.{TotalPoint}
use Rattle.mode_total.specs.Answers.{Asked, IsPutFor, IsTotalAnswer, IsTotalSaid, IsTotalTaken}
use Rattle.mode_total.specs.Choices.{Accepted, AreChoices, Choice, Stands, accepted_in, last_picks}
use Rattle.mode_total.specs.Lines.{kind_in, kind_with}
use Rattle.mode_total.specs.Picked.{AreInside, choice_in, picks_in}
use Rattle.mode_total.specs.Steps.{AreKept, ArePatched, ArePicksFor, ArePutInto, AreWeighed, IsFoundFor, IsJudged, IsKept, IsPutInto, Judges, kept_total, kind_found, last_found}
use Rattle.mode_total.specs.declared.nets.Net.{Net}
use Rattle.mode_total.specs.declared.nets.Weighed.{Weighed}
use Rattle.mode_total.specs.declared.search.Found.{Found}
use Rattle.mode_total.proofs.PickLemmas.{all_picks}
use Rattle.mode_total.proofs.TellLemmas.{kind_first, name_is, total_told}

-- ---- what is found

kind_same : (fronts : List (Vec Pick Global)) (points : List TotalPoint) → kind_found points ≡ kind_with (map (choice_in fronts) points)
kind_same fronts [] = refl
kind_same fronts (x ∷ points) = refl

-- the choices among the nets that are kept, and what is told of them
pub found_for : (d : Design) (cap : Option ℕ) (all : Weighed) (found : Found) (are : AreWeighed d cap (length (net_names d.spef)) all)
    → found.kind ≡ worse (kind_found found.points.items) all.kind → found.text.items ≡ all.text.items ++ kept_total d all.nets.items (map (choice_in all.fronts.items) found.points.items)
    → found.nets ≡ all.nets → found.fronts ≡ all.fronts → AreChoices (flat_map accepted_in are.standings) cap (map (choice_in all.fronts.items) found.points.items)
    → All (λ x. AreInside all.fronts.items x.picks.items) found.points.items → IsFoundFor d cap found
found_for d cap all found are kind text nets fronts choices inside =
    let own = flat_map accepted_in are.standings in
    let made = map (choice_in all.fronts.items) found.points.items in
    let names = net_names d.spef in
    let picks = all_picks d cap own all.nets.items all.fronts.items are.kept found.points.items inside choices in
    record {
      total = record {
        standings = are.standings;
        each = subst (λ (some : List (List ℕ)). AllZip (Stands d) some are.standings) (take_all (length names) names (omega arith)) are.each;
        choices = made;
        are = choices;
        kind_is =
            kind ∙ ap (λ (k : AnswerKind). worse k all.kind) (kind_same all.fronts.items found.points.items) ∙ ap (worse (kind_with made)) are.kind_is
            ∙ kind_first made (map kind_in are.standings);
        text_is = text ∙ (λ i. are.text_is i ++ total_told d own all.nets.items made are.kept.each i);
      };
      kept =
          subst (λ (some : Vec Net Global). AreKept d cap own some.items found.fronts.items) (sym nets)
          (subst (λ (some : Vec (Vec Pick Global) Global). AreKept d cap own all.nets.items some.items) (sym fronts) are.kept);
      choices_are = ap (λ (some : Vec (Vec Pick Global) Global). map (choice_in some.items) found.points.items) (sym fronts);
      picks =
          subst (λ (some : Vec Net Global). All (λ x. ArePicksFor d some.items found.fronts.items x.picks.items) found.points.items) (sym nets)
          (subst (λ (some : Vec (Vec Pick Global) Global). All (λ x. ArePicksFor d all.nets.items some.items x.picks.items) found.points.items) (sym fronts) picks);
    }

-- ---- what is put

-- the last choice takes what the last point picks
last_is : (fronts : List (Vec Pick Global)) (points : List TotalPoint) (x : TotalPoint) (n : ℕ) → length points ≡ n + 1 → x ≡ get_or points n x
    → last_picks (map (choice_in fronts) points) ≡ picks_in fronts x.picks.items
last_is fronts [] x n long here = absurd (omega (arith, long))
last_is fronts (y ∷ []) x n long here =
    let zero_n : n ≡ 0 = omega (arith, long) in
    ap (λ (z : TotalPoint). picks_in fronts z.picks.items) (sym (here ∙ ap (λ (k : ℕ). get_or (y ∷ []) k x) zero_n))
last_is fronts (y ∷ z ∷ points) x zero long here = absurd (omega (arith, long))
last_is fronts (y ∷ z ∷ points) x (suc n) long here = last_is fronts (z ∷ points) x n (omega (arith, long)) here

less_one : (n : ℕ) → (n ≡ 0 → ⊥) → n ≡ (n - 1) + 1
less_one zero some = absurd (some refl)
less_one (suc n) some = omega arith

pub last_of : (fronts : List (Vec Pick Global)) (points slice : List TotalPoint) (x : TotalPoint) → slice ≡ points → (length slice ≡ 0 → ⊥)
    → x ≡ get_or slice (length slice - 1) x → last_picks (map (choice_in fronts) points) ≡ picks_in fronts x.picks.items
last_of fronts points slice x same some here =
    ap (λ (some : List TotalPoint). last_picks (map (choice_in fronts) some)) (sym same) ∙ last_is fronts slice x (length slice - 1) (less_one (length slice) some) here

zip_none : {A B : Type 0} (xs : List A) → zip {K = A} {X = B} xs [] ≡ []
zip_none [] = refl
zip_none (x ∷ xs) = refl

module _ (d : Design) (prefix : List ℕ) (found : Found) where
  -- the nets have the cells of the last point
  pub patched : (c : Changes) (changed : Bool) (patches : Patches)
      → ArePutInto d (zip found.nets.items (last_found found)) (nothing d prefix) c changed
      → HaveChange c changed patches → ArePatched d prefix found patches
  patched c changed patches put have = record {
    puts = put.puts;
    each = put.each;
    patches_for = patches_are d prefix (flat_map (λ (nets : List PlacedNet). nets) put.puts) c patches changed put.put have;
  }

  -- where there is no point, nothing is put
  pub no_rows : found.points.items ≡ [] → zip found.nets.items (last_found found) ≡ []
  no_rows none =
      ap (λ (points : List TotalPoint). zip found.nets.items (last_picks (map (choice_in found.fronts.items) points))) none ∙ zip_none found.nets.items

module _ (d : Design) where
  puts_for : (own : List Accepted) (nets : List Net) (picks : List Pick) (puts : List (List PlacedNet)) → AllZip (IsKept d) own nets
      → AllZip (IsPutInto d) (zip nets picks) puts → AllZip (IsPutFor d) (zip own picks) puts
  puts_for [] [] picks puts kept each = each
  puts_for [] (net ∷ nets) picks puts kept each = absurd kept
  puts_for (one ∷ own) [] picks puts kept each = absurd kept
  puts_for (one ∷ own) (net ∷ nets) [] puts kept each = each
  puts_for (one ∷ own) (net ∷ nets) (pick ∷ picks) [] kept each = absurd each
  puts_for (one ∷ own) (net ∷ nets) (pick ∷ picks) (put ∷ puts) kept each =
      let (posed, of, is) = each.0 in
      ((posed, subst (λ (name : List ℕ). IsPosedNet d name posed) (name_is d one net kept.0) of, is), puts_for own nets picks puts kept.1 each.1)

  -- what is found, and what is to be replaced
  pub judged : (cap : Option ℕ) (prefix : List ℕ) (found : Found) (told : Judged) → IsFoundFor d cap found → ArePatched d prefix found told.patches
      → told.kind ≡ found.kind → told.text ≡ found.text → IsJudged d cap prefix told
  judged cap prefix found told is put kind text =
      let t = is.total in
      record {
        total = record {
          standings = t.standings;
          each = t.each;
          choices = t.choices;
          are = t.are;
          kind_is = kind ∙ t.kind_is;
          text_is = ap (λ (some : Vec ℕ Global). some.items) text ∙ t.text_is;
        };
        fit = put.patches_for.fit;
        make = λ read denotes. record {
          puts = put.puts;
          each =
              puts_for (flat_map accepted_in t.standings) found.nets.items (last_picks t.choices) put.puts is.kept.each
              (subst (λ (choices : List Choice). AllZip (IsPutInto d) (zip found.nets.items (last_picks choices)) put.puts) (sym is.choices_are) put.each);
          files_of = put.patches_for.make read denotes;
        };
      }

-- ---- the answer

-- what is said of a design is an answer for four texts that are it
pub said_answer : (texts : Texts) (cap : Option ℕ) (d : Design) (answer : Answer) → IsDesign texts d → IsTotalSaid d cap answer.kind answer.text.items
    → answer.files.items ≡ [] → IsTotalAnswer texts (record { cap = cap; prefix = None }) answer.kind (said_by answer)
said_answer texts cap d answer of total none = record {
  design = d;
  design_of = of;
  total = total;
  written = ap (map written_by) none;
}

-- so with the files that are written
pub put_answer : (texts : Texts) (cap : Option ℕ) (prefix : List ℕ) (d : Design) (found : Judged) (spef : List ℕ) (answer : Answer) → IsDesign texts d
    → Judges d cap prefix (Ok found) → spef ≡ texts.spef → answer.kind ≡ found.kind
    → said_by answer ≡ said_with found (record { verilog = texts.verilog; spef = spef })
    → IsTotalAnswer texts (record { cap = cap; prefix = Some prefix }) answer.kind (said_by answer)
put_answer texts cap prefix d found spef answer of (free, is) same kind said =
    let asked : Asked = record { cap = cap; prefix = Some prefix } in
    let read = kept texts in
    let says : IsTotalAnswer texts asked found.kind (said_with found read) = record {
      design = d;
      design_of = of;
      total = is.total;
      written = (free, (files_with found.patches read, is.make read of.netlist, refl));
    } in
    let all : said_by answer ≡ said_with found read = said ∙ ap (λ (s : List ℕ). said_with found (record { verilog = texts.verilog; spef = s })) same in
    subst (λ (k : AnswerKind). IsTotalAnswer texts asked k (said_by answer)) (sym kind)
    (subst (λ (s : Said). IsTotalAnswer texts asked found.kind s) (sym all) says)

-- a name that is taken, or out of memory
pub not_put : (texts : Texts) (cap : Option ℕ) (prefix : List ℕ) (d : Design) (fault : NoAnswer) → IsDesign texts d → Judges d cap prefix (Err fault)
    → AnswersBy (IsTotalAnswer texts (record { cap = cap; prefix = Some prefix })) (IsDesignFault texts)
    (IsTotalTaken texts (record { cap = cap; prefix = Some prefix })) (Err fault)
not_put texts cap prefix d (Faulty input line) of is = absurd is
not_put texts cap prefix d (Taken name) of is = record { prefix = prefix; given = refl; is_taken = record { design = d; design_of = of; first = is } }
not_put texts cap prefix d Memory of is = tt
