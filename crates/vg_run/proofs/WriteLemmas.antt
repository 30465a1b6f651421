-- Files that are written one after another.
use Rattle.std.proofs.Common.{◌≡◌, ◌≢◌, ℕ, ◌+◌, ◌<◌, ◌≤◌, List, length, take, take-append-drop, ap, inr, refl, sym, ◌∙◌, subst, arith, Option, Some, None, IfSome}
use Rattle.std.specs.Prelude.{Contains, drop, map, slice_get}
use Rattle.std.specs.List.{All}
use Rattle.std.proofs.Math.ListN.{get_or}
use Rattle.std.proofs.Math.Seq.{drop-cons}
use Rattle.std.proofs.lemmas.Int.{clamps}
use Rattle.std.proofs.lemmas.List.{get_or-take, get_or_default, get_or-drop, length-drop, length-take}
use Rattle.std.proofs.lemmas.List.Elements.{All-more, All-take}
use Rattle.vg_store.specs.Reading.{FilesState}
use Rattle.vg_store.specs.Writing.{FilesStay}
use Rattle.vg_words.specs.declared.ask.Ask.{Ask}
use Rattle.vg_answer.specs.Answers.{Written}
use Rattle.vg_answer.specs.declared.output.Output.{Output}
use Rattle.vg_run.specs.Inputs.{Change}
use Rattle.vg_run.specs.Run.{AreApartIn, AreHeld, HoldAfter, HoldsAt, OthersStay, StaysAt, output_name}

-- where a file stays, it holds what it held
hold_on : (files : Change FilesState) (name : Option (List ℕ)) (text : List ℕ) → StaysAt files name → HoldsAt files.0 name text → HoldsAt files.1 name text
hold_on files None text stays holds = tt
hold_on files (Some file) text stays holds = subst (λ (held : Option (List ℕ)). IfSome held (λ bytes. bytes ≡ text)) (sym (stays file refl)) holds

module _ (ask : Ask) (said : List Written) (at : ℕ) (d : Written) (low : at < length said) (apart : AreApartIn ask said) where
  -- two of them have no name together
  apart_from : (k : ℕ) → k < at → (file : List ℕ) → output_name ask (get_or said k d).output ≡ Some file → output_name ask (get_or said at d).output ≡ Some file → ⊥
  apart_from k less file one other = apart k at d less low file one other

  apart_behind : (k : ℕ) → at < k → k < length said → (file : List ℕ) → output_name ask (get_or said at d).output ≡ Some file
      → output_name ask (get_or said k d).output ≡ Some file → ⊥
  apart_behind k less within file one other = apart at k d less within file one other

  module _ (start mid new : FilesState) (others : (file : List ℕ) → output_name ask (get_or said at d).output ≢ Some file → new.holds file ≡ mid.holds file) where
    -- one that stood before stays
    kept_one : (k : ℕ) (e : Written) → k < length (take at said) → HoldsAt mid (output_name ask (get_or (take at said) k e).output) (get_or (take at said) k e).text
        → HoldsAt new (output_name ask (get_or (take at said) k e).output) (get_or (take at said) k e).text
    kept_one k e less holds =
        let size = length-take at said in
        let within : k < at = omega (arith, clamps, size, less) in
        let here : get_or (take at said) k e ≡ get_or said k d = get_or-take at said k e within ∙ get_or_default said k e d (omega (arith, within, low)) in
        hold_on (mid, new) (output_name ask (get_or (take at said) k e).output) (get_or (take at said) k e).text
        (λ file one. others file (λ other. apart_from k within file (subst (λ (w : Written). output_name ask w.output ≡ Some file) here one) other)) holds

    held_more : AreHeld (start, mid) ask (take at said) → HoldsAt new (output_name ask (get_or said at d).output) (get_or said at d).text
        → AreHeld (start, new) ask (take (at + 1) said)
    held_more held holds =
        All-more (λ w. HoldsAt new (output_name ask w.output) w.text) said at d low (λ k e less. kept_one k e less (held k e less)) holds

    -- those before it, where it failed
    held_still : AreHeld (start, mid) ask (take at said) → AreHeld (start, new) ask (take at said)
    held_still held k e less = kept_one k e less (held k e less)

    -- a file that is none of those so far stays
    others_more : OthersStay (start, mid) ask (take at said) → OthersStay (start, new) ask (take (at + 1) said)
    others_more stay file none =
        let size = length-take (at + 1) said in
        let same : get_or (take (at + 1) said) at d ≡ get_or said at d = get_or-take (at + 1) said at d (omega arith) in
        let this : output_name ask (get_or said at d).output ≢ Some file
        = subst (λ (w : Written). output_name ask w.output ≢ Some file) same (none at d (omega (arith, clamps, size, low))) in
        others file this ∙ stay file (λ k e less. first_ones k e less file none)
      where
        first_ones : (k : ℕ) (e : Written) → k < length (take at said) → (file : List ℕ) → All (λ w. output_name ask w.output ≢ Some file) (take (at + 1) said)
            → output_name ask (get_or (take at said) k e).output ≢ Some file
        first_ones k e less file none =
            let size = length-take at said in
            let more = length-take (at + 1) said in
            let within : k < at = omega (arith, clamps, size, less) in
            let here : get_or (take (at + 1) said) k e ≡ get_or (take at said) k e
            = get_or-take (at + 1) said k e (omega (arith, within)) ∙ sym (get_or-take at said k e within) in
            subst (λ (w : Written). output_name ask w.output ≢ Some file) here (none k e (omega (arith, clamps, more, within, low)))

    -- it and those behind it are as they were
    later_stay : OthersStay (start, new) ask (take at said) → All (λ w. StaysAt (start, new) (output_name ask w.output)) (drop at said)
    later_stay stay k e less file named =
        let size = length-drop at said in
        let place : get_or (drop at said) k e ≡ get_or said (at + k) e = get_or-drop at said k e in
        let inside : at + k < length said = omega (arith, clamps, size, less) in
        let same : get_or said (at + k) e ≡ get_or said (at + k) d = get_or_default said (at + k) e d inside in
        let here : output_name ask (get_or said (at + k) d).output ≡ Some file
        = subst (λ (w : Written). output_name ask w.output ≡ Some file) (place ∙ same) named in
        stay file (λ j e low. none_before j e low file (at + k) (omega arith) inside here)
      where
        none_before : (j : ℕ) (e : Written) → j < length (take at said) → (file : List ℕ) (k : ℕ) → at ≤ k → k < length said → output_name ask (get_or said k d).output ≡ Some file
            → output_name ask (get_or (take at said) j e).output ≢ Some file
        none_before j e low file k behind within named one =
            let size = length-take at said in
            let before : j < at = omega (arith, clamps, size, low) in
            let same : get_or (take at said) j e ≡ get_or said j d
            = get_or-take at said j e before ∙ get_or_default said j e d (omega (arith, before, behind, within)) in
            apart j k d (omega (arith, before, behind)) within file (subst (λ (w : Written). output_name ask w.output ≡ Some file) same one) named

    -- it stayed until then
    pub stayed : OthersStay (start, mid) ask (take at said) → StaysAt (start, mid) (output_name ask (get_or said at d).output)
    stayed stay file named = stay file (λ k e less. none_first k e less file named)
      where
        none_first : (k : ℕ) (e : Written) → k < length (take at said) → (file : List ℕ) → output_name ask (get_or said at d).output ≡ Some file
            → output_name ask (get_or (take at said) k e).output ≢ Some file
        none_first k e less file named one =
            let size = length-take at said in
            let within : k < at = omega (arith, clamps, size, less) in
            let here : get_or (take at said) k e ≡ get_or said k d = get_or-take at said k e within ∙ get_or_default said k e d (omega (arith, within, low)) in
            apart_from k within file (subst (λ (w : Written). output_name ask w.output ≡ Some file) here one) named

    -- writing it failed, and nothing changed any more
    fails_here : AreHeld (start, mid) ask (take at said) → OthersStay (start, mid) ask (take at said) → FilesStay mid new → HoldAfter (start, new) ask said (get_or said at d).output
    fails_here held stay kept = record {
      before = take at said;
      behind = drop at said;
      said_are = sym (take-append-drop at said);
      whole = λ k e less. hold_on (mid, new) (output_name ask (get_or (take at said) k e).output) (get_or (take at said) k e).text (λ file _. kept file) (held k e less);
      unwritten = subst (λ (list : List Written). Contains (map (λ w. w.output) list) (get_or said at d).output) (sym (drop-cons said at d low)) (0, omega arith, refl);
      none_or_up_to_it = inr (ap (λ (list : List Written). slice_get (map (λ w. w.output) list) 0) (drop-cons said at d low));
      later = later_stay (λ file none. kept file ∙ stay file none);
      others = λ file none. kept file ∙ stay file (All-take (λ w. output_name ask w.output ≢ Some file) at said none);
    }

-- the file at a place of the list, by its own name
module _ (ask : Ask) (said : List Written) (at : ℕ) (d w : Written) (low : at < length said) (apart : AreApartIn ask said) (here : get_or said at d ≡ w)
    (start mid new : FilesState) where
  -- only it changed
  abbrev OthersKept : Written → Type 0
  OthersKept this = (file : List ℕ) → output_name ask this.output ≢ Some file → new.holds file ≡ mid.holds file

  pub one_written : OthersKept w → AreHeld (start, mid) ask (take at said) → OthersStay (start, mid) ask (take at said)
      → HoldsAt new (output_name ask w.output) w.text → AreHeld (start, new) ask (take (at + 1) said) × OthersStay (start, new) ask (take (at + 1) said)
  one_written others held stay holds =
      let other = subst (λ (this : Written). OthersKept this) (sym here) others in
      let hold = subst (λ (this : Written). HoldsAt new (output_name ask this.output) this.text) (sym here) holds in
      (held_more ask said at d low apart start mid new other held hold, others_more ask said at d low apart start mid new other stay)

  pub one_failed : AreHeld (start, mid) ask (take at said) → OthersStay (start, mid) ask (take at said) → FilesStay mid new → HoldAfter (start, new) ask said w.output
  one_failed held stay kept =
      subst (λ (this : Written). HoldAfter (start, new) ask said this.output) here
      (fails_here ask said at d low apart start mid new (λ file _. kept file) held stay kept)

  pub one_stayed : OthersStay (start, mid) ask (take at said) → StaysAt (start, mid) (output_name ask w.output)
  one_stayed stay =
      subst (λ (this : Written). StaysAt (start, mid) (output_name ask this.output)) here
      (stayed ask said at d low apart start mid mid (λ file _. refl) stay)

-- what holds of files since a state from which nothing had changed before
module _ (old mid new : FilesState) (kept : FilesStay old mid) (ask : Ask) (said : List Written) where
  pub others_since : OthersStay (mid, new) ask said → OthersStay (old, new) ask said
  others_since stay file none = stay file none ∙ kept file

  pub held_since : (output : Output) → HoldAfter (mid, new) ask said output → HoldAfter (old, new) ask said output
  held_since output hold = record {
    before = hold.before;
    behind = hold.behind;
    said_are = hold.said_are;
    whole = hold.whole;
    unwritten = hold.unwritten;
    none_or_up_to_it = hold.none_or_up_to_it;
    later = λ k d low file named. hold.later k d low file named ∙ kept file;
    others = others_since hold.others;
  }
