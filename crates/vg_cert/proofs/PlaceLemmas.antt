-- One line of a text after another.
use Rattle.std.proofs.Common.{◌≡◌, ℕ, ◌+◌, ◌-◌, List, [], ◌∷◌, length, take, drop, sym, ap, ◌∙◌, subst, arith, Some, None}
use Rattle.std.specs.List.{position}
use Rattle.std.proofs.lemmas.List.{drop-drop, take_all, length-drop}
use Rattle.vg_scan.specs.Lines.{is_newline}
use Rattle.vg_scan.proofs.LineLemmas.{first_at}
use Rattle.vg_scan.proofs.ItemLemmas.{next_is}
use Rattle.vg_cert.specs.Lines.{parts}
use Rattle.vg_cert.specs.Readings.{IsPlace, IsTaken}
use Rattle.vg_cert.proofs.WordLemmas.{split_once, split_never}

pub rest_is : (text : List ℕ) (at : ℕ) → take (length text - at) (drop at text) ≡ drop at text
rest_is text at = take_all (length text - at) (drop at text) (omega (arith, length-drop at text))

pub parts_once : (rest : List ℕ) (end : ℕ) → position is_newline rest ≡ Some end → parts rest ≡ take end rest ∷ parts (drop (end + 1) rest)
unfolding parts
parts_once rest end e = split_once is_newline rest end e

pub parts_never : (rest : List ℕ) → position is_newline rest ≡ None → parts rest ≡ rest ∷ []
unfolding parts
parts_never rest e = split_never is_newline rest e

taken_rest : (text : List ℕ) (at count end : ℕ) → IsPlace text (record { at = at; count = count }) → position is_newline (drop at text) ≡ Some end
    → IsTaken text (take end (drop at text)) (record { at = at; count = count }) (record { at = at + (end + 1); count = count + 1 })
taken_rest text at count end here e =
    let parted : parts (drop at text) ≡ take end (drop at text) ∷ parts (drop (at + (end + 1)) text)
    = parts_once (drop at text) end e ∙ ap (λ l. take end (drop at text) ∷ parts l) (drop-drop (end + 1) at text) in
    let x = next_is (parts text) count [] (take end (drop at text)) (parts (drop (at + (end + 1)) text)) (here.left ∙ parted) in
    record {
      here = record {
        within = omega (arith, first_at is_newline (drop at text) end e, length-drop at text);
        counted = omega (arith, here.counted);
        left = x.rest;
      };
      next = omega arith;
      parted = parted;
    }

pub taken : (text left : List ℕ) (at count end : ℕ) → left ≡ drop at text → IsPlace text (record { at = at; count = count }) → position is_newline left ≡ Some end
    → IsTaken text (take end left) (record { at = at; count = count }) (record { at = at + (end + 1); count = count + 1 })
taken text left at count end is here e =
    subst (λ (l : List ℕ). IsTaken text (take end l) (record { at = at; count = count }) (record { at = at + (end + 1); count = count + 1 })) (sym is)
    (taken_rest text at count end here (ap (position is_newline) (sym is) ∙ e))
